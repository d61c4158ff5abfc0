-- What the functions promise that play a stream in pieces, as they come and as there is room for lines: contracts inside the
-- library. That the pieces make up the transcript is a law (`session_prints` in Sessions).
use Rattle.std.specs.Prelude.{◌≡◌, Bool, true, false, List, [], ◌++◌, ℕ, ◌-◌, ◌≤◌, length, take, drop}
use Rattle.writing.specs.Writing.{Begun}
use Rattle.transcript.specs.declared.Stage.{Stage}
use Rattle.transcript.specs.declared.Stage.TheVariants.{Awaiting, Feeding, Stopped}
use Rattle.transcript.specs.declared.Line.{Line}
use Rattle.transcript.specs.declared.Played.{Played}
use Rattle.transcript.specs.Transcripts.{State, awaiting, feeding, stopped, files, takes, prints}
use Rattle.stream.specs.Bounds.{patch_file_limit}

-- The stage that the code keeps, with the bytes at whose front the patch stands.
unfoldable pub state_of : Stage → List ℕ → State
state_of Awaiting patch = awaiting
state_of (Feeding n) patch = feeding (take n patch)
state_of Stopped patch = stopped

unfoldable pub is_stopped : Stage → Bool
is_stopped Awaiting = false
is_stopped (Feeding n) = false
is_stopped Stopped = true

-- The patch lies inside the bytes that hold it.
unfoldable pub Inside : Stage → List ℕ → Type 0
Inside Awaiting patch = Unit
Inside (Feeding n) patch = n ≤ length patch
Inside Stopped patch = Unit

-- There is room for every patch, 8,492 bytes, and for the longest line: two characters for each of 511 and 255 bytes, the
-- number, two spaces and the line feed.
pub record Ready (stage : Stage) (patch lent : List ℕ) : Type 0 where
  pub inside : Inside stage patch
  pub patch_room : patch_file_limit ≤ length patch
  pub line_room : 1536 ≤ length lent

-- One file is taken: its line stands at the front of what was lent.
pub record TakesFile (stage : Stage) (patch file lent : List ℕ) (r : Line) (patch_after lent_after : List ℕ) : Type 0 where
  pub inside : Inside r.stage patch_after
  pub long : length patch_after ≡ length patch
  pub stands : state_of r.stage patch_after ≡ (takes (state_of stage patch) file).1
  pub line : Begun (takes (state_of stage patch) file).0 lent lent_after r.written
  pub short : r.written ≤ 1536

-- Some files at the front of the input are taken: whatever comes behind the input, the lines of all are those that were
-- written, and then those of what was not taken.
pub record Plays (stage : Stage) (patch input lent : List ℕ) (r : Played) (patch_after lent_after : List ℕ) : Type 0 where
  pub taken_inside : r.taken ≤ length input
  pub inside : Inside r.stage patch_after
  pub long : length patch_after ≡ length patch
  pub lines : List ℕ
  pub written : Begun lines lent lent_after r.written
  pub room : r.written ≤ length lent
  pub goes_on : (more : List ℕ)
      → prints (state_of stage patch) (files (input ++ more)) ≡ lines ++ prints (state_of r.stage patch_after) (files (drop r.taken input ++ more))

-- Why no file can be taken: the program has stopped, or none is whole yet.
pub data Waits (state : State) (input : List ℕ) : Type 0 where
  has_stopped : state ≡ stopped → Waits state input
  no_file : files input ≡ [] → Waits state input

-- At most one file is taken, and none only if none can be.
pub record PlaysNext (stage : Stage) (patch input lent : List ℕ) (r : Played) (patch_after lent_after : List ℕ) : Type 0 where
  pub plays : Plays stage patch input lent r patch_after lent_after
  pub waits : r.taken ≡ 0 → Waits (state_of r.stage patch_after) input

-- All files are taken, as far as there is room for their lines.
pub record PlaysAll (stage : Stage) (patch input lent : List ℕ) (r : Played) (patch_after lent_after : List ℕ) : Type 0 where
  pub plays : Plays stage patch input lent r patch_after lent_after
  pub waits : 1536 ≤ length lent - r.written → Waits (state_of r.stage patch_after) (drop r.taken input)
