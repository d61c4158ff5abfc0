-- A program that plays a stream as it comes: it reads pieces of it, plays what it holds, and writes the lines.
use Rattle.std.specs.Prelude.{List, [], ◌∷◌, ◌++◌, ◌≡◌, ℕ, take, drop}
use Rattle.transcript.specs.declared.Stage.{Stage}
use Rattle.transcript.specs.declared.Played.{Played}
use Rattle.transcript.specs.Transcripts.{stopped}
use Rattle.transcript.specs.Playing.{state_of, Waits, PlaysAll}
pub mod Laws

-- From a stage, a patch and the bytes held, to the end: the pieces read, and what is written, each in order.
pub data Session : (stage : Stage) (patch held : List ℕ) (reads writes : List (List ℕ)) → Type 0 where
  -- It reads a piece, of any length.
  reading : {stage : Stage} {patch held piece : List ℕ} {reads writes : List (List ℕ)}
      → Session stage patch (held ++ piece) reads writes → Session stage patch held (piece ∷ reads) writes
  -- It calls `play`, with any buffer for the lines, and writes as many bytes as `play` says.
  playing : {stage : Stage} {patch held lent patch_after lent_after : List ℕ} {r : Played} {reads writes : List (List ℕ)}
      → PlaysAll stage patch held lent r patch_after lent_after
      → Session r.stage patch_after (drop r.taken held) reads writes
      → Session stage patch held reads (take r.written lent_after ∷ writes)
  -- It ends where the stream has ended and no file can be taken, or where it has stopped.
  ends : {stage : Stage} {patch held : List ℕ} → Waits (state_of stage patch) held → Session stage patch held [] []
  stops : {stage : Stage} {patch held : List ℕ} {reads : List (List ℕ)} → state_of stage patch ≡ stopped → Session stage patch held reads []

abbrev pub all : List (List ℕ) → List ℕ
all [] = []
all (piece ∷ pieces) = piece ++ all pieces
