-- Demand 3 once more, by what the operations themselves answer on files.
use Rattle.std.specs.Prelude.{◌≡◌, List, [], ◌∷◌, ℕ, ◌≤◌, length}
use Rattle.stream.specs.Reading.{accepted}
use Rattle.meaning.specs.declared.Fed.{Fed}
use Rattle.meaning.specs.Answers.{check, left, join, first_section}
use Rattle.meaning.specs.Promises.{FeedPromise}
use Rattle.demands.specs.Calls.{WroteBoth}
use Rattle.demands.specs.Runs.{RunEnd}

-- The files are joined from the left by Join, as slices of the type in the file `type`.
pub data JoinedFiles (type : List ℕ) : List (List ℕ) → List ℕ → Type 0 where
  join_alone : {file : List ℕ} → JoinedFiles type (file ∷ []) file
  join_next : {first second both all : List ℕ} {files : List (List ℕ)} → join type first second ≡ accepted both
      → JoinedFiles type (both ∷ files) all → JoinedFiles type (first ∷ second ∷ files) all

pub record OnFiles (start : List ℕ) (r : RunEnd) : Type 0 where
  pub slice : List ℕ
  pub output : List ℕ
  pub output_type : List ℕ
  pub checked : check start ≡ accepted output_type
  pub slices_joined : JoinedFiles (first_section start) r.slices slice
  pub outputs_joined : JoinedFiles output_type r.outputs output
  pub fed_as_one : {output_lent patch_lent output_after patch_after : List ℕ} {answer : Fed}
      → FeedPromise start slice output_lent patch_lent answer output_after patch_after
      → length output ≤ length output_lent → length r.file ≤ length patch_lent
      → WroteBoth (record { output = output; patch = r.file; arrived = r.arrived; sent = r.sent })
      output_lent patch_lent answer output_after patch_after
  pub input_left : left (first_section start) slice ≡ accepted (first_section r.file)
  pub output_left : left output_type output ≡ check r.file
