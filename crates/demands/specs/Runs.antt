-- Runs: lists of Feed calls, on bytes (document 01, Runs).
use Rattle.std.specs.Prelude.{◌≡◌, List, [], ◌∷◌, ◌++◌, ℕ, ◌+◌, ◌≤◌, length, take}
use Rattle.stream.specs.Types.{Ty}
use Rattle.stream.specs.Prefixes.{Prefix, IsPrefix, derivative, Concat}
use Rattle.stream.specs.Reading.{Bytes}
use Rattle.stream.specs.SliceFiles.{slice_file_bytes}
use Rattle.node.specs.PatchFiles.{PatchFile}
use Rattle.meaning.specs.declared.Fed.{Fed}
use Rattle.meaning.specs.Promises.{FeedPromise}
use Rattle.demands.specs.Calls.{WroteBoth}
pub mod Files

-- "Feed calls, none or any number, each with a slice file and two buffers of its own, of any bytes and any lengths."
pub record Call : Type 0 where
  pub slice : List ℕ
  pub output_lent : List ℕ
  pub patch_lent : List ℕ

abbrev pub ByteSlices : List Call → Type 0
ByteSlices [] = Unit
ByteSlices (c ∷ calls) = Bytes c.slice × ByteSlices calls

-- What a run comes to: the patch file that a further call would be handed, the slice files accepted, and the output files,
-- both in the order of the calls; and the cues and levels that arrived and that were sent, as the accepted calls told them, added up.
pub record RunEnd : Type 0 where
  pub file : List ℕ
  pub slices : List (List ℕ)
  pub outputs : List (List ℕ)
  pub arrived : ℕ
  pub sent : ℕ

-- Ran start calls r: these calls, each of which kept Feed's promise on the patch that it was handed, came to r. "Each call is
-- handed the very bytes of the patch file that the last accepted call before it wrote, or of the starting file while none has
-- been accepted. A call refused for any reason .. changes nothing for the next."
pub data Ran : List ℕ → List Call → RunEnd → Type 0 where
  no_call : {file : List ℕ} → Ran file [] (record { file = file; slices = []; outputs = []; arrived = 0; sent = 0 })
  accepted_call : {file : List ℕ} {c : Call} {calls : List Call} {answer : Fed} {output_after patch_after : List ℕ} {r : RunEnd}
      → FeedPromise file c.slice c.output_lent c.patch_lent answer output_after patch_after → answer.number ≡ 0
      → Ran (take answer.patch patch_after) calls r
      → Ran file (c ∷ calls)
      (record {
        file = r.file;
        slices = c.slice ∷ r.slices;
        outputs = take answer.output output_after ∷ r.outputs;
        arrived = answer.arrived + r.arrived;
        sent = answer.sent + r.sent;
      })
  refused_call : {file : List ℕ} {c : Call} {calls : List Call} {answer : Fed} {output_after patch_after : List ℕ} {r : RunEnd}
      → FeedPromise file c.slice c.output_lent c.patch_lent answer output_after patch_after → (answer.number ≡ 0 → ⊥)
      → Ran file calls r
      → Ran file (c ∷ calls) r

-- "With long enough buffers": no call of the run says 20.
abbrev pub NoneShort : {file : List ℕ} {calls : List Call} {r : RunEnd} → Ran file calls r → Type 0
NoneShort no_call = Unit
NoneShort (accepted_call call zero ran) = NoneShort ran
NoneShort (refused_call {answer = answer} call not_zero ran) = (answer.number ≡ 20 → ⊥) × NoneShort ran

-- The slice files that the calls are handed.
abbrev pub handed : List Call → List (List ℕ)
handed [] = []
handed (c ∷ calls) = c.slice ∷ handed calls

-- Joined t files p: the files are slices of t one after the other, and p is their join. "Slices are joined in the order of their
-- calls, from the left: the first with the second, that with the third, and so on; one alone is its own join."
pub data Joined (t : Ty) : List (List ℕ) → Prefix → Type 0 where
  alone : {p : Prefix} → IsPrefix t p → Joined t (slice_file_bytes p ∷ []) p
  and_next : {files : List (List ℕ)} {p q r : Prefix} → Joined t files p → IsPrefix (derivative t p) q → Concat p q r
      → Joined t (files ++ slice_file_bytes q ∷ []) r

-- "The accepted slices joined in order, fed as one to the patch at the start with long enough buffers, are accepted too, send
-- exactly the accepted feeds' outputs joined in order, and leave the patch that the list left, byte for byte": whatever call
-- keeps the promise. It tells the counts of the accepted feeds, added up (M-104). "Its input type is exactly what the slices taken
-- so far, joined, leave of the input type at the start, and its output type exactly what the outputs so far, joined, leave of the
-- output type at the start."
pub record AsOne {start : List ℕ} (patch : PatchFile start) (r : RunEnd) (next : PatchFile r.file) : Type 0 where
  pub slice : Prefix
  pub output : Prefix
  pub slices_joined : Joined patch.trees.input r.slices slice
  pub outputs_joined : Joined patch.output r.outputs output
  pub fed_as_one : {output_lent patch_lent output_after patch_after : List ℕ} {answer : Fed}
      → FeedPromise start (slice_file_bytes slice) output_lent patch_lent answer output_after patch_after
      → length (slice_file_bytes output) ≤ length output_lent → length r.file ≤ length patch_lent
      → WroteBoth (record { output = slice_file_bytes output; patch = r.file; arrived = r.arrived; sent = r.sent })
      output_lent patch_lent answer output_after patch_after
  pub input_left : next.trees.input ≡ derivative patch.trees.input slice
  pub output_left : next.output ≡ derivative patch.output output

-- What demand 3 says of a run. "After every feed the patch is itself accepted"; "if none was [accepted], the patch is the one at
-- the start", and "both types are the starting ones"; nothing is counted then.
pub record Faithful {start : List ℕ} (patch : PatchFile start) (r : RunEnd) : Type 0 where
  pub next : PatchFile r.file
  pub as_one : (r.slices ≡ [] → ⊥) → AsOne patch r next
  pub unmoved : r.slices ≡ []
      → (r.file ≡ start) × (next.trees ≡ patch.trees) × (next.output ≡ patch.output) × (r.arrived ≡ 0) × (r.sent ≡ 0)

-- A run of `calls` and then `more` has come to something after `calls`, and goes on from there.
pub record Through (start : List ℕ) (calls more : List Call) (r : RunEnd) : Type 0 where
  pub so_far : RunEnd
  pub ran : Ran start calls so_far
  pub rest : RunEnd
  pub goes_on : Ran so_far.file more rest
  pub comes_to : r ≡ record {
    file = rest.file;
    slices = so_far.slices ++ rest.slices;
    outputs = so_far.outputs ++ rest.outputs;
    arrived = so_far.arrived + rest.arrived;
    sent = so_far.sent + rest.sent;
  }

-- No file of the list has more than n bytes.
abbrev pub NoneLonger : ℕ → List (List ℕ) → Type 0
NoneLonger n [] = Unit
NoneLonger n (file ∷ files) = (length file ≤ n) × NoneLonger n files
