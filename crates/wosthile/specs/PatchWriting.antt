-- What the writers of a patch file and of Feed's answers ask and promise: contracts inside the library, which no demand rests on.
use Rattle.std.specs.Prelude.{Result, Ok, Err, ◌≡◌, List, [], ℕ, ◌+◌, ◌≤◌, ◌<◌, length}
use Rattle.stream.specs.declared.Fault.{Fault}
use Rattle.stream.specs.declared.Fault.TheVariants.{NoRoom}
use Rattle.stream.specs.Bounds.{slice_file_limit, node_bytes_limit}
use Rattle.stream.specs.Prefixes.{Prefix}
use Rattle.stream.specs.Reading.{accepted, section_bytes}
use Rattle.stream.specs.Buffers.{at_front}
use Rattle.stream.specs.TypeFiles.{type_bytes}
use Rattle.stream.specs.SliceFiles.{prefix_bytes, slice_file_bytes}
use Rattle.node.specs.Totals.{totals_bytes}
use Rattle.node.specs.Nodes.{Patch}
use Rattle.node.specs.PatchFiles.{node_bytes, patch_file_bytes}
use Rattle.meaning.specs.declared.Fed.{Fed}
use Rattle.wosthile.specs.Delivering.{Delivers}

-- The file of a section is written, if it has room: how many bytes it has, or 20.
pub record PutsFile (body lent : List ℕ) (answer : Result ℕ Fault) (lent_after : List ℕ) : Type 0 where
  pub written : 2 + length body ≤ length lent → (answer ≡ Ok (2 + length body)) × (lent_after ≡ at_front (section_bytes body []) lent)
  pub no_room : length lent < 2 + length body → (answer ≡ Err NoRoom) × (lent_after ≡ lent)

-- All of `input` are the bytes of the patch's input type, all of `nodes` those of its node, and all of `totals` those of its totals.
pub record PatchBytes (patch : Patch) (input nodes totals : List ℕ) : Type 0 where
  pub input_is : input ≡ type_bytes patch.input []
  pub nodes_are : nodes ≡ node_bytes patch.node []
  pub totals_are : totals ≡ totals_bytes patch.totals []
  pub small : length input ≤ 255
  pub countable : length nodes ≤ node_bytes_limit

pub record PatchWriteDue (input nodes totals lent : List ℕ) : Type 0 where
  pub patch : Patch
  pub bytes : PatchBytes patch input nodes totals
  pub room : 2 + length input + 2 + length nodes + 2 + length totals ≤ length lent

pub record PatchWritten (input nodes totals lent lent_after : List ℕ) : Type 0 where
  pub each : (due : PatchWriteDue input nodes totals lent) → lent_after ≡ at_front (patch_file_bytes due.patch) lent

-- All of `sent` are the bytes of a prefix, and the others those of a patch.
pub record BothDue (sent input nodes totals : List ℕ) : Type 0 where
  pub output : Prefix
  pub patch : Patch
  pub sent_is : sent ≡ prefix_bytes output []
  pub short : length sent ≤ slice_file_limit
  pub bytes : PatchBytes patch input nodes totals

pub record BothWritten (sent input nodes totals : List ℕ) (arrived went : ℕ) (output_lent patch_lent : List ℕ)
    (answer : Fed) (output_after patch_after : List ℕ) : Type 0 where
  pub each : (due : BothDue sent input nodes totals)
      → Delivers (accepted (record { output = slice_file_bytes due.output; patch = patch_file_bytes due.patch; arrived = arrived; sent = went }))
      output_lent patch_lent answer output_after patch_after
