-- Second while the first part is coming: it gives the type of the second part, and sends the empty prefix of it.
use Rattle.std.specs.Prelude.{◌≡◌, refl, List, [], ℕ, ◌≤◌, length, set, Some}
use Rattle.std.proofs.Common.{arith}
use Rattle.stream.specs.Types.{size}
use Rattle.stream.specs.Buffers.{at_front}
use Rattle.stream.specs.Prefixes.{empty_prefix}
use Rattle.stream.specs.SliceFiles.{prefix_bytes}
use Rattle.stream.proofs.Prefixes.Laws.{empty_prefix_is_prefix}
use Rattle.reading.specs.SliceReads.{prefix_width}
use Rattle.reading.specs.SliceReads.Laws.{prefix_bytes_length}
use Rattle.reading.specs.declared.types.TypeView.{TypeView}
use Rattle.reading.specs.Views.{tree}
use Rattle.node.specs.PatchFiles.{node_bytes}
use Rattle.leaf_feeding.specs.Steps.{LeafRooms, Waits}
use Rattle.leaf_feeding.proofs.Handing.{given_whole}
use Rattle.leaf_feeding.specs.Steps.Laws.{front_leads, prefix_room}

module _ (v : TypeView) {out remainder given : List ℕ} (rooms : LeafRooms out remainder given) (room : size (tree v) ≤ length given) where
  pub empty_room : prefix_width (empty_prefix (tree v)) ≤ length out
  empty_room = prefix_room rooms.rooms (empty_prefix_is_prefix (tree v)) room

  pub waited : {sent many : ℕ} {out_after given_after : List ℕ} → many ≡ size (tree v) → given_after ≡ at_front v.bytes.now given → sent ≡ prefix_width (empty_prefix (tree v))
      → out_after ≡ at_front (prefix_bytes (empty_prefix (tree v)) []) out
      → Waits (tree v) out remainder given out_after (set remainder 0 8) given_after
      (Some (record { end = 1; sent = sent; kept = 1; size = many }))
  unfolding node_bytes
  waited long copied wide written =
      given_whole v long room copied
      (front_leads (prefix_bytes (empty_prefix (tree v)) []) out written (omega (arith, prefix_bytes_length (empty_prefix (tree v)) [], empty_room))) wide refl
      (omega (arith, rooms.left_room))
