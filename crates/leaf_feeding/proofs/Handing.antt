-- Giving a type as it is and leaving a node of one byte: what leads the work bytes, and the answer.
use Rattle.std.specs.Prelude.{◌≡◌, refl, List, [], ◌∷◌, ℕ, ◌≤◌, ◌<◌, length, take, set, None, Some}
use Rattle.std.proofs.Common.{sym, ap, ◌∙◌, arith}
use Rattle.stream.specs.Types.{size}
use Rattle.stream.specs.Prefixes.{Prefix}
use Rattle.stream.specs.Buffers.{at_front}
use Rattle.stream.specs.TypeFiles.{type_bytes}
use Rattle.stream.specs.SliceFiles.{prefix_bytes}
use Rattle.reading.specs.declared.types.TypeView.{TypeView}
use Rattle.reading.specs.declared.inputs.Input.{Input}
use Rattle.reading.specs.Views.{tree}
use Rattle.reading.specs.InputViews.{type, prefix}
use Rattle.reading.specs.SliceReads.{prefix_width}
use Rattle.reading.proofs.TypeViews.{size_is}
use Rattle.reading.proofs.InputViews.{prefix_in, slice_short}
use Rattle.node.specs.Nodes.{Node}
use Rattle.node.specs.PatchFiles.{node_bytes}
use Rattle.patch_reading.specs.declared.fronts.NodeFront.{NodeFront}
use Rattle.patch_reading.specs.Fronts.{node}
use Rattle.patch_reading.specs.PatchReads.{node_width}
use Rattle.patch_reading.proofs.NodeFronts.{bytes_are}
use Rattle.leaf_feeding.specs.Steps.{Leads, Answers, fed, failed, Rooms, LeafRooms, HandsOn}
use Rattle.leaf_feeding.specs.Steps.Laws.{front_leads, byte_leads}
use Rattle.leaf_feeding.proofs.Placed.{view_copied, slice_copied}

-- The bytes of a node, copied as they stand, lead.
pub node_leads : (v : NodeFront) {end : ℕ} {lent now : List ℕ} → end ≡ node_width (node v) → end ≤ length lent
    → now ≡ at_front (take end v.bytes.now) lent → Leads (node_bytes (node v) []) lent now
node_leads v {end} {lent} ends room copied =
    let taken : take end v.bytes.now ≡ node_bytes (node v) [] = ap (λ n. take n v.bytes.now) ends ∙ bytes_are v in
    front_leads (node_bytes (node v) []) lent (copied ∙ ap (λ l. at_front l lent) taken) (omega (arith, ends))

module _ (v : TypeView) where
  -- So do those of a type.
  pub type_leads : {lent now : List ℕ} → size (tree v) ≤ length lent → now ≡ at_front v.bytes.now lent → Leads (type_bytes (tree v) []) lent now
  type_leads room copied = view_copied v room copied

  module _ {o : Prefix} {n : Node} {out remainder given out_after given_after : List ℕ} where
    pub no_room : {end : ℕ} {remainder_after : List ℕ} → length given < size (tree v)
        → Answers (λ u. u ≡ tree v) end o n out remainder given out_after remainder_after given_after None
    no_room few = failed (λ u same room. omega (arith, ap size same))

    -- It is given, o is sent, and a node of one byte is left.
    pub given_whole : {k sent many : ℕ} → many ≡ size (tree v) → size (tree v) ≤ length given → given_after ≡ at_front v.bytes.now given
        → Leads (prefix_bytes o []) out out_after → sent ≡ prefix_width o → node_bytes n [] ≡ k ∷ [] → 0 < length remainder
        → Answers (λ u. u ≡ tree v) 1 o n out remainder given out_after (set remainder 0 k) given_after
        (Some (record { end = 1; sent = sent; kept = 1; size = many }))
    given_whole {k} {sent} {many} long room copied output wide one byte_room =
        fed {step = record { end = 1; sent = sent; kept = 1; size = many }} refl
        (record {
          ends = refl;
          sent = wide;
          kept = sym (ap length one);
          sized = long;
          output = output;
          node_left = rw one (byte_leads k byte_room);
          type_given = type_leads room copied;
        })

-- Where a type has room, the prefix of it has.
pub slice_fits : {out given : List ℕ} (i : Input) → Rooms out given → size (type i) ≤ length given → length i.slice.now ≤ length out
slice_fits i rooms room = omega (arith, slice_short i, rooms.for_output)

-- Both are handed on.
pub handed_on : {out remainder given out_after given_after : List ℕ} {k : ℕ} (i : Input) → LeafRooms out remainder given
    → size (type i) ≤ length given → given_after ≡ at_front i.ty.bytes.now given → out_after ≡ at_front i.slice.now out
    → HandsOn k (type i) (prefix i) out remainder given out_after (set remainder 0 k) given_after
    (Some (record { end = 1; sent = length i.slice.now; kept = 1; size = length i.ty.bytes.now }))
handed_on {out} i rooms room copied sent n one =
    given_whole i.ty (size_is i.ty) room copied (slice_copied i (slice_fits i rooms.rooms room) sent) (omega (arith, (prefix_in i).ends)) one
    (omega (arith, rooms.left_room))
