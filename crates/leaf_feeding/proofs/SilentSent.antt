-- Silent sends the empty prefix of the type that it carries, which has as many bytes as the type has nodes, and stays as it is.
use Rattle.std.specs.Prelude.{◌≡◌, refl, true, false, List, [], ℕ, ◌+◌, ◌≤◌, ◌<◌, length, take, None, Some}
use Rattle.std.proofs.Common.{sym, ap, ◌∙◌, arith}
use Rattle.stream.specs.Types.{Ty, Nullable, null_empty, null_par, nullable, size, Small}
use Rattle.stream.proofs.Types.Laws.{nullable_sound, nullable-complete}
use Rattle.stream.specs.Buffers.{at_front}
use Rattle.stream.specs.Prefixes.{Prefix, empty_prefix}
use Rattle.stream.specs.SliceFiles.{prefix_bytes}
use Rattle.reading.specs.declared.types.TypeView.{TypeView}
use Rattle.reading.specs.Views.{tree}
use Rattle.reading.specs.SliceReads.{prefix_width}
use Rattle.reading.proofs.TypeViews.{size_is}
use Rattle.reading.specs.SliceReads.Laws.{prefix_bytes_length}
use Rattle.node.specs.Nodes.{Node, silent, Takes, takes_silent}
use Rattle.node.specs.Nodes.Kinds.{node_kind}
use Rattle.node.specs.Checking.{WellTyped}
use Rattle.node.specs.Feeding.Functions.{sends, leaves}
use Rattle.patch_reading.specs.declared.fronts.NodeFront.{NodeFront}
use Rattle.patch_reading.specs.Fronts.{node, carried_type}
use Rattle.patch_reading.specs.PatchReads.{node_width}
use Rattle.patch_reading.proofs.NodeParts.{made_of, silent_has_type, carried_width}
use Rattle.writing.specs.Writing.{SilenceDue}
use Rattle.leaf_feeding.specs.Steps.{fed, failed, LeafRooms, SilentAnswers}
use Rattle.leaf_feeding.specs.Steps.Laws.{front_leads}
use Rattle.leaf_feeding.proofs.Handing.{type_leads, node_leads}

silent_nullable : {s t o : Ty} → Takes s (silent t) o → Nullable t
silent_nullable (takes_silent null) = null

silent_gives : {s t o : Ty} → Takes s (silent t) o → o ≡ t
silent_gives (takes_silent null) = refl

-- What the rules say of it.
module _ (s : Ty) {n : Node} {t : Ty} (made : n ≡ silent t) where
  silent_typed : Nullable t → Small t → WellTyped s n t
  silent_typed null small = rw made (record { types = takes_silent null; fits = small })

  silent_sends : (p : Prefix) → sends s n p ≡ empty_prefix t
  unfolding sends
  silent_sends p = rw made refl

  silent_stays : (p : Prefix) → leaves s n p ≡ n
  unfolding leaves
  silent_stays p = rw made refl

-- No sequence stands in a nullable type, so its empty prefix passes nothing over.
empty_width : {t : Ty} → Nullable t → prefix_width (empty_prefix t) ≡ size t
unfolding empty_prefix prefix_width size
empty_width null_empty = refl
empty_width (null_par h k) = omega (arith, empty_width h, empty_width k)

-- `v` holds the type that the node carries.
module _ (n : NodeFront) (is_silent : node_kind (node n) ≡ 1) (v : TypeView) (carried : tree v ≡ carried_type (node n)) where
  made : node n ≡ silent (tree v)
  made = made_of (node n) is_silent ∙ ap silent (sym carried)

  -- The rules take no other than a nullable type, and give that.

  module _ {out remainder given out_after remainder_after given_after : List ℕ} where
    pub not_nullable : nullable (tree v) ≡ false → SilentAnswers (node n) out remainder given out_after remainder_after given_after None
    not_nullable other s p =
        failed
        (λ t typed room.
        let null = nullable-complete (silent_nullable (rw made at typed.types)) in
        absurd (cc (other, null)))

    pub without_room : length given < size (tree v) → SilentAnswers (node n) out remainder given out_after remainder_after given_after None
    without_room less s p = failed (λ t typed room. omega (arith, ap size (silent_gives (rw made at typed.types))))

  module _ (null : nullable (tree v) ≡ true) where
    is_null : Nullable (tree v)
    is_null = nullable_sound (tree v) null

    pub silent_ends : 1 + size (tree v) ≡ node_width (node n)
    silent_ends = omega (arith, ap size carried, carried_width (node n) (silent_has_type is_silent))

    module _ {out remainder given : List ℕ} (rooms : LeafRooms out remainder given) (room : size (tree v) ≤ length given) where
      abbrev pub silence_due : SilenceDue v.bytes.now out
      silence_due =
          record {
            type = tree v;
            is_nullable = nullable_sound (tree v) null;
            bytes = sym v.whole;
            room = omega (arith, size_is v, rooms.rooms.for_output);
          }

      pub silent_fed : {many : ℕ} {out_after remainder_after given_after : List ℕ} → many ≡ size (tree v)
          → given_after ≡ at_front v.bytes.now given → out_after ≡ at_front (prefix_bytes (empty_prefix (tree v)) []) out
          → remainder_after ≡ at_front (take (1 + many) n.bytes.now) remainder
          → SilentAnswers (node n) out remainder given out_after remainder_after given_after
          (Some (record { end = 1 + many; sent = many; kept = 1 + many; size = many }))
      silent_fed {many} long copied written kept s p =
          let ends : 1 + many ≡ node_width (node n) = omega (arith, silent_ends) in
          rw (silent_sends s made p, silent_stays s made p)
          (fed {step = record { end = 1 + many; sent = many; kept = 1 + many; size = many }} (silent_typed s made is_null v.small)
          (record {
            ends = ends;
            sent = long ∙ sym (empty_width is_null);
            kept = ends;
            sized = long;
            output =
                front_leads (prefix_bytes (empty_prefix (tree v)) []) out written
                (omega (arith, prefix_bytes_length (empty_prefix (tree v)) [], empty_width is_null, rooms.rooms.for_output));
            node_left = node_leads n ends (omega (arith, rooms.rooms.for_type, rooms.left_room)) kept;
            type_given = type_leads v room copied;
          }))
