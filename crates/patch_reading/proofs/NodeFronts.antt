-- What the bytes of a front say of its node, and where the parts stand.
use Rattle.std.specs.Prelude.{◌≡◌, List, [], ℕ, ◌+◌, ◌-◌, ◌≤◌, ◌<◌, length, get_or, take, drop}
use Rattle.std.proofs.Common.{sym, ap, ◌∙◌, arith, drop-drop, length-drop, take_all}
use Rattle.stream.specs.Levels.{value_width, value_bytes}
use Rattle.stream.specs.Reading.{found}
use Rattle.stream.proofs.Levels.Laws.{value_front}
use Rattle.stream.specs.Types.{size}
use Rattle.stream.proofs.TypeFiles.Held.{Holds}
use Rattle.reading.specs.TypeReads.{TypeAt, SomeTypeAt, TypeEnds}
use Rattle.reading.specs.TypeReads.Laws as types
use Rattle.node.specs.Nodes.{Node, pass}
use Rattle.node.specs.Nodes.Kinds.{node_kind, node_arity, kind_is_listed, a_type, node_contents}
use Rattle.node.specs.PatchFiles.{node_bytes}
use Rattle.node.proofs.PatchFiles.Laws.{node_reads}
use Rattle.patch_reading.specs.declared.fronts.NodeFront.{NodeFront}
use Rattle.patch_reading.specs.Found.{node_of, IsFront}
use Rattle.patch_reading.specs.Fronts.{node, first_node, second_node, carried_type, carried_value}
use Rattle.patch_reading.specs.PatchReads.{node_width, NodeAt}
use Rattle.patch_reading.specs.PatchReads.Laws.{node_drop, node_bytes_length, count_within, kind_at, ends_inside, starts_inside, bytes_at}
use Rattle.patch_reading.proofs.NodeParts.{forked, fork_width, carrying, value_is, value_node_width}

-- Bytes at which a node stands are a front, and its node is that one.
module _ {s : List ℕ} {n : Node} (stands : NodeAt s 0 n) where
  pub has_node : node_of s ≡ n
  unfolding node_of
  has_node =
      rw stands.here
      (ap (found pass) (node_reads _ n stands.rest stands.carries (omega (arith, node_bytes_length n stands.rest, count_within n))))

  pub is_front : IsFront s
  is_front =
      record {
        begins = rw (has_node, stands.here) (ap (node_bytes n) (node_drop n stands.rest));
        carries = rw has_node stands.carries;
      }

-- A node that stands anywhere stands at the front of the bytes from there on.

abbrev from_on : ℕ → List ℕ → List ℕ
from_on at bytes = take (length bytes - at) (drop at bytes)

pub at_front : {bytes : List ℕ} {at : ℕ} {n : Node} → NodeAt bytes at n → NodeAt (from_on at bytes) 0 n
at_front {bytes} {at} stands =
    record {
      rest = stands.rest;
      here = take_all (length bytes - at) (drop at bytes) (omega (arith, length-drop at bytes)) ∙ stands.here;
      carries = stands.carries;
    }

-- And a front's node stands at its bytes.
pub node_at : (v : NodeFront) → NodeAt v.bytes.now 0 (node v)
node_at v = record { rest = drop (node_width (node v)) v.bytes.now; here = sym v.front.begins; carries = v.front.carries }

module _ (v : NodeFront) where
  pub not_empty : 0 < length v.bytes.now
  not_empty = starts_inside (node_at v)

  pub kind_is : get_or v.bytes.now 0 0 ≡ node_kind (node v)
  kind_is = kind_at (node_at v)

  pub kind_small : get_or v.bytes.now 0 0 < 18
  kind_small = rw kind_is (kind_is_listed (node v))

  pub inside : node_width (node v) ≤ length v.bytes.now
  inside = omega (arith, ends_inside (node_at v))

  pub bytes_are : take (node_width (node v)) v.bytes.now ≡ node_bytes (node v) []
  bytes_are = bytes_at (node_at v)

  abbrev behind : List ℕ
  behind = drop (node_width (node v)) v.bytes.now

  module _ (two : node_arity (node_kind (node v)) ≡ 2) where
    under : drop 1 v.bytes.now ≡ node_bytes (first_node (node v)) (node_bytes (second_node (node v)) behind)
    under = ap (drop 1) (sym v.front.begins ∙ (forked (node v) two).bytes behind)

    pub first_at : NodeAt v.bytes.now 1 (first_node (node v))
    first_at =
        record {
          rest = node_bytes (second_node (node v)) behind;
          here = under;
          carries = ((forked (node v) two).carries v.front.carries).0;
        }

    pub second_at : {end : ℕ} → end ≡ 1 + node_width (first_node (node v)) → NodeAt v.bytes.now end (second_node (node v))
    second_at ends =
        record {
          rest = behind;
          here =
              rw (ends, ← drop-drop (node_width (first_node (node v))) 1 v.bytes.now, under)
              (node_drop (first_node (node v)) (node_bytes (second_node (node v)) behind));
          carries = ((forked (node v) two).carries v.front.carries).1;
        }

    pub second_inside : {end : ℕ} → end ≡ 1 + node_width (first_node (node v)) → end ≤ length v.bytes.now
    second_inside ends = omega (arith, inside, fork_width (node v) two)

  module _ (is_level : node_kind (node v) ≡ 3) where
    pub value_inside : 1 + value_width ≤ length v.bytes.now
    value_inside = omega (arith, inside, value_node_width (node v) is_level)

    pub value_there : take value_width (drop 1 v.bytes.now) ≡ value_bytes (carried_value (node v)) []
    value_there =
        ap (λ s. take value_width (drop 1 s)) (sym v.front.begins ∙ value_is (node v) is_level behind)
        ∙ value_front (carried_value (node v)) behind

  -- What it carries stands behind the kind byte.
  module _ (typed : node_contents (node_kind (node v)) ≡ a_type) where
    pub type_at : TypeAt v.bytes.now 1 (carried_type (node v))
    type_at =
        record {
          rest = behind;
          here = ap (drop 1) (sym v.front.begins ∙ (carrying (node v) typed).bytes behind);
          small = (carrying (node v) typed).small v.front.carries;
        }

    pub some_type : SomeTypeAt v.bytes.now 1
    some_type = record { type = carried_type (node v); stands = type_at }

    module _ {end : ℕ} (ends : TypeEnds v.bytes.now 1 end) where
      pub type_inside : (1 ≤ end) × (end ≤ length v.bytes.now)
      type_inside = let e = ends.each _ type_at in (omega arith, omega (arith, types.ends_inside type_at))

      pub type_held : Holds (take (end - 1) (drop 1 v.bytes.now)) (carried_type (node v))
      type_held =
          let wide : end - 1 ≡ size (carried_type (node v)) = omega (arith, ends.each _ type_at) in
          record { bytes = rw wide (types.bytes_at type_at); small = type_at.small }
