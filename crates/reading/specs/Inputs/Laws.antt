-- What a type and a prefix of it are, by the kind of either, and how many bytes a prefix has by its type.
use Rattle.std.specs.Prelude.{◌≡◌, refl, List, ℕ, ◌+◌, ◌*◌, ◌≤◌, ◌<◌, length}
use Rattle.std.proofs.Common.{arith}
use Rattle.stream.specs.Types.{Ty, seq, par, either, size, kind}
use Rattle.stream.specs.Prefixes.{Prefix, in_first, crossed, beside, none_chosen, first_chosen, second_chosen, Complete, IsPrefix, of_empty, of_cue_awaited, of_cue_come, of_level_awaited, of_level_come, of_first, of_crossed, of_beside, of_none_chosen, of_first_chosen, of_second_chosen}
use Rattle.stream.specs.Prefixes.Kinds.{prefix_kind}
use Rattle.reading.specs.Places.{InputPlace}
use Rattle.reading.specs.TypeReads.Laws.{starts_inside}
use Rattle.reading.specs.SliceReads.{prefix_width}
use Rattle.reading.specs.SliceReads.Laws.{width_positive, prefix_inside}
use Rattle.reading.specs.Inputs.{InputAt}

-- Two sides, by the kind of the type.
pub record Sides (t : Ty) (p : Prefix) : Type 0 where
  pub first_type : Ty
  pub second_type : Ty
  pub first_prefix : Prefix
  pub second_prefix : Prefix
  pub type_is : t ≡ par first_type second_type
  pub prefix_is : p ≡ beside first_prefix second_prefix

pub has_sides : {t : Ty} {p : Prefix} → IsPrefix t p → kind t ≡ 4 → Sides t p
has_sides of_empty four = absurd (omega arith)
has_sides of_cue_awaited four = absurd (omega arith)
has_sides of_cue_come four = absurd (omega arith)
has_sides of_level_awaited four = absurd (omega arith)
has_sides (of_level_come v) four = absurd (omega arith)
has_sides (of_first h) four = absurd (omega arith)
has_sides (of_crossed h c k) four = absurd (omega arith)
has_sides (of_beside h k) four =
    record { first_type = _; second_type = _; first_prefix = _; second_prefix = _; type_is = refl; prefix_is = refl }
has_sides of_none_chosen four = absurd (omega arith)
has_sides (of_first_chosen h) four = absurd (omega arith)
has_sides (of_second_chosen h) four = absurd (omega arith)

-- A sequence whose first part is still coming, by the kind of the prefix; and one whose first part was crossed.

pub record Coming (t : Ty) (p : Prefix) : Type 0 where
  pub first_type : Ty
  pub second_type : Ty
  pub first_prefix : Prefix
  pub type_is : t ≡ seq first_type second_type
  pub prefix_is : p ≡ in_first first_prefix

pub is_coming : {t : Ty} {p : Prefix} → IsPrefix t p → prefix_kind p ≡ 5 → Coming t p
is_coming of_empty five = absurd (omega arith)
is_coming of_cue_awaited five = absurd (omega arith)
is_coming of_cue_come five = absurd (omega arith)
is_coming of_level_awaited five = absurd (omega arith)
is_coming (of_level_come v) five = absurd (omega arith)
is_coming (of_first h) five = record { first_type = _; second_type = _; first_prefix = _; type_is = refl; prefix_is = refl }
is_coming (of_crossed h c k) five = absurd (omega arith)
is_coming (of_beside h k) five = absurd (omega arith)
is_coming of_none_chosen five = absurd (omega arith)
is_coming (of_first_chosen h) five = absurd (omega arith)
is_coming (of_second_chosen h) five = absurd (omega arith)

pub record Crossing (t : Ty) (p : Prefix) : Type 0 where
  pub first_type : Ty
  pub second_type : Ty
  pub first_prefix : Prefix
  pub second_prefix : Prefix
  pub is_complete : Complete first_prefix
  pub type_is : t ≡ seq first_type second_type
  pub prefix_is : p ≡ crossed first_prefix second_prefix

pub is_crossing : {t : Ty} {p : Prefix} → IsPrefix t p → kind t ≡ 3 → (prefix_kind p ≡ 5 → ⊥) → Crossing t p
is_crossing of_empty three other = absurd (omega arith)
is_crossing of_cue_awaited three other = absurd (omega arith)
is_crossing of_cue_come three other = absurd (omega arith)
is_crossing of_level_awaited three other = absurd (omega arith)
is_crossing (of_level_come v) three other = absurd (omega arith)
is_crossing (of_first h) three other = absurd (other refl)
is_crossing (of_crossed h c k) three other =
    record { first_type = _; second_type = _; first_prefix = _; second_prefix = _; is_complete = c; type_is = refl; prefix_is = refl }
is_crossing (of_beside h k) three other = absurd (omega arith)
is_crossing of_none_chosen three other = absurd (omega arith)
is_crossing (of_first_chosen h) three other = absurd (omega arith)
is_crossing (of_second_chosen h) three other = absurd (omega arith)

-- A choice, by the kind of the prefix: none made yet; the first part chosen; the second, if neither of these.

pub record Unchosen (t : Ty) (p : Prefix) : Type 0 where
  pub first_type : Ty
  pub second_type : Ty
  pub type_is : t ≡ either first_type second_type
  pub prefix_is : p ≡ none_chosen

pub is_unchosen : {t : Ty} {p : Prefix} → IsPrefix t p → prefix_kind p ≡ 8 → Unchosen t p
is_unchosen of_empty eight = absurd (omega arith)
is_unchosen of_cue_awaited eight = absurd (omega arith)
is_unchosen of_cue_come eight = absurd (omega arith)
is_unchosen of_level_awaited eight = absurd (omega arith)
is_unchosen (of_level_come v) eight = absurd (omega arith)
is_unchosen (of_first h) eight = absurd (omega arith)
is_unchosen (of_crossed h c k) eight = absurd (omega arith)
is_unchosen (of_beside h k) eight = absurd (omega arith)
is_unchosen of_none_chosen eight = record { first_type = _; second_type = _; type_is = refl; prefix_is = refl }
is_unchosen (of_first_chosen h) eight = absurd (omega arith)
is_unchosen (of_second_chosen h) eight = absurd (omega arith)

-- `mark` is first_chosen or second_chosen.
pub record Chosen (mark : Prefix → Prefix) (t : Ty) (p : Prefix) : Type 0 where
  pub first_type : Ty
  pub second_type : Ty
  pub part : Prefix
  pub type_is : t ≡ either first_type second_type
  pub prefix_is : p ≡ mark part

pub is_first_chosen : {t : Ty} {p : Prefix} → IsPrefix t p → prefix_kind p ≡ 9 → Chosen first_chosen t p
is_first_chosen of_empty nine = absurd (omega arith)
is_first_chosen of_cue_awaited nine = absurd (omega arith)
is_first_chosen of_cue_come nine = absurd (omega arith)
is_first_chosen of_level_awaited nine = absurd (omega arith)
is_first_chosen (of_level_come v) nine = absurd (omega arith)
is_first_chosen (of_first h) nine = absurd (omega arith)
is_first_chosen (of_crossed h c k) nine = absurd (omega arith)
is_first_chosen (of_beside h k) nine = absurd (omega arith)
is_first_chosen of_none_chosen nine = absurd (omega arith)
is_first_chosen (of_first_chosen h) nine = record { first_type = _; second_type = _; part = _; type_is = refl; prefix_is = refl }
is_first_chosen (of_second_chosen h) nine = absurd (omega arith)

pub is_second_chosen : {t : Ty} {p : Prefix} → IsPrefix t p → kind t ≡ 5 → (prefix_kind p ≡ 8 → ⊥) → (prefix_kind p ≡ 9 → ⊥) → Chosen second_chosen t p
is_second_chosen of_empty five some other = absurd (omega arith)
is_second_chosen of_cue_awaited five some other = absurd (omega arith)
is_second_chosen of_cue_come five some other = absurd (omega arith)
is_second_chosen of_level_awaited five some other = absurd (omega arith)
is_second_chosen (of_level_come v) five some other = absurd (omega arith)
is_second_chosen (of_first h) five some other = absurd (omega arith)
is_second_chosen (of_crossed h c k) five some other = absurd (omega arith)
is_second_chosen (of_beside h k) five some other = absurd (omega arith)
is_second_chosen of_none_chosen five some other = absurd (some refl)
is_second_chosen (of_first_chosen h) five some other = absurd (other refl)
is_second_chosen (of_second_chosen h) five some other = record { first_type = _; second_type = _; part = _; type_is = refl; prefix_is = refl }

-- A prefix has at most two bytes for each node of its type, and one: a byte for each, and two more for each level, of which no type
-- has more than half its nodes and one.
pub width_within : {t : Ty} {p : Prefix} → IsPrefix t p → prefix_width p ≤ 2 * size t + 1
unfolding prefix_width size
width_within of_empty = omega arith
width_within of_cue_awaited = omega arith
width_within of_cue_come = omega arith
width_within of_level_awaited = omega arith
width_within (of_level_come v) = omega arith
width_within (of_first h) = omega (arith, width_within h)
width_within (of_crossed h c k) = omega (arith, width_within h, width_within k)
width_within (of_beside h k) = omega (arith, width_within h, width_within k)
width_within of_none_chosen = omega arith
width_within (of_first_chosen h) = omega (arith, width_within h)
width_within (of_second_chosen h) = omega (arith, width_within h)

-- Both begin inside their bytes.
module _ {types slice : List ℕ} {input : InputPlace} {t : Ty} {p : Prefix} (stands : InputAt types slice input t p) where
  pub type_starts : input.ty.start < length types
  type_starts = starts_inside stands.type_in.stands

  pub prefix_starts : input.prefix.start < length slice
  prefix_starts = omega (arith, prefix_inside stands.prefix_in.stands, width_positive p)
