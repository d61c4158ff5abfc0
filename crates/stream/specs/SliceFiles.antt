-- Slice files: their bytes, and their reading against a type with refusals 11 to 14 (document 01, Files, "Slices";
-- Operations, Admit).
use Rattle.std.specs.Prelude.{Bool, true, false, ◌&&◌, not, List, [], ◌∷◌, ◌≡◌, ℕ, get_or}
use Rattle.stream.specs.declared.Fault.{Fault}
use Rattle.stream.specs.declared.Fault.TheVariants.{SliceCutShort, SliceUnlisted, SliceLeftOver, SliceMisplaced}
use Rattle.stream.specs.Types.{Ty, first_part, second_part, has_kind, type_limit}
use Rattle.stream.specs.Levels.{value_width}
use Rattle.stream.specs.Prefixes.{Prefix, nothing, cue_awaited, cue_come, level_awaited, level_come, in_first, crossed, beside, none_chosen, first_chosen, second_chosen, IsPrefix}
use Rattle.stream.specs.Reading.{Reading, fault, found, Result, read_on, whole, next_byte, number_bytes, read_number, section_bytes, section, Root, tree, leaf, one_part, two_parts}
pub mod Examples

-- The bytes of a prefix in preorder, and then r.
unfoldable pub prefix_bytes : Prefix → List ℕ → List ℕ
prefix_bytes nothing r = 0 ∷ r
prefix_bytes cue_awaited r = 1 ∷ r
prefix_bytes cue_come r = 2 ∷ r
prefix_bytes level_awaited r = 3 ∷ r
prefix_bytes (level_come v) r = 4 ∷ number_bytes value_width v r
prefix_bytes (in_first p) r = 5 ∷ prefix_bytes p r
prefix_bytes (crossed b q) r = 6 ∷ prefix_bytes b (prefix_bytes q r)
prefix_bytes (beside p q) r = 7 ∷ prefix_bytes p (prefix_bytes q r)
prefix_bytes none_chosen r = 8 ∷ r
prefix_bytes (first_chosen p) r = 9 ∷ prefix_bytes p r
prefix_bytes (second_chosen p) r = 10 ∷ prefix_bytes p r

-- "A slice file is one section."
unfoldable pub slice_file_bytes : Prefix → List ℕ
slice_file_bytes p = section_bytes (prefix_bytes p []) []

-- The bytes that are a slice file of a type.
pub record SliceFile (type : Ty) (file : List ℕ) : Type 0 where
  pub prefix : Prefix
  pub is_prefix : IsPrefix type prefix
  pub bytes : slice_file_bytes prefix ≡ file

-- What is owed at a place of a slice: a prefix of a type, and whether it has to be complete, as in a crossed first part.
pub record Owed : Type 0 where
  pub type : Ty
  pub must_complete : Bool

abbrev pub owed : Ty → Bool → Owed
owed t c = record { type = t; must_complete = c }

-- "14 a kind that does not belong there".
abbrev pub belongs : Bool → (List ℕ → Reading (Root Owed Prefix)) → List ℕ → Reading (Root Owed Prefix)
belongs true root s = root s
belongs false root s = fault SliceMisplaced

-- What each kind byte begins where a prefix of t is owed, by its number; c says whether it has to be complete: 1, 3, 5
-- and 8 never are.
abbrev pub prefix_kinds : List (Ty → Bool → List ℕ → Reading (Root Owed Prefix))
prefix_kinds =
    (λ t c. belongs (has_kind 0 t) (leaf nothing))
    ∷ (λ t c. belongs (has_kind 1 t && not c) (leaf cue_awaited))
    ∷ (λ t c. belongs (has_kind 1 t) (leaf cue_come))
    ∷ (λ t c. belongs (has_kind 2 t && not c) (leaf level_awaited))
    ∷ (λ t c. belongs (has_kind 2 t) (λ s. read_on (read_number SliceCutShort value_width s) (λ v r. leaf (level_come v) r)))
    ∷ (λ t c. belongs (has_kind 3 t && not c) (one_part in_first (owed (first_part t) false)))
    ∷ (λ t c. belongs (has_kind 3 t) (two_parts crossed (owed (first_part t) true) (owed (second_part t) c)))
    ∷ (λ t c. belongs (has_kind 4 t) (two_parts beside (owed (first_part t) c) (owed (second_part t) c)))
    ∷ (λ t c. belongs (has_kind 5 t && not c) (leaf none_chosen))
    ∷ (λ t c. belongs (has_kind 5 t) (one_part first_chosen (owed (first_part t) c)))
    ∷ (λ t c. belongs (has_kind 5 t) (one_part second_chosen (owed (second_part t) c)))
    ∷ []

-- "At one byte 11, 12, 14 in that order."
unfoldable pub prefix_root : Owed → List ℕ → Reading (Root Owed Prefix)
prefix_root o s = read_on (next_byte SliceCutShort s) (λ k r. get_or prefix_kinds k (λ t c x. fault SliceUnlisted) o.type o.must_complete r)

-- The fault of a slice that needs a node too many. (A prefix has no more nodes than its type, so the limit of 255 is never met:
-- `limit_not_met` in the laws.)
abbrev pub slice_over : Fault
slice_over = SliceCutShort

-- A prefix of t at the front of some bytes; a file that is one.
unfoldable pub read_prefix : Ty → List ℕ → Reading Prefix
read_prefix t s = tree slice_over prefix_root type_limit (owed t false) s

unfoldable pub slice_file : Ty → List ℕ → Result Prefix
slice_file t s = whole SliceLeftOver (section SliceCutShort SliceLeftOver (read_prefix t) s)

-- The prefix of t that some bytes hold; where they hold none, nothing, which no rule uses.
unfoldable pub prefix_of : Ty → List ℕ → Prefix
prefix_of t s = found nothing (read_prefix t s)
