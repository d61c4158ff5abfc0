-- The longest prefix is a complete prefix of its type, and no prefix of the type has more bytes.
use Rattle.std.specs.Prelude.{◌≡◌, refl, Bool, true, false, List, [], ℕ, ◌+◌, ◌≤◌, ◌<◌, leb, length}
use Rattle.std.proofs.Common.{ap, ◌∙◌, append-nil, arith, le_trans, length-append, leb-true, leb-false}
use Rattle.stream.specs.Types.{Ty, empty, cue, level, seq, par, either}
use Rattle.stream.specs.Levels.{level_limit}
use Rattle.stream.proofs.Levels.Laws.{value_length}
use Rattle.stream.specs.Prefixes.{Prefix, Complete, whole_nothing, whole_cue, whole_level, whole_crossed, whole_beside, whole_first_chosen, whole_second_chosen, IsPrefix, of_empty, of_cue_awaited, of_cue_come, of_level_awaited, of_level_come, of_first, of_crossed, of_beside, of_none_chosen, of_first_chosen, of_second_chosen, derivative}
use Rattle.stream.specs.Reading.{section_bytes}
use Rattle.stream.specs.SliceFiles.{prefix_bytes, slice_file_bytes, SliceFile}
use Rattle.stream.proofs.SliceFiles.Laws.{prefix_before}
use Rattle.stream.specs.Longest.{byte_count, chosen, longer, largest_level, longest_prefix}

-- Bytes behind a prefix do not count for it.
pub byte_count_before : (p : Prefix) (r : List ℕ) → length (prefix_bytes p r) ≡ byte_count p + length r
byte_count_before p r = ap length (prefix_before p r) ∙ length-append (prefix_bytes p []) r

-- A choice is a prefix of the either, complete if both sides are, and the longer one is longer than both.

chosen_is_prefix : {s t : Ty} {p q : Prefix} (b : Bool) → IsPrefix s p → IsPrefix t q → IsPrefix (either s t) (chosen b p q)
chosen_is_prefix true h k = of_first_chosen h
chosen_is_prefix false h k = of_second_chosen k

chosen-complete : {p q : Prefix} (b : Bool) → Complete p → Complete q → Complete (chosen b p q)
chosen-complete true c d = whole_first_chosen c
chosen-complete false c d = whole_second_chosen d

longer_than_both : (p q : Prefix) → (byte_count p < byte_count (longer p q)) × (byte_count q < byte_count (longer p q))
unfolding prefix_bytes
longer_than_both p q = go (leb (byte_count q) (byte_count p)) refl
  where
    go : (b : Bool) → leb (byte_count q) (byte_count p) ≡ b
        → (byte_count p < byte_count (chosen b p q)) × (byte_count q < byte_count (chosen b p q))
    go true e = (omega arith, omega (arith, leb-true (byte_count q) (byte_count p) e))
    go false e = (omega (arith, leb-false (byte_count q) (byte_count p) e), omega arith)

-- The longest prefix is complete, and a prefix.

pub longest_prefix-complete : (t : Ty) → Complete (longest_prefix t)
unfolding longest_prefix
longest_prefix-complete empty = whole_nothing
longest_prefix-complete cue = whole_cue
longest_prefix-complete level = whole_level
longest_prefix-complete (seq s t) = whole_crossed (longest_prefix-complete t)
longest_prefix-complete (par s t) = whole_beside (longest_prefix-complete s) (longest_prefix-complete t)
longest_prefix-complete (either s t) =
    chosen-complete (leb (byte_count (longest_prefix t)) (byte_count (longest_prefix s))) (longest_prefix-complete s) (longest_prefix-complete t)

pub longest_prefix_is_prefix : (t : Ty) → IsPrefix t (longest_prefix t)
unfolding longest_prefix level_limit
longest_prefix_is_prefix empty = of_empty
longest_prefix_is_prefix cue = of_cue_come
longest_prefix_is_prefix level = of_level_come {v = largest_level} (omega arith)
longest_prefix_is_prefix (seq s t) = of_crossed (longest_prefix_is_prefix s) (longest_prefix-complete s) (longest_prefix_is_prefix t)
longest_prefix_is_prefix (par s t) = of_beside (longest_prefix_is_prefix s) (longest_prefix_is_prefix t)
longest_prefix_is_prefix (either s t) =
    chosen_is_prefix (leb (byte_count (longest_prefix t)) (byte_count (longest_prefix s))) (longest_prefix_is_prefix s) (longest_prefix_is_prefix t)

-- "No slice accepted for that type makes a longer one."

pub no_prefix_longer : {t : Ty} {p : Prefix} → IsPrefix t p → byte_count p ≤ byte_count (longest_prefix t)
unfolding longest_prefix prefix_bytes
no_prefix_longer of_empty = omega arith
no_prefix_longer of_cue_awaited = omega arith
no_prefix_longer of_cue_come = omega arith
no_prefix_longer of_level_awaited = omega (arith, value_length largest_level [])
no_prefix_longer (of_level_come {v = v} h) = omega (arith, value_length v [], value_length largest_level [])
no_prefix_longer (of_first {s = s} {t = t} h) =
    omega (arith, no_prefix_longer h, byte_count_before (longest_prefix s) (prefix_bytes (longest_prefix t) []))
no_prefix_longer (of_crossed {s = s} {t = t} {b = b} {q = q} h c k) =
    omega (arith, no_prefix_longer h, no_prefix_longer k, byte_count_before b (prefix_bytes q []), byte_count_before (longest_prefix s) (prefix_bytes (longest_prefix t) []))
no_prefix_longer (of_beside {s = s} {t = t} {p = p} {q = q} h k) =
    omega (arith, no_prefix_longer h, no_prefix_longer k, byte_count_before p (prefix_bytes q []), byte_count_before (longest_prefix s) (prefix_bytes (longest_prefix t) []))
no_prefix_longer (of_none_chosen {s = s} {t = t}) = omega (arith, longer_than_both (longest_prefix s) (longest_prefix t))
no_prefix_longer (of_first_chosen {s = s} {t = t} h) = omega (arith, no_prefix_longer h, longer_than_both (longest_prefix s) (longest_prefix t))
no_prefix_longer (of_second_chosen {s = s} {t = t} h) = omega (arith, no_prefix_longer h, longer_than_both (longest_prefix s) (longest_prefix t))

-- Nor is a later slice longer: what is left of a type has no longer prefix than the type.
pub left_no_longer : {t : Ty} {p : Prefix} → IsPrefix t p → byte_count (longest_prefix (derivative t p)) ≤ byte_count (longest_prefix t)
unfolding longest_prefix derivative prefix_bytes
left_no_longer of_empty = omega arith
left_no_longer of_cue_awaited = omega arith
left_no_longer of_cue_come = omega arith
left_no_longer of_level_awaited = omega arith
left_no_longer (of_level_come h) = omega (arith, value_length largest_level [])
left_no_longer (of_first {s = s} {t = t} {p = p} h) =
    omega (
      arith,
      left_no_longer h,
      byte_count_before (longest_prefix (derivative s p)) (prefix_bytes (longest_prefix t) []),
      byte_count_before (longest_prefix s) (prefix_bytes (longest_prefix t) []),
    )
left_no_longer (of_crossed {s = s} {t = t} h c k) =
    omega (arith, left_no_longer k, byte_count_before (longest_prefix s) (prefix_bytes (longest_prefix t) []))
left_no_longer (of_beside {s = s} {t = t} {p = p} {q = q} h k) =
    omega (
      arith,
      left_no_longer h,
      left_no_longer k,
      byte_count_before (longest_prefix (derivative s p)) (prefix_bytes (longest_prefix (derivative t q)) []),
      byte_count_before (longest_prefix s) (prefix_bytes (longest_prefix t) []),
    )
left_no_longer of_none_chosen = omega arith
left_no_longer (of_first_chosen {s = s} {t = t} h) = omega (arith, left_no_longer h, longer_than_both (longest_prefix s) (longest_prefix t))
left_no_longer (of_second_chosen {s = s} {t = t} h) = omega (arith, left_no_longer h, longer_than_both (longest_prefix s) (longest_prefix t))

-- The same of files: the count comes before the bytes of the prefix.

pub slice_file-count : (p : Prefix) → length (slice_file_bytes p) ≡ 2 + byte_count p
unfolding slice_file_bytes section_bytes
slice_file-count p = rw (append-nil (prefix_bytes p [])) (omega arith)

pub no_file_longer : {t : Ty} {file : List ℕ} → SliceFile t file → length file ≤ length (slice_file_bytes (longest_prefix t))
no_file_longer {t} f =
    rw (← f.bytes, slice_file-count f.prefix, slice_file-count (longest_prefix t)) (omega (arith, no_prefix_longer f.is_prefix))

pub no_file_longer_later : {t : Ty} {p : Prefix} {file : List ℕ} → IsPrefix t p → SliceFile (derivative t p) file
    → length file ≤ length (slice_file_bytes (longest_prefix t))
no_file_longer_later {t} {p} h f =
    le_trans (no_file_longer f)
    (rw (slice_file-count (longest_prefix (derivative t p)), slice_file-count (longest_prefix t)) (omega (arith, left_no_longer h)))

pub longest-slice_file : (t : Ty) → SliceFile t (slice_file_bytes (longest_prefix t))
longest-slice_file t = record { prefix = longest_prefix t; is_prefix = longest_prefix_is_prefix t; bytes = refl }
