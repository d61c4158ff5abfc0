-- Prefixes in some bytes: how many bytes a prefix and a join take, and where the parts of a prefix stand.
use Rattle.std.specs.Prelude.{◌≡◌, refl, List, [], ◌∷◌, ℕ, ◌+◌, ◌≤◌, length, get_or, take, drop}
use Rattle.std.proofs.Common.{sym, ap, ◌∙◌, arith, add-zero, length-drop, drop-drop, get_or-drop, take_at}
use Rattle.stream.specs.Types.{Ty}
use Rattle.stream.proofs.Levels.Laws.{value_length, value_behind}
use Rattle.stream.specs.Prefixes.{Prefix, nothing, cue_awaited, cue_come, level_awaited, level_come, in_first, crossed, beside, none_chosen, first_chosen, second_chosen, IsPrefix, of_empty, of_cue_awaited, of_cue_come, of_level_awaited, of_level_come, of_first, of_crossed, of_beside, of_none_chosen, of_first_chosen, of_second_chosen, derivative}
use Rattle.stream.specs.Prefixes.Functions.{concat}
use Rattle.stream.proofs.Reading.Laws.{◌&◌, past, every}
use Rattle.stream.specs.SliceFiles.{prefix_bytes}
use Rattle.stream.proofs.SliceFiles.Laws.{prefix_before}
use Rattle.stream.specs.Prefixes.Kinds.{prefix_kind, root_width, tally}
use Rattle.reading.specs.SliceReads.{prefix_width, overlap, PrefixAt}

-- Widths

pub prefix_bytes_length : (p : Prefix) (r : List ℕ) → length (prefix_bytes p r) ≡ prefix_width p + length r
unfolding prefix_bytes prefix_width
prefix_bytes_length nothing r = omega arith
prefix_bytes_length cue_awaited r = omega arith
prefix_bytes_length cue_come r = omega arith
prefix_bytes_length level_awaited r = omega arith
prefix_bytes_length (level_come v) r = omega (arith, value_length v r)
prefix_bytes_length (in_first p) r = omega (arith, prefix_bytes_length p r)
prefix_bytes_length (crossed b q) r = omega (arith, prefix_bytes_length b (prefix_bytes q r), prefix_bytes_length q r)
prefix_bytes_length (beside p q) r = omega (arith, prefix_bytes_length p (prefix_bytes q r), prefix_bytes_length q r)
prefix_bytes_length none_chosen r = omega arith
prefix_bytes_length (first_chosen p) r = omega (arith, prefix_bytes_length p r)
prefix_bytes_length (second_chosen p) r = omega (arith, prefix_bytes_length p r)

pub width_positive : (p : Prefix) → 1 ≤ prefix_width p
unfolding prefix_width
width_positive nothing = omega arith
width_positive cue_awaited = omega arith
width_positive cue_come = omega arith
width_positive level_awaited = omega arith
width_positive (level_come v) = omega arith
width_positive (in_first p) = omega arith
width_positive (crossed b q) = omega arith
width_positive (beside p q) = omega arith
width_positive none_chosen = omega arith
width_positive (first_chosen p) = omega arith
width_positive (second_chosen p) = omega arith

-- The width of a prefix is the tally of the widths of its roots.
pub width_tally : (p : Prefix) → prefix_width p ≡ tally root_width p
unfolding prefix_width tally
width_tally nothing = refl
width_tally cue_awaited = refl
width_tally cue_come = refl
width_tally level_awaited = refl
width_tally (level_come v) = refl
width_tally (in_first p) = omega (arith, width_tally p)
width_tally (crossed b q) = omega (arith, width_tally b, width_tally q)
width_tally (beside p q) = omega (arith, width_tally p, width_tally q)
width_tally none_chosen = refl
width_tally (first_chosen p) = omega (arith, width_tally p)
width_tally (second_chosen p) = omega (arith, width_tally p)

pub overlap_within : (p : Prefix) → overlap p ≤ prefix_width p
unfolding prefix_width overlap
overlap_within nothing = omega arith
overlap_within cue_awaited = omega arith
overlap_within cue_come = omega arith
overlap_within level_awaited = omega arith
overlap_within (level_come v) = omega arith
overlap_within (in_first p) = omega (arith, overlap_within p)
overlap_within (crossed b q) = omega (arith, overlap_within q)
overlap_within (beside p q) = omega (arith, overlap_within p, overlap_within q)
overlap_within none_chosen = omega arith
overlap_within (first_chosen p) = omega (arith, overlap_within p)
overlap_within (second_chosen p) = omega (arith, overlap_within p)

pub root_positive : (k : ℕ) → 1 ≤ root_width k
root_positive =
    every (λ k w. 1 ≤ w) 1 _
    (omega arith
    & omega arith
    & omega arith
    & omega arith
    & omega arith
    & omega arith
    & omega arith
    & omega arith
    & omega arith
    & omega arith
    & omega arith
    & past (λ k h. omega arith))

-- A join is shorter than the two by the overlap of the first.
pub concat_width : {t : Ty} {p : Prefix} (q : Prefix) → IsPrefix t p → IsPrefix (derivative t p) q
    → prefix_width (concat p q) + overlap p ≡ prefix_width p + prefix_width q
unfolding derivative concat prefix_width overlap
concat_width q of_empty of_empty = omega arith
concat_width q of_cue_awaited k = omega arith
concat_width q of_cue_come of_empty = omega arith
concat_width q of_level_awaited k = omega arith
concat_width q (of_level_come v) of_empty = omega arith
concat_width q (of_first h) (of_first k) = omega (arith, concat_width _ h k)
concat_width q (of_first h) (of_crossed i d k) = omega (arith, concat_width _ h i)
concat_width q (of_crossed h d i) k = omega (arith, concat_width q i k)
concat_width q (of_beside h i) (of_beside k l) = omega (arith, concat_width _ h k, concat_width _ i l)
concat_width q of_none_chosen k = omega arith
concat_width q (of_first_chosen h) k = omega (arith, concat_width q h k)
concat_width q (of_second_chosen h) k = omega (arith, concat_width q h k)

-- What stands behind a prefix

pub behind_prefix : (p : Prefix) (r : List ℕ) → drop (prefix_width p) (prefix_bytes p r) ≡ r
unfolding prefix_bytes prefix_width
behind_prefix nothing r = refl
behind_prefix cue_awaited r = refl
behind_prefix cue_come r = refl
behind_prefix level_awaited r = refl
behind_prefix (level_come v) r = value_behind v r
behind_prefix (in_first p) r = behind_prefix p r
behind_prefix (crossed b q) r = rw (← drop-drop, behind_prefix b (prefix_bytes q r)) (behind_prefix q r)
behind_prefix (beside p q) r = rw (← drop-drop, behind_prefix p (prefix_bytes q r)) (behind_prefix q r)
behind_prefix none_chosen r = refl
behind_prefix (first_chosen p) r = behind_prefix p r
behind_prefix (second_chosen p) r = behind_prefix p r

-- Places

kind_first : (p : Prefix) (r : List ℕ) → get_or (prefix_bytes p r) 0 0 ≡ prefix_kind p
unfolding prefix_bytes
kind_first nothing r = refl
kind_first cue_awaited r = refl
kind_first cue_come r = refl
kind_first level_awaited r = refl
kind_first (level_come v) r = refl
kind_first (in_first p) r = refl
kind_first (crossed b q) r = refl
kind_first (beside p q) r = refl
kind_first none_chosen r = refl
kind_first (first_chosen p) r = refl
kind_first (second_chosen p) r = refl

-- Some bytes further on.
hop : (bytes : List ℕ) (place n : ℕ) {x r : List ℕ} {end : ℕ} → drop place bytes ≡ x → drop n x ≡ r → end ≡ place + n → drop end bytes ≡ r
hop bytes place n h g e = rw (e, ← drop-drop, h) g

behind_kind : (bytes : List ℕ) (place : ℕ) {k : ℕ} {r : List ℕ} → drop place bytes ≡ k ∷ r → drop (place + 1) bytes ≡ r
behind_kind bytes place h = hop bytes place 1 h refl refl

module _ {bytes : List ℕ} {place : ℕ} where
  pub prefix_inside : {p : Prefix} → PrefixAt bytes place p → place + prefix_width p ≤ length bytes
  prefix_inside {p} s =
      omega (arith, width_positive p, prefix_bytes_length p s.rest, ap length s.here, length-drop place bytes)

  pub kind_at : {p : Prefix} → PrefixAt bytes place p → get_or bytes place 0 ≡ prefix_kind p
  kind_at {p} s =
      ap (λ n. get_or bytes n 0) (sym (add-zero place)) ∙ sym (get_or-drop place bytes 0 0) ∙ ap (λ l. get_or l 0 0) s.here
      ∙ kind_first p s.rest

  pub prefix_taken : {p : Prefix} (n : ℕ) → PrefixAt bytes place p → n ≡ prefix_width p → take n (drop place bytes) ≡ prefix_bytes p []
  prefix_taken {p} n s e =
      ap (take n) (s.here ∙ prefix_before p s.rest) ∙ take_at (prefix_bytes p []) s.rest n (omega (arith, prefix_bytes_length p []))

  -- The first part stands behind the kind, the second behind the first.

  pub in_first_at : {p : Prefix} → PrefixAt bytes place (in_first p) → PrefixAt bytes (place + 1) p
  unfolding prefix_bytes
  in_first_at s = record { rest = s.rest; here = behind_kind bytes place s.here }

  pub first_chosen_at : {p : Prefix} → PrefixAt bytes place (first_chosen p) → PrefixAt bytes (place + 1) p
  unfolding prefix_bytes
  first_chosen_at s = record { rest = s.rest; here = behind_kind bytes place s.here }

  pub second_chosen_at : {p : Prefix} → PrefixAt bytes place (second_chosen p) → PrefixAt bytes (place + 1) p
  unfolding prefix_bytes
  second_chosen_at s = record { rest = s.rest; here = behind_kind bytes place s.here }

  pub crossed_first_at : {b q : Prefix} → PrefixAt bytes place (crossed b q) → PrefixAt bytes (place + 1) b
  unfolding prefix_bytes
  crossed_first_at {q = q} s = record { rest = prefix_bytes q s.rest; here = behind_kind bytes place s.here }

  pub crossed_second_at : {b q : Prefix} {end : ℕ} → PrefixAt bytes place (crossed b q) → end ≡ place + 1 + prefix_width b → PrefixAt bytes end q
  unfolding prefix_bytes
  crossed_second_at {b} {q} s e =
      record { rest = s.rest; here = hop bytes (place + 1) (prefix_width b) (behind_kind bytes place s.here) (behind_prefix b (prefix_bytes q s.rest)) e }

  pub beside_first_at : {p q : Prefix} → PrefixAt bytes place (beside p q) → PrefixAt bytes (place + 1) p
  unfolding prefix_bytes
  beside_first_at {q = q} s = record { rest = prefix_bytes q s.rest; here = behind_kind bytes place s.here }

  pub beside_second_at : {p q : Prefix} {end : ℕ} → PrefixAt bytes place (beside p q) → end ≡ place + 1 + prefix_width p → PrefixAt bytes end q
  unfolding prefix_bytes
  beside_second_at {p} {q} s e =
      record { rest = s.rest; here = hop bytes (place + 1) (prefix_width p) (behind_kind bytes place s.here) (behind_prefix p (prefix_bytes q s.rest)) e }
