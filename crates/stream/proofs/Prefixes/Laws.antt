-- The laws of derivative and concatenation, of what opens a node that waits, and of arrivals.
use Rattle.std.specs.Prelude.{◌≡◌, refl, Bool, true, false, ◌||◌, not, ◌↔◌, ◌+◌, ◌≤◌}
use Rattle.std.proofs.Common.{sym, ap, ◌∙◌, true≢false, arith}
use Rattle.std.proofs.Math.Path.{ap₂}
use Rattle.std.proofs.lemmas.Bool.{false≢true}
use Rattle.stream.specs.Types.{Ty, empty, cue, level, seq, par, either, Nullable, null_empty, null_par, size}
use Rattle.stream.proofs.Types.Laws.{and_left, and_right, and_both}
use Rattle.stream.specs.Prefixes.{Prefix, nothing, cue_awaited, cue_come, level_awaited, level_come, in_first, crossed, beside, none_chosen, first_chosen, second_chosen, Complete, whole_nothing, whole_cue, whole_level, whole_crossed, whole_beside, whole_first_chosen, whole_second_chosen, IsPrefix, of_empty, of_cue_awaited, of_cue_come, of_level_awaited, of_level_come, of_first, of_crossed, of_beside, of_none_chosen, of_first_chosen, of_second_chosen, empty_prefix, Opens, opens_differing, opens_complete, arrivals, derivative, Concat, after_nothing, after_cue, after_level, cue_awaited_yet, level_awaited_yet, still_in_first, now_crossed, behind_crossing, each_side, none_chosen_yet, inside_first, inside_second}
use Rattle.stream.specs.Prefixes.Functions.{complete, brings_nothing, opens, concat}

-- Complete: the test is the rule

pub complete_sound : (p : Prefix) → complete p ≡ true → Complete p
unfolding complete
complete_sound nothing e = whole_nothing
complete_sound cue_awaited e = absurd (false≢true e)
complete_sound cue_come e = whole_cue
complete_sound level_awaited e = absurd (false≢true e)
complete_sound (level_come v) e = whole_level
complete_sound (in_first p) e = absurd (false≢true e)
complete_sound (crossed b q) e = whole_crossed (complete_sound q e)
complete_sound (beside p q) e =
    whole_beside (complete_sound p (and_left (complete p) (complete q) e))
    (complete_sound q (and_right (complete p) (complete q) e))
complete_sound none_chosen e = absurd (false≢true e)
complete_sound (first_chosen p) e = whole_first_chosen (complete_sound p e)
complete_sound (second_chosen p) e = whole_second_chosen (complete_sound p e)

pub complete-complete : {p : Prefix} → Complete p → complete p ≡ true
unfolding complete
complete-complete whole_nothing = refl
complete-complete whole_cue = refl
complete-complete whole_level = refl
complete-complete (whole_crossed c) = complete-complete c
complete-complete (whole_beside c d) = and_both (complete-complete c) (complete-complete d)
complete-complete (whole_first_chosen c) = complete-complete c
complete-complete (whole_second_chosen c) = complete-complete c

-- The parts of a complete prefix

pub crossed_second : {b q : Prefix} → Complete (crossed b q) → Complete q
crossed_second (whole_crossed c) = c

pub beside_first : {p q : Prefix} → Complete (beside p q) → Complete p
beside_first (whole_beside c d) = c

pub beside_second : {p q : Prefix} → Complete (beside p q) → Complete q
beside_second (whole_beside c d) = d

pub first_chosen-inside : {p : Prefix} → Complete (first_chosen p) → Complete p
first_chosen-inside (whole_first_chosen c) = c

pub second_chosen-inside : {p : Prefix} → Complete (second_chosen p) → Complete p
second_chosen-inside (whole_second_chosen c) = c

-- The empty prefix

pub empty_prefix_is_prefix : (t : Ty) → IsPrefix t (empty_prefix t)
unfolding empty_prefix
empty_prefix_is_prefix empty = of_empty
empty_prefix_is_prefix cue = of_cue_awaited
empty_prefix_is_prefix level = of_level_awaited
empty_prefix_is_prefix (seq s t) = of_first (empty_prefix_is_prefix s)
empty_prefix_is_prefix (par s t) = of_beside (empty_prefix_is_prefix s) (empty_prefix_is_prefix t)
empty_prefix_is_prefix (either s t) = of_none_chosen

pub empty_prefix-complete : {t : Ty} → Nullable t → Complete (empty_prefix t)
unfolding empty_prefix
empty_prefix-complete null_empty = whole_nothing
empty_prefix-complete (null_par h k) = whole_beside (empty_prefix-complete h) (empty_prefix-complete k)

-- What the empty prefix leaves is the type.
pub derivative_empty : (t : Ty) → derivative t (empty_prefix t) ≡ t
unfolding derivative empty_prefix
derivative_empty empty = refl
derivative_empty cue = refl
derivative_empty level = refl
derivative_empty (seq s t) = ap (λ x. seq x t) (derivative_empty s)
derivative_empty (par s t) = ap₂ par (derivative_empty s) (derivative_empty t)
derivative_empty (either s t) = refl

-- The test for the empty prefix is right for the prefixes of a type.

brings_nothing_sound : {t : Ty} {p : Prefix} → IsPrefix t p → brings_nothing p ≡ true → p ≡ empty_prefix t
unfolding brings_nothing empty_prefix
brings_nothing_sound of_empty e = refl
brings_nothing_sound of_cue_awaited e = refl
brings_nothing_sound of_cue_come e = absurd (false≢true e)
brings_nothing_sound of_level_awaited e = refl
brings_nothing_sound (of_level_come v) e = absurd (false≢true e)
brings_nothing_sound (of_first h) e = ap in_first (brings_nothing_sound h e)
brings_nothing_sound (of_crossed h c k) e = absurd (false≢true e)
brings_nothing_sound (of_beside {p = p} {q = q} h k) e =
    ap₂ beside (brings_nothing_sound h (and_left (brings_nothing p) (brings_nothing q) e))
    (brings_nothing_sound k (and_right (brings_nothing p) (brings_nothing q) e))
brings_nothing_sound of_none_chosen e = refl
brings_nothing_sound (of_first_chosen h) e = absurd (false≢true e)
brings_nothing_sound (of_second_chosen h) e = absurd (false≢true e)

empty_brings_nothing : (t : Ty) → brings_nothing (empty_prefix t) ≡ true
unfolding brings_nothing empty_prefix
empty_brings_nothing empty = refl
empty_brings_nothing cue = refl
empty_brings_nothing level = refl
empty_brings_nothing (seq s t) = empty_brings_nothing s
empty_brings_nothing (par s t) = and_both (empty_brings_nothing s) (empty_brings_nothing t)
empty_brings_nothing (either s t) = refl

-- What opens a waiting node: for the prefixes of a type the test is the rule.

pub complete-opens : {p : Prefix} → Complete p → opens p ≡ true
unfolding opens
complete-opens {p} c = go (not (brings_nothing p)) (complete-complete c)
  where
    go : (a : Bool) {b : Bool} → b ≡ true → a || b ≡ true
    go true e = refl
    go false e = e

closed_empty : {t : Ty} {p : Prefix} → IsPrefix t p → opens p ≡ false → p ≡ empty_prefix t
unfolding opens
closed_empty {p = p} h e = brings_nothing_sound h (go (brings_nothing p) (complete p) e)
  where
    go : (a b : Bool) → not a || b ≡ false → a ≡ true
    go true b e = refl
    go false b e = sym e

opens_sound : {s : Ty} (p : Prefix) → opens p ≡ true → Opens s p
unfolding opens
opens_sound {s} p e = go (brings_nothing p) refl (complete p) refl e
  where
    go : (a : Bool) → brings_nothing p ≡ a → (b : Bool) → complete p ≡ b → not a || b ≡ true → Opens s p
    go false d b c e = opens_differing (λ x. true≢false (sym (empty_brings_nothing s) ∙ ap brings_nothing (sym x) ∙ d))
    go true d true c e = opens_complete (complete_sound p c)
    go true d false c e = absurd (false≢true e)

opens_by_rule : {s : Ty} {p : Prefix} → IsPrefix s p → Opens s p → opens p ≡ true
unfolding opens
opens_by_rule {p = p} h (opens_differing d) = go (brings_nothing p) refl
  where
    go : (a : Bool) → brings_nothing p ≡ a → not a || complete p ≡ true
    go false e = refl
    go true e = absurd (d (brings_nothing_sound h e))
opens_by_rule h (opens_complete c) = complete-opens c

pub opens_test : {s : Ty} {p : Prefix} → IsPrefix s p → opens p ≡ true ↔ Opens s p
opens_test {p = p} h = ((λ e. opens_sound p e), (λ o. opens_by_rule h o))

pub closed_test : {s : Ty} {p : Prefix} → IsPrefix s p → opens p ≡ false ↔ (Opens s p → ⊥)
closed_test {s} {p} h = ((λ e o. true≢false (sym (opens_by_rule h o) ∙ e)), (λ k. go (opens p) refl k))
  where
    go : (b : Bool) → opens p ≡ b → (Opens s p → ⊥) → b ≡ false
    go true e k = absurd (k (opens_sound p e))
    go false e k = refl

-- While a node waits, its input type stays.
pub closed_derivative : {t : Ty} {p : Prefix} → IsPrefix t p → (Opens t p → ⊥) → derivative t p ≡ t
closed_derivative {t} h k = rw (closed_empty h ((closed_test h).1 k)) (derivative_empty t)

-- A prefix is complete exactly if what it leaves is nullable.

pub complete→nullable : {t : Ty} {p : Prefix} → IsPrefix t p → Complete p → Nullable (derivative t p)
unfolding derivative
complete→nullable of_empty c = null_empty
complete→nullable of_cue_come c = null_empty
complete→nullable (of_level_come v) c = null_empty
complete→nullable (of_crossed h d k) (whole_crossed c) = complete→nullable k c
complete→nullable of_cue_awaited c = elim c [ ]
complete→nullable of_level_awaited c = elim c [ ]
complete→nullable (of_first _) c = elim c [ ]
complete→nullable of_none_chosen c = elim c [ ]
complete→nullable (of_beside h k) (whole_beside c d) = null_par (complete→nullable h c) (complete→nullable k d)
complete→nullable (of_first_chosen h) (whole_first_chosen c) = complete→nullable h c
complete→nullable (of_second_chosen h) (whole_second_chosen c) = complete→nullable h c

pub nullable→complete : {t : Ty} {p : Prefix} → IsPrefix t p → Nullable (derivative t p) → Complete p
unfolding derivative
nullable→complete of_empty n = whole_nothing
nullable→complete of_cue_come n = whole_cue
nullable→complete (of_level_come v) n = whole_level
nullable→complete (of_crossed h d k) n = whole_crossed (nullable→complete k n)
nullable→complete of_cue_awaited n = elim n [ ]
nullable→complete of_level_awaited n = elim n [ ]
nullable→complete (of_first _) n = elim n [ ]
nullable→complete of_none_chosen n = elim n [ ]
nullable→complete (of_beside h k) (null_par n m) = whole_beside (nullable→complete h n) (nullable→complete k m)
nullable→complete (of_first_chosen h) n = whole_first_chosen (nullable→complete h n)
nullable→complete (of_second_chosen h) n = whole_second_chosen (nullable→complete h n)

-- Every prefix of a nullable type is complete.
nullable_prefix : {t : Ty} {p : Prefix} → Nullable t → IsPrefix t p → Complete p
nullable_prefix null_empty of_empty = whole_nothing
nullable_prefix (null_par n m) (of_beside h k) = whole_beside (nullable_prefix n h) (nullable_prefix m k)

-- What is left is no larger.
pub derivative-size : {t : Ty} {p : Prefix} → IsPrefix t p → size (derivative t p) ≤ size t
unfolding derivative size
derivative-size of_empty = omega arith
derivative-size of_cue_awaited = omega arith
derivative-size of_cue_come = omega arith
derivative-size of_level_awaited = omega arith
derivative-size (of_level_come v) = omega arith
derivative-size (of_first h) = omega (arith, derivative-size h)
derivative-size (of_crossed h c k) = omega (arith, derivative-size k)
derivative-size (of_beside h k) = omega (arith, derivative-size h, derivative-size k)
derivative-size of_none_chosen = omega arith
derivative-size (of_first_chosen h) = omega (arith, derivative-size h)
derivative-size (of_second_chosen h) = omega (arith, derivative-size h)

-- Concatenation: the function is the rule. It gives what the rules give, and they give nothing else.

pub concat-only : {p q r : Prefix} → Concat p q r → concat p q ≡ r
unfolding concat
concat-only after_nothing = refl
concat-only after_cue = refl
concat-only after_level = refl
concat-only cue_awaited_yet = refl
concat-only level_awaited_yet = refl
concat-only (still_in_first c) = ap in_first (concat-only c)
concat-only (now_crossed {r = r} c) = ap (λ x. crossed x r) (concat-only c)
concat-only (behind_crossing {b = b} c) = ap (crossed b) (concat-only c)
concat-only (each_side c d) = ap₂ beside (concat-only c) (concat-only d)
concat-only none_chosen_yet = refl
concat-only (inside_first c) = ap first_chosen (concat-only c)
concat-only (inside_second c) = ap second_chosen (concat-only c)

pub concats : {t : Ty} {p : Prefix} (q : Prefix) → IsPrefix t p → IsPrefix (derivative t p) q → Concat p q (concat p q)
unfolding derivative concat
concats q of_empty k = after_nothing
concats q of_cue_awaited k = cue_awaited_yet
concats q of_cue_come k = after_cue
concats q of_level_awaited k = level_awaited_yet
concats q (of_level_come v) k = after_level
concats q (of_first h) (of_first k) = still_in_first (concats _ h k)
concats q (of_first h) (of_crossed i d k) = now_crossed (concats _ h i)
concats q (of_crossed h d i) k = behind_crossing (concats q i k)
concats q (of_beside h i) (of_beside k l) = each_side (concats _ h k) (concats _ i l)
concats q of_none_chosen k = none_chosen_yet
concats q (of_first_chosen h) k = inside_first (concats q h k)
concats q (of_second_chosen h) k = inside_second (concats q h k)

pub concat-complete : {t : Ty} {p : Prefix} (q : Prefix) → IsPrefix t p → IsPrefix (derivative t p) q → Complete q → Complete (concat p q)
unfolding derivative concat
concat-complete q of_empty k c = whole_nothing
concat-complete q of_cue_awaited k c = c
concat-complete q of_cue_come k c = whole_cue
concat-complete q of_level_awaited k c = c
concat-complete q (of_level_come v) k c = whole_level
concat-complete q (of_first h) (of_first _) c = elim c [ ]
concat-complete q (of_first h) (of_crossed i d k) (whole_crossed c) = whole_crossed c
concat-complete q (of_crossed h d i) k c = whole_crossed (concat-complete q i k c)
concat-complete q (of_beside h i) (of_beside k l) (whole_beside c d) = whole_beside (concat-complete _ h k c) (concat-complete _ i l d)
concat-complete q of_none_chosen k c = c
concat-complete q (of_first_chosen h) k c = whole_first_chosen (concat-complete q h k c)
concat-complete q (of_second_chosen h) k c = whole_second_chosen (concat-complete q h k c)

-- A prefix again.
pub concat_is_prefix : {t : Ty} {p : Prefix} (q : Prefix) → IsPrefix t p → IsPrefix (derivative t p) q → IsPrefix t (concat p q)
unfolding derivative concat
concat_is_prefix q of_empty k = of_empty
concat_is_prefix q of_cue_awaited k = k
concat_is_prefix q of_cue_come k = of_cue_come
concat_is_prefix q of_level_awaited k = k
concat_is_prefix q (of_level_come v) k = of_level_come v
concat_is_prefix q (of_first h) (of_first k) = of_first (concat_is_prefix _ h k)
concat_is_prefix q (of_first h) (of_crossed i d k) = of_crossed (concat_is_prefix _ h i) (concat-complete _ h i d) k
concat_is_prefix q (of_crossed h d i) k = of_crossed h d (concat_is_prefix q i k)
concat_is_prefix q (of_beside h i) (of_beside k l) = of_beside (concat_is_prefix _ h k) (concat_is_prefix _ i l)
concat_is_prefix q of_none_chosen k = k
concat_is_prefix q (of_first_chosen h) k = of_first_chosen (concat_is_prefix q h k)
concat_is_prefix q (of_second_chosen h) k = of_second_chosen (concat_is_prefix q h k)

-- The derivative of the joined is the derivative twice.
pub derivative-concat : {t : Ty} {p : Prefix} (q : Prefix) → IsPrefix t p → IsPrefix (derivative t p) q
    → derivative t (concat p q) ≡ derivative (derivative t p) q
unfolding derivative concat
derivative-concat q of_empty of_empty = refl
derivative-concat q of_cue_awaited k = refl
derivative-concat q of_cue_come of_empty = refl
derivative-concat q of_level_awaited k = refl
derivative-concat q (of_level_come v) of_empty = refl
derivative-concat q (of_first {t = t} h) (of_first k) = ap (λ x. seq x t) (derivative-concat _ h k)
derivative-concat q (of_first h) (of_crossed i d k) = refl
derivative-concat q (of_crossed h d i) k = derivative-concat q i k
derivative-concat q (of_beside h i) (of_beside k l) = ap₂ par (derivative-concat _ h k) (derivative-concat _ i l)
derivative-concat q of_none_chosen k = refl
derivative-concat q (of_first_chosen h) k = derivative-concat q h k
derivative-concat q (of_second_chosen h) k = derivative-concat q h k

-- The empty prefix changes nothing on either side.

pub concat_empty_left : {t : Ty} {q : Prefix} → IsPrefix t q → concat (empty_prefix t) q ≡ q
unfolding concat empty_prefix
concat_empty_left of_empty = refl
concat_empty_left of_cue_awaited = refl
concat_empty_left of_cue_come = refl
concat_empty_left of_level_awaited = refl
concat_empty_left (of_level_come v) = refl
concat_empty_left (of_first h) = ap in_first (concat_empty_left h)
concat_empty_left (of_crossed {q = q} h c k) = ap (λ x. crossed x q) (concat_empty_left h)
concat_empty_left (of_beside h k) = ap₂ beside (concat_empty_left h) (concat_empty_left k)
concat_empty_left of_none_chosen = refl
concat_empty_left (of_first_chosen h) = refl
concat_empty_left (of_second_chosen h) = refl

pub concat_empty_right : {t : Ty} {p : Prefix} → IsPrefix t p → concat p (empty_prefix (derivative t p)) ≡ p
unfolding concat empty_prefix derivative
concat_empty_right of_empty = refl
concat_empty_right of_cue_awaited = refl
concat_empty_right of_cue_come = refl
concat_empty_right of_level_awaited = refl
concat_empty_right (of_level_come v) = refl
concat_empty_right (of_first h) = ap in_first (concat_empty_right h)
concat_empty_right (of_crossed {b = b} h c k) = ap (crossed b) (concat_empty_right k)
concat_empty_right (of_beside h k) = ap₂ beside (concat_empty_right h) (concat_empty_right k)
concat_empty_right of_none_chosen = refl
concat_empty_right (of_first_chosen h) = ap first_chosen (concat_empty_right h)
concat_empty_right (of_second_chosen h) = ap second_chosen (concat_empty_right h)

pub concat_assoc : {t : Ty} {p : Prefix} (q r : Prefix) → IsPrefix t p → IsPrefix (derivative t p) q
    → IsPrefix (derivative (derivative t p) q) r → concat (concat p q) r ≡ concat p (concat q r)
unfolding concat derivative
concat_assoc q r of_empty k l = refl
concat_assoc q r of_cue_awaited k l = refl
concat_assoc q r of_cue_come k l = refl
concat_assoc q r of_level_awaited k l = refl
concat_assoc q r (of_level_come v) k l = refl
concat_assoc q r (of_first h) (of_first k) (of_first l) = ap in_first (concat_assoc _ _ h k l)
concat_assoc q r (of_first h) (of_first k) (of_crossed {q = x} l d m) = ap (λ b. crossed b x) (concat_assoc _ _ h k l)
concat_assoc q r (of_first h) (of_crossed i d k) l = refl
concat_assoc q r (of_crossed {b = b} h d i) k l = ap (crossed b) (concat_assoc q r i k l)
concat_assoc q r (of_beside h i) (of_beside k l) (of_beside m o) = ap₂ beside (concat_assoc _ _ h k m) (concat_assoc _ _ i l o)
concat_assoc q r of_none_chosen k l = refl
concat_assoc q r (of_first_chosen h) k l = ap first_chosen (concat_assoc q r h k l)
concat_assoc q r (of_second_chosen h) k l = ap second_chosen (concat_assoc q r h k l)

-- What opens a waiting node does so with anything joined to it; what does not is the empty prefix, and after it stands what comes.

brings_nothing-concat : {t : Ty} {p : Prefix} (q : Prefix) → IsPrefix t p → IsPrefix (derivative t p) q
    → brings_nothing (concat p q) ≡ true → brings_nothing p ≡ true
unfolding brings_nothing concat derivative
brings_nothing-concat q of_empty k e = refl
brings_nothing-concat q of_cue_awaited k e = refl
brings_nothing-concat q of_cue_come k e = e
brings_nothing-concat q of_level_awaited k e = refl
brings_nothing-concat q (of_level_come v) k e = e
brings_nothing-concat q (of_first h) (of_first k) e = brings_nothing-concat _ h k e
brings_nothing-concat q (of_first h) (of_crossed i c k) e = absurd (false≢true e)
brings_nothing-concat q (of_crossed h c i) k e = e
brings_nothing-concat q (of_beside {p = p} {q = r} h i) (of_beside {p = x} {q = y} k l) e =
    and_both (brings_nothing-concat _ h k (and_left (brings_nothing (concat p x)) (brings_nothing (concat r y)) e))
    (brings_nothing-concat _ i l (and_right (brings_nothing (concat p x)) (brings_nothing (concat r y)) e))
brings_nothing-concat q of_none_chosen k e = refl
brings_nothing-concat q (of_first_chosen h) k e = e
brings_nothing-concat q (of_second_chosen h) k e = e

pub opens-concat : {t : Ty} {p : Prefix} (q : Prefix) → IsPrefix t p → IsPrefix (derivative t p) q → opens p ≡ true → opens (concat p q) ≡ true
unfolding opens
opens-concat {p = p} q h k e = go (complete p) refl (brings_nothing (concat p q)) refl
  where
    go : (b : Bool) → complete p ≡ b → (a : Bool) → brings_nothing (concat p q) ≡ a → not (brings_nothing (concat p q)) || complete (concat p q) ≡ true
    go true c a d = complete-opens (concat-complete q h k (nullable_prefix (complete→nullable h (complete_sound p c)) k))
    go false c false d = rw d
    go false c true d = absurd (true≢false (sym (rw (brings_nothing-concat q h k d, c) at e)))

pub closed_concat : {t : Ty} {p : Prefix} (q : Prefix) → IsPrefix t p → IsPrefix (derivative t p) q → opens p ≡ false → concat p q ≡ q
closed_concat {t} {p} q h k e =
    let nothing_yet = closed_empty h e in
    rw nothing_yet (concat_empty_left (rw (nothing_yet, derivative_empty t) at k))

-- Arrivals: "Joining two slices adds their counts."
pub arrivals-concat : {t : Ty} {p : Prefix} (q : Prefix) → IsPrefix t p → IsPrefix (derivative t p) q
    → arrivals (concat p q) ≡ arrivals p + arrivals q
unfolding arrivals concat derivative
arrivals-concat q of_empty of_empty = refl
arrivals-concat q of_cue_awaited k = omega arith
arrivals-concat q of_cue_come of_empty = refl
arrivals-concat q of_level_awaited k = omega arith
arrivals-concat q (of_level_come h) of_empty = refl
arrivals-concat q (of_first h) (of_first k) = arrivals-concat _ h k
arrivals-concat q (of_first h) (of_crossed i d k) = omega (arith, arrivals-concat _ h i)
arrivals-concat q (of_crossed h d i) k = omega (arith, arrivals-concat q i k)
arrivals-concat q (of_beside h i) (of_beside k l) = omega (arith, arrivals-concat _ h k, arrivals-concat _ i l)
arrivals-concat q of_none_chosen k = omega arith
arrivals-concat q (of_first_chosen h) k = arrivals-concat q h k
arrivals-concat q (of_second_chosen h) k = arrivals-concat q h k

-- Nothing has come in the empty prefix.
pub arrivals_empty : (t : Ty) → arrivals (empty_prefix t) ≡ 0
unfolding arrivals empty_prefix
arrivals_empty empty = refl
arrivals_empty cue = refl
arrivals_empty level = refl
arrivals_empty (seq s t) = arrivals_empty s
arrivals_empty (par s t) = omega (arith, arrivals_empty s, arrivals_empty t)
arrivals_empty (either s t) = refl

-- So nothing comes while a node waits.
pub closed_arrivals : {t : Ty} {p : Prefix} → IsPrefix t p → (Opens t p → ⊥) → arrivals p ≡ 0
closed_arrivals {t} h k = rw (closed_empty h ((closed_test h).1 k)) (arrivals_empty t)

-- Two lanes side by side: which of them comes first does not matter (the source's Theorem 3.4).

module _ {s t : Ty} {p q : Prefix} (h : IsPrefix s p) (k : IsPrefix t q) where
  pub left_lane_first : concat (beside p (empty_prefix t)) (beside (empty_prefix (derivative s p)) q) ≡ beside p q
  unfolding concat
  left_lane_first = ap₂ beside (concat_empty_right h) (concat_empty_left k)

  pub right_lane_first : concat (beside (empty_prefix s) q) (beside p (empty_prefix (derivative t q))) ≡ beside p q
  unfolding concat
  right_lane_first = ap₂ beside (concat_empty_left h) (concat_empty_right k)

  -- The second of each pair is a prefix of what the first leaves.

  pub right_lane_after : IsPrefix (derivative (par s t) (beside p (empty_prefix t))) (beside (empty_prefix (derivative s p)) q)
  unfolding derivative
  right_lane_after = of_beside (empty_prefix_is_prefix (derivative s p)) (rw (← derivative_empty t) at k)

  pub left_lane_after : IsPrefix (derivative (par s t) (beside (empty_prefix s) q)) (beside p (empty_prefix (derivative t q)))
  unfolding derivative
  left_lane_after = of_beside (rw (← derivative_empty s) at h) (empty_prefix_is_prefix (derivative t q))
