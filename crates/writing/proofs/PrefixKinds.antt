-- A prefix by its kind byte.
use mathlib.Core.Path.{◌≡◌, refl}
use mathlib.Core.Bool.{true, false, false≢true, true≢false}
use Prim.Native.Nat.{ℕ, ◌≤◌, ◌<◌}
use native.Mathlib.Omega.{arith}
use Rattle.stream.specs.Types.{Ty, empty}
use Rattle.stream.proofs.Reading.Laws.{◌&◌, past, every}
use Rattle.stream.specs.Prefixes.{Prefix, nothing, cue_awaited, cue_come, level_awaited, level_come, in_first, crossed, beside, none_chosen, first_chosen, second_chosen, IsPrefix, of_empty, of_cue_awaited, of_cue_come, of_level_awaited, of_level_come, of_first, of_crossed, of_beside, of_none_chosen, of_first_chosen, of_second_chosen, derivative}
use Rattle.stream.specs.Prefixes.Functions.{concat}
use Rattle.stream.specs.Prefixes.Kinds.{prefix_kind, prefix_arity}
use Rattle.reading.specs.SliceReads.{prefix_width, is_unfinished}

-- The kinds 0 to 4 are leaves, and no prefix has a kind above 10.
pub leaf-kind : (k : ℕ) → k < 5 → prefix_arity k ≡ 0
leaf-kind =
    every (λ k parts. k < 5 → parts ≡ 0) 2 _
    ((λ h. refl)
    & (λ h. refl)
    & (λ h. refl)
    & (λ h. refl)
    & (λ h. refl)
    & (λ h. absurd (omega arith))
    & (λ h. absurd (omega arith))
    & (λ h. absurd (omega arith))
    & (λ h. absurd (omega arith))
    & (λ h. absurd (omega arith))
    & (λ h. absurd (omega arith))
    & past (λ k i h. absurd (omega arith)))

pub kind_listed : (p : Prefix) → prefix_kind p ≤ 10
kind_listed nothing = omega arith
kind_listed cue_awaited = omega arith
kind_listed cue_come = omega arith
kind_listed level_awaited = omega arith
kind_listed (level_come v) = omega arith
kind_listed (in_first p) = omega arith
kind_listed (crossed b q) = omega arith
kind_listed (beside p q) = omega arith
kind_listed none_chosen = omega arith
kind_listed (first_chosen p) = omega arith
kind_listed (second_chosen p) = omega arith

-- A leaf still awaited gives way to a later prefix.
pub record Awaited (p : Prefix) : Type 0 where
  pub wide : prefix_width p ≡ 1
  pub gives_way : (q : Prefix) → concat p q ≡ q

pub awaited : (p : Prefix) → prefix_arity (prefix_kind p) ≡ 0 → is_unfinished (prefix_kind p) ≡ true → Awaited p
unfolding prefix_width concat
awaited nothing leaf u = absurd (false≢true u)
awaited cue_awaited leaf u = record { wide = refl; gives_way = λ q. refl }
awaited cue_come leaf u = absurd (false≢true u)
awaited level_awaited leaf u = record { wide = refl; gives_way = λ q. refl }
awaited (level_come v) leaf u = absurd (false≢true u)
awaited (in_first p) leaf u = absurd (omega arith)
awaited (crossed b q) leaf u = absurd (omega arith)
awaited (beside p q) leaf u = absurd (omega arith)
awaited none_chosen leaf u = record { wide = refl; gives_way = λ q. refl }
awaited (first_chosen p) leaf u = absurd (omega arith)
awaited (second_chosen p) leaf u = absurd (omega arith)

-- A leaf that has come leaves the empty type, and stays as it is.
pub record Come (t : Ty) (p : Prefix) : Type 0 where
  pub leaves : derivative t p ≡ empty
  pub stays : (q : Prefix) → concat p q ≡ p

pub come : {t : Ty} {p : Prefix} → IsPrefix t p → prefix_arity (prefix_kind p) ≡ 0 → is_unfinished (prefix_kind p) ≡ false → Come t p
unfolding derivative concat
come of_empty leaf f = record { leaves = refl; stays = λ q. refl }
come of_cue_awaited leaf f = absurd (true≢false f)
come of_cue_come leaf f = record { leaves = refl; stays = λ q. refl }
come of_level_awaited leaf f = absurd (true≢false f)
come (of_level_come v) leaf f = record { leaves = refl; stays = λ q. refl }
come (of_first h) leaf f = absurd (omega arith)
come (of_crossed h d k) leaf f = absurd (omega arith)
come (of_beside h k) leaf f = absurd (omega arith)
come of_none_chosen leaf f = absurd (true≢false f)
come (of_first_chosen h) leaf f = absurd (omega arith)
come (of_second_chosen h) leaf f = absurd (omega arith)

-- The empty type has one prefix, of one byte.
pub empty_wide : {q : Prefix} → IsPrefix empty q → prefix_width q ≡ 1
unfolding prefix_width
empty_wide of_empty = refl
