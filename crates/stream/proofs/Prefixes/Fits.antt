-- The test of a prefix agrees with the rules.
use Rattle.std.specs.Prelude.{◌≡◌, refl, true, ℕ, ltb}
use Rattle.std.proofs.Common.{sym, subst, rules, ltb-true}
use Rattle.stream.specs.Types.{Ty, first_part, second_part, has_kind}
use Rattle.stream.proofs.Types.Laws.{and_left, and_right, and_both, of_kind, made_of}
use Rattle.stream.specs.Levels.{level_limit}
use Rattle.stream.specs.Prefixes.{Prefix, nothing, cue_awaited, cue_come, level_awaited, level_come, in_first, crossed, beside, none_chosen, first_chosen, second_chosen, IsPrefix, of_empty, of_cue_awaited, of_cue_come, of_level_awaited, of_level_come, of_first, of_crossed, of_beside, of_none_chosen, of_first_chosen, of_second_chosen}
use Rattle.stream.specs.Prefixes.Functions.{complete, fits}
use Rattle.stream.proofs.Prefixes.Laws.{complete_sound, complete-complete}

pub fits-complete : {t : Ty} {p : Prefix} → IsPrefix t p → fits t p ≡ true
unfolding fits
fits-complete of_empty = refl
fits-complete of_cue_awaited = refl
fits-complete of_cue_come = refl
fits-complete of_level_awaited = refl
fits-complete (of_level_come {v} h) = search rules
fits-complete (of_first h) = fits-complete h
fits-complete (of_crossed h c k) = and_both (fits-complete h) (and_both (complete-complete c) (fits-complete k))
fits-complete (of_beside h k) = and_both (fits-complete h) (fits-complete k)
fits-complete of_none_chosen = refl
fits-complete (of_first_chosen h) = fits-complete h
fits-complete (of_second_chosen h) = fits-complete h

by_kind : {t : Ty} {p : Prefix} (k : ℕ) → has_kind k t ≡ true → IsPrefix (of_kind k (first_part t) (second_part t)) p → IsPrefix t p
by_kind {t} {p} k e h = subst (λ x. IsPrefix x p) (sym (made_of k t e)) h

pub fits_sound : (t : Ty) (p : Prefix) → fits t p ≡ true → IsPrefix t p
unfolding fits
fits_sound t nothing h = by_kind 0 h of_empty
fits_sound t cue_awaited h = by_kind 1 h of_cue_awaited
fits_sound t cue_come h = by_kind 1 h of_cue_come
fits_sound t level_awaited h = by_kind 2 h of_level_awaited
fits_sound t (level_come v) h = by_kind 2 (and_left (has_kind 2 t) (ltb v level_limit) h) (of_level_come (ltb-true v level_limit (and_right (has_kind 2 t) (ltb v level_limit) h)))
fits_sound t (in_first p) h = by_kind 3 (and_left (has_kind 3 t) _ h) (of_first (fits_sound (first_part t) p (and_right (has_kind 3 t) _ h)))
fits_sound t (crossed b q) h =
    let g = and_right (has_kind 3 t) _ h in
    let k = and_right (fits (first_part t) b) _ g in
    by_kind 3 (and_left (has_kind 3 t) _ h)
    (of_crossed (fits_sound (first_part t) b (and_left (fits (first_part t) b) _ g)) (complete_sound b (and_left (complete b) _ k)) (fits_sound (second_part t) q (and_right (complete b) _ k)))
fits_sound t (beside p q) h =
    let g = and_right (has_kind 4 t) _ h in
    by_kind 4 (and_left (has_kind 4 t) _ h)
    (of_beside (fits_sound (first_part t) p (and_left (fits (first_part t) p) _ g)) (fits_sound (second_part t) q (and_right (fits (first_part t) p) _ g)))
fits_sound t none_chosen h = by_kind 5 h of_none_chosen
fits_sound t (first_chosen p) h = by_kind 5 (and_left (has_kind 5 t) _ h) (of_first_chosen (fits_sound (first_part t) p (and_right (has_kind 5 t) _ h)))
fits_sound t (second_chosen p) h = by_kind 5 (and_left (has_kind 5 t) _ h) (of_second_chosen (fits_sound (second_part t) p (and_right (has_kind 5 t) _ h)))
