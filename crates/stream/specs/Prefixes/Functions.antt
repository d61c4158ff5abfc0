-- What the rules of prefixes say, as functions that compute. They are proved to agree with the rules, both ways (proofs/Prefixes/Laws:
-- complete_sound and complete-complete, opens_test, concat-only and concats; proofs/Prefixes/Fits: fits_sound and fits-complete), so that
-- nobody has to believe them.
use Rattle.std.specs.Prelude.{Bool, true, false, ◌&&◌, ◌||◌, not, ltb}
use Rattle.stream.specs.Types.{Ty, first_part, second_part, has_kind}
use Rattle.stream.specs.Levels.{level_limit}
use Rattle.stream.specs.Prefixes.{Prefix, nothing, cue_awaited, cue_come, level_awaited, level_come, in_first, crossed, beside, none_chosen, first_chosen, second_chosen}

-- Complete
unfoldable pub complete : Prefix → Bool
complete nothing = true
complete cue_awaited = false
complete cue_come = true
complete level_awaited = false
complete (level_come v) = true
complete (in_first p) = false
complete (crossed b q) = complete q
complete (beside p q) = complete p && complete q
complete none_chosen = false
complete (first_chosen p) = complete p
complete (second_chosen p) = complete p

-- Prefix of
unfoldable pub fits : Ty → Prefix → Bool
fits t nothing = has_kind 0 t
fits t cue_awaited = has_kind 1 t
fits t cue_come = has_kind 1 t
fits t level_awaited = has_kind 2 t
fits t (level_come v) = has_kind 2 t && ltb v level_limit
fits t (in_first p) = has_kind 3 t && fits (first_part t) p
fits t (crossed b q) = has_kind 3 t && (fits (first_part t) b && (complete b && fits (second_part t) q))
fits t (beside p q) = has_kind 4 t && (fits (first_part t) p && fits (second_part t) q)
fits t none_chosen = has_kind 5 t
fits t (first_chosen p) = has_kind 5 t && fits (first_part t) p
fits t (second_chosen p) = has_kind 5 t && fits (second_part t) p

-- Whether a prefix is the empty one of its type, by the prefix alone: in it nothing has come, been crossed or been chosen.
unfoldable pub brings_nothing : Prefix → Bool
brings_nothing nothing = true
brings_nothing cue_awaited = true
brings_nothing cue_come = false
brings_nothing level_awaited = true
brings_nothing (level_come v) = false
brings_nothing (in_first p) = brings_nothing p
brings_nothing (crossed b q) = false
brings_nothing (beside p q) = brings_nothing p && brings_nothing q
brings_nothing none_chosen = true
brings_nothing (first_chosen p) = false
brings_nothing (second_chosen p) = false

-- Opens
unfoldable pub opens : Prefix → Bool
opens p = not (brings_nothing p) || complete p

-- A prefix of a sequence by its two cases, one of a side-by-side type by its one, and one of either by its three; `other` answers
-- for the rest, which no rule uses.
abbrev pub on_seq : {A : Type 0} → A → (Prefix → A) → (Prefix → Prefix → A) → Prefix → A
on_seq other f g nothing = other
on_seq other f g cue_awaited = other
on_seq other f g cue_come = other
on_seq other f g level_awaited = other
on_seq other f g (level_come v) = other
on_seq other f g (in_first p) = f p
on_seq other f g (crossed b q) = g b q
on_seq other f g (beside p q) = other
on_seq other f g none_chosen = other
on_seq other f g (first_chosen p) = other
on_seq other f g (second_chosen p) = other

abbrev pub on_par : {A : Type 0} → A → (Prefix → Prefix → A) → Prefix → A
on_par other f nothing = other
on_par other f cue_awaited = other
on_par other f cue_come = other
on_par other f level_awaited = other
on_par other f (level_come v) = other
on_par other f (in_first p) = other
on_par other f (crossed b q) = other
on_par other f (beside p q) = f p q
on_par other f none_chosen = other
on_par other f (first_chosen p) = other
on_par other f (second_chosen p) = other

abbrev pub on_either : {A : Type 0} → A → A → (Prefix → A) → (Prefix → A) → Prefix → A
on_either other none f g nothing = other
on_either other none f g cue_awaited = other
on_either other none f g cue_come = other
on_either other none f g level_awaited = other
on_either other none f g (level_come v) = other
on_either other none f g (in_first p) = other
on_either other none f g (crossed b q) = other
on_either other none f g (beside p q) = other
on_either other none f g none_chosen = none
on_either other none f g (first_chosen p) = f p
on_either other none f g (second_chosen p) = g p

-- Concat
unfoldable pub concat : Prefix → Prefix → Prefix
concat nothing q = nothing
concat cue_awaited q = q
concat cue_come q = cue_come
concat level_awaited q = q
concat (level_come v) q = level_come v
concat (in_first p) q = on_seq nothing (λ r. in_first (concat p r)) (λ b r. crossed (concat p b) r) q
concat (crossed b p) q = crossed b (concat p q)
concat (beside p r) q = on_par nothing (λ x y. beside (concat p x) (concat r y)) q
concat none_chosen q = q
concat (first_chosen p) q = first_chosen (concat p q)
concat (second_chosen p) q = second_chosen (concat p q)
