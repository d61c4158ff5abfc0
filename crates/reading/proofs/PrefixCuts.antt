-- How a type and a prefix of it with parts are cut, by the kind of the prefix.
use Rattle.std.specs.Prelude.{◌≡◌, refl, true, [], ◌∷◌, ℕ, ◌<◌}
use Rattle.std.proofs.Common.{arith}
use Rattle.stream.specs.Types.{Ty, seq, par, either, first_part, second_part}
use Rattle.stream.specs.Types.Kinds.{Fork}
use Rattle.stream.specs.Prefixes.{Prefix, nothing, cue_awaited, cue_come, level_awaited, level_come, in_first, crossed, beside, none_chosen, first_chosen, second_chosen, Complete, IsPrefix, of_empty, of_cue_awaited, of_cue_come, of_level_awaited, of_level_come, of_first, of_crossed, of_beside, of_none_chosen, of_first_chosen, of_second_chosen}
use Rattle.stream.specs.Prefixes.Kinds.{prefix_kind, prefix_arity, piece}
use Rattle.stream.specs.Prefixes.Functions.{complete, fits}
use Rattle.stream.specs.SliceFiles.{prefix_bytes}
use Rattle.stream.proofs.Prefixes.Laws.{complete-complete}
use Rattle.stream.proofs.Prefixes.Fits.{fits-complete}

-- An input by the kind of its prefix.
pub data Cut : ℕ → Ty → Prefix → Type 0 where
  leaf : {k : ℕ} {t : Ty} {p : Prefix} → k < 5 → Cut k t p
  coming : {s r : Ty} {p : Prefix} → IsPrefix s p → Cut 5 (seq s r) (in_first p)
  crossing : {s r : Ty} {b q : Prefix} → IsPrefix s b → Complete b → IsPrefix r q → Cut 6 (seq s r) (crossed b q)
  sides : {s r : Ty} {p q : Prefix} → IsPrefix s p → IsPrefix r q → Cut 7 (par s r) (beside p q)
  unchosen : {s r : Ty} → Cut 8 (either s r) none_chosen
  first : {s r : Ty} {p : Prefix} → IsPrefix s p → Cut 9 (either s r) (first_chosen p)
  second : {s r : Ty} {p : Prefix} → IsPrefix r p → Cut 10 (either s r) (second_chosen p)

pub cut : {t : Ty} {p : Prefix} → IsPrefix t p → Cut (prefix_kind p) t p
cut of_empty = leaf (omega arith)
cut of_cue_awaited = leaf (omega arith)
cut of_cue_come = leaf (omega arith)
cut of_level_awaited = leaf (omega arith)
cut (of_level_come h) = leaf (omega arith)
cut (of_first h) = coming h
cut (of_crossed h c k) = crossing h c k
cut (of_beside h k) = sides h k
cut of_none_chosen = unchosen
cut (of_first_chosen h) = first h
cut (of_second_chosen h) = second h

-- What a kind with parts says of the whole: how its type is made, and how it is.
abbrev IsMade : (Ty → Ty → Ty) → Ty → Type 0
IsMade f t = (Fork t) × (t ≡ f (first_part t) (second_part t))

pub coming_is : {t : Ty} {p : Prefix} → Cut 5 t p → IsMade seq t × (fits (first_part t) (piece 0 p) ≡ true) × (p ≡ in_first (piece 0 p))
coming_is (coming h) = ((refl, refl), fits-complete h, refl)
coming_is (leaf h) = absurd (omega arith)

pub crossing_is : {t : Ty} {p : Prefix} → Cut 6 t p → IsMade seq t × (p ≡ crossed (piece 0 p) (piece 1 p)) × (complete (piece 0 p) ≡ true)
crossing_is (crossing h c k) = ((refl, refl), refl, complete-complete c)
crossing_is (leaf h) = absurd (omega arith)

pub sides_is : {t : Ty} {p : Prefix} → Cut 7 t p → IsMade par t × (p ≡ beside (piece 0 p) (piece 1 p))
sides_is (sides h k) = ((refl, refl), refl)
sides_is (leaf h) = absurd (omega arith)

pub unchosen_is : {t : Ty} {p : Prefix} → Cut 8 t p → IsMade either t × (p ≡ none_chosen)
unchosen_is unchosen = ((refl, refl), refl)
unchosen_is (leaf h) = absurd (omega arith)

pub first_is : {t : Ty} {p : Prefix} → Cut 9 t p → IsMade either t × (fits (first_part t) (piece 0 p) ≡ true) × (p ≡ first_chosen (piece 0 p))
first_is (first h) = ((refl, refl), fits-complete h, refl)
first_is (leaf h) = absurd (omega arith)

pub second_is : {t : Ty} {p : Prefix} → Cut 10 t p → IsMade either t × (fits (second_part t) (piece 0 p) ≡ true) × (p ≡ second_chosen (piece 0 p))
second_is (second h) = ((refl, refl), fits-complete h, refl)
second_is (leaf h) = absurd (omega arith)

-- Every other kind has no parts.
pub no_parts : {t : Ty} {p : Prefix} {k : ℕ} → Cut k t p → (k ≡ 5 → ⊥) → (k ≡ 6 → ⊥) → (k ≡ 7 → ⊥) → (k ≡ 8 → ⊥) → (k ≡ 9 → ⊥) → (k ≡ 10 → ⊥) → k < 5
no_parts (leaf h) a b c d e f = h
no_parts (coming h) a b c d e f = absurd (a refl)
no_parts (crossing h x k) a b c d e f = absurd (b refl)
no_parts (sides h k) a b c d e f = absurd (c refl)
no_parts unchosen a b c d e f = absurd (d refl)
no_parts (first h) a b c d e f = absurd (e refl)
no_parts (second h) a b c d e f = absurd (f refl)

-- Of a prefix with two parts: its bytes, and what its parts are of.
pub record Halved (t : Ty) (p : Prefix) : Type 0 where
  pub fork : Fork t
  pub bytes : prefix_bytes p [] ≡ prefix_kind p ∷ prefix_bytes (piece 0 p) (prefix_bytes (piece 1 p) [])
  pub first : IsPrefix (first_part t) (piece 0 p)
  pub second : IsPrefix (second_part t) (piece 1 p)

pub halved : {t : Ty} {p : Prefix} → IsPrefix t p → prefix_arity (prefix_kind p) ≡ 2 → Halved t p
unfolding prefix_bytes
halved of_empty e = absurd (omega arith)
halved of_cue_awaited e = absurd (omega arith)
halved of_cue_come e = absurd (omega arith)
halved of_level_awaited e = absurd (omega arith)
halved (of_level_come h) e = absurd (omega arith)
halved (of_first h) e = absurd (omega arith)
halved (of_crossed h c k) e = record { fork = refl; bytes = refl; first = h; second = k }
halved (of_beside h k) e = record { fork = refl; bytes = refl; first = h; second = k }
halved of_none_chosen e = absurd (omega arith)
halved (of_first_chosen h) e = absurd (omega arith)
halved (of_second_chosen h) e = absurd (omega arith)

-- One with one part.
pub one_bytes : (p : Prefix) → prefix_arity (prefix_kind p) ≡ 1 → prefix_bytes p [] ≡ prefix_kind p ∷ prefix_bytes (piece 0 p) []
unfolding prefix_bytes
one_bytes nothing e = absurd (omega arith)
one_bytes cue_awaited e = absurd (omega arith)
one_bytes cue_come e = absurd (omega arith)
one_bytes level_awaited e = absurd (omega arith)
one_bytes (level_come v) e = absurd (omega arith)
one_bytes (in_first p) e = refl
one_bytes (crossed b q) e = absurd (omega arith)
one_bytes (beside p q) e = absurd (omega arith)
one_bytes none_chosen e = absurd (omega arith)
one_bytes (first_chosen p) e = refl
one_bytes (second_chosen p) e = refl
