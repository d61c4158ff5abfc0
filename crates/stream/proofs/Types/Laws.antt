-- What is true of types: the test for nullable is the rule, the test for the same type is equality, and a type is made of its kind
-- and its parts.
use Rattle.std.specs.Prelude.{◌≡◌, refl, Bool, true, false, ◌&&◌, List, [], ◌∷◌, ℕ, zero, suc, ◌+◌, ◌*◌, ◌/◌, ◌≤◌, length}
use Rattle.std.proofs.Common.{sym, ap, ap₂, ◌∙◌, arith, eqb-true}
use Rattle.std.proofs.lemmas.Bool.{false≢true}
use Rattle.stream.specs.Types.{Ty, empty, cue, level, seq, par, either, Nullable, null_empty, null_par, nullable, size, type_limit, kind, first_part, second_part, has_kind, same_type}
use Rattle.stream.specs.Types.Kinds.{type_arities, type_arity, type_parts, type_parts_many, sizes, size_by_parts, fork-size}
use Rattle.stream.proofs.Reading.Laws.{◌&◌, past, every}

-- Booleans

pub and_left : (a b : Bool) → a && b ≡ true → a ≡ true
and_left true b e = refl
and_left false b e = e

pub and_right : (a b : Bool) → a && b ≡ true → b ≡ true
and_right true b e = e
and_right false b e = absurd (false≢true e)

pub and_both : {a b : Bool} → a ≡ true → b ≡ true → a && b ≡ true
and_both d e = rw (d, e)

-- nullable

pub nullable_sound : (t : Ty) → nullable t ≡ true → Nullable t
unfolding nullable
nullable_sound empty e = null_empty
nullable_sound cue e = absurd (false≢true e)
nullable_sound level e = absurd (false≢true e)
nullable_sound (seq s t) e = absurd (false≢true e)
nullable_sound (par s t) e =
    null_par (nullable_sound s (and_left (nullable s) (nullable t) e))
    (nullable_sound t (and_right (nullable s) (nullable t) e))
nullable_sound (either s t) e = absurd (false≢true e)

pub nullable-complete : {t : Ty} → Nullable t → nullable t ≡ true
unfolding nullable
nullable-complete null_empty = refl
nullable-complete (null_par h k) = and_both (nullable-complete h) (nullable-complete k)

-- size

pub limit_is : type_limit ≡ 255
unfolding type_limit
limit_is = refl

pub size_positive : (t : Ty) → 1 ≤ size t
unfolding size
size_positive empty = omega arith
size_positive cue = omega arith
size_positive level = omega arith
size_positive (seq s t) = omega arith
size_positive (par s t) = omega arith
size_positive (either s t) = omega arith

-- kinds and parts

abbrev pub of_kind : ℕ → Ty → Ty → Ty
of_kind zero s t = empty
of_kind (suc zero) s t = cue
of_kind (suc (suc zero)) s t = level
of_kind (suc (suc (suc zero))) s t = seq s t
of_kind (suc (suc (suc (suc zero)))) s t = par s t
of_kind (suc (suc (suc (suc (suc k))))) s t = either s t

made : (t : Ty) → t ≡ of_kind (kind t) (first_part t) (second_part t)
made empty = refl
made cue = refl
made level = refl
made (seq s t) = refl
made (par s t) = refl
made (either s t) = refl

pub made_of : (k : ℕ) (t : Ty) → has_kind k t ≡ true → t ≡ of_kind k (first_part t) (second_part t)
made_of k t e = made t ∙ ap (λ x. of_kind x (first_part t) (second_part t)) (eqb-true (kind t) k e)

pub parts_size : (k : ℕ) (t : Ty) → type_arity k ≡ 2 → has_kind k t ≡ true → size t ≡ suc (size (first_part t) + size (second_part t))
parts_size k t two e = fork-size t (ap type_arity (eqb-true (kind t) k e) ∙ two)

-- The same type

same_parts : (u s t : Ty) (b : Bool) → (same_type s (first_part u) ≡ true → s ≡ first_part u)
    → (same_type t (second_part u) ≡ true → t ≡ second_part u)
    → b && (same_type s (first_part u) && same_type t (second_part u)) ≡ true
    → (b ≡ true) × (s ≡ first_part u) × (t ≡ second_part u)
same_parts u s t b f g e =
    let d = and_right b (same_type s (first_part u) && same_type t (second_part u)) e in
    (and_left b _ e, f (and_left (same_type s (first_part u)) _ d), g (and_right (same_type s (first_part u)) _ d))

pub same_type_sound : (t u : Ty) → same_type t u ≡ true → t ≡ u
unfolding same_type
same_type_sound empty u e = sym (made_of 0 u e)
same_type_sound cue u e = sym (made_of 1 u e)
same_type_sound level u e = sym (made_of 2 u e)
same_type_sound (seq s t) u e =
    let k = same_parts u s t (has_kind 3 u) (same_type_sound s (first_part u)) (same_type_sound t (second_part u)) e in
    ap₂ seq k.1 k.2 ∙ sym (made_of 3 u k.0)
same_type_sound (par s t) u e =
    let k = same_parts u s t (has_kind 4 u) (same_type_sound s (first_part u)) (same_type_sound t (second_part u)) e in
    ap₂ par k.1 k.2 ∙ sym (made_of 4 u k.0)
same_type_sound (either s t) u e =
    let k = same_parts u s t (has_kind 5 u) (same_type_sound s (first_part u)) (same_type_sound t (second_part u)) e in
    ap₂ either k.1 k.2 ∙ sym (made_of 5 u k.0)

pub same_type-complete : (t : Ty) → same_type t t ≡ true
unfolding same_type
same_type-complete empty = refl
same_type-complete cue = refl
same_type-complete level = refl
same_type-complete (seq s t) = and_both (same_type-complete s) (same_type-complete t)
same_type-complete (par s t) = and_both (same_type-complete s) (same_type-complete t)
same_type-complete (either s t) = and_both (same_type-complete s) (same_type-complete t)

-- Document 02, M-102, "arithmetic for kinds 0 to 5: divide the kind by 3, drop the remainder, double the quotient". By the kind; by
-- the type: parts_quotient in specs/Types/Kinds.antt. "It equals the number of parts that the type rules give".
pub arity_quotient : (k : ℕ) → k ≤ 5 → k / 3 * 2 ≡ type_arity k
arity_quotient =
    every (λ k n. k ≤ 5 → k / 3 * 2 ≡ n) 2 type_arities
    ((λ h. refl) & (λ h. refl) & (λ h. refl) & (λ h. refl) & (λ h. refl) & (λ h. refl) & past (λ k l h. absurd (omega arith)))

-- A type without parts is one node.
pub leaf-alone : (t : Ty) → type_arity (kind t) ≡ 0 → size t ≡ 1
leaf-alone t none = go (type_parts t) (type_parts_many t) (size_by_parts t)
  where
    go : (ts : List Ty) → length ts ≡ type_arity (kind t) → size t ≡ suc (sizes ts) → size t ≡ 1
    go [] many is = is
    go (s ∷ ts) many is = absurd (omega arith)
