-- A type passed byte by byte: the types that are still to be passed, and how far they reach. Each kind byte makes way for
-- the parts of its type.
use mathlib.Core.Path.{◌≡◌, refl, sym, ap, ◌∙◌}
use Rattle.std.specs.Prelude.{Some, None}
use mathlib.Core.Bool.{Bool, true, false, ◌&&◌, and-true, and_assoc}
use mathlib.Core.Logic.{◌⊎◌, ⊎_elim}
use mathlib.Core.List.{List, [], ◌∷◌, ◌++◌}
use Prim.Native.Nat.{ℕ, ◌+◌, ◌*◌, ◌/◌, ◌-◌, ◌≤◌, ◌<◌}
use native.Mathlib.Omega.{arith}
use lib.ListN.{length, get_or, drop, length-drop, length-append}
use lib.Seq.{drop-cons, drop-drop}
use Rattle.stream.specs.Types.{Ty, empty, cue, level, seq, par, either, nullable, size, type_limit, kind}
use Rattle.stream.proofs.Types.Laws.{size_positive}
use Rattle.stream.specs.TypeFiles.{type_bytes}
use Rattle.stream.proofs.TypeFiles.Laws.{type_length}
use Rattle.stream.specs.Types.Kinds.{type_arity, type_parts, type_parts_many, sizes, size_by_parts}
use Rattle.reading.specs.TypeReads.{TypeAt, SomeTypeAt, TypeEnds, nullable_end, NullableEnds}
use Rattle.reading.specs.TypeReads.Laws.{arity_paired, kind_at, same_type}

-- The bytes of several types, and then r.
abbrev several : List Ty → List ℕ → List ℕ
several [] r = r
several (t ∷ ts) r = type_bytes t (several ts r)

several_length : (ts : List Ty) (r : List ℕ) → length (several ts r) ≡ sizes ts + length r
several_length [] r = omega arith
several_length (t ∷ ts) r = omega (arith, type_length t (several ts r), several_length ts r)

sizes_many : (ts : List Ty) → length ts ≤ sizes ts
sizes_many [] = omega arith
sizes_many (t ∷ ts) = omega (arith, size_positive t, sizes_many ts)

several_append : (ts us : List Ty) (r : List ℕ) → several (ts ++ us) r ≡ several ts (several us r)
several_append [] us r = refl
several_append (t ∷ ts) us r = ap (type_bytes t) (several_append ts us r)

sizes_append : (ts us : List Ty) → sizes (ts ++ us) ≡ sizes ts + sizes us
sizes_append [] us = omega arith
sizes_append (t ∷ ts) us = omega (arith, sizes_append ts us)

-- A type is its kind byte and its parts.
apart : (t : Ty) (r : List ℕ) → type_bytes t r ≡ kind t ∷ several (type_parts t) r
unfolding type_bytes
apart empty r = refl
apart cue r = refl
apart level r = refl
apart (seq s t) r = refl
apart (par s t) r = refl
apart (either s t) r = refl

-- At `end`, `owed` types are still to be passed, and behind them the type at `at` ends.
pub record Passing (bytes : List ℕ) (at owed end : ℕ) : Type 0 where
  pub types : List Ty
  pub rest : List ℕ
  pub here : drop end bytes ≡ several types rest
  pub many : length types ≡ owed
  pub small : sizes types ≤ type_limit
  pub far : (t : Ty) → TypeAt bytes at t → at + size t ≡ end + sizes types

pub starts : {bytes : List ℕ} {at : ℕ} → SomeTypeAt bytes at → Passing bytes at 1 at
starts some =
    record {
      types = some.type ∷ [];
      rest = some.stands.rest;
      here = some.stands.here;
      many = refl;
      small = omega (arith, some.stands.small);
      far = λ t h. omega (arith, ap size (same_type h some.stands));
    }

module _ {bytes : List ℕ} {at owed end : ℕ} (passing : Passing bytes at owed end) where
  none : owed ≡ 0 → passing.types ≡ []
  none z = go passing.types passing.many
    where
      go : (ts : List Ty) → length ts ≡ owed → ts ≡ []
      go [] m = refl
      go (t ∷ ts) m = absurd (omega arith)

  pub ends : owed ≡ 0 → TypeEnds bytes at end
  ends z = record { each = λ t h. omega (arith, passing.far t h, ap sizes (none z)) }

  pub few : owed ≤ type_limit
  few = omega (arith, sizes_many passing.types, passing.many, passing.small)

  module _ (wanted : 0 < owed) where
    pub inside : end + owed ≤ length bytes
    inside =
        omega (
          arith,
          ap length passing.here,
          length-drop end bytes,
          several_length passing.types passing.rest,
          sizes_many passing.types,
          passing.many,
        )

    -- The first of the types, at `end`, and the others.
    abbrev first : Ty
    first = get_or passing.types 0 empty

    abbrev others : List Ty
    others = drop 1 passing.types

    split : passing.types ≡ first ∷ others
    split = drop-cons passing.types 0 empty (omega (arith, passing.many))

    first_here : drop end bytes ≡ type_bytes first (several others passing.rest)
    first_here = passing.here ∙ ap (λ ts. several ts passing.rest) split

    stands : TypeAt bytes end first
    stands =
        record {
          rest = several others passing.rest;
          here = first_here;
          small = omega (arith, passing.small, ap sizes split);
        }

    -- Its kind byte makes way for its parts.
    pub passed : Passing bytes at (owed - 1 + type_arity (get_or bytes end 0)) (end + 1)
    passed =
        record {
          types = type_parts first ++ others;
          rest = passing.rest;
          here =
              rw (← drop-drop 1 end bytes, first_here, apart first (several others passing.rest))
              (sym (several_append (type_parts first) others passing.rest));
          many = rw (kind_at stands) (omega (arith, length-append (type_parts first) others, type_parts_many first, passing.many, ap length split));
          small = omega (arith, sizes_append (type_parts first) others, size_by_parts first, passing.small, ap sizes split);
          far = λ t h. omega (arith, sizes_append (type_parts first) others, size_by_parts first, passing.far t h, ap sizes split);
        }

-- Parts come in pairs, so the types that are still to be passed do, once the root's byte has been passed.
pub root_passed : {bytes : List ℕ} {at : ℕ} → SomeTypeAt bytes at → Passing bytes at (2 * (type_arity (get_or bytes at 0) / 2)) (at + 1)
root_passed {bytes} {at} some =
    let owed : 2 * (type_arity (get_or bytes at 0) / 2) ≡ 1 - 1 + type_arity (get_or bytes at 0) = omega (arith, arity_paired (get_or bytes at 0)) in
    rw owed (passed (starts some) (omega arith))

pub pair_passed : {bytes : List ℕ} {at pairs end : ℕ} → Passing bytes at (2 * pairs) end → 0 < pairs
    → Passing bytes at (2 * (pairs - 1 + type_arity (get_or bytes end 0) / 2 + type_arity (get_or bytes (end + 1) 0) / 2)) (end + 2)
pair_passed {bytes} {at} {pairs} {end} passing wanted =
    let owed : 2 * (pairs - 1 + type_arity (get_or bytes end 0) / 2 + type_arity (get_or bytes (end + 1) 0) / 2)
    ≡ 2 * pairs - 1 + type_arity (get_or bytes end 0) - 1 + type_arity (get_or bytes (end + 1) 0)
    = omega (arith, arity_paired (get_or bytes end 0), arity_paired (get_or bytes (end + 1) 0)) in
    let behind : end + 2 ≡ end + 1 + 1 = omega arith in
    rw (owed, behind) (passed (passed passing (omega arith)) (omega arith))

-- Whether all of some types are nullable. One of kind 0 or 4 is if its parts are; another is not.
abbrev all_nullable : List Ty → Bool
all_nullable [] = true
all_nullable (t ∷ ts) = nullable t && all_nullable ts

all_nullable_append : (ts us : List Ty) → all_nullable (ts ++ us) ≡ (all_nullable ts && all_nullable us)
all_nullable_append [] us = refl
all_nullable_append (t ∷ ts) us =
    ap (λ b. nullable t && b) (all_nullable_append ts us) ∙ sym (and_assoc (nullable t) (all_nullable ts) (all_nullable us))

by_parts : (t : Ty) → (kind t ≡ 0) ⊎ (kind t ≡ 4) → nullable t ≡ all_nullable (type_parts t)
unfolding nullable
by_parts empty h = refl
by_parts cue h = absurd (⊎_elim (λ e. omega arith) (λ e. omega arith) h)
by_parts level h = absurd (⊎_elim (λ e. omega arith) (λ e. omega arith) h)
by_parts (seq s t) h = absurd (⊎_elim (λ e. omega arith) (λ e. omega arith) h)
by_parts (par s t) h = ap (λ b. nullable s && b) (sym (and-true (nullable t)))
by_parts (either s t) h = absurd (⊎_elim (λ e. omega arith) (λ e. omega arith) h)

not_nullable : (t : Ty) → (kind t ≡ 0 → ⊥) → (kind t ≡ 4 → ⊥) → nullable t ≡ false
unfolding nullable
not_nullable empty h k = absurd (h refl)
not_nullable cue h k = refl
not_nullable level h k = refl
not_nullable (seq s t) h k = refl
not_nullable (par s t) h k = absurd (k refl)
not_nullable (either s t) h k = refl

-- While only kinds 0 and 4 are passed, the type at `at` is nullable if the types still to be passed are.
pub record Nullables (bytes : List ℕ) (at owed end : ℕ) : Type 0 where
  pub passing : Passing bytes at owed end
  pub same : (t : Ty) → TypeAt bytes at t → nullable t ≡ all_nullable passing.types

pub begins : {bytes : List ℕ} {at : ℕ} → SomeTypeAt bytes at → Nullables bytes at 1 at
unfolding starts
begins some =
    record { passing = starts some; same = λ t h. ap nullable (same_type h some.stands) ∙ sym (and-true (nullable some.type)) }

module _ {bytes : List ℕ} {at owed end : ℕ} (nullables : Nullables bytes at owed end) where
  pub all_passed : owed ≡ 0 → NullableEnds bytes at (Some end)
  unfolding nullable_end
  all_passed z =
      record {
        each = λ t h.
            rw (nullables.same t h ∙ ap all_nullable (none nullables.passing z), ← (ends nullables.passing z).each t h);
      }

  module _ (wanted : 0 < owed) where
    pub other_kind : (get_or bytes end 0 ≡ 0 → ⊥) → (get_or bytes end 0 ≡ 4 → ⊥) → NullableEnds bytes at None
    unfolding nullable_end
    other_kind h k =
        let p = nullables.passing in
        let e = kind_at (stands p wanted) in
        let n = not_nullable (first p wanted) (λ z. h (e ∙ z)) (λ z. k (e ∙ z)) in
        record { each = λ t s. rw (nullables.same t s ∙ ap all_nullable (split p wanted), n) }

    pub nullable_kind : (get_or bytes end 0 ≡ 0) ⊎ (get_or bytes end 0 ≡ 4) → Nullables bytes at (owed - 1 + type_arity (get_or bytes end 0)) (end + 1)
    unfolding passed
    nullable_kind k =
        let p = nullables.passing in
        let n : nullable (first p wanted) ≡ all_nullable (type_parts (first p wanted)) = by_parts (first p wanted) (rw (kind_at (stands p wanted)) at k) in
        record {
          passing = passed p wanted;
          same = λ t s.
              nullables.same t s
              ∙ ap all_nullable (split p wanted)
              ∙ ap (λ b. b && all_nullable (others p wanted)) n
              ∙ sym (all_nullable_append (type_parts (first p wanted)) (others p wanted));
        }
