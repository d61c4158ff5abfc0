-- The first part of a type passed byte by byte: the types that are still to be passed, and how far they reach. Each kind byte makes way
-- for its parts.
use Rattle.std.specs.Prelude.{◌≡◌, refl, List, [], ◌∷◌, ◌++◌, ℕ, ◌+◌, ◌*◌, ◌/◌, ◌-◌, ◌≤◌, ◌<◌, length, get_or, drop}
use Rattle.std.proofs.Common.{sym, ap, ◌∙◌, arith, drop-drop, length-drop, length-append, get_or-drop, add-zero}
use Rattle.std.proofs.Math.Seq.{drop-cons}
use Rattle.stream.specs.Types.{Ty, empty, size, kind, first_part, second_part}
use Rattle.stream.specs.Types.Kinds.{type_arity, type_parts, type_parts_many, sizes, size_by_parts, Fork, fork-size}
use Rattle.stream.specs.TypeFiles.{type_bytes}
use Rattle.stream.proofs.Types.Laws.{size_positive}
use Rattle.stream.proofs.TypeFiles.Laws.{type_length}
use Rattle.stream.proofs.TypeFiles.Held.{forked, type_head, several, apart}
use Rattle.reading.specs.TypeReads.Laws.{arity_paired}
use Rattle.reading.specs.declared.types.TypeView.{TypeView}
use Rattle.reading.specs.Views.{tree}
use Rattle.reading.proofs.TypeViews.{size_is}

several_length : (ts : List Ty) (r : List ℕ) → length (several ts r) ≡ sizes ts + length r
several_length [] r = omega arith
several_length (t ∷ ts) r = omega (arith, type_length t (several ts r), several_length ts r)

sizes_many : (ts : List Ty) → length ts ≤ sizes ts
sizes_many [] = omega arith
sizes_many (t ∷ ts) = omega (arith, size_positive t, sizes_many ts)

several_append : (ts us : List Ty) (r : List ℕ) → several (ts ++ us) r ≡ several ts (several us r)
several_append [] us r = refl
several_append (t ∷ ts) us r = ap (type_bytes t) (several_append ts us r)

sizes_append : (ts us : List Ty) → sizes (ts ++ us) ≡ sizes ts + sizes us
sizes_append [] us = omega arith
sizes_append (t ∷ ts) us = omega (arith, sizes_append ts us)

-- At `end`, `owed` types are still to be passed, and behind them is `goal`.
pub record Passing (bytes : List ℕ) (goal owed end : ℕ) : Type 0 where
  pub types : List Ty
  pub rest : List ℕ
  pub here : drop end bytes ≡ several types rest
  pub many : length types ≡ owed
  pub inside : end + owed ≤ length bytes
  pub far : goal ≡ end + sizes types

module _ {bytes : List ℕ} {goal owed end : ℕ} (passing : Passing bytes goal owed end) where
  pub reached : owed ≡ 0 → end ≡ goal
  reached z = go passing.types passing.many passing.far
    where
      go : (ts : List Ty) → length ts ≡ owed → goal ≡ end + sizes ts → end ≡ goal
      go [] m f = omega arith
      go (t ∷ ts) m f = absurd (omega arith)

  module _ (wanted : 0 < owed) where
    abbrev first : Ty
    first = get_or passing.types 0 empty

    abbrev others : List Ty
    others = drop 1 passing.types

    split : passing.types ≡ first ∷ others
    split = drop-cons passing.types 0 empty (omega (arith, passing.many))

    first_here : drop end bytes ≡ type_bytes first (several others passing.rest)
    first_here = passing.here ∙ ap (λ ts. several ts passing.rest) split

    byte_is : get_or bytes end 0 ≡ kind first
    byte_is = let e : get_or (drop end bytes) 0 0 ≡ get_or bytes end 0 = rw add-zero at (get_or-drop end bytes 0 0) in sym e ∙ ap (λ s. get_or s 0 0) first_here ∙ type_head first (several others passing.rest)

    -- What is behind it, and as many bytes as there are types.
    behind : drop (end + 1) bytes ≡ several (type_parts first ++ others) passing.rest
    behind =
        rw (← drop-drop 1 end bytes, first_here, apart first (several others passing.rest))
        (sym (several_append (type_parts first) others passing.rest))

    -- Its kind byte makes way for its parts.
    pub passed : Passing bytes goal (owed - 1 + type_arity (get_or bytes end 0)) (end + 1)
    passed =
        record {
          types = type_parts first ++ others;
          rest = passing.rest;
          here = behind;
          many = rw byte_is (omega (arith, length-append (type_parts first) others, type_parts_many first, passing.many, ap length split));
          inside =
              rw byte_is (omega (
                arith,
                ap length behind,
                length-drop (end + 1) bytes,
                several_length (type_parts first ++ others) passing.rest,
                sizes_many (type_parts first ++ others),
                length-append (type_parts first) others,
                type_parts_many first,
                passing.inside,
                passing.many,
                ap length split,
              ));
          far = omega (arith, sizes_append (type_parts first) others, size_by_parts first, passing.far, ap sizes split);
        }

pub pair_passed : {bytes : List ℕ} {goal pairs end : ℕ} → Passing bytes goal (2 * pairs) end → 0 < pairs
    → Passing bytes goal (2 * (pairs - 1 + type_arity (get_or bytes end 0) / 2 + type_arity (get_or bytes (end + 1) 0) / 2)) (end + 2)
pair_passed {bytes} {goal} {pairs} {end} passing wanted =
    let owed : 2 * (pairs - 1 + type_arity (get_or bytes end 0) / 2 + type_arity (get_or bytes (end + 1) 0) / 2)
    ≡ 2 * pairs - 1 + type_arity (get_or bytes end 0) - 1 + type_arity (get_or bytes (end + 1) 0)
    = omega (arith, arity_paired (get_or bytes end 0), arity_paired (get_or bytes (end + 1) 0)) in
    let behind : end + 2 ≡ end + 1 + 1 = omega arith in
    rw (owed, behind) (passed (passed passing (omega arith)) (omega arith))

module _ (v : TypeView) (fork : Fork (tree v)) where
  pub starts : Passing v.bytes.now (1 + size (first_part (tree v))) 1 1
  starts =
      let e : drop 1 v.bytes.now ≡ type_bytes (first_part (tree v)) (type_bytes (second_part (tree v)) []) = ap (drop 1) (sym v.whole ∙ forked (tree v) [] fork) in
      record {
        types = first_part (tree v) ∷ [];
        rest = type_bytes (second_part (tree v)) [];
        here = e;
        many = refl;
        inside = omega (arith, size_is v, fork-size (tree v) fork, size_positive (first_part (tree v)));
        far = omega arith;
      }

  pub root_passed : Passing v.bytes.now (1 + size (first_part (tree v))) (2 * (type_arity (get_or v.bytes.now 1 0) / 2)) 2
  root_passed =
      let owed : 2 * (type_arity (get_or v.bytes.now 1 0) / 2) ≡ 1 - 1 + type_arity (get_or v.bytes.now 1 0) = omega (arith, arity_paired (get_or v.bytes.now 1 0)) in
      rw owed (passed starts (omega arith))
