-- The root of a type at a place of some bytes: the byte there says how many parts it owes, or that it is not listed.
use mathlib.Core.Path.{◌≡◌, refl, ap}
use mathlib.Core.List.{List, [], ◌∷◌}
use Prim.Native.Nat.{ℕ, ◌+◌, ◌≤◌, ◌<◌}
use native.Mathlib.Omega.{arith}
use native.Mathlib.Numerals.{add-one}
use lib.ListN.{length, get_or, drop, drop_of_length-le, get_or-eq_default}
use lib.Seq.{drop-cons}
use Rattle.stream.specs.declared.Fault.TheVariants.{CutShort, Unlisted}
use Rattle.stream.specs.Types.{Ty, empty, cue, level, seq, par, either}
use Rattle.stream.specs.Reading.{Reading, fault, Root}
use Rattle.stream.proofs.Reading.Laws.{◌&◌, past, every}
use Rattle.stream.specs.Reading.Walking.{Owes, MakesOne}
use Rattle.stream.proofs.Reading.Walking.{leaf_makes, two_makes}
use Rattle.stream.specs.TypeFiles.{type_kinds, type_root}
use Rattle.stream.specs.Types.Kinds.{type_arity}

-- What the byte k begins.
abbrev kind_root : ℕ → List ℕ → Reading (Root (Unit {0}) Ty)
kind_root k = get_or type_kinds k (λ r. fault Unlisted)

pub makes_one : (w : Unit {0}) (s : List ℕ) → MakesOne (type_root w s)
unfolding type_root
makes_one w [] = tt
makes_one w (k ∷ s) =
    every (λ j f. MakesOne (f s)) (λ r. fault Unlisted) type_kinds
    (leaf_makes w empty s & leaf_makes w cue s & leaf_makes w level s & two_makes seq w w s & two_makes par w w s & two_makes either w w s & past (λ j h. tt)) k

kind_owes : (s : List ℕ) (k : ℕ) → k ≤ 5 → Owes tt (type_arity k) s (kind_root k s)
kind_owes s =
    every (λ k f. k ≤ 5 → Owes tt (type_arity k) s (f s)) (λ r. fault Unlisted) type_kinds
    ((λ h. (_, refl, refl))
    & (λ h. (_, refl, refl))
    & (λ h. (_, refl, refl))
    & (λ h. (_, refl, refl))
    & (λ h. (_, refl, refl))
    & (λ h. (_, refl, refl))
    & past (λ k l h. absurd (omega arith)))

module _ (s : List ℕ) (at : ℕ) where
  pub cut_short_at : at ≡ length s → type_root tt (drop at s) ≡ fault CutShort
  unfolding type_root
  cut_short_at e =
      let h : length s ≤ at = omega arith in
      let z : drop at s ≡ [] = drop_of_length-le s h in
      rw z

  module _ (more : at < length s) where
    root_at : type_root tt (drop at s) ≡ kind_root (get_or s at 0) (drop (at + 1) s)
    unfolding type_root
    root_at = rw (drop-cons s at 0 more, add-one)

    pub owes_at : get_or s at 0 ≤ 5 → Owes tt (type_arity (get_or s at 0)) (drop (at + 1) s) (type_root tt (drop at s))
    owes_at k = rw root_at (kind_owes (drop (at + 1) s) (get_or s at 0) k)

    pub unlisted_at : 5 < get_or s at 0 → type_root tt (drop at s) ≡ fault Unlisted
    unlisted_at k =
        let e : kind_root (get_or s at 0) ≡ (λ r. fault Unlisted) = get_or-eq_default type_kinds _ k in
        rw root_at (ap (λ f. f (drop (at + 1) s)) e)
