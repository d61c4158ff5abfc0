-- What becomes of trees that are read one after the other; and that a budget which is enough for what is owed is not seen.
use Rattle.std.specs.Prelude.{◌≡◌, length}
use Rattle.std.proofs.Math.Path.{refl, sym}
use mathlib.Core.List.{List, [], ◌∷◌, ◌++◌}
use Prim.Native.Nat.{ℕ, zero, suc, ◌+◌, ◌≤◌, ◌<◌}
use native.Mathlib.Omega.{arith}
use Rattle.stream.specs.declared.Fault.{Fault}
use Rattle.stream.specs.Reading.{Reading, read, fault, read_on, Root, forest, only, tree, one_part, two_parts, on_one, on_two}
use Rattle.stream.proofs.Reading.Laws.{none_owed}
use Rattle.stream.specs.Reading.Walking.{MakesOne}
use Rattle.stream.proofs.Reading.Walking.{OneEach, one_each}

-- What is read for some entries, and then for others, given what was read for the first.
abbrev pub then_read : {A : Type 0} → Reading (List A) → (List A → List ℕ → Reading (List A)) → Reading (List A)
then_read g h = read_on g (λ ts r. read_on (h ts r) (λ us x. read (ts ++ us) x))

pub as_read : {A : Type 0} (g : Reading (List A)) → g ≡ read_on g (λ us x. read us x)
as_read (read us x) = refl
as_read (fault e) = refl

-- A root makes its tree of the trees that follow it, and leaves those behind as they are.
abbrev pub InFront : {W A : Type 0} → Reading (Root W A) → Type 0
InFront {A = A} (read n r) = (ts us : List A) → length n.parts ≤ length ts → n.build (ts ++ us) ≡ n.build ts ++ us
InFront (fault e) = Unit

pub one_in_front : {W A : Type 0} (f : A → A) (w : W) (s : List ℕ) → InFront (one_part f w s)
one_in_front {A = A} f w s = go
  where
    go : (ts us : List A) → 1 ≤ length ts → on_one f (ts ++ us) ≡ on_one f ts ++ us
    go [] us h = absurd (omega arith)
    go (t ∷ ts) us h = refl

pub two_in_front : {W A : Type 0} (f : A → A → A) (v w : W) (s : List ℕ) → InFront (two_parts f v w s)
two_in_front {A = A} f v w s = go
  where
    go : (ts us : List A) → 2 ≤ length ts → on_two f (ts ++ us) ≡ on_two f ts ++ us
    go [] us h = absurd (omega arith)
    go (t ∷ []) us h = absurd (omega arith)
    go (t ∷ u ∷ ts) us h = refl

pub built : {W A : Type 0} (n : Root W A) (ts : List A) (g : Reading (List A)) → ((us : List A) → n.build (ts ++ us) ≡ n.build ts ++ us)
    → read_on (read_on g (λ us x. read (ts ++ us) x)) (λ us x. read (n.build us) x) ≡ read_on g (λ us x. read (n.build ts ++ us) x)
built n ts (read us x) h = rw (h us)
built n ts (fault e) h = refl

-- What becomes of the trees of one part, or of two, read one after the other.
module _ {A : Type 0} (over : Fault) where
  pub one_read : (f : A → A) (g : Reading A)
      → read_on (read_on (read_on g (λ a x. read (a ∷ []) x)) (λ ts x. read (on_one f ts) x)) (only over) ≡ read_on g (λ a x. read (f a) x)
  one_read f (read a x) = refl
  one_read f (fault e) = refl

  pub second_read : (f : A → A → A) (a : A) (g : Reading A)
      → read_on (read_on (read_on (read_on g (λ b y. read (b ∷ []) y)) (λ us y. read (a ∷ us) y)) (λ ts y. read (on_two f ts) y)) (only over)
      ≡ read_on g (λ b y. read (f a b) y)
  second_read f a (read b y) = refl
  second_read f a (fault e) = refl

-- A forest for one entry is one tree, if each root makes one.
pub alone : {W A : Type 0} (over : Fault) (root : W → List ℕ → Reading (Root W A)) (one : (w : W) (s : List ℕ) → MakesOne (root w s))
    (budget : ℕ) (w : W) (s : List ℕ) → forest over root budget (w ∷ []) s ≡ read_on (tree over root budget w s) (λ a r. read (a ∷ []) r)
unfolding tree
alone {W} {A} over root one budget w s = go (forest over root budget (w ∷ []) s) (one_each over root one budget (w ∷ []) s)
  where
    go : (g : Reading (List A)) → OneEach over root one (w ∷ []) g → g ≡ read_on (read_on g (only over)) (λ a r. read (a ∷ []) r)
    go (read [] r) o = absurd (omega arith)
    go (read (a ∷ []) r) o = refl
    go (read (a ∷ b ∷ ts) r) o = absurd (omega arith)
    go (fault e) o = refl

-- Each entry weighs as many nodes as may be read for it: the parts of a root weigh less than the root's own entry.
module _ {W : Type 0} (weigh : W → ℕ) where
  unfoldable pub weight : List W → ℕ
  weight [] = 0
  weight (w ∷ ws) = weigh w + weight ws

  pub weight_append : (ws vs : List W) → weight (ws ++ vs) ≡ weight ws + weight vs
  unfolding weight
  weight_append [] vs = omega arith
  weight_append (w ∷ ws) vs = omega (arith, weight_append ws vs)

  abbrev pub Lighter : {A : Type 0} → W → Reading (Root W A) → Type 0
  Lighter w (read n r) = weight n.parts < weigh w
  Lighter w (fault e) = Unit

  module _ {A : Type 0} (root : W → List ℕ → Reading (Root W A)) (positive : (w : W) → 1 ≤ weigh w)
      (lighter : (w : W) (s : List ℕ) → Lighter w (root w s)) where
    -- Neither the budget nor the fault for a node too many is seen.
    pub same_forest : (e d : Fault) (budget other : ℕ) (ws : List W) (s : List ℕ) → weight ws ≤ budget → weight ws ≤ other
        → forest e root budget ws s ≡ forest d root other ws s
    unfolding forest weight
    same_forest e d zero other [] s h k = sym (none_owed d root other s)
    same_forest e d (suc budget) other [] s h k = sym (none_owed d root other s)
    same_forest e d zero other (w ∷ ws) s h k = absurd (omega (arith, positive w))
    same_forest e d (suc budget) zero (w ∷ ws) s h k = absurd (omega (arith, positive w))
    same_forest e d (suc budget) (suc other) (w ∷ ws) s h k =
        go (root w s) (lighter w s) (λ us r i j. same_forest e d budget other us r i j)
      where
        go : (g : Reading (Root W A)) → Lighter w g
            → ((us : List W) (r : List ℕ) → weight us ≤ budget → weight us ≤ other → forest e root budget us r ≡ forest d root other us r)
            → read_on g (λ n r. read_on (forest e root budget (n.parts ++ ws) r) (λ ts rest. read (n.build ts) rest))
            ≡ read_on g (λ n r. read_on (forest d root other (n.parts ++ ws) r) (λ ts rest. read (n.build ts) rest))
        go (read n r) l same =
            rw (same (n.parts ++ ws) r (omega (arith, weight_append n.parts ws)) (omega (arith, weight_append n.parts ws)))
        go (fault x) l same = refl
