-- Which faults a reading can give: those that its parts can.
use Rattle.std.specs.Prelude.{◌≡◌, refl, Bool, true, false, ◌||◌, leb, eqb, length, take, drop}
use Rattle.std.proofs.Math.Bool.{or-true}
use Rattle.std.proofs.lemmas.Bool.{false≢true}
use mathlib.Core.List.{List, [], ◌∷◌, ◌++◌}
use Prim.Native.Nat.{ℕ, zero, suc}
use Rattle.stream.specs.declared.Fault.{Fault}
use Rattle.stream.specs.Faults.{number, contains, Listed}
use Rattle.stream.specs.Reading.{Reading, read, fault, Result, accepted, refused, read_on, go_on, require, whole, followed_by, read_number, counted, section, Root, forest, only, tree}

-- Every fault has the property P.
module _ (P : Fault → Type 0) where
  abbrev pub Faults : {A : Type 0} → Reading A → Type 0
  Faults (read a r) = Unit
  Faults (fault e) = P e

  abbrev pub Refusals : {A : Type 0} → Result A → Type 0
  Refusals (accepted a) = Unit
  Refusals (refused e) = P e

  pub read_on_faults : {A B : Type 0} (g : Reading A) (f : A → List ℕ → Reading B) → Faults g → ((a : A) (r : List ℕ) → Faults (f a r)) → Faults (read_on g f)
  read_on_faults (read a r) f h k = k a r
  read_on_faults (fault e) f h k = h

  pub go_on_refusals : {A B : Type 0} (g : Result A) (f : A → Result B) → Refusals g → ((a : A) → Refusals (f a)) → Refusals (go_on g f)
  go_on_refusals (accepted a) f h k = k a
  go_on_refusals (refused e) f h k = h

  pub require_refusals : {A : Type 0} (b : Bool) (e : Fault) (r : Result A) → P e → Refusals r → Refusals (require b e r)
  require_refusals true e r h k = k
  require_refusals false e r h k = h

  pub whole_refusals : {A : Type 0} (if_left : Fault) (g : Reading A) → P if_left → Faults g → Refusals (whole if_left g)
  whole_refusals o (read a []) h k = tt
  whole_refusals o (read a (b ∷ r)) h k = h
  whole_refusals o (fault e) h k = k

  followed_by_faults : {A : Type 0} (r : List ℕ) (g : Result A) → Refusals g → Faults (followed_by r g)
  followed_by_faults r (accepted a) h = tt
  followed_by_faults r (refused e) h = h

  module _ {A : Type 0} (if_short if_left : Fault) (contents : List ℕ → Reading A) where
    counted_faults : P if_short → P if_left → ((s : List ℕ) → Faults (contents s)) → (n : ℕ) (s : List ℕ)
        → Faults (counted if_short if_left contents n s)
    unfolding counted
    counted_faults c o k n s =
        let inside = whole if_left (contents (take n s)) in
        followed_by_faults (drop n s) (require (leb n (length s)) if_short inside)
        (require_refusals (leb n (length s)) if_short inside c (whole_refusals if_left (contents (take n s)) o (k (take n s))))

    pub section_faults : P if_short → P if_left → ((s : List ℕ) → Faults (contents s)) → (s : List ℕ)
        → Faults (section if_short if_left contents s)
    unfolding section read_number
    section_faults c o k [] = c
    section_faults c o k (h ∷ []) = c
    section_faults c o k (h ∷ l ∷ s) = counted_faults c o k _ s

  module _ {W A : Type 0} (over : Fault) (root : W → List ℕ → Reading (Root W A)) (P_over : P over) (roots : (w : W) (s : List ℕ) → Faults (root w s)) where
    forest_faults : (budget : ℕ) (owed : List W) (s : List ℕ) → Faults (forest over root budget owed s)
    unfolding forest
    forest_faults zero [] s = tt
    forest_faults (suc budget) [] s = tt
    forest_faults zero (w ∷ owed) s = P_over
    forest_faults (suc budget) (w ∷ owed) s =
        read_on_faults (root w s) _ (roots w s)
        (λ n r. read_on_faults (forest over root budget (n.parts ++ owed) r) _ (forest_faults budget (n.parts ++ owed) r) (λ ts x. tt))

    only_faults : (ts : List A) (r : List ℕ) → Faults (only over ts r)
    only_faults [] r = P_over
    only_faults (t ∷ ts) r = tt

    pub tree_faults : (budget : ℕ) (w : W) (s : List ℕ) → Faults (tree over root budget w s)
    unfolding tree
    tree_faults budget w s = read_on_faults (forest over root budget (w ∷ []) s) _ (forest_faults budget (w ∷ []) s) only_faults

-- What has a property has a weaker one.
module _ {P Q : Fault → Type 0} (weaker : (e : Fault) → P e → Q e) where
  pub faults_too : {A : Type 0} (g : Reading A) → Faults P g → Faults Q g
  faults_too (read a r) h = tt
  faults_too (fault e) h = weaker e h

  pub refusals_too : {A : Type 0} (g : Result A) → Refusals P g → Refusals Q g
  refusals_too (accepted a) h = tt
  refusals_too (refused e) h = weaker e h

-- What is listed is listed in a longer list.

either_or : (b : Bool) {c d : Bool} → (c ≡ true → d ≡ true) → (b || c) ≡ true → (b || d) ≡ true
either_or true f h = refl
either_or false f h = f h

contains_first : (ns ms : List ℕ) (k : ℕ) → contains ns k ≡ true → contains (ns ++ ms) k ≡ true
contains_first [] ms k h = absurd (false≢true h)
contains_first (n ∷ ns) ms k h = either_or (eqb n k) (contains_first ns ms k) h

contains_second : (ns ms : List ℕ) (k : ℕ) → contains ms k ≡ true → contains (ns ++ ms) k ≡ true
contains_second [] ms k h = h
contains_second (n ∷ ns) ms k h = rw (contains_second ns ms k h) (or-true (eqb n k))

pub listed_first : (ns ms : List ℕ) (e : Fault) → Listed ns e → Listed (ns ++ ms) e
listed_first ns ms e h = contains_first ns ms (number e) h

pub listed_second : (ns ms : List ℕ) (e : Fault) → Listed ms e → Listed (ns ++ ms) e
listed_second ns ms e h = contains_second ns ms (number e) h
