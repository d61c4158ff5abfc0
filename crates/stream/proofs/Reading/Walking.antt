-- Reading one root at a time, and sections by their counts: what a loop over the bytes is held to.
use Rattle.std.specs.Prelude.{◌≡◌, drop, replicate}
use Rattle.std.proofs.Math.Path.{refl, ap}
use Rattle.std.proofs.Common.{◌∙◌}
use mathlib.Core.List.{List, [], ◌∷◌, ◌++◌}
use Prim.Native.Nat.{ℕ, zero, suc, ◌+◌, ◌-◌, ◌*◌, ◌≤◌, ◌<◌}
use native.Mathlib.Omega.{arith}
use Rattle.std.proofs.Math.ListN.{length, length-append}
use Rattle.std.proofs.lemmas.List.{replicate-append-replicate}
use borrow.Author.Tests.{le-leb, lt-leb}
use Rattle.stream.specs.declared.Fault.{Fault}
use Rattle.stream.specs.Reading.{Reading, read, fault, read_on, whole, followed_by, read_number, counted, section, Root, forest, only, tree, leaf, one_part, two_parts, on_one, on_two}
use Rattle.stream.specs.Reading.Walking.{rest_of, Owes, MakesOne, count, body}
use Rattle.stream.proofs.Reading.Laws.{none_owed}

-- One turn of a loop that has read i roots of at most `top`.
module _ {W A : Type 0} (over : Fault) (root : W → List ℕ → Reading (Root W A)) where
  built : (f : List A → List A) (g : Reading (List A)) → rest_of (read_on g (λ ts r. read (f ts) r)) ≡ rest_of g
  built f (read ts r) = refl
  built f (fault e) = refl

  step : (budget : ℕ) (w : W) (owed : List W) (s r : List ℕ) (n : Root W A) → root w s ≡ read n r
      → rest_of (forest over root (suc budget) (w ∷ owed) s) ≡ rest_of (forest over root budget (n.parts ++ owed) r)
  unfolding forest
  step budget w owed s r n e = rw (forest, e) (built n.build (forest over root budget (n.parts ++ owed) r))

  stop : (budget : ℕ) (w : W) (owed : List W) (s : List ℕ) (e : Fault) → root w s ≡ fault e
      → forest over root (suc budget) (w ∷ owed) s ≡ fault e
  unfolding forest
  stop budget w owed s e h = rw (forest, h)

  none_left : (w : W) (owed : List W) (s : List ℕ) → forest over root 0 (w ∷ owed) s ≡ fault over
  unfolding forest
  none_left w owed s = refl

  module _ (top i : ℕ) where
    -- A root was read: its parts are owed before the rest.
    pub ahead : (w : W) (owed : List W) (s r : List ℕ) (n : Root W A) → i < top → root w s ≡ read n r
        → rest_of (forest over root (top - i) (w ∷ owed) s) ≡ rest_of (forest over root (top - (i + 1)) (n.parts ++ owed) r)
    ahead w owed s r n h e =
        let b : top - i ≡ suc (top - (i + 1)) = omega arith in
        rw b (step (top - (i + 1)) w owed s r n e)

    pub stopped : (w : W) (owed : List W) (s : List ℕ) (e : Fault) → i < top → root w s ≡ fault e
        → rest_of (forest over root (top - i) (w ∷ owed) s) ≡ fault e
    stopped w owed s e h k =
        let b : top - i ≡ suc (top - (i + 1)) = omega arith in
        rw (b, stop (top - (i + 1)) w owed s e k)

    pub spent : (w : W) (owed : List W) (s : List ℕ) → i ≡ top → rest_of (forest over root (top - i) (w ∷ owed) s) ≡ fault over
    spent w owed s h = let b : top - i ≡ 0 = omega arith in rw (b, none_left w owed s)

    pub done : (s : List ℕ) → rest_of (forest over root (top - i) [] s) ≡ read tt s
    done s = rw (none_owed over root (top - i) s)

-- The same where every entry is w, of which a loop keeps only how many are owed.
first_owed : {W : Type 0} (w : W) (owed : ℕ) → 0 < owed → replicate owed w ≡ w ∷ replicate (owed - 1) w
first_owed w zero h = absurd (omega arith)
first_owed w (suc owed) h = let e : suc owed - 1 ≡ owed = omega arith in rw e

module _ {W A : Type 0} (over : Fault) (root : W → List ℕ → Reading (Root W A))
    (w : W) (top i owed : ℕ) (wanted : 0 < owed) (s : List ℕ) where
  pub ahead_same : (k : ℕ) (r : List ℕ) → i < top → Owes w k r (root w s)
      → rest_of (forest over root (top - i) (replicate owed w) s)
      ≡ rest_of (forest over root (top - (i + 1)) (replicate (k + (owed - 1)) w) r)
  ahead_same k r h o =
      rw (first_owed w owed wanted)
      (ahead over root top i w (replicate (owed - 1) w) s r o.0 h o.1
      ∙ rw (o.2, replicate-append-replicate k (owed - 1) w))

  pub stopped_same : (e : Fault) → i < top → root w s ≡ fault e → rest_of (forest over root (top - i) (replicate owed w) s) ≡ fault e
  stopped_same e h k = rw (first_owed w owed wanted) (stopped over root top i w (replicate (owed - 1) w) s e h k)

  pub spent_same : i ≡ top → rest_of (forest over root (top - i) (replicate owed w) s) ≡ fault over
  spent_same h = rw (first_owed w owed wanted) (spent over root top i w (replicate (owed - 1) w) s h)

-- After a tree stands what stands after a forest for one entry, if each root makes one tree of those of its parts.
pub leaf_makes : {W A : Type 0} (w : W) (a : A) (s : List ℕ) → MakesOne {W = W} (leaf a s)
leaf_makes w a s = λ ts k h. omega arith

pub one_makes : {W A : Type 0} (f : A → A) (w : W) (s : List ℕ) → MakesOne (one_part f w s)
one_makes {A = A} f w s = go
  where
    go : (ts : List A) (k : ℕ) → length ts ≡ 1 + k → length (on_one f ts) ≡ suc k
    go [] k h = absurd (omega arith)
    go (t ∷ ts) k h = omega arith

pub two_makes : {W A : Type 0} (f : A → A → A) (v w : W) (s : List ℕ) → MakesOne (two_parts f v w s)
two_makes {A = A} f v w s = go
  where
    go : (ts : List A) (k : ℕ) → length ts ≡ 2 + k → length (on_two f ts) ≡ suc k
    go [] k h = absurd (omega arith)
    go (t ∷ []) k h = absurd (omega arith)
    go (t ∷ u ∷ ts) k h = omega arith

module _ {W A : Type 0} (over : Fault) (root : W → List ℕ → Reading (Root W A)) (one : (w : W) (s : List ℕ) → MakesOne (root w s)) where
  abbrev pub OneEach : List W → Reading (List A) → Type 0
  OneEach owed (read ts r) = length ts ≡ length owed
  OneEach owed (fault e) = Unit

  pub one_each : (budget : ℕ) (owed : List W) (s : List ℕ) → OneEach owed (forest over root budget owed s)
  unfolding forest
  one_each zero [] s = refl
  one_each (suc budget) [] s = refl
  one_each zero (w ∷ owed) s = tt
  one_each (suc budget) (w ∷ owed) s = go (root w s) (one w s) (λ ws r. one_each budget ws r)
    where
      on : (n : Root W A) (s : List ℕ) (g : Reading (List A)) → MakesOne (read n s)
          → OneEach (n.parts ++ owed) g → OneEach (w ∷ owed) (read_on g (λ ts r. read (n.build ts) r))
      on n s (read ts r) m h = m ts (length owed) (h ∙ length-append n.parts owed)
      on n s (fault e) m h = tt

      go : (g : Reading (Root W A)) → MakesOne g → ((ws : List W) (r : List ℕ) → OneEach ws (forest over root budget ws r))
          → OneEach (w ∷ owed)
          (read_on g (λ n r. read_on (forest over root budget (n.parts ++ owed) r) (λ trees rest. read (n.build trees) rest)))
      go (read n r) m k = on n r (forest over root budget (n.parts ++ owed) r) m (k (n.parts ++ owed) r)
      go (fault e) m k = tt

  pub tree_rest : (budget : ℕ) (w : W) (s : List ℕ) → rest_of (tree over root budget w s) ≡ rest_of (forest over root budget (w ∷ []) s)
  unfolding tree
  tree_rest budget w s = go (forest over root budget (w ∷ []) s) (one_each budget (w ∷ []) s)
    where
      go : (g : Reading (List A)) → OneEach (w ∷ []) g → rest_of (read_on g (only over)) ≡ rest_of g
      go (read [] r) h = absurd (omega arith)
      go (read (t ∷ ts) r) h = refl
      go (fault e) h = refl

-- Sections by their counts.
module _ {A : Type 0} (if_short if_left : Fault) (contents : List ℕ → Reading A) where
  pub no_count : (s : List ℕ) → length s < 2 → section if_short if_left contents s ≡ fault if_short
  unfolding section read_number
  no_count [] h = refl
  no_count (a ∷ []) h = refl
  no_count (a ∷ b ∷ s) h = absurd (omega arith)

  pub body_short : (s : List ℕ) → length s - 2 < count s → section if_short if_left contents s ≡ fault if_short
  unfolding section counted read_number
  body_short [] h = refl
  body_short (a ∷ []) h = refl
  body_short (a ∷ b ∷ s) h = let e : length s < (0 * 256 + a) * 256 + b = omega arith in rw (counted, lt-leb _ _ e)

  pub body_whole : (s : List ℕ) → 2 ≤ length s → count s ≤ length s - 2
      → section if_short if_left contents s ≡ followed_by (drop (2 + count s) s) (whole if_left (contents (body s)))
  unfolding section counted read_number
  body_whole [] two h = absurd (omega arith)
  body_whole (a ∷ []) two h = absurd (omega arith)
  body_whole (a ∷ b ∷ s) two h =
      let n : (0 * 256 + a) * 256 + b ≡ a * 256 + b = omega arith in
      let e : a * 256 + b ≤ length s = omega arith in
      let f : 2 + (a * 256 + b) ≡ suc (suc (a * 256 + b)) = omega arith in
      ap (λ k. counted if_short if_left contents k s) n ∙ rw (counted, le-leb _ _ e, f)
