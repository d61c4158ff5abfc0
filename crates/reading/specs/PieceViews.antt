-- The pieces of a slice of a tree with a fork in one of its parts, as slices.
use Rattle.std.specs.Prelude.{◌≡◌, List, [], ℕ, Option, Some, None}
use Rattle.stream.specs.Prefixes.{Prefix}
use Rattle.stream.specs.SliceFiles.{prefix_bytes}
use Rattle.reading.specs.declared.inputs.Nested.{Nested}
use Rattle.reading.specs.Nesting.{Cut, uncut, cut}

-- A prefix that is cut in one of these ways.
pub record HowCut (Cuts : Prefix → Cut → Type 0) (p : Prefix) : Type 0 where
  pub how : Cut
  pub is_cut : Cuts p how

-- The pieces of p, or none if s is still coming.
abbrev pub CutInto : (Prefix → Cut → Type 0) → Prefix → Option Nested → Type 0
CutInto Cuts p (Some n) = Cuts p (cut n.kind n.pieces.s.now n.pieces.t.now n.pieces.r.now)
CutInto Cuts p None = Cuts p uncut

-- The bytes are those of some prefix that is cut in one of these ways.
pub record SomeCut (Cuts : Prefix → Cut → Type 0) (bytes : List ℕ) : Type 0 where
  pub prefix : Prefix
  pub whole : prefix_bytes prefix [] ≡ bytes
  pub how : Cut
  pub is_cut : Cuts prefix how

-- The pieces of the prefix in these bytes, whichever it is.
pub record CutBy (Cuts : Prefix → Cut → Type 0) (bytes : List ℕ) (answer : Option Nested) : Type 0 where
  pub each : (p : Prefix) → prefix_bytes p [] ≡ bytes → HowCut Cuts p → CutInto Cuts p answer

-- The bytes behind s are those of t and r, of which the second is not there yet if k is 5.
pub data Behind (k : ℕ) (behind : List ℕ) : List ℕ → List ℕ → Type 0 where
  one_behind : (q : Prefix) → k ≡ 5 → behind ≡ prefix_bytes q [] → Behind k behind (prefix_bytes q []) []
  two_behind : (c q : Prefix) → (k ≡ 5 → ⊥) → behind ≡ prefix_bytes c (prefix_bytes q []) → Behind k behind (prefix_bytes c []) (prefix_bytes q [])

pub record SomeBehind (k : ℕ) (behind : List ℕ) : Type 0 where
  pub t : List ℕ
  pub r : List ℕ
  pub both : Behind k behind t r

pub record CutBehind (k : ℕ) (s behind : List ℕ) (n : Nested) : Type 0 where
  pub kind : n.kind ≡ k
  pub first : n.pieces.s.now ≡ s
  pub each : {t r : List ℕ} → Behind k behind t r → (n.pieces.t.now ≡ t) × (n.pieces.r.now ≡ r)
