-- Types that a writer goes through one after the other, each to be written or to be passed over, and their bytes: what loops over the
-- bytes of types are held to.
use Rattle.std.specs.Prelude.{◌≡◌, refl, List, [], ◌∷◌, ◌++◌, ℕ, ◌+◌, ◌≤◌, length}
use Rattle.std.proofs.Common.{ap, arith}
use Rattle.stream.specs.Types.{Ty, size}
use Rattle.stream.proofs.Types.Laws.{size_positive}
use Rattle.stream.specs.TypeFiles.{type_bytes}

pub data Task : Type 0 where
  passed : Ty → Task  -- its bytes are passed over
  written : Ty → Task  -- a prefix of it is written

abbrev pub type_of : Task → Ty
type_of (passed t) = t
type_of (written t) = t

-- The bytes of several types, and then r; how many nodes they have.

abbrev pub several : List Task → List ℕ → List ℕ
several [] r = r
several (x ∷ xs) r = type_bytes (type_of x) (several xs r)

abbrev pub sizes : List Task → ℕ
sizes [] = 0
sizes (x ∷ xs) = size (type_of x) + sizes xs

-- Each has a node.
pub sizes_many : (xs : List Task) → length xs ≤ sizes xs
sizes_many [] = omega arith
sizes_many (x ∷ xs) = omega (arith, size_positive (type_of x), sizes_many xs)

-- Two lists, one behind the other.

pub several_append : (xs ys : List Task) (r : List ℕ) → several (xs ++ ys) r ≡ several xs (several ys r)
several_append [] ys r = refl
several_append (x ∷ xs) ys r = ap (type_bytes (type_of x)) (several_append xs ys r)

pub sizes_append : (xs ys : List Task) → sizes (xs ++ ys) ≡ sizes xs + sizes ys
sizes_append [] ys = omega arith
sizes_append (x ∷ xs) ys = omega (arith, sizes_append xs ys)
