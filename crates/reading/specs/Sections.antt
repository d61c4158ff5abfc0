-- What the readers of sections and trees tell their callers: where a tree ends, or the first fault.
use Rattle.std.specs.Prelude.{Result, Ok, Err, true, false, List, [], ℕ, ◌-◌, leb, length}
use Rattle.stream.specs.declared.Fault.{Fault}
use Rattle.stream.specs.declared.Fault.TheVariants.{LeftOver}
use Rattle.stream.specs.Reading.{Reading, read, fault}
pub mod Walking
pub mod Laws

-- Where a tree ends in the n bytes that it was read from.
unfoldable pub end_of : {A : Type 0} → ℕ → Reading A → Result ℕ Fault
end_of n (read a r) = Ok (n - length r)
end_of n (fault e) = Err e

-- The contents of a section of which only the count is tried.
unfoldable pub any_bytes : List ℕ → Reading (Unit {0})
any_bytes s = read tt []

-- A section that ends at `end`, by where the tree in it ends, which has to fill it.
unfoldable pub filled : ℕ → Result ℕ Fault → Result ℕ Fault
filled end (Err e) = Err e
filled end (Ok k) = elim (leb (end - 2) k) [ true ↦ Ok end | false ↦ Err LeftOver ]
