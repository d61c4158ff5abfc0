-- How a table of examples is written: bytes handed in, and the number that comes back, 0 where they are accepted.
use Rattle.std.specs.Prelude.{List, [], ◌∷◌, ◌++◌, ℕ, zero, suc}
use Rattle.stream.specs.Faults.{number}
use Rattle.stream.specs.Reading.{Result, accepted, refused, section_bytes}

abbrev pub verdict : {A : Type 0} → Result A → ℕ
verdict (accepted a) = 0
verdict (refused e) = number e

-- A section alone; n copies of some bytes.
abbrev pub section_of : List ℕ → List ℕ
unfolding section_bytes
section_of body = section_bytes body []

abbrev pub copies : ℕ → List ℕ → List ℕ → List ℕ
copies zero bytes rest = rest
copies (suc n) bytes rest = bytes ++ copies n bytes rest

-- Each row: what is handed in, and its number.
abbrev pub numbers : {A : Type 0} → List (A × ℕ) → List ℕ
numbers [] = []
numbers (row ∷ rows) = row.1 ∷ numbers rows

abbrev pub verdicts : {A : Type 0} → (A → ℕ) → List (A × ℕ) → List ℕ
verdicts f [] = []
verdicts f (row ∷ rows) = f row.0 ∷ verdicts f rows
