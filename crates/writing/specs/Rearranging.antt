-- What the writers of three pieces promise and ask: contracts inside the library, which no demand rests on.
use Rattle.std.specs.Prelude.{List, ℕ, ◌+◌, ◌≤◌, length}
use Rattle.reading.specs.declared.types.Pieces.{Pieces}
use Rattle.writing.specs.Appending.Laws.{WrittenSoFar}

-- The pieces are so short that whatever is written of them can be counted.
abbrev pub Countable : Pieces → Type 0
Countable p = length p.s.now + length p.t.now + length p.r.now ≤ 65535

-- They are written in the order that is asked.
abbrev pub Rearranged : (List ℕ → List ℕ → List ℕ → List ℕ) → Pieces → (lent lent_after : List ℕ) → ℕ → Type 0
Rearranged order p lent lent_after many = WrittenSoFar (order p.s.now p.t.now p.r.now) lent lent_after many
