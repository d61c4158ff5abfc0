-- Lent buffers (document 01, Operations).
use Rattle.std.specs.Prelude.{List, ◌++◌, ℕ, length, drop}

-- "These stand at the front of the lent buffer, and the bytes behind them stay."
abbrev pub at_front : List ℕ → List ℕ → List ℕ
at_front file lent = file ++ drop (length file) lent
