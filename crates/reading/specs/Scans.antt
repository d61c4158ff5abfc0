-- What the bytes of a type and of a prefix tell, gone through from the first to the last.
use Rattle.std.specs.Prelude.{Bool, true, ◌||◌, not, cond, List, [], ◌∷◌, ℕ, ◌==◌}
use Rattle.reading.specs.SliceReads.{is_unfinished, kind_brings_nothing}

-- The kinds of the nodes of a nullable type.
abbrev pub is_silent : ℕ → Bool
is_silent k = (k == 0) || (k == 4)

-- Whether these bytes open a node that waits, after others that brought nothing, of which some were unfinished or none.
abbrev pub scan_opens : Bool → List ℕ → Bool
scan_opens unfinished [] = not unfinished
scan_opens unfinished (k ∷ s) = cond (kind_brings_nothing k) (scan_opens (unfinished || is_unfinished k) s) true
