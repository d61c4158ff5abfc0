-- The orders in which three pieces are written: contracts inside the library, which no demand rests on.
use Rattle.std.specs.Prelude.{List, [], ◌∷◌, ◌++◌, ℕ}

abbrev pub regrouped_right : (outer inner : ℕ) → List ℕ → List ℕ → List ℕ → List ℕ
regrouped_right outer inner s t r = (outer ∷ []) ++ (s ++ ((inner ∷ []) ++ (t ++ r)))

abbrev pub regrouped_left : (outer inner : ℕ) → List ℕ → List ℕ → List ℕ → List ℕ
regrouped_left outer inner s t r = (outer ∷ inner ∷ []) ++ (s ++ (t ++ r))

abbrev pub spread_out : (outer inner : ℕ) → List ℕ → List ℕ → List ℕ → List ℕ
spread_out outer inner s t r = (outer ∷ inner ∷ []) ++ (s ++ (t ++ ((inner ∷ []) ++ (s ++ r))))
