-- Types by their kind bytes: how many parts a kind has, and which they are. What goes through the bytes of a type goes by this
-- table.
use Rattle.std.specs.Prelude.{◌≡◌, refl, List, [], ◌∷◌, ℕ, suc, ◌+◌, ◌*◌, ◌/◌, length, get_or}
use Rattle.std.proofs.Common.{arith}
use Rattle.stream.specs.Types.{Ty, empty, cue, level, seq, par, either, size, kind, first_part, second_part}

-- How many parts each kind has, by its number; of a byte that is no type's kind nobody asks.
abbrev pub type_arities : List ℕ
type_arities = 0 ∷ 0 ∷ 0 ∷ 2 ∷ 2 ∷ 2 ∷ []

abbrev pub type_arity : ℕ → ℕ
type_arity k = get_or type_arities k 2

-- The parts, left to right.
abbrev pub type_parts : Ty → List Ty
type_parts empty = []
type_parts cue = []
type_parts level = []
type_parts (seq s t) = s ∷ t ∷ []
type_parts (par s t) = s ∷ t ∷ []
type_parts (either s t) = s ∷ t ∷ []

pub type_parts_many : (t : Ty) → length (type_parts t) ≡ type_arity (kind t)
type_parts_many empty = refl
type_parts_many cue = refl
type_parts_many level = refl
type_parts_many (seq s t) = refl
type_parts_many (par s t) = refl
type_parts_many (either s t) = refl

-- Document 02, M-102, "It equals the number of parts that the type rules give". By the kind: arity_quotient in proofs/Types/Laws.antt.
pub parts_quotient : (t : Ty) → kind t / 3 * 2 ≡ length (type_parts t)
parts_quotient empty = refl
parts_quotient cue = refl
parts_quotient level = refl
parts_quotient (seq s t) = refl
parts_quotient (par s t) = refl
parts_quotient (either s t) = refl

-- The nodes of several types, and of one by its parts.
abbrev pub sizes : List Ty → ℕ
sizes [] = 0
sizes (t ∷ ts) = size t + sizes ts

pub size_by_parts : (t : Ty) → size t ≡ suc (sizes (type_parts t))
unfolding size
size_by_parts empty = refl
size_by_parts cue = refl
size_by_parts level = refl
size_by_parts (seq s t) = omega arith
size_by_parts (par s t) = omega arith
size_by_parts (either s t) = omega arith

-- A type with two parts is a node and these.
abbrev pub Fork : Ty → Type 0
Fork t = type_arity (kind t) ≡ 2

pub fork-size : (t : Ty) → Fork t → size t ≡ suc (size (first_part t) + size (second_part t))
unfolding size
fork-size empty two = absurd (omega arith)
fork-size cue two = absurd (omega arith)
fork-size level two = absurd (omega arith)
fork-size (seq s t) two = refl
fork-size (par s t) two = refl
fork-size (either s t) two = refl
