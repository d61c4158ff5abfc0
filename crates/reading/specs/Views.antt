-- What a clause says of a view: its tree.
use Rattle.std.specs.Prelude.{◌≡◌, true, false, ◌&&◌, Bool, ℕ, Option, Some, None}
use Rattle.stream.specs.Types.{Ty, first_part, second_part, has_kind}
use Rattle.stream.specs.TypeFiles.{type_of}
use Rattle.reading.specs.declared.types.TypeView.{TypeView}

abbrev pub tree : TypeView → Ty
tree v = type_of v.bytes.now

-- The parts of a type of the kind k, or none of another.
abbrev pub PartsOf : ℕ → Ty → Option (TypeView × TypeView) → Type 0
PartsOf k t (Some v) = (has_kind k t ≡ true) × (tree v.0 ≡ first_part t) × (tree v.1 ≡ second_part t)
PartsOf k t None = has_kind k t ≡ false

-- A sequence whose first part is one too, (s, t), r; and one whose second part is of the kind k.
abbrev pub nests_first : Ty → Bool
nests_first u = has_kind 3 u && has_kind 3 (first_part u)

abbrev pub nests_second : ℕ → Ty → Bool
nests_second k u = has_kind 3 u && has_kind k (second_part u)

-- Its s, t and r, or none of another type.

abbrev pub FirstNested : Ty → Option (TypeView × TypeView × TypeView) → Type 0
FirstNested u (Some v) =
    (nests_first u ≡ true) × (tree v.0 ≡ first_part (first_part u)) × (tree v.1 ≡ second_part (first_part u)) × (tree v.2 ≡ second_part u)
FirstNested u None = nests_first u ≡ false

abbrev pub SecondNested : ℕ → Ty → Option (TypeView × TypeView × TypeView) → Type 0
SecondNested k u (Some v) =
    (nests_second k u ≡ true) × (tree v.0 ≡ first_part u) × (tree v.1 ≡ first_part (second_part u)) × (tree v.2 ≡ second_part (second_part u))
SecondNested k u None = nests_second k u ≡ false
