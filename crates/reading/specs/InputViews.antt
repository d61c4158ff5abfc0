-- What a clause says of an input: its type, its prefix, and how both are cut.
use Rattle.std.specs.Prelude.{◌≡◌, true, ◌<◌, length}
use Rattle.stream.specs.Types.{Ty, seq, par, either}
use Rattle.stream.specs.Prefixes.{Prefix, in_first, crossed, beside, none_chosen, first_chosen, second_chosen}
use Rattle.stream.specs.Prefixes.Kinds.{prefix_kind}
use Rattle.stream.specs.Prefixes.Functions.{complete}
use Rattle.stream.specs.SliceFiles.{prefix_of}
use Rattle.reading.specs.Places.{PrefixPlace}
use Rattle.reading.specs.declared.inputs.Input.{Input}
use Rattle.reading.specs.declared.inputs.Parts.{Parts}
use Rattle.reading.specs.declared.inputs.Parts.TheVariants.{Leaf, Coming, Crossed, Beside, NoneChosen, FirstChosen, SecondChosen}
use Rattle.reading.specs.Views.{tree}

abbrev pub type : Input → Ty
type i = tree i.ty

abbrev pub prefix : Input → Prefix
prefix i = prefix_of (tree i.ty) i.slice.now

-- All of its slice, as a place in it.
abbrev pub all : Input → PrefixPlace
all i = record { start = 0; end = length i.slice.now }

-- The parts make up a type t and a prefix p of it.
abbrev pub MakeUp : Parts → Ty → Prefix → Type 0
MakeUp Leaf t p = prefix_kind p < 5
MakeUp (Coming a s) t p = (t ≡ seq (type a) (tree s)) × (p ≡ in_first (prefix a))
MakeUp (Crossed a b) t p = (t ≡ seq (type a) (type b)) × (p ≡ crossed (prefix a) (prefix b)) × (complete (prefix a) ≡ true)
MakeUp (Beside a b) t p = (t ≡ par (type a) (type b)) × (p ≡ beside (prefix a) (prefix b))
MakeUp (NoneChosen s r) t p = (t ≡ either (tree s) (tree r)) × (p ≡ none_chosen)
MakeUp (FirstChosen a r) t p = (t ≡ either (type a) (tree r)) × (p ≡ first_chosen (prefix a))
MakeUp (SecondChosen a s) t p = (t ≡ either (tree s) (type a)) × (p ≡ second_chosen (prefix a))
