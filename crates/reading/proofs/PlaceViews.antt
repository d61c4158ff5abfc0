-- A view's bytes hold its tree from the first to the last.
use Rattle.std.specs.Prelude.{[], List, ℕ, length}
use Rattle.std.proofs.Common.{arith, sym}
use Rattle.reading.specs.Places.{TypePlace}
use Rattle.reading.specs.declared.inputs.Input.{Input}
use Rattle.reading.specs.declared.types.TypeView.{TypeView}
use Rattle.reading.specs.TypeReads.{TypeIn}
use Rattle.reading.specs.Inputs.{InputAt}
use Rattle.reading.specs.InputViews.{type, prefix, all}
use Rattle.reading.specs.Views.{tree}
use Rattle.reading.proofs.TypeViews.{size_is}
use Rattle.reading.proofs.InputViews.{is_prefix, prefix_in}

-- All of a view's bytes, as a place in them.
abbrev pub all_of : List ℕ → TypePlace
all_of bytes = record { start = 0; end = length bytes }

pub view_in : (v : TypeView) → TypeIn v.bytes.now (all_of v.bytes.now) (tree v)
view_in v = record { stands = record { rest = []; here = sym v.whole; small = v.small }; ends = omega (arith, size_is v) }

pub view_input_at : (i : Input) → InputAt i.ty.bytes.now i.slice.now (record { ty = all_of i.ty.bytes.now; prefix = all i }) (type i) (prefix i)
view_input_at i = record { type_in = view_in i.ty; prefix_in = prefix_in i; is_prefix = is_prefix i }
