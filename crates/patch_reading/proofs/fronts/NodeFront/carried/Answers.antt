-- The carried type stands behind the kind byte, up to where it ends.
use Rattle.std.proofs.Common.{arith}
use Rattle.stream.proofs.TypeFiles.Held.{has_tree, is_whole, is_small}
use Rattle.patch_reading.proofs.NodeFronts.{some_type, type_inside, type_held}
use Rattle.patch_reading.proofs.fronts.NodeFront.carried.Goals as goal

pub skip_type-end-requires : goal.skip_type-end-requires
skip_type-end-requires c = some_type c.args.self c.requires

pub slice_bounds-result-count : goal.slice_bounds-result-count
slice_bounds-result-count c = omega (arith, type_inside c.args.self c.requires c.skip_type-end.ensures)

pub slice_bounds-result-start : goal.slice_bounds-result-start
slice_bounds-result-start c = omega (arith, type_inside c.args.self c.requires c.skip_type-end.ensures)

pub slice_bounds-result-end : goal.slice_bounds-result-end
slice_bounds-result-end c = omega (arith, type_inside c.args.self c.requires c.skip_type-end.ensures)

pub invariant_of-result : goal.invariant_of-result
invariant_of-result c =
    let h = type_held c.args.self c.requires c.skip_type-end.ensures in
    record { whole = is_whole h; small = is_small h }

pub returns : goal.returns
returns c = has_tree (type_held c.args.self c.requires c.skip_type-end.ensures)
