-- The type stands at the front, up to where it ends.
use Rattle.std.proofs.Common.{arith}
use Rattle.stream.proofs.TypeFiles.Held.{has_tree, is_whole, is_small}
use Rattle.reading.proofs.TypeFronts.{some_at, sized, whole_inside, whole_held}
use Rattle.reading.proofs.fronts.TypeFront.split.Goals as goal

pub skip_type-requires : goal.skip_type-requires
skip_type-requires c = some_at c.args.self

pub split_at-requires : goal.split_at-requires
split_at-requires c = omega (arith, whole_inside c.args.self, sized c.args.self c.skip_type.ensures)

pub invariant_of-result : goal.invariant_of-result
invariant_of-result c =
    let h = rw (← c.split_at.ensures.front) at (whole_held c.args.self (sized c.args.self c.skip_type.ensures)) in
    record { whole = is_whole h; small = is_small h }

pub returns-clause-whole : goal.returns-clause-whole
returns-clause-whole c = has_tree (rw (← c.split_at.ensures.front) at (whole_held c.args.self (sized c.args.self c.skip_type.ensures)))
