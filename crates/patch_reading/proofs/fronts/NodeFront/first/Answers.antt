-- The first part stands behind the kind byte.
use Rattle.patch_reading.proofs.NodeFronts.{at_front, first_at, has_node, is_front}
use Rattle.patch_reading.proofs.fronts.NodeFront.first.Goals as goal

pub invariant_of-result : goal.invariant_of-result
invariant_of-result c = record { front = is_front (at_front (first_at c.args.self c.requires)) }

pub returns : goal.returns
returns c = has_node (at_front (first_at c.args.self c.requires))
