-- The second part stands behind the first.
use Rattle.patch_reading.proofs.NodeFronts.{at_front, second_at, has_node, is_front}
use Rattle.patch_reading.proofs.fronts.NodeFront.second.Goals as goal

pub invariant_of-result : goal.invariant_of-result
invariant_of-result c = record { front = is_front (at_front (second_at c.args.self c.requires.fork c.requires.ends)) }

pub returns : goal.returns
returns c = has_node (at_front (second_at c.args.self c.requires.fork c.requires.ends))
