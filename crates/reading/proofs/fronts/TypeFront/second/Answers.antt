-- The second part stands behind the first.
use Rattle.reading.proofs.TypeFronts.{at_front, second_at, has_type, begins, is_small}
use Rattle.reading.proofs.fronts.TypeFront.second.Goals as goal

pub invariant_of-result : goal.invariant_of-result
invariant_of-result c =
    let there = at_front (second_at c.args.self c.requires.fork c.requires.ends) in
    record { begins = begins there; small = is_small there }

pub returns-clause-part : goal.returns-clause-part
returns-clause-part c = has_type (at_front (second_at c.args.self c.requires.fork c.requires.ends))
