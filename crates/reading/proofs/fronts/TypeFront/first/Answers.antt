-- The first part stands behind the kind byte.
use Rattle.reading.proofs.TypeFronts.{at_front, first_at, has_type, begins, is_small}
use Rattle.reading.proofs.fronts.TypeFront.first.Goals as goal

pub invariant_of-result : goal.invariant_of-result
invariant_of-result c =
    let there = at_front (first_at c.args.self c.requires) in
    record { begins = begins there; small = is_small there }

pub returns-clause-part : goal.returns-clause-part
returns-clause-part c = has_type (at_front (first_at c.args.self c.requires))
