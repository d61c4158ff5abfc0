-- The second part stands behind the first.
use Rattle.std.proofs.Common.{refl}
use Rattle.reading.proofs.TypeFronts.{second_behind, has_type, begins, is_small}
use Rattle.reading.proofs.fronts.TypeFront.second_from.Goals as goal

pub invariant_of-result : goal.invariant_of-result
invariant_of-result c =
    let there = second_behind c.args.self c.requires.fork refl c.requires.place in
    record { begins = begins there; small = is_small there }

pub returns : goal.returns
returns c =
    record { part = has_type (second_behind c.args.self c.requires.fork refl c.requires.place); place = refl }
