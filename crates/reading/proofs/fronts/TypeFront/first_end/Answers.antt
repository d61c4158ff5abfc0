-- The first part stands behind the kind byte.
use Rattle.reading.proofs.TypeFronts.{some_first, first_ends}
use Rattle.reading.proofs.fronts.TypeFront.first_end.Goals as goal

pub skip_type-requires : goal.skip_type-requires
skip_type-requires c = some_first c.args.self c.requires

pub returns : goal.returns
returns c = first_ends c.args.self c.requires c.skip_type.ensures
