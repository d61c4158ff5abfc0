-- A type that is still to be passed begins at each byte that is.
use Rattle.std.proofs.Common.{arith}
use Rattle.reading.proofs.FirstPart.{starts}
use Rattle.reading.proofs.types.TypeView.first_end.Goals as goal

pub bounds-self-1 : goal.bounds-self-1
bounds-self-1 c = let p = starts c.args.self c.requires in omega arith
