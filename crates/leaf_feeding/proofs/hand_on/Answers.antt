-- `hand_on` meets its contract: it copies both as they are, once there is room for the type, and then there is for the prefix.
use Rattle.std.proofs.Common.{arith}
use Rattle.reading.proofs.TypeViews.{size_is}
use Rattle.leaf_feeding.proofs.Handing.{no_room, handed_on}
use Rattle.leaf_feeding.proofs.hand_on.Goals as goal

pub returns-then-given-ty : goal.returns-then-given-ty
returns-then-given-ty c = λ n one. no_room c.args.input.ty (omega (arith, size_is c.args.input.ty))

pub returns : goal.returns
returns c = handed_on c.args.input c.requires (omega (arith, size_is c.args.input.ty)) c.copy.ensures c.copy-2.ensures
