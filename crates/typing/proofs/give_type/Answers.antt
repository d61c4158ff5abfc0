-- `give_type` meets its contract: the view's bytes are those of its type.
use Rattle.typing.proofs.Giving.{view_given}
use Rattle.typing.proofs.give_type.Goals as goal

pub returns : goal.returns
returns c = view_given c.args.ty c.append.ensures
