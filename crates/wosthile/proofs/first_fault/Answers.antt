-- `first_fault` meets its contract: the second pass tells its first fault, or gives a type (`Typing.Laws`).
use Rattle.std.proofs.Common.{sym, ◌∙◌}
use Rattle.typing.specs.Typing.Laws.{is_given, is_refused}
use Rattle.wosthile.proofs.first_fault.Goals as goal

pub returns-in-Err : goal.returns-in-Err
returns-in-Err c = rw (is_refused _ _ (sym c.in-Err.is ∙ c.type_node.ensures.answers))

pub returns-in-Ok : goal.returns-in-Ok
returns-in-Ok c = rw (is_given _ _ (sym c.in-Ok.is ∙ c.type_node.ensures.answers)).given
