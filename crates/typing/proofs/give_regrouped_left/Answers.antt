-- `give_regrouped_left` meets its contract: the pieces of s, (t, r) make (s, t), r behind both kinds.
use Rattle.typing.proofs.Regrouping.{left_given}
use Rattle.typing.proofs.give_regrouped_left.Goals as goal

pub returns : goal.returns
returns c =
    let nested = rw c.in_ok-s.ensures.ok_part at c.nested_in_second.ensures in
    left_given c.in_ok-s.s c.in_ok-s.t c.in_ok-s.r c.args.ty nested c.write_left.ensures
