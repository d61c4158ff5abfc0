-- `give_regrouped_right` meets its contract: the pieces of (s, t), r make s, (t, r) in their order.
use Rattle.typing.proofs.Regrouping.{right_given}
use Rattle.typing.proofs.give_regrouped_right.Goals as goal

pub returns : goal.returns
returns c =
    let nested = rw c.in_ok-s.ensures.ok_part at c.nested_in_first.ensures in
    right_given c.in_ok-s.s c.in_ok-s.t c.in_ok-s.r c.args.ty nested c.write_right.ensures
