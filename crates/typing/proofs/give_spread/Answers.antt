-- `give_spread` meets its contract: the pieces of s, (t beside r) make both sides, of which each has s.
use Rattle.typing.proofs.Regrouping.{spread_given}
use Rattle.typing.proofs.give_spread.Goals as goal

pub returns : goal.returns
returns c =
    let nested = rw c.in_ok-s.ensures.ok_part at c.nested_in_second.ensures in
    rw c.limit.ensures (spread_given c.in_ok-s.s c.in_ok-s.t c.in_ok-s.r c.args.ty nested c.write_spread.ensures)
