-- `feed_spread` meets its contract: where the type that it gives has room, what it sends has (`TypedFirst`).
use Rattle.node.specs.Nodes.{spread}
use Rattle.leaf_feeding.proofs.TypedFirst.{given_failed, given_due, given_fed}
use Rattle.leaf_feeding.proofs.reordered.feed_spread.Goals as goal

pub send_spread-sent-requires : goal.send_spread-sent-requires
send_spread-sent-requires c = given_due spread tt c.args.input c.requires c.give_spread.ensures c.in_ok-size.ensures

pub returns-in_err-size : goal.returns-in_err-size
returns-in_err-size c =
    rw c.from_residual.ensures (given_failed spread tt c.args.input c.requires c.give_spread.ensures c.in_err-size.ensures)

pub returns : goal.returns
returns c = given_fed spread tt c.args.input c.requires c.give_spread.ensures c.in_ok-size.ensures c.send_spread-sent.ensures
