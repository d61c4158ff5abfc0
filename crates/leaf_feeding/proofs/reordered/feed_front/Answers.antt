-- `feed_front` meets its contract: where the type that it gives has room, what it sends has (`TypedFirst`).
use Rattle.node.specs.Nodes.{front}
use Rattle.leaf_feeding.proofs.TypedFirst.{given_failed, given_due, given_fed}
use Rattle.leaf_feeding.proofs.reordered.feed_front.Goals as goal

pub send_in_front-sent-requires : goal.send_in_front-sent-requires
send_in_front-sent-requires c = given_due front tt c.args.input c.requires c.give_front.ensures c.in_ok-size.ensures

pub returns-in_err-size : goal.returns-in_err-size
returns-in_err-size c =
    rw c.from_residual.ensures (given_failed front tt c.args.input c.requires c.give_front.ensures c.in_err-size.ensures)

pub returns : goal.returns
returns c = given_fed front tt c.args.input c.requires c.give_front.ensures c.in_ok-size.ensures c.send_in_front-sent.ensures
