-- `feed_regroup_left` meets its contract: where the type that it gives has room, what it sends has (`TypedFirst`).
use Rattle.node.specs.Nodes.{regroup_left}
use Rattle.leaf_feeding.proofs.TypedFirst.{given_failed, given_due, given_fed}
use Rattle.leaf_feeding.proofs.reordered.feed_regroup_left.Goals as goal

pub send_regrouped_left-sent-requires : goal.send_regrouped_left-sent-requires
send_regrouped_left-sent-requires c = given_due regroup_left tt c.args.input c.requires c.give_regrouped_left.ensures c.in_ok-size.ensures

pub returns-in_err-size : goal.returns-in_err-size
returns-in_err-size c =
    rw c.from_residual.ensures (given_failed regroup_left tt c.args.input c.requires c.give_regrouped_left.ensures c.in_err-size.ensures)

pub returns : goal.returns
returns c = given_fed regroup_left tt c.args.input c.requires c.give_regrouped_left.ensures c.in_ok-size.ensures c.send_regrouped_left-sent.ensures
