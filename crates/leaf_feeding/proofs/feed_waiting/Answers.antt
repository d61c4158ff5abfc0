-- `feed_waiting` meets its contract: it copies the type as it is, once there is room for it, and then there is for its empty prefix.
use Rattle.std.proofs.Common.{arith}
use Rattle.leaf_feeding.proofs.Handing.{no_room}
use Rattle.leaf_feeding.proofs.SecondWaits.{empty_room, waited}
use Rattle.leaf_feeding.proofs.feed_waiting.Goals as goal

pub returns-then-given-size : goal.returns-then-given-size
returns-then-given-size c = no_room c.args.ty (omega arith)

pub write_empty-sent-requires : goal.write_empty-sent-requires
write_empty-sent-requires c = rw c.of.ensures (empty_room c.args.ty c.requires (omega arith))

pub returns : goal.returns
returns c =
    waited c.args.ty c.requires (omega arith) c.size-size.ensures c.copy.ensures (rw c.of.ensures at c.write_empty-sent.ensures.width)
    (rw c.of.ensures at c.write_empty-sent.ensures.buffer)
