-- `send_on` meets its contract: fewer than 16 bytes of nodes leave at most 2,055 bytes, and the nodes of every patch at most 8,223
-- (`FeedOutcome`).
use Rattle.std.proofs.Common.{arith}
use Rattle.wosthile.proofs.FeedOutcome.{few_room, nodes_room}
use Rattle.wosthile.proofs.send_on.Goals as goal

pub send_with-requires : goal.send_with-requires
send_with-requires c = record { room_for_nodes = few_room c.args.read c.if-read-lt16.true; countable = omega arith }

pub send_with-requires-2 : goal.send_with-requires-2
send_with-requires-2 c = record { room_for_nodes = nodes_room c.args.read; countable = omega arith }
