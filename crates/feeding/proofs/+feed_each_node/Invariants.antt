-- The number of nodes, three times, and two more at `feed_node` and one at `feed_both`, `feed_choose` and `feed_then`, which hand their own
-- node on.
use Rattle.std.proofs.Common.{◌+◌, ◌*◌}
use Rattle.node.specs.Nodes.{count}
use Rattle.patch_reading.specs.Fronts.{node}
use Rattle.feeding.proofs.+feed_each_node.Given as goal

abbrev pub decreases-feed_both : goal.decreases-feed_both
decreases-feed_both l = 3 * count (node l.front) + 1

abbrev pub decreases-feed_chain : goal.decreases-feed_chain
decreases-feed_chain l = 3 * count (node l.front)

abbrev pub decreases-feed_choose : goal.decreases-feed_choose
decreases-feed_choose l = 3 * count (node l.front) + 1

abbrev pub decreases-feed_coming : goal.decreases-feed_coming
decreases-feed_coming l = 3 * count (node l.front)

abbrev pub decreases-feed_first_chosen : goal.decreases-feed_first_chosen
decreases-feed_first_chosen l = 3 * count (node l.front)

abbrev pub decreases-feed_node : goal.decreases-feed_node
decreases-feed_node l = 3 * count (node l.front) + 2

abbrev pub decreases-feed_parts : goal.decreases-feed_parts
decreases-feed_parts l = 3 * count (node l.front)

abbrev pub decreases-feed_second_chosen : goal.decreases-feed_second_chosen
decreases-feed_second_chosen l = 3 * count (node l.front)

abbrev pub decreases-feed_then : goal.decreases-feed_then
decreases-feed_then l = 3 * count (node l.front) + 1
