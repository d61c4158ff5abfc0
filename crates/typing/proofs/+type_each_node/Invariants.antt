-- The node gets smaller, and type_node hands on the same one to the others.
use Rattle.std.specs.Prelude.{◌+◌, ◌*◌}
use Rattle.patch_reading.specs.PatchReads.{node_width}
use Rattle.patch_reading.specs.Fronts.{node}
use Rattle.typing.proofs.+type_each_node.Given as goal

abbrev pub decreases-type_choose : goal.decreases-type_choose
decreases-type_choose l = 2 * node_width (node l.front)

abbrev pub decreases-type_node : goal.decreases-type_node
decreases-type_node l = 2 * node_width (node l.front) + 1

abbrev pub decreases-type_parts : goal.decreases-type_parts
decreases-type_parts l = 2 * node_width (node l.front)
