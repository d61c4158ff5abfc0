-- After `count` roots, behind the node stands what stands behind the `owed` nodes that start at `at` (`Walked`).
use Rattle.std.proofs.Common.{◌-◌}
use Rattle.stream.specs.declared.Fault.TheVariants.{TooManyNodes}
use Rattle.reading.specs.Sections.Walking.{Walked}
use Rattle.node.specs.Nodes.{node_limit}
use Rattle.node.specs.PatchFiles.{node_root}
use Rattle.patch_reading.proofs.nodes.node_end.Given as goal

abbrev pub invariant-loop-owed : goal.invariant-loop-owed
invariant-loop-owed l = Walked TooManyNodes node_root node_limit l.bytes l.owed l.count l.at

abbrev pub decreases-loop-owed : goal.decreases-loop-owed
decreases-loop-owed l = node_limit - l.count
