-- The measure of a feed: a part of a node has fewer nodes than the node.
use Rattle.std.specs.Prelude.{◌≡◌, ◌<◌}
use Rattle.std.proofs.Common.{ap, arith}
use Rattle.node.specs.Nodes.{Node, count}
use Rattle.node.specs.Nodes.Kinds.{node_kind, node_arity}
use Rattle.patch_reading.specs.Fronts.{first_node, second_node}
use Rattle.patch_reading.proofs.NodeParts.{forked}

module _ (n : Node) (two : node_arity (node_kind n) ≡ 2) {m : Node} where
  pub first_fewer : m ≡ first_node n → count m < count n
  first_fewer is = omega (arith, (forked n two).count, ap count is)

  pub second_fewer : m ≡ second_node n → count m < count n
  second_fewer is = omega (arith, (forked n two).count, ap count is)
