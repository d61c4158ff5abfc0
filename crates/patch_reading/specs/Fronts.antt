-- What a clause says of a front: its node, and what that is made of.
use Rattle.std.specs.Prelude.{ℕ, get_or}
use Rattle.stream.specs.Types.{Ty, empty}
use Rattle.node.specs.Nodes.{Node, pass, silent, emit_level, mark_first, mark_second}
use Rattle.node.specs.Nodes.Kinds.{node_parts}
use Rattle.patch_reading.specs.declared.fronts.NodeFront.{NodeFront}
use Rattle.patch_reading.specs.Found.{node_of}

abbrev pub node : NodeFront → Node
node v = node_of v.bytes.now

-- The parts, what a node of the kinds 1, 16 and 17 carries, and what one of the kind 3 does. What stands here of other kinds no rule uses.

abbrev pub first_node : Node → Node
first_node n = get_or (node_parts n) 0 pass

abbrev pub second_node : Node → Node
second_node n = get_or (node_parts n) 1 pass

abbrev pub carried_type : Node → Ty
carried_type (silent t) = t
carried_type (mark_first t) = t
carried_type (mark_second t) = t
carried_type n = empty

abbrev pub carried_value : Node → ℕ
carried_value (emit_level v) = v
carried_value n = 0
