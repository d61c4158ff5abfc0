-- What is asked and promised where a prefix is sent in another order: contracts inside the library, which no demand rests on.
use Rattle.std.specs.Prelude.{Option, Some, None, Ok, Result, ◌≡◌, List, [], ℕ, ◌≤◌, ◌<◌, length}
use Rattle.stream.specs.declared.Fault.{Fault}
use Rattle.stream.specs.Types.{Ty}
use Rattle.stream.specs.Prefixes.{Prefix}
use Rattle.stream.specs.SliceFiles.{prefix_bytes}
use Rattle.reading.specs.SliceReads.{prefix_width}
use Rattle.node.specs.Nodes.{Node, Takes}
use Rattle.node.specs.Feeding.Functions.{sends, leaves}
use Rattle.node.specs.PatchFiles.{node_bytes}
use Rattle.patch_reading.specs.PatchReads.{node_width}
use Rattle.leaf_feeding.specs.Steps.{Leads}

-- A type is given if it was and has room.
pub record FitsIn (typed : Result ℕ Fault) (room : ℕ) (answer : Option ℕ) : Type 0 where
  pub gives : (size : ℕ) → answer ≡ Some size → (typed ≡ Ok size) × (size ≤ room)
  pub fails : answer ≡ None → (size : ℕ) → typed ≡ Ok size → size ≤ room → ⊥

-- The node n, which takes the type t, is to be fed its prefix p, and there is room for what it sends and leaves.
pub record SendDue (t : Ty) (n : Node) (p : Prefix) (out remainder : List ℕ) : Type 0 where
  pub output_type : Ty
  pub types : Takes t n output_type
  pub output_room : prefix_width (sends t n p) ≤ length out
  pub left_room : 0 < length remainder

-- The prefix o is sent, and a node n of one byte is left.
pub record Delivers (o : Prefix) (n : Node) (out remainder out_after remainder_after : List ℕ) (sent : ℕ) : Type 0 where
  pub wide : sent ≡ prefix_width o
  pub output : Leads (prefix_bytes o []) out out_after
  pub one : node_width n ≡ 1
  pub node_left : Leads (node_bytes n []) remainder remainder_after

abbrev pub Sent : (t : Ty) (n : Node) (p : Prefix) (out remainder out_after remainder_after : List ℕ) (sent : ℕ) → Type 0
Sent t n p out remainder out_after remainder_after sent = Delivers (sends t n p) (leaves t n p) out remainder out_after remainder_after sent

-- The kind of the slice by which a node of the kind k marks a choice.
pub record MarkOf (k mark : ℕ) : Type 0 where
  pub first : k ≡ 16 → mark ≡ 9
  pub second : k ≡ 17 → mark ≡ 10
