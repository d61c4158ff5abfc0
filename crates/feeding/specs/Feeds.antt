-- What one feed of a node promises and asks: contracts inside the library, which no demand rests on.
use Rattle.std.specs.Prelude.{Option, ◌≡◌, List, ℕ, ◌+◌, ◌*◌, ◌≤◌, length}
use Rattle.stream.specs.Types.{Ty, seq, par}
use Rattle.stream.specs.Prefixes.{Prefix, crossed, beside}
use Rattle.stream.specs.Bounds.{twice_node_bytes}
use Rattle.node.specs.Nodes.{Node, both, count, Few}
use Rattle.node.specs.Nodes.Kinds.{node_kind}
use Rattle.node.specs.Checking.{WellTyped}
use Rattle.node.specs.Feeding.Functions.{sends, leaves}
use Rattle.patch_reading.specs.Fronts.{first_node, second_node}
use Rattle.patch_reading.specs.PatchReads.{node_width}
use Rattle.leaf_feeding.specs.Steps.{Answers, Rooms}
use Rattle.leaf_feeding.specs.declared.Step.{Step}
use Rattle.feeding.specs.declared.Pair.{Pair}
use Rattle.feeding.specs.declared.Pair.TheVariants.{Beside, Crossed}

-- Room for every node that is left on the way, and for what is sent and given; the node is within the limit.
pub record NodeRooms (n : Node) (out remainder given : List ℕ) : Type 0 where
  pub few : Few n
  pub rooms : Rooms out given
  pub left_room : twice_node_bytes (count n) ≤ 2 * length remainder

-- Two nodes one behind the other are fed in turn, side by side or at a crossing: what they send, leave and give together. After a crossing
-- the second node's remainder is left alone.

abbrev pub sent_kind : Pair → ℕ
sent_kind pair = elim pair [ Beside ↦ 7 | Crossed ↦ 6 ]

abbrev pub given_kind : Pair → ℕ
given_kind pair = elim pair [ Beside ↦ 4 | Crossed ↦ 3 ]

abbrev pub kept_before : Pair → ℕ → ℕ
kept_before pair kept = elim pair [ Beside ↦ 1 + kept | Crossed ↦ 0 ]

abbrev pub pair_sent : Pair → Prefix → Prefix → Prefix
pair_sent pair o u = elim pair [ Beside ↦ beside o u | Crossed ↦ crossed o u ]

abbrev pub pair_left : Pair → Node → Node → Node
pair_left pair n m = elim pair [ Beside ↦ both n m | Crossed ↦ m ]

abbrev pub pair_given : Pair → Ty → Ty → Ty
pair_given pair t r = elim pair [ Beside ↦ par t r | Crossed ↦ seq t r ]

pub record PairTyped (pair : Pair) (s r : Ty) (n m : Node) (t : Ty) : Type 0 where
  pub first : Ty
  pub second : Ty
  pub first_typed : WellTyped s n first
  pub second_typed : WellTyped r m second
  pub made : t ≡ pair_given pair first second

-- The kind of a node whose parts are fed in turn.
abbrev pub IsPair : Pair → Node → Type 0
IsPair pair n = elim pair [ Beside ↦ node_kind n ≡ 4 | Crossed ↦ node_kind n ≡ 9 ]

-- What the parts of n come to, the first on s and fed p, the second on r and fed q.
abbrev pub PairAnswers : (pair : Pair) (n : Node) (s r : Ty) (p q : Prefix) (out remainder given out_after remainder_after given_after : List ℕ) → Option Step → Type 0
PairAnswers pair n s r p q =
    Answers (PairTyped pair s r (first_node n) (second_node n)) (node_width n)
    (pair_sent pair (sends s (first_node n) p) (sends r (second_node n) q))
    (pair_left pair (leaves s (first_node n) p) (leaves r (second_node n) q))
