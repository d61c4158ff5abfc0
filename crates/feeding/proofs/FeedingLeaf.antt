-- A node without parts is fed by its kind: there is room for what it does, and what it answers is what the node does.
use Rattle.std.specs.Prelude.{Option, ◌≡◌, List, ℕ, zero, suc, ◌≤◌, ◌<◌}
use Rattle.std.proofs.Common.{arith}
use Rattle.stream.specs.Types.{Ty}
use Rattle.stream.proofs.Types.Laws.{limit_is}
use Rattle.stream.specs.Prefixes.{Prefix}
use Rattle.node.specs.Nodes.{Node}
use Rattle.node.specs.Nodes.Kinds.{node_kind, count_by_parts, kind_is_listed}
use Rattle.patch_reading.specs.PatchReads.{node_width}
use Rattle.leaf_feeding.specs.declared.Step.{Step}
use Rattle.leaf_feeding.specs.Steps.{LeafRooms, NodeAnswers}
use Rattle.feeding.specs.Feeds.{NodeRooms}

pub leaf_rooms : {n : Node} {out remainder given : List ℕ} → NodeRooms n out remainder given → LeafRooms out remainder given
leaf_rooms {n} rooms = record { rooms = rooms.rooms; left_room = omega (arith, rooms.left_room, count_by_parts n, limit_is) }

pub leaf_fed : {n m : Node} → n ≡ m → {s : Ty} (p : Prefix) {out remainder given out_after remainder_after given_after : List ℕ} {answer : Option Step}
    → NodeAnswers (node_width m) s m p out remainder given out_after remainder_after given_after answer
    → NodeAnswers (node_width n) s n p out remainder given out_after remainder_after given_after answer
leaf_fed is p answers = rw is answers

-- A number below n is one of those below n.

abbrev pub Outside : ℕ → ℕ → Type 0
Outside zero k = Unit
Outside (suc n) k = Outside n k × (k ≡ n → ⊥)

not_outside : (n k : ℕ) → k < n → Outside n k → ⊥
not_outside zero k below others = omega arith
not_outside (suc n) k below (others, last) = not_outside n k (omega arith) others

-- No other kind is listed.
pub other_fed : {n : Node} → Outside 18 (node_kind n)
    → {end : ℕ} {s : Ty} (p : Prefix) {out remainder given out_after remainder_after given_after : List ℕ} {answer : Option Step}
    → NodeAnswers end s n p out remainder given out_after remainder_after given_after answer
other_fed {n} others p = absurd (not_outside 18 (node_kind n) (kind_is_listed n) others)

-- A byte above 17 is none of those.
pub above_listed : (n : ℕ) {k : ℕ} → n ≤ k → Outside n k
above_listed zero above = tt
above_listed (suc n) above = (above_listed n (omega arith), λ is. omega (arith, is))
