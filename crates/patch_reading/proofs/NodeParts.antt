-- What a node is made of, by its kind: its bytes, how many they are, and how many nodes it is.
use Rattle.std.specs.Prelude.{◌⊎◌, ◌≡◌, refl, List, [], ◌∷◌, ℕ, suc, ◌+◌, length, get_or}
use Rattle.std.proofs.Common.{inl, inr, ap, ◌∙◌, arith}
use Rattle.stream.specs.Types.{size, Small}
use Rattle.stream.specs.Levels.{value_width, value_bytes}
use Rattle.stream.specs.TypeFiles.{type_bytes}
use Rattle.stream.proofs.Levels.Laws.{value_length}
use Rattle.stream.proofs.TypeFiles.Laws.{type_length}
use Rattle.node.specs.Nodes.{Node, pass, silent, emit_cue, emit_level, both, left_side, right_side, first, second, then, chain, regroup_right, regroup_left, spread, front, choose, mark_first, mark_second, count}
use Rattle.node.specs.Nodes.Functions.{Carries}
use Rattle.node.specs.Nodes.Kinds.{node_kind, node_arity, bare, a_type, node_contents, node_parts, node_parts_many, counts, count_by_parts}
use Rattle.node.specs.PatchFiles.{node_bytes}
use Rattle.patch_reading.specs.Fronts.{first_node, second_node, carried_type, carried_value}
use Rattle.patch_reading.specs.PatchReads.{node_width}
use Rattle.patch_reading.specs.PatchReads.Laws.{node_bytes_length}

-- The node of each kind, by the parts and the contents of another. A node is that of its kind by its own.
abbrev pub nodes_by_kind : Node → List Node
nodes_by_kind n =
    pass ∷ silent (carried_type n) ∷ emit_cue ∷ emit_level (carried_value n) ∷ both (first_node n) (second_node n)
    ∷ left_side ∷ right_side ∷ first ∷ second ∷ then (first_node n) (second_node n) ∷ chain (first_node n) (second_node n)
    ∷ regroup_right ∷ regroup_left ∷ spread ∷ front ∷ choose (first_node n) (second_node n)
    ∷ mark_first (carried_type n) ∷ mark_second (carried_type n) ∷ []

made_of_own : (n : Node) → n ≡ get_or (nodes_by_kind n) (node_kind n) pass
made_of_own pass = refl
made_of_own (silent n) = refl
made_of_own emit_cue = refl
made_of_own (emit_level v) = refl
made_of_own (both n m) = refl
made_of_own left_side = refl
made_of_own right_side = refl
made_of_own first = refl
made_of_own second = refl
made_of_own (then n m) = refl
made_of_own (chain n m) = refl
made_of_own regroup_right = refl
made_of_own regroup_left = refl
made_of_own spread = refl
made_of_own front = refl
made_of_own (choose n m) = refl
made_of_own (mark_first t) = refl
made_of_own (mark_second t) = refl

-- At a numeral k this computes: `made_of n e : n ≡ both (first_node n) (second_node n)` for e : node_kind n ≡ 4.
pub made_of : {k : ℕ} (n : Node) → node_kind n ≡ k → n ≡ get_or (nodes_by_kind n) k pass
made_of n e = rw e at (made_of_own n)

-- A node with two parts.
pub record Forked (n : Node) : Type 0 where
  pub bytes : (r : List ℕ) → node_bytes n r ≡ node_kind n ∷ node_bytes (first_node n) (node_bytes (second_node n) r)
  pub carries : Carries n → Carries (first_node n) × Carries (second_node n)
  pub count : count n ≡ suc (count (first_node n) + count (second_node n))

pub forked : (n : Node) → node_arity (node_kind n) ≡ 2 → Forked n
unfolding node_bytes count
forked pass two = absurd (omega arith)
forked (silent n) two = absurd (omega arith)
forked emit_cue two = absurd (omega arith)
forked (emit_level v) two = absurd (omega arith)
forked (both n m) two = record { bytes = λ r. refl; carries = λ f. f; count = refl }
forked left_side two = absurd (omega arith)
forked right_side two = absurd (omega arith)
forked first two = absurd (omega arith)
forked second two = absurd (omega arith)
forked (then n m) two = record { bytes = λ r. refl; carries = λ f. f; count = refl }
forked (chain n m) two = record { bytes = λ r. refl; carries = λ f. f; count = refl }
forked regroup_right two = absurd (omega arith)
forked regroup_left two = absurd (omega arith)
forked spread two = absurd (omega arith)
forked front two = absurd (omega arith)
forked (choose n m) two = record { bytes = λ r. refl; carries = λ f. f; count = refl }
forked (mark_first t) two = absurd (omega arith)
forked (mark_second t) two = absurd (omega arith)

-- A node that carries a type.
pub record Carrying (n : Node) : Type 0 where
  pub bytes : (r : List ℕ) → node_bytes n r ≡ node_kind n ∷ type_bytes (carried_type n) r
  pub small : Carries n → Small (carried_type n)

pub carrying : (n : Node) → node_contents (node_kind n) ≡ a_type → Carrying n
unfolding node_bytes
carrying pass typed = absurd cc
carrying (silent n) typed = record { bytes = λ r. refl; small = λ f. f }
carrying emit_cue typed = absurd cc
carrying (emit_level v) typed = absurd cc
carrying (both n m) typed = absurd cc
carrying left_side typed = absurd cc
carrying right_side typed = absurd cc
carrying first typed = absurd cc
carrying second typed = absurd cc
carrying (then n m) typed = absurd cc
carrying (chain n m) typed = absurd cc
carrying regroup_right typed = absurd cc
carrying regroup_left typed = absurd cc
carrying spread typed = absurd cc
carrying front typed = absurd cc
carrying (choose n m) typed = absurd cc
carrying (mark_first t) typed = record { bytes = λ r. refl; small = λ f. f }
carrying (mark_second t) typed = record { bytes = λ r. refl; small = λ f. f }

pub silent_has_type : {k : ℕ} → k ≡ 1 → node_contents k ≡ a_type
silent_has_type is = ap node_contents is

pub marks_have_type : {k : ℕ} → (k ≡ 16) ⊎ (k ≡ 17) → node_contents k ≡ a_type
marks_have_type (inl is) = ap node_contents is
marks_have_type (inr is) = ap node_contents is

-- Level, and its value.
pub value_is : (n : Node) → node_kind n ≡ 3 → (r : List ℕ) → node_bytes n r ≡ 3 ∷ value_bytes (carried_value n) r
unfolding node_bytes
value_is n level r = ap (λ m. node_bytes m r) (made_of n level)

-- A node that is its kind byte alone.
pub alone : (n : Node) → node_contents (node_kind n) ≡ bare → node_arity (node_kind n) ≡ 0 → (r : List ℕ) → node_bytes n r ≡ node_kind n ∷ r
unfolding node_bytes
alone pass plain none r = refl
alone (silent n) plain none r = absurd cc
alone emit_cue plain none r = refl
alone (emit_level v) plain none r = absurd cc
alone (both n m) plain none r = absurd (omega arith)
alone left_side plain none r = refl
alone right_side plain none r = refl
alone first plain none r = refl
alone second plain none r = refl
alone (then n m) plain none r = absurd (omega arith)
alone (chain n m) plain none r = absurd (omega arith)
alone regroup_right plain none r = refl
alone regroup_left plain none r = refl
alone spread plain none r = refl
alone front plain none r = refl
alone (choose n m) plain none r = absurd (omega arith)
alone (mark_first t) plain none r = absurd cc
alone (mark_second t) plain none r = absurd cc

-- How many bytes

pub fork_width : (n : Node) → node_arity (node_kind n) ≡ 2 → node_width n ≡ suc (node_width (first_node n) + node_width (second_node n))
fork_width n two = omega (arith, ap length ((forked n two).bytes []), node_bytes_length (first_node n) (node_bytes (second_node n) []))

pub carried_width : (n : Node) → node_contents (node_kind n) ≡ a_type → node_width n ≡ 1 + size (carried_type n)
carried_width n typed = omega (arith, ap length ((carrying n typed).bytes []), type_length (carried_type n) [])

pub value_node_width : (n : Node) → node_kind n ≡ 3 → node_width n ≡ 1 + value_width
value_node_width n level = omega (arith, ap length (value_is n level []), value_length (carried_value n) [])

pub alone_width : (n : Node) → node_contents (node_kind n) ≡ bare → node_arity (node_kind n) ≡ 0 → node_width n ≡ 1
alone_width n plain none = omega (arith, ap length (alone n plain none []))

-- How many nodes

pub fork_count : (n : Node) → node_arity (node_kind n) ≡ 2 → count n ≡ suc (count (first_node n) + count (second_node n))
fork_count n two = (forked n two).count

pub leaf_count : (n : Node) → node_arity (node_kind n) ≡ 0 → count n ≡ 1
leaf_count n none = go (node_parts n) (node_parts_many n ∙ none) (count_by_parts n)
  where
    go : (parts : List Node) → length parts ≡ 0 → count n ≡ suc (counts parts) → count n ≡ 1
    go [] h e = e
    go (m ∷ parts) h e = absurd (omega arith)
