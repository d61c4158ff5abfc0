-- Feeding then: on a sequence, its first node alone while the first part is coming (`FeedingComing`), both nodes at the crossing. What
-- the nodes answer together at the crossing is what then answers.
use Rattle.std.specs.Prelude.{None, Option, ◌≡◌, refl, List, ℕ}
use Rattle.std.proofs.Common.{ap, arith}
use Rattle.stream.specs.Types.{Ty, seq, kind, Small}
use Rattle.stream.specs.Prefixes.{Prefix, crossed, IsPrefix, of_first, of_crossed}
use Rattle.reading.specs.declared.types.TypeView.{TypeView}
use Rattle.reading.specs.declared.inputs.Input.{Input}
use Rattle.reading.specs.declared.inputs.Parts.{Parts}
use Rattle.reading.specs.declared.inputs.Parts.TheVariants.{Leaf, Coming, Crossed as Crossing, Beside, NoneChosen, FirstChosen, SecondChosen}
use Rattle.reading.specs.InputViews.{MakeUp}
use Rattle.node.specs.Nodes.{Node, then, Takes, takes_then}
use Rattle.node.specs.Nodes.Kinds.{node_kind}
use Rattle.node.specs.Checking.{WellTyped}
use Rattle.node.specs.Feeding.Functions.{sends, leaves}
use Rattle.patch_reading.specs.Fronts.{first_node, second_node}
use Rattle.patch_reading.specs.PatchReads.{node_width}
use Rattle.patch_reading.proofs.NodeParts.{made_of}
use Rattle.leaf_feeding.specs.declared.Step.{Step}
use Rattle.leaf_feeding.specs.Steps.{NodeAnswers, Rooms, failed}
use Rattle.leaf_feeding.specs.Steps.Laws.{answers_as}
use Rattle.feeding.specs.declared.Pair.TheVariants.{Crossed}
use Rattle.feeding.specs.Feeds.{PairTyped, PairAnswers}
use Rattle.feeding.proofs.Typings.{then_parts, then_whole}

-- What both nodes send at the crossing, and what is left.
module _ {s t r : Ty} {n l m : Node} {p b q : Prefix} (node : n ≡ then l m) (type : s ≡ seq t r) (prefix : p ≡ crossed b q) where
  pub crossed_sends : crossed (sends t l b) (sends r m q) ≡ sends s n p
  unfolding sends
  crossed_sends = rw (node, type, prefix) refl

  pub crossed_leaves : leaves r m q ≡ leaves s n p
  unfolding leaves
  crossed_leaves = rw (node, type, prefix) refl

module _ (n : Node) (nine : node_kind n ≡ 9) where
  abbrev made : n ≡ then (first_node n) (second_node n)
  made = made_of n nine

  -- The same typings under the name that the node has.

  pub whole_typed : {s r t : Ty} → PairTyped Crossed s r (first_node n) (second_node n) t → Small t → WellTyped (seq s r) n t
  whole_typed typed small = rw made (then_whole typed small)

  pub parts_typed : {s r t : Ty} → WellTyped (seq s r) n t → PairTyped Crossed s r (first_node n) (second_node n) t
  parts_typed typed = then_parts (rw made at typed)

  -- What both nodes answer at the crossing.
  pub crossed_answers : {s r : Ty} (p q : Prefix) {out remainder given out_after remainder_after given_after : List ℕ} {answer : Option Step}
      → Rooms out given → PairAnswers Crossed n s r p q out remainder given out_after remainder_after given_after answer
      → NodeAnswers (node_width n) (seq s r) n (crossed p q) out remainder given out_after remainder_after given_after answer
  crossed_answers {s} {r} p q rooms answers =
      answers_as (crossed_sends {t = s} {r = r} {b = p} {q = q} made refl refl) (crossed_leaves {t = s} {r = r} {b = p} {q = q} made refl refl)
      (λ t typed room. whole_typed typed (omega (arith, room, rooms.for_type)))
      (λ t typed. parts_typed typed) answers

-- On another type it fails: an input of a sequence is cut in one of these two ways.

no_order : {parts : Parts} {s r : Ty} {p : Prefix} → MakeUp parts (seq s r) p → IsPrefix (seq s r) p
    → ((a : Input) (b : TypeView) → parts ≡ Coming a b → ⊥) → ((a b : Input) → parts ≡ Crossing a b → ⊥) → ⊥
no_order {parts = Leaf} cut (of_first h) coming crossing = omega arith
no_order {parts = Leaf} cut (of_crossed h c k) coming crossing = omega arith
no_order {parts = Coming a b} cut h coming crossing = coming a b refl
no_order {parts = Crossing a b} cut h coming crossing = crossing a b refl
no_order {parts = Beside a b} cut h coming crossing = omega (arith, ap kind cut.0)
no_order {parts = NoneChosen a b} cut h coming crossing = omega (arith, ap kind cut.0)
no_order {parts = FirstChosen a b} cut h coming crossing = omega (arith, ap kind cut.0)
no_order {parts = SecondChosen a b} cut h coming crossing = omega (arith, ap kind cut.0)

no_shape : {parts : Parts} {s t : Ty} {p : Prefix} {l m : Node} → MakeUp parts s p → IsPrefix s p
    → ((a : Input) (b : TypeView) → parts ≡ Coming a b → ⊥) → ((a b : Input) → parts ≡ Crossing a b → ⊥) → Takes s (then l m) t → ⊥
no_shape cut h coming crossing (takes_then d e) = no_order cut h coming crossing

pub no_sequence : (n : Node) → node_kind n ≡ 9 → {parts : Parts} {s : Ty} {p : Prefix} → MakeUp parts s p → IsPrefix s p
    → ((a : Input) (b : TypeView) → parts ≡ Coming a b → ⊥) → ((a b : Input) → parts ≡ Crossing a b → ⊥)
    → {out remainder given out_after remainder_after given_after : List ℕ}
    → NodeAnswers (node_width n) s n p out remainder given out_after remainder_after given_after None
no_sequence n nine cut h coming crossing = failed (λ t typed room. no_shape cut h coming crossing (rw (made n nine) at typed.types))
