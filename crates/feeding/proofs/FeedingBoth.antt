-- Feeding both: each of its nodes gets the whole input, and what they answer together is what both answers.
use Rattle.std.specs.Prelude.{Option, ◌≡◌, List, ℕ}
use Rattle.std.proofs.Common.{sym, ap, arith}
use Rattle.stream.specs.Types.{Ty}
use Rattle.stream.specs.Prefixes.{Prefix}
use Rattle.node.specs.Nodes.{Node, both}
use Rattle.node.specs.Nodes.Kinds.{node_kind}
use Rattle.node.specs.Feeding.Functions.{sends, leaves}
use Rattle.patch_reading.specs.Fronts.{first_node, second_node}
use Rattle.patch_reading.specs.PatchReads.{node_width}
use Rattle.patch_reading.proofs.NodeParts.{made_of}
use Rattle.leaf_feeding.specs.declared.Step.{Step}
use Rattle.leaf_feeding.specs.Steps.{NodeAnswers, Rooms}
use Rattle.leaf_feeding.specs.Steps.Laws.{answers_as}
use Rattle.feeding.specs.declared.Pair.TheVariants.{Beside}
use Rattle.feeding.specs.Feeds.{PairAnswers}
use Rattle.feeding.proofs.Typings.{both_parts, both_whole}

pub both_answers : (n : Node) → node_kind n ≡ 4 → {s : Ty} (p : Prefix) {out remainder given out_after remainder_after given_after : List ℕ} {answer : Option Step}
    → Rooms out given → PairAnswers Beside n s s p p out remainder given out_after remainder_after given_after answer
    → NodeAnswers (node_width n) s n p out remainder given out_after remainder_after given_after answer
unfolding sends leaves
both_answers n four {s} p rooms answers =
    let made : n ≡ both (first_node n) (second_node n) = made_of n four in
    answers_as (sym (ap (λ k. sends s k p) made)) (sym (ap (λ k. leaves s k p) made))
    (λ t typed room. rw made (both_whole typed (omega (arith, room, rooms.for_type))))
    (λ t typed. both_parts (rw made at typed)) answers
