-- `feed_first` meets its contract: it takes sequences alone, and hands on the first part. After a crossing that is complete, and what it
-- leaves is written behind the kind byte of silent (`FirstSpent`).
use Rattle.std.proofs.Common.{refl, arith}
use Rattle.stream.proofs.Types.Laws.{limit_is}
use Rattle.node.specs.Nodes.{first, takes_first}
use Rattle.node.specs.Nodes.Functions.{output_type}
use Rattle.node.specs.Feeding.Functions.{sends, leaves}
use Rattle.node.specs.PatchFiles.{node_bytes}
use Rattle.reading.proofs.InputViews.{is_prefix}
use Rattle.leaf_feeding.specs.Steps.Laws.{answers_alone}
use Rattle.leaf_feeding.proofs.PartsFed.{first_fails}
use Rattle.leaf_feeding.proofs.FirstSpent.{first_failed, spent_due, spent_small, spent_answers}
use Rattle.leaf_feeding.proofs.feed_first.Goals as goal

pub returns-in-Coming : goal.returns-in-Coming
unfolding sends leaves output_type node_bytes
returns-in-Coming c =
    let made = c.in-Coming.ensures in
    answers_alone made.0 made.1 takes_first (λ small. small) c.requires.rooms refl refl (c.hand_on.ensures first refl)

pub write_spent-size-requires : goal.write_spent-size-requires
write_spent-size-requires c =
    spent_due c.in-Crossed.part c.in-Crossed.field-1 c.in-Crossed.ensures c.requires c.in_ok-step-in-Crossed.ensures refl

pub overflow_add-result : goal.overflow_add-result
overflow_add-result c =
    let due = spent_due c.in-Crossed.part c.in-Crossed.field-1 c.in-Crossed.ensures c.requires c.in_ok-step-in-Crossed.ensures refl in
    omega (
      arith,
      limit_is,
      spent_small c.in-Crossed.part c.in-Crossed.field-1 c.in-Crossed.ensures c.requires c.in_ok-step-in-Crossed.ensures refl (c.write_spent-size.ensures.each due).0,
    )

pub returns-in_err-step-in-Crossed : goal.returns-in_err-step-in-Crossed
returns-in_err-step-in-Crossed c =
    rw c.from_residual.ensures
    (first_failed c.in-Crossed.part c.in-Crossed.field-1 c.in-Crossed.ensures c.requires c.in_err-step-in-Crossed.ensures refl)

pub returns-in_ok-step-in-Crossed : goal.returns-in_ok-step-in-Crossed
returns-in_ok-step-in-Crossed c =
    let due = spent_due c.in-Crossed.part c.in-Crossed.field-1 c.in-Crossed.ensures c.requires c.in_ok-step-in-Crossed.ensures refl in
    spent_answers c.in-Crossed.part c.in-Crossed.field-1 c.in-Crossed.ensures c.requires c.in_ok-step-in-Crossed.ensures refl
    (c.write_spent-size.ensures.each due).0 (c.write_spent-size.ensures.each due).1

pub returns-in_default : goal.returns-in_default
returns-in_default c = first_fails c.parts.ensures (is_prefix c.args.input) c.in_default.not-Coming c.in_default.not-Crossed
