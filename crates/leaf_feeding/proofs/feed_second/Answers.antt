-- `feed_second` meets its contract: it takes sequences alone. While the first part is coming it waits for the second, and then it hands
-- that on.
use Rattle.std.proofs.Common.{refl}
use Rattle.node.specs.Nodes.{pass, takes_second}
use Rattle.node.specs.Nodes.Functions.{output_type}
use Rattle.node.specs.Feeding.Functions.{sends, leaves}
use Rattle.node.specs.PatchFiles.{node_bytes}
use Rattle.reading.proofs.InputViews.{is_prefix}
use Rattle.leaf_feeding.specs.Steps.Laws.{answers_alone}
use Rattle.leaf_feeding.proofs.PartsFed.{second_fails}
use Rattle.leaf_feeding.proofs.feed_second.Goals as goal

pub returns-in-Coming : goal.returns-in-Coming
unfolding sends leaves output_type
returns-in-Coming c =
    let made = c.in-Coming.ensures in
    answers_alone made.0 made.1 takes_second (λ small. small) c.requires.rooms refl refl c.feed_waiting.ensures

pub returns-in-Crossed : goal.returns-in-Crossed
unfolding sends leaves output_type node_bytes
returns-in-Crossed c =
    let made = c.in-Crossed.ensures in
    answers_alone made.0 made.1 takes_second (λ small. small) c.requires.rooms refl refl (c.hand_on.ensures pass refl)

pub returns-in_default : goal.returns-in_default
returns-in_default c = second_fails c.parts.ensures (is_prefix c.args.input) c.in_default.not-Coming c.in_default.not-Crossed
