-- `feed_right` meets its contract: it takes types of two sides alone, and hands on the second side.
use Rattle.std.proofs.Common.{refl}
use Rattle.node.specs.Nodes.{right_side, takes_right}
use Rattle.node.specs.Nodes.Functions.{output_type}
use Rattle.node.specs.Feeding.Functions.{sends, leaves}
use Rattle.node.specs.PatchFiles.{node_bytes}
use Rattle.reading.proofs.InputViews.{is_prefix}
use Rattle.leaf_feeding.specs.Steps.Laws.{answers_alone}
use Rattle.leaf_feeding.proofs.PartsFed.{right_fails}
use Rattle.leaf_feeding.proofs.feed_right.Goals as goal

pub returns-in-Beside : goal.returns-in-Beside
unfolding sends leaves output_type node_bytes
returns-in-Beside c =
    let made = c.in-Beside.ensures in
    answers_alone made.0 made.1 takes_right (λ small. small) c.requires.rooms refl refl (c.hand_on.ensures right_side refl)

pub returns-in_default : goal.returns-in_default
returns-in_default c = right_fails c.parts.ensures (is_prefix c.args.input) c.in_default.not-Beside
