-- `feed_left` meets its contract: it takes types of two sides alone, and hands on the first side.
use Rattle.std.proofs.Common.{refl}
use Rattle.node.specs.Nodes.{left_side, takes_left}
use Rattle.node.specs.Nodes.Functions.{output_type}
use Rattle.node.specs.Feeding.Functions.{sends, leaves}
use Rattle.node.specs.PatchFiles.{node_bytes}
use Rattle.reading.proofs.InputViews.{is_prefix}
use Rattle.leaf_feeding.specs.Steps.Laws.{answers_alone}
use Rattle.leaf_feeding.proofs.PartsFed.{left_fails}
use Rattle.leaf_feeding.proofs.feed_left.Goals as goal

pub returns-in-Beside : goal.returns-in-Beside
unfolding sends leaves output_type node_bytes
returns-in-Beside c =
    let made = c.in-Beside.ensures in
    answers_alone made.0 made.1 takes_left (λ small. small) c.requires.rooms refl refl (c.hand_on.ensures left_side refl)

pub returns-in_default : goal.returns-in_default
returns-in_default c = left_fails c.parts.ensures (is_prefix c.args.input) c.in_default.not-Beside
