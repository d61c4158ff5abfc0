-- `feed_pass` meets its contract: it gives the type itself, sends the prefix itself, and is left as it is.
use Rattle.std.proofs.Common.{refl}
use Rattle.node.specs.Nodes.{pass, takes_pass}
use Rattle.node.specs.Feeding.Functions.{sends, leaves}
use Rattle.node.specs.PatchFiles.{node_bytes}
use Rattle.leaf_feeding.specs.Steps.Laws.{answers_alone}
use Rattle.leaf_feeding.proofs.feed_pass.Goals as goal

pub returns : goal.returns
unfolding sends leaves node_bytes
returns c = answers_alone refl refl takes_pass (λ small. small) c.requires.rooms refl refl (c.hand_on.ensures pass refl)
