-- `leave_silent` meets its contract: it writes the two bytes of silent with the empty type.
use Rattle.std.proofs.Common.{[], ◌∷◌, refl}
use Rattle.stream.specs.TypeFiles.{type_bytes}
use Rattle.node.specs.PatchFiles.{node_bytes}
use Rattle.writing.specs.Writing.Laws.{two_bytes}
use Rattle.leaf_feeding.specs.Steps.Laws.{front_leads}
use Rattle.leaf_feeding.proofs.leave_silent.Goals as goal

pub returns : goal.returns
unfolding node_bytes type_bytes
returns c =
    let lent = c.args.remainder.now in
    record { answers = refl; left = front_leads (1 ∷ 0 ∷ []) lent (two_bytes lent 1 0 c.requires) c.requires }
