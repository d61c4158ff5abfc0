-- `send_in_front` meets its contract: the bytes of nothing crossed into the prefix are 6, 0 and those of the prefix.
use Rattle.writing.specs.Appending.Laws.{nothing_written, written_on}
use Rattle.leaf_feeding.proofs.Regrouped.{delivered, front_sent}
use Rattle.leaf_feeding.proofs.reordered.send_in_front.Goals as goal

pub returns : goal.returns
returns c =
    delivered c.requires (front_sent c.args.input)
    (written_on (written_on (written_on (nothing_written _) c.append_kind-sent.ensures) c.append_kind-sent-2.ensures) c.append.ensures)
