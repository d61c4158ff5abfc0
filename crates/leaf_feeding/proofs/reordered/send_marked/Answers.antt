-- `send_marked` meets its contract: the bytes of a choice are its mark and those of the prefix.
use Rattle.writing.specs.Appending.Laws.{nothing_written, written_on}
use Rattle.leaf_feeding.proofs.Regrouped.{delivered, marked_sent}
use Rattle.leaf_feeding.proofs.reordered.send_marked.Goals as goal

pub returns : goal.returns
returns c =
    delivered c.requires.send_due (marked_sent c.args.input _ c.requires.marks (rw c.kind.ensures at c.mark_of.ensures))
    (written_on (written_on (nothing_written _) c.append_kind-sent.ensures) c.append.ensures)
