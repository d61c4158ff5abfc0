-- `write_right` meets its contract: it writes a kind, s, a kind, t and r.
use Rattle.std.proofs.Common.{append_assoc}
use Rattle.writing.specs.Appending.Laws.{nothing_written, written_on, written_as}
use Rattle.writing.proofs.rearranging.write_right.Goals as goal

pub returns : goal.returns
returns c =
    let one = written_on (written_on (nothing_written _) c.append_kind-written.ensures) c.append-written.ensures in
    let two = written_on (written_on one c.append_kind-written-2.ensures) c.append-written-2.ensures in
    written_as (written_on two c.append.ensures) (simp append_assoc)
