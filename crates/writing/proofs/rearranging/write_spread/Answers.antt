-- `write_spread` meets its contract: it writes two kinds, s, t, the second kind once more, s once more, and r.
use Rattle.std.proofs.Common.{append_assoc}
use Rattle.writing.specs.Appending.Laws.{nothing_written, written_on, written_as}
use Rattle.writing.proofs.rearranging.write_spread.Goals as goal

pub returns : goal.returns
returns c =
    let both = written_on (written_on (nothing_written _) c.append_kind-written.ensures) c.append_kind-written-2.ensures in
    let one = written_on (written_on both c.append-written.ensures) c.append-written-2.ensures in
    let two = written_on (written_on one c.append_kind-written-3.ensures) c.append-written-3.ensures in
    written_as (written_on two c.append.ensures) (simp append_assoc)
