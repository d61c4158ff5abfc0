-- `put_hexadecimal` meets its contract: each turn writes the digits of one byte behind those that stand there.
use Rattle.std.proofs.Common.{◌≡◌, refl, ◌+◌, ◌*◌, arith}
use Rattle.transcript.specs.Transcripts.{hexadecimal}
use Rattle.writing.specs.Writing.Laws.{byte_on}
use Rattle.transcript.proofs.Transcripts.Laws.{hexadecimal_more}
use Rattle.transcript.proofs.put_hexadecimal.Goals as goal

pub loop-at-init : goal.loop-at-init
unfolding hexadecimal
loop-at-init c = record { long = refl; buffer = refl }

pub loop-at-preserved : goal.loop-at-preserved
loop-at-preserved c =
    let at = c.loop-at.at in
    let twice : 2 * (at + 1) ≡ 2 * at + 1 + 1 = omega arith in
    rw (hexadecimal_more c.args.source.now at (omega arith), twice, c.digit.ensures, c.digit-in-loop-at.ensures)
    (byte_on (byte_on c.loop-at.invariant _ (omega arith)) _ (omega arith))
