-- `put_number` meets its contract: one digit or two, and the line feed.
use Rattle.std.proofs.Common.{arith}
use Rattle.writing.specs.Writing.Laws.{begins, byte_on}
use Rattle.transcript.proofs.Transcripts.Laws.{one_digit, two_digits}
use Rattle.transcript.proofs.put_number.Goals as goal

pub returns-then-number-lt10 : goal.returns-then-number-lt10
returns-then-number-lt10 c = rw (one_digit c.args.number (omega arith), c.digit.ensures) (byte_on (begins _ (omega arith)) 10 (omega arith))

pub returns : goal.returns
returns c =
    rw (two_digits c.args.number (omega arith), c.digit-2.ensures, c.digit-3.ensures)
    (byte_on (byte_on (begins _ (omega arith)) _ (omega arith)) 10 (omega arith))
