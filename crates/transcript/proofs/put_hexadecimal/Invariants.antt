-- `put_hexadecimal`: after `at` turns the digits of the first `at` bytes are written.
use Rattle.std.proofs.Common.{◌*◌, take}
use Rattle.writing.specs.Writing.{Begun}
use Rattle.transcript.specs.Transcripts.{hexadecimal}
use Rattle.transcript.proofs.put_hexadecimal.Given as goal

abbrev pub invariant-loop-at : goal.invariant-loop-at
invariant-loop-at l = Begun (hexadecimal (take l.at l.source)) l.initial.out l.out (2 * l.at)
