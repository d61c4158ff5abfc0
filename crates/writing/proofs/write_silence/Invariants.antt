-- `write_silence` meets its contract: after `at` turns the first `at` bytes are those of the empty prefix, one for each byte of the type.
use Rattle.std.proofs.Common.{take, map}
use Rattle.writing.specs.Writing.{Begun}
use Rattle.writing.proofs.Silence.{silence}
use Rattle.writing.proofs.write_silence.Given as goal

abbrev pub invariant-loop-at : goal.invariant-loop-at
invariant-loop-at l = Begun (map silence (take l.at l.source)) l.initial.out l.out l.at
