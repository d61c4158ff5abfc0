-- After `next` turns the first `next` bytes are those of the source.
use Rattle.std.proofs.Common.{take}
use Rattle.writing.specs.Writing.{Begun}
use Rattle.writing.proofs.copy.Given as goal

abbrev pub invariant-loop-next : goal.invariant-loop-next
invariant-loop-next l = Begun (take l.next l.source) l.initial.out l.out l.next
