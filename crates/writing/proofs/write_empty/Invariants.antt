-- `write_empty` meets its contract: the types that are still to be gone through stand at `next`, their marks lie on the stack,
-- and what has been written with what they owe is the empty prefix (`Emptying`).
use Rattle.std.proofs.Common.{◌-◌, length}
use Rattle.writing.proofs.EmptyWalk.{Emptying}
use Rattle.writing.proofs.write_empty.Given as goal

abbrev pub invariant-loop-depth : goal.invariant-loop-depth
invariant-loop-depth l = Emptying l.ty l.initial.out l.out l.owed l.depth l.next l.written

abbrev pub decreases-loop-depth : goal.decreases-loop-depth
decreases-loop-depth l = length l.types - l.next
