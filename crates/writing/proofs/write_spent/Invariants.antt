-- `write_spent` meets its contract: whatever complete prefix stands at the front, what is written so far goes before what is left by the
-- `owed` complete prefixes from `next` on (`Spending`).
use Rattle.std.proofs.Common.{◌-◌, length}
use Rattle.writing.specs.Writing.{SpentDue}
use Rattle.writing.proofs.SpentWalk.{to_write, Spending}
use Rattle.writing.proofs.write_spent.Given as goal

abbrev pub invariant-loop-owed : goal.invariant-loop-owed
invariant-loop-owed l = (due : SpentDue l.slice l.initial.out) → Spending l.slice l.initial.out (to_write due) l.out l.owed l.next l.written

abbrev pub decreases-loop-owed : goal.decreases-loop-owed
decreases-loop-owed l = length l.slice - l.next
