-- While the kinds passed are 0 and 4, the type is nullable if those still to be passed are (`Nullables`).
use Rattle.std.proofs.Common.{◌-◌, length}
use Rattle.reading.proofs.TypeSkip.{Nullables}
use Rattle.reading.proofs.types.nullable_end.Given as goal

abbrev pub invariant-loop-owed : goal.invariant-loop-owed
invariant-loop-owed l = Nullables l.types l.at l.owed l.end

abbrev pub decreases-loop-owed : goal.decreases-loop-owed
decreases-loop-owed l = length l.types - l.end
