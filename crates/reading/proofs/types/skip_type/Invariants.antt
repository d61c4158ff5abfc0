-- At `end`, two types are still to be passed for each of the `pairs` (`Passing`).
use Rattle.std.proofs.Common.{◌-◌, ◌*◌, length}
use Rattle.reading.proofs.TypeSkip.{Passing}
use Rattle.reading.proofs.types.skip_type.Given as goal

abbrev pub invariant-loop-pairs : goal.invariant-loop-pairs
invariant-loop-pairs l = Passing l.types l.at (2 * l.pairs) l.end

abbrev pub decreases-loop-pairs : goal.decreases-loop-pairs
decreases-loop-pairs l = length l.types - l.end
