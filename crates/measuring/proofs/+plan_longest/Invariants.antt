-- A part is smaller than the whole.
use Rattle.stream.specs.Types.{size}
use Rattle.reading.specs.Fronts.{front_tree}
use Rattle.measuring.proofs.+plan_longest.Given as goal

abbrev pub decreases-plan_longest : goal.decreases-plan_longest
decreases-plan_longest l = size (front_tree l.ty)
