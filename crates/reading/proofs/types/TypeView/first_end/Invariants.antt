-- Two bytes make way for their parts in each turn, until the first part has been passed.
use Rattle.std.specs.Prelude.{◌+◌, ◌*◌, ◌-◌, length}
use Rattle.stream.specs.Types.{size, first_part}
use Rattle.reading.specs.Views.{tree}
use Rattle.reading.proofs.FirstPart.{Passing}
use Rattle.reading.proofs.types.TypeView.first_end.Given as goal

abbrev pub invariant-loop-pairs : goal.invariant-loop-pairs
invariant-loop-pairs l = Passing l.self.bytes.now (1 + size (first_part (tree l.self))) (2 * l.pairs) l.end

abbrev pub decreases-loop-pairs : goal.decreases-loop-pairs
decreases-loop-pairs l = length l.self.bytes.now - l.end
