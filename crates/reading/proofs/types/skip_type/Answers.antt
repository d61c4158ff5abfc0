-- `skip_type` meets its contract: each byte makes way for the parts of the first of the types to be passed, which are none or one pair.
use Rattle.std.proofs.Common.{arith}
use Rattle.stream.proofs.Types.Laws.{limit_is}
use Rattle.reading.specs.TypeReads.Laws.{starts_inside}
use Rattle.reading.proofs.TypeSkip.{few, inside, root_passed, pair_passed}
use Rattle.reading.proofs.types.skip_type.Goals as goal

pub bounds-types-at : goal.bounds-types-at
bounds-types-at c = starts_inside c.requires.stands

pub overflow_add-end : goal.overflow_add-end
overflow_add-end c = omega (arith, starts_inside c.requires.stands)

pub loop-pairs-init : goal.loop-pairs-init
loop-pairs-init c = rw c.type_arity-pairs.ensures (root_passed c.requires)

pub bounds-types-end : goal.bounds-types-end
bounds-types-end c = omega (arith, inside c.loop-pairs.invariant (omega arith))

pub overflow_add-end-in-loop-pairs : goal.overflow_add-end-in-loop-pairs
overflow_add-end-in-loop-pairs c = omega (arith, inside c.loop-pairs.invariant (omega arith))

pub bounds-types-end-in-loop-pairs : goal.bounds-types-end-in-loop-pairs
bounds-types-end-in-loop-pairs c = omega (arith, inside c.loop-pairs.invariant (omega arith))

pub overflow_add-pairs-in-loop-pairs : goal.overflow_add-pairs-in-loop-pairs
overflow_add-pairs-in-loop-pairs c =
    omega (arith, limit_is, few (pair_passed c.loop-pairs.invariant (omega arith)), c.type_arity.ensures, c.type_arity-in-loop-pairs.ensures)

pub overflow_add-end-in-loop-pairs-2 : goal.overflow_add-end-in-loop-pairs-2
overflow_add-end-in-loop-pairs-2 c = omega (arith, inside c.loop-pairs.invariant (omega arith))

pub loop-pairs-smaller : goal.loop-pairs-smaller
loop-pairs-smaller c = omega (arith, inside c.loop-pairs.invariant (omega arith))

pub loop-pairs-preserved : goal.loop-pairs-preserved
loop-pairs-preserved c = rw (c.type_arity.ensures, c.type_arity-in-loop-pairs.ensures) (pair_passed c.loop-pairs.invariant (omega arith))
