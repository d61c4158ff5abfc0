-- `nullable_end` meets its contract: once all types are passed it ends there, and a kind but 0 and 4 is never nullable.
use Rattle.std.proofs.Common.{get_or, inl, inr, arith}
use Rattle.stream.proofs.Types.Laws.{limit_is}
use Rattle.reading.specs.TypeReads.Laws.{arity_small}
use Rattle.reading.proofs.TypeSkip.{few, inside, begins, all_passed, other_kind, nullable_kind}
use Rattle.reading.proofs.types.nullable_end.Goals as goal
use Rattle.reading.proofs.types.nullable_end.Goals.{else-kind-ne0-via-then-kind-ne0+else-kind-ne4, else-kind-ne0-via-else-kind-ne0}

pub loop-owed-init : goal.loop-owed-init
loop-owed-init c = begins c.requires

pub bounds-types-end : goal.bounds-types-end
bounds-types-end c = omega (arith, inside c.loop-owed.invariant.passing (omega arith))

pub returns-then-kind-ne4 : goal.returns-then-kind-ne4
returns-then-kind-ne4 c = other_kind c.loop-owed.invariant (omega arith) c.if-kind-ne0.true c.if-kind-ne4.true

pub overflow_add-owed : goal.overflow_add-owed
overflow_add-owed c =
    omega (arith, limit_is, few c.loop-owed.invariant.passing, arity_small (get_or c.args.types.now c.loop-owed.end 0), c.type_arity.ensures)

pub overflow_add-end : goal.overflow_add-end
overflow_add-end c = omega (arith, inside c.loop-owed.invariant.passing (omega arith))

pub loop-owed-smaller : goal.loop-owed-smaller
loop-owed-smaller c = omega (arith, inside c.loop-owed.invariant.passing (omega arith))

pub loop-owed-preserved : goal.loop-owed-preserved
loop-owed-preserved c =
    rw c.type_arity.ensures
    (nullable_kind c.loop-owed.invariant (omega arith)
    (elim c.else-kind-ne0.branch [ else-kind-ne0-via-then-kind-ne0+else-kind-ne4 w ↦ inr w.if-kind-ne4.false | else-kind-ne0-via-else-kind-ne0 w ↦ inl w.if-kind-ne0.false ]))

pub returns : goal.returns
returns c = all_passed c.loop-owed.invariant (omega arith)
