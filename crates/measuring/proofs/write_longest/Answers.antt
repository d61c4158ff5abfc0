-- `write_longest` meets its contract: each turn passes the first of the types over, or writes the byte and the value of its root, and then
-- its parts take its place.
use Rattle.std.proofs.Common.{ℕ, ◌+◌, [], set, get_or, arith, length-set}
use Rattle.stream.proofs.Levels.Laws.{value_length}
use Rattle.stream.specs.Longest.{largest_level}
use Rattle.writing.specs.Appending.Laws.{part_length}
use Rattle.measuring.proofs.LongestWalk.{starts, stands, inside, plan_inside, further, passed_on, without_value, value_room, with_value, finished}
use Rattle.measuring.proofs.write_longest.Goals as goal

pub loop-written-init : goal.loop-written-init
loop-written-init c = starts c.args.ty c.requires.planned (omega (arith, c.requires.measured, c.requires.room))

pub bounds-plan-at : goal.bounds-plan-at
bounds-plan-at c = plan_inside c.loop-written.invariant (omega (arith, c.requires.measured))

pub skip_type-at-requires : goal.skip_type-at-requires
skip_type-at-requires c = stands c.loop-written.invariant (omega (arith, c.requires.measured))

pub loop-written-smaller-then-kind : goal.loop-written-smaller-then-kind
loop-written-smaller-then-kind c =
    omega (arith, inside c.loop-written.invariant (omega (arith, c.requires.measured)), further c.loop-written.invariant (omega (arith, c.requires.measured)) c.skip_type-at.ensures)

pub loop-written-preserved-then-kind : goal.loop-written-preserved-then-kind
loop-written-preserved-then-kind c =
    passed_on c.loop-written.invariant (omega (arith, c.requires.measured)) c.if-kind.true c.skip_type-at.ensures

pub put_largest-requires : goal.put_largest-requires
put_largest-requires c =
    omega (
      arith,
      part_length (c.loop-written.written + 1) (set c.loop-written.out c.loop-written.written (get_or c.args.plan.now c.loop-written.at 0)),
      length-set {A = ℕ},
      value_room c.loop-written.invariant (omega (arith, c.requires.measured)) c.if-kind.false c.if-kind-eq4.true,
    )

pub loop-written-smaller-then-kind-eq4 : goal.loop-written-smaller-then-kind-eq4
loop-written-smaller-then-kind-eq4 c =
    omega (arith, inside c.loop-written.invariant (omega (arith, c.requires.measured)))

pub loop-written-preserved-then-kind-eq4 : goal.loop-written-preserved-then-kind-eq4
loop-written-preserved-then-kind-eq4 c =
    with_value c.loop-written.invariant (omega (arith, c.requires.measured)) c.if-kind.false c.if-kind-eq4.true (omega (arith, value_length largest_level [])) c.put_largest.ensures

pub overflow_add-at-else-kind-eq4 : goal.overflow_add-at-else-kind-eq4
overflow_add-at-else-kind-eq4 c = omega (arith, inside c.loop-written.invariant (omega (arith, c.requires.measured)))

pub loop-written-smaller : goal.loop-written-smaller
loop-written-smaller c = omega (arith, inside c.loop-written.invariant (omega (arith, c.requires.measured)))

pub loop-written-preserved : goal.loop-written-preserved
loop-written-preserved c =
    without_value c.loop-written.invariant (omega (arith, c.requires.measured)) c.if-kind.false c.if-kind-eq4.false

pub returns : goal.returns
returns c = finished c.loop-written.invariant (omega (arith, c.requires.measured))
