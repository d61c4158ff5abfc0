-- `write_empty` meets its contract: each turn passes the first of the types over, or writes one byte for it: then it is passed over all
-- the same if its empty prefix is a leaf, or else its parts take its place (`Emptying`).
use Rattle.std.proofs.Common.{refl, arith}
use Rattle.writing.proofs.EmptyWalk.{starts, kept, ends, stands, inside, not_deep, further, passed_over, has_room, leaf, stack_room, two_parts}
use Rattle.writing.proofs.write_empty.Goals as goal

pub loop-depth-init : goal.loop-depth-init
loop-depth-init c = starts c.args.ty c.requires refl refl

pub bounds-owed-depth : goal.bounds-owed-depth
bounds-owed-depth c = omega (arith, not_deep c.loop-depth.invariant)

-- A type that is passed over.

pub skip_type-next-requires : goal.skip_type-next-requires
skip_type-next-requires c = stands c.loop-depth.invariant c.loop-depth-test.true

pub loop-depth-smaller-then-owed-depth-eq0 : goal.loop-depth-smaller-then-owed-depth-eq0
loop-depth-smaller-then-owed-depth-eq0 c =
    let inv = c.loop-depth.invariant in
    let test = c.loop-depth-test.true in
    omega (arith, inside inv test, further inv test c.skip_type-next.ensures)

pub loop-depth-preserved-then-owed-depth-eq0 : goal.loop-depth-preserved-then-owed-depth-eq0
loop-depth-preserved-then-owed-depth-eq0 c =
    passed_over c.loop-depth.invariant c.loop-depth-test.true c.if-owed-depth-eq0.true c.skip_type-next.ensures

-- A type that is written: its kind stands there, and there is room for a byte.

pub bounds-types-next : goal.bounds-types-next
bounds-types-next c = inside c.loop-depth.invariant c.loop-depth-test.true

pub bounds-out-written : goal.bounds-out-written
bounds-out-written c = has_room c.loop-depth.invariant c.loop-depth-test.true c.if-owed-depth-eq0.false

pub overflow_add-written : goal.overflow_add-written
overflow_add-written c = omega (arith, bounds-out-written c, kept c.loop-depth.invariant)

-- Its parts take its place.

pub bounds-owed-depth-then-parts-gt0-2 : goal.bounds-owed-depth-then-parts-gt0-2
bounds-owed-depth-then-parts-gt0-2 c =
    stack_room c.loop-depth.invariant c.loop-depth-test.true c.if-owed-depth-eq0.false (rw c.empty_parts-parts.ensures at c.if-parts-gt0.true)

pub bounds-owed-depth-then-parts-gt0 : goal.bounds-owed-depth-then-parts-gt0
bounds-owed-depth-then-parts-gt0 c = omega (arith, bounds-owed-depth-then-parts-gt0-2 c)

pub overflow_add-depth : goal.overflow_add-depth
overflow_add-depth c = omega (arith, bounds-owed-depth-then-parts-gt0-2 c)

pub loop-depth-preserved-then-parts-gt0 : goal.loop-depth-preserved-then-parts-gt0
loop-depth-preserved-then-parts-gt0 c =
    rw c.empty_kind.ensures
    (two_parts c.loop-depth.invariant c.loop-depth-test.true c.if-owed-depth-eq0.false (rw c.empty_parts-parts.ensures at c.if-parts-gt0.true) c.empty_parts-parts.ensures)

-- Its empty prefix is a leaf.

pub skip_type-next-requires-else-parts-gt0 : goal.skip_type-next-requires-else-parts-gt0
skip_type-next-requires-else-parts-gt0 c = stands c.loop-depth.invariant c.loop-depth-test.true

pub bounds-out-written-else-parts-gt0 : goal.bounds-out-written-else-parts-gt0
bounds-out-written-else-parts-gt0 c = has_room c.loop-depth.invariant c.loop-depth-test.true c.if-owed-depth-eq0.false

pub overflow_add-written-else-parts-gt0 : goal.overflow_add-written-else-parts-gt0
overflow_add-written-else-parts-gt0 c = omega (arith, bounds-out-written-else-parts-gt0 c, kept c.loop-depth.invariant)

pub loop-depth-smaller : goal.loop-depth-smaller
loop-depth-smaller c =
    let inv = c.loop-depth.invariant in
    let test = c.loop-depth-test.true in
    omega (arith, inside inv test, further inv test c.skip_type-next-else-parts-gt0.ensures)

pub loop-depth-preserved : goal.loop-depth-preserved
loop-depth-preserved c =
    rw c.empty_kind-else-parts-gt0.ensures
    (leaf c.loop-depth.invariant c.loop-depth-test.true c.if-owed-depth-eq0.false
    (omega (arith, c.empty_parts-parts.ensures, c.if-parts-gt0.false)) c.skip_type-next-else-parts-gt0.ensures)

pub returns : goal.returns
returns c = let all = ends c.loop-depth.invariant (omega arith) in record { width = all.0; buffer = all.1 }
