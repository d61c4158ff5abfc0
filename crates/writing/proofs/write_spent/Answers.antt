-- `write_spent` meets its contract: a crossed prefix makes way for its second part, a choice for the slice behind its mark, two side by
-- side for both and a byte 4, and a leaf for a byte 0 (`Spending`).
use Rattle.std.proofs.Common.{ap, arith}
use Rattle.reading.specs.SliceReads.{is_unfinished}
use Rattle.writing.proofs.SpentWalk.{starts, spent_any, fits, length_stays, within, inside, first_part_at, crossed, chosen, forked, leaf, no_unfinished, listed}
use Rattle.writing.proofs.write_spent.Goals as goal

pub loop-owed-init : goal.loop-owed-init
loop-owed-init c = λ due. starts due

pub bounds-slice-next : goal.bounds-slice-next
bounds-slice-next c = inside (c.loop-owed.invariant c.requires) c.loop-owed-test.true

-- A first part that is still coming does not stand there, nor a choice that is still to be made, nor a kind above 10.

pub returns-in-5 : goal.returns-in-5
returns-in-5 c = absurd (no_unfinished (c.loop-owed.invariant c.requires) c.loop-owed-test.true (ap is_unfinished c.in-5.is))

pub returns-in-8 : goal.returns-in-8
returns-in-8 c = absurd (no_unfinished (c.loop-owed.invariant c.requires) c.loop-owed-test.true (ap is_unfinished c.in-8.is))

pub returns-in-11-to-255 : goal.returns-in-11-to-255
returns-in-11-to-255 c = absurd (omega (arith, listed (c.loop-owed.invariant c.requires) c.loop-owed-test.true))

-- A crossed prefix.

pub skip_prefix-next-requires : goal.skip_prefix-next-requires
skip_prefix-next-requires c = first_part_at (c.loop-owed.invariant c.requires) c.loop-owed-test.true c.in-6.is

pub loop-owed-smaller-in-6 : goal.loop-owed-smaller-in-6
loop-owed-smaller-in-6 c =
    let so_far = c.loop-owed.invariant c.requires in
    let test = c.loop-owed-test.true in
    omega (arith, inside so_far test, (crossed so_far test c.in-6.is c.skip_prefix-next.ensures).0)

pub loop-owed-preserved-in-6 : goal.loop-owed-preserved-in-6
loop-owed-preserved-in-6 c = λ due. (crossed (c.loop-owed.invariant due) c.loop-owed-test.true c.in-6.is c.skip_prefix-next.ensures).1

-- Two prefixes side by side.

pub bounds-out-written : goal.bounds-out-written
bounds-out-written c = let so_far = c.loop-owed.invariant c.requires in omega (arith, fits so_far, length_stays so_far)

pub overflow_add-written : goal.overflow_add-written
overflow_add-written c = omega (arith, fits (c.loop-owed.invariant c.requires))

pub overflow_add-owed : goal.overflow_add-owed
overflow_add-owed c = omega (arith, fits (c.loop-owed.invariant c.requires))

pub loop-owed-preserved-in-7 : goal.loop-owed-preserved-in-7
loop-owed-preserved-in-7 c = λ due. forked (c.loop-owed.invariant due) c.loop-owed-test.true c.in-7.is

-- A leaf.

pub bounds-out-written-in-0-to-4 : goal.bounds-out-written-in-0-to-4
bounds-out-written-in-0-to-4 c = let so_far = c.loop-owed.invariant c.requires in omega (arith, fits so_far, length_stays so_far)

pub overflow_add-written-in-0-to-4 : goal.overflow_add-written-in-0-to-4
overflow_add-written-in-0-to-4 c = omega (arith, fits (c.loop-owed.invariant c.requires))

pub loop-owed-smaller-then-kind-lt5 : goal.loop-owed-smaller-then-kind-lt5
loop-owed-smaller-then-kind-lt5 c =
    let so_far = c.loop-owed.invariant c.requires in
    let test = c.loop-owed-test.true in
    omega (arith, inside so_far test, (leaf so_far test (omega arith) c.root_width-next.ensures).0)

pub loop-owed-preserved-then-kind-lt5 : goal.loop-owed-preserved-then-kind-lt5
loop-owed-preserved-then-kind-lt5 c = λ due. (leaf (c.loop-owed.invariant due) c.loop-owed-test.true (omega arith) c.root_width-next.ensures).1

pub overflow_add-next-in-0-to-4 : goal.overflow_add-next-in-0-to-4
overflow_add-next-in-0-to-4 c =
    omega (arith, within (leaf (c.loop-owed.invariant c.requires) c.loop-owed-test.true (omega arith) c.root_width-next.ensures).1)

-- A choice.

pub loop-owed-preserved : goal.loop-owed-preserved
loop-owed-preserved c = λ due. chosen (c.loop-owed.invariant due) c.loop-owed-test.true (omega arith)

pub returns : goal.returns
returns c = spent_any c.loop-owed.invariant (omega arith)
