-- In each turn the kind at `end` gives way to its parts (`turned`), and what is owed has room in the slice (`room`).
use Rattle.std.proofs.Common.{ℕ, List, ◌+◌, ◌≤◌, length, get_or, arith}
use Rattle.stream.specs.Prefixes.{Prefix}
use Rattle.reading.specs.SliceReads.{PrefixAt, SomePrefixAt}
use Rattle.reading.proofs.PrefixWalk.{Run, starts, room, finished, turned, level_wide, other_wide, parts_wide}
use Rattle.reading.proofs.prefixes.skip_prefix.Goals as goal

inside : {slice : List ℕ} {place owed end : ℕ} → SomePrefixAt slice place
    → ((p : Prefix) → PrefixAt slice place p → (passed : List ℕ) × Run slice place p passed owed end) → end + owed ≤ length slice
inside some runs = room (runs some.prefix some.stands).1 some.stands

pub loop-owed-init : goal.loop-owed-init
loop-owed-init c = λ p s. (_, starts p s)

pub bounds-slice-end : goal.bounds-slice-end
bounds-slice-end c = omega (arith, inside c.requires c.loop-owed.invariant)

pub overflow_add-end : goal.overflow_add-end
overflow_add-end c = omega (arith, inside c.requires c.loop-owed.invariant)

pub loop-owed-preserved-then-kind-eq4 : goal.loop-owed-preserved-then-kind-eq4
loop-owed-preserved-then-kind-eq4 c = λ p s.
    (_, turned (c.loop-owed.invariant p s).1 (omega arith) _ _ (omega arith) (omega (arith, level_wide _ c.if-kind-eq4.true)))

pub loop-owed-smaller-else-kind-eq4 : goal.loop-owed-smaller-else-kind-eq4
loop-owed-smaller-else-kind-eq4 c = omega (arith, inside c.requires c.loop-owed.invariant)

pub loop-owed-preserved-else-kind-eq4 : goal.loop-owed-preserved-else-kind-eq4
loop-owed-preserved-else-kind-eq4 c = λ p s.
    (_, turned (c.loop-owed.invariant p s).1 (omega arith) _ _ (omega arith) (omega (arith, other_wide _ c.if-kind-eq4.false)))

pub loop-owed-preserved-else-parts-eq0 : goal.loop-owed-preserved-else-parts-eq0
loop-owed-preserved-else-parts-eq0 c = λ p s.
    let kind = get_or c.args.slice.now c.loop-owed.end 0 in
    (_, turned (c.loop-owed.invariant p s).1 (omega arith) _ _ (omega arith) (omega (arith, parts_wide kind (λ none. omega arith))))

pub loop-owed-preserved : goal.loop-owed-preserved
loop-owed-preserved c = λ p s.
    let kind = get_or c.args.slice.now c.loop-owed.end 0 in
    (_, turned (c.loop-owed.invariant p s).1 (omega arith) _ _ (omega arith) (omega (arith, parts_wide kind (λ none. omega arith))))

pub overflow_add-owed : goal.overflow_add-owed
overflow_add-owed c = omega (arith, inside c.requires (loop-owed-preserved c))

pub returns : goal.returns
returns c = record { each = λ p s. finished (c.loop-owed.invariant p s).1 (omega arith) }
