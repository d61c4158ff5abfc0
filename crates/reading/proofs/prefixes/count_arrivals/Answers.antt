-- Each kind passed is an arrival or none, and has its value behind it or nothing (`counted_on`).
use Rattle.std.proofs.Common.{get_or, arith}
use Rattle.reading.proofs.PrefixWalk.{level_wide, other_wide}
use Rattle.reading.proofs.ArrivalsScan.{none-counted, cue_arrived, level_arrived, none_arrived, counted_on, counted_all}
use Rattle.reading.proofs.prefixes.count_arrivals.Goals as goal

pub loop-next-init : goal.loop-next-init
loop-next-init c = λ p here. none-counted here

pub loop-next-preserved-then-kind-eq2 : goal.loop-next-preserved-then-kind-eq2
loop-next-preserved-then-kind-eq2 c = λ p here.
    let counting = c.loop-next.invariant p here in
    counted_on here counting (omega arith) (omega (arith, cue_arrived _ c.if-kind-eq2.true))
    (omega (arith, other_wide (get_or c.args.prefix.now c.loop-next.next 0) (λ e. omega arith))) (omega arith)

pub loop-next-preserved-then-kind-eq4 : goal.loop-next-preserved-then-kind-eq4
loop-next-preserved-then-kind-eq4 c = λ p here.
    let counting = c.loop-next.invariant p here in
    counted_on here counting (omega arith) (omega (arith, level_arrived _ c.if-kind-eq4.true)) (omega (arith, level_wide _ c.if-kind-eq4.true)) (omega arith)

pub loop-next-preserved : goal.loop-next-preserved
loop-next-preserved c = λ p here.
    let counting = c.loop-next.invariant p here in
    counted_on here counting (omega arith) (omega (arith, none_arrived _ c.if-kind-eq2.false c.if-kind-eq4.false)) (omega (arith, other_wide _ c.if-kind-eq4.false)) (omega arith)

pub returns : goal.returns
returns c = record { each = λ p here. counted_all here (c.loop-next.invariant p here) (omega arith) }
