-- All levels and all choices have been counted.
use Rattle.std.proofs.Common.{ℕ, arith}
use Rattle.reading.proofs.CompleteWidth.{kinds_done, fixed}
use Rattle.reading.proofs.types.TypeView.complete_width.Goals as goal

pub returns : goal.returns
returns c =
    let none = λ (k : ℕ). kinds_done k _ _ c.loop-kind-test.false in
    let counted = c.loop-kind.invariant in
    fixed c.args.self (omega (arith, counted.levels, none 2)) (omega (arith, counted.choices, none 5))
