-- `try_admit` meets its contract: the readers say what the type file and the slice file are, the first before the second.
use Rattle.std.proofs.Common.{arith, rules}
use Rattle.reading.specs.SliceReads.{AcceptedSlice}
use Rattle.reading.specs.Views.{tree}
use Rattle.meaning.specs.Answers.{admit}
use Rattle.wosthile.proofs.Keeping.{turned_down, taken_in}
use Rattle.wosthile.proofs.Opening.{type_stops, slice_stops, goes_on}
use Rattle.wosthile.proofs.SliceRead.{slice_accepted, slice_refused}
use Rattle.wosthile.proofs.try_admit.Goals.{In_ok-prefix}
use Rattle.wosthile.proofs.try_admit.Goals as goal

-- The slice file is accepted.
slice_of : (c : In_ok-prefix) → AcceptedSlice (tree c.in_ok-ty.ty) c.args.slice.now c.in_ok-prefix.prefix
slice_of c = slice_accepted c.in_ok-ty.ty.small (rw c.of.ensures at c.in_ok-prefix.ensures) (λ i. omega (arith, c.type_inv.slice i))

pub returns-in_err-ty : goal.returns-in_err-ty
unfolding admit
returns-in_err-ty c = turned_down c.in_err-ty.field-0.0 (search rules) (type_stops _ _ _ c.in_err-ty.ensures)

pub returns-in_err-prefix : goal.returns-in_err-prefix
unfolding admit
returns-in_err-prefix c =
    let e = slice_refused c.in_ok-ty.ty.small (rw c.of.ensures at c.in_err-prefix.ensures) in
    turned_down c.in_err-prefix.field-0.0 (search rules) (slice_stops _ _ _ c.in_ok-ty.ensures e)

pub returns : goal.returns
unfolding admit
returns c =
    let p = slice_of (goal.at.returns c).In_ok-prefix in
    taken_in _ (goes_on _ _ _ c.in_ok-ty.ensures p.is_accepted) p.completeness p.arrived
