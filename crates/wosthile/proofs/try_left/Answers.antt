-- `try_left` meets its contract: the readers say what the type file and the slice file are; what the slice leaves stands in the work
-- array, which has room for every type, and is copied only where there is room for its file.
use Rattle.std.proofs.Common.{◌≡◌, arith, rules}
use Rattle.stream.specs.Types.{Ty}
use Rattle.stream.specs.Prefixes.{derivative}
use Rattle.stream.specs.Reading.{accepted}
use Rattle.stream.specs.TypeFiles.{type_file_bytes}
use Rattle.reading.specs.SliceReads.{AcceptedSlice}
use Rattle.reading.specs.Views.{tree}
use Rattle.meaning.specs.Answers.{left}
use Rattle.wosthile.proofs.Keeping.{InFront, refusal_keeps, type_keeps}
use Rattle.wosthile.proofs.Opening.{type_stops, slice_stops, goes_on}
use Rattle.wosthile.proofs.SliceRead.{slice_accepted, slice_refused, left-held}
use Rattle.wosthile.proofs.try_left.Goals.{In_ok-prefix}
use Rattle.wosthile.proofs.try_left.Goals as goal

-- The slice file is accepted, and what it leaves stands in the work array.

slice_of : (c : In_ok-prefix) → AcceptedSlice (tree c.in_ok-ty.ty) c.args.slice.now c.in_ok-prefix.prefix
slice_of c = slice_accepted c.in_ok-ty.ty.small (rw c.of.ensures at c.in_ok-prefix.ensures) (λ i. omega (arith, c.type_inv.slice i))

abbrev type-left : In_ok-prefix → Ty
type-left c = derivative (tree c.in_ok-ty.ty) (slice_of c).prefix

in_front : (c : In_ok-prefix) → InFront (type-left c) c.read_slice_file.new.left c.in_ok-prefix.prefix.remains
in_front c = left-held c.in_ok-ty.ty.small (rw c.of.ensures at c.in_ok-prefix.ensures) (slice_of c) (omega arith)

left_is : (c : In_ok-prefix) → left c.args.ty.now c.args.slice.now ≡ accepted (type_file_bytes (type-left c))
unfolding left
left_is c = goes_on _ _ _ c.in_ok-ty.ensures (slice_of c).is_accepted

pub slice_bounds-left-end : goal.slice_bounds-left-end
slice_bounds-left-end c = (in_front (goal.at.slice_bounds-left-end c).In_ok-prefix).inside

pub slice_bounds-put_file-end : goal.slice_bounds-put_file-end
slice_bounds-put_file-end c = (in_front (goal.at.slice_bounds-put_file-end c).In_ok-prefix).long

pub returns-in_err-ty : goal.returns-in_err-ty
unfolding left
returns-in_err-ty c = refusal_keeps _ c.in_err-ty.field-0.0 (search rules) (type_stops _ _ _ c.in_err-ty.ensures)

pub returns-in_err-prefix : goal.returns-in_err-prefix
unfolding left
returns-in_err-prefix c =
    let e = slice_refused c.in_ok-ty.ty.small (rw c.of.ensures at c.in_err-prefix.ensures) in
    refusal_keeps _ c.in_err-prefix.field-0.0 (search rules) (slice_stops _ _ _ c.in_ok-ty.ensures e)

pub returns : goal.returns
returns c =
    let w = (goal.at.returns c).In_ok-prefix in
    type_keeps _ (in_front w).holds (left_is w) c.put_file.ensures
