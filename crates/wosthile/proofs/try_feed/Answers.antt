-- `try_feed` meets its contract: the reader of the patch refuses first. A slice that is refused is refused behind the faults of Check's
-- second pass (`first_fault`), and what both readers accept is handed to `send_on`, with what the slice leaves on work bytes.
use Rattle.std.proofs.Common.{[], ◌-◌, length, take, drop, refl, sym, ap, ◌∙◌, arith, rules}
use Rattle.stream.specs.Prefixes.{arrivals, derivative}
use Rattle.stream.specs.Reading.{accepted, refused}
use Rattle.stream.specs.TypeFiles.{type_bytes}
use Rattle.reading.specs.SliceReads.{AcceptedSlice}
use Rattle.stream.proofs.SliceFiles.Held.{Holds, has_prefix, is_whole, is_fit}
use Rattle.reading.specs.SliceReads.Laws.{prefix_taken}
use Rattle.reading.specs.Views.{tree}
use Rattle.wosthile.proofs.Keeping.{InFront}
use Rattle.wosthile.proofs.FeedOutcome.{refusal_delivers, as_promised, patch_unread, slice_unread, both_read}
use Rattle.wosthile.proofs.SliceRead.{slice_accepted, slice_refused, left-held}
use Rattle.wosthile.proofs.try_feed.Goals.{In-Ok}
use Rattle.wosthile.proofs.try_feed.Goals as goal

-- The slice is one of the input type, and what it leaves stands on the work bytes.

slice_of : (c : In-Ok) → AcceptedSlice (tree c.in_ok-patch.patch.input) c.args.slice.now c.in-Ok.prefix
slice_of c = slice_accepted c.in_ok-patch.patch.input.small (rw c.of.ensures at c.in-Ok.ensures) (λ i. omega (arith, c.type_inv.slice i))

left_of : (c : In-Ok)
    → InFront (derivative (tree c.in_ok-patch.patch.input) (slice_of c).prefix) c.read_slice_file.new.left c.in-Ok.prefix.remains
left_of c = left-held c.in_ok-patch.patch.input.small (rw c.of.ensures at c.in-Ok.ensures) (slice_of c) (omega arith)

held_slice : (c : In-Ok)
    → Holds (tree c.in_ok-patch.patch.input) (take (length c.args.slice.now - 2) (drop 2 c.args.slice.now)) (slice_of c).prefix
held_slice c =
    let s = slice_of c in
    record {
      bytes = prefix_taken (length c.args.slice.now - 2) s.stands (omega (arith, s.fills));
      is = s.is_prefix;
      small = c.in_ok-patch.patch.input.small;
    }

pub returns-in_err-patch : goal.returns-in_err-patch
returns-in_err-patch c =
    as_promised (patch_unread _ _ c.in_err-patch.ensures) (refusal_delivers _ _ c.in_err-patch.field-0.0 (search rules) refl)

pub returns-in-Err : goal.returns-in-Err
returns-in-Err c =
    let e = slice_refused c.in_ok-patch.patch.input.small (rw c.of.ensures at c.in-Err.ensures) in
    as_promised (slice_unread _ _ c.in_ok-patch.ensures e ∙ ap refused (sym c.first_fault.ensures)) (refusal_delivers _ _ _ refl refl)

pub slice_bounds-slice-count : goal.slice_bounds-slice-count
slice_bounds-slice-count c = omega (arith, (slice_of (goal.at.slice_bounds-slice-count c).In-Ok).fills)

pub slice_bounds-slice-start : goal.slice_bounds-slice-start
slice_bounds-slice-start c = slice_bounds-slice-count c

pub slice_bounds-left-end : goal.slice_bounds-left-end
slice_bounds-left-end c = (left_of (goal.at.slice_bounds-left-end c).In-Ok).inside

pub slice_bounds-read-end : goal.slice_bounds-read-end
slice_bounds-read-end c = (left_of (goal.at.slice_bounds-read-end c).In-Ok).long

pub invariant_of-slice : goal.invariant_of-slice
invariant_of-slice c =
    let h = held_slice (goal.at.invariant_of-slice c).In-Ok in
    record { whole = is_whole h; is_prefix = is_fit h }

pub invariant_of-read : goal.invariant_of-read
invariant_of-read c =
    let w = (goal.at.invariant_of-read c).In-Ok in
    let same = sym (has_prefix (held_slice w)) in
    record {
      of_type = refl;
      arrived_is = (slice_of w).arrived ∙ ap arrivals same;
      left_is = (left_of w).holds.bytes ∙ ap (λ p. type_bytes (derivative (tree c.in_ok-patch.patch.input) p) []) same;
    }

pub returns-in-Ok : goal.returns-in-Ok
returns-in-Ok c =
    let w = (goal.at.returns-in-Ok c).In-Ok in
    let same = sym (has_prefix (held_slice w)) in
    as_promised (both_read _ _ c.in_ok-patch.ensures ((slice_of w).is_accepted ∙ ap accepted same)) c.send_on.ensures
