-- `try_join` meets its contract: the readers say what the type file and the first slice file are; what the first slice leaves
-- stands in the work array, and the second slice file is read against it; the length of the join is that of the two slices
-- without their overlap, and the writer is called only with room for it.
use Rattle.std.proofs.Common.{◌≡◌, ◌+◌, ◌-◌, List, ℕ, take, sym, ap, ◌∙◌, length, arith, rules}
use Rattle.stream.specs.Types.{Ty}
use Rattle.stream.specs.Prefixes.{derivative}
use Rattle.stream.specs.Prefixes.Functions.{concat}
use Rattle.stream.specs.declared.Fault.{Fault}
use Rattle.stream.specs.Reading.{accepted, refused}
use Rattle.stream.specs.TypeFiles.{type_file}
use Rattle.stream.proofs.TypeFiles.Held.{Holds, has_tree, is_whole, is_small}
use Rattle.stream.specs.SliceFiles.{slice_file, slice_file_bytes}
use Rattle.reading.specs.declared.prefixes.Known.{Known}
use Rattle.reading.specs.Views.{tree}
use Rattle.reading.specs.SliceReads.{AcceptedSlice}
use Rattle.writing.specs.Writing.Standing.{slice_file-size, joined_width, overlap_less, joined_file_due}
use Rattle.meaning.specs.Answers.{join}
use Rattle.wosthile.proofs.Keeping.{InFront, refusal_keeps, shortage_keeps, file_keeps}
use Rattle.wosthile.proofs.Opening.{type_stops, slice_stops, goes_on}
use Rattle.wosthile.proofs.SliceRead.{slice_accepted, slice_refused, left-held}
use Rattle.wosthile.proofs.try_join.Goals.{In_ok-prefix, In_ok-read_slice_file}
use Rattle.wosthile.proofs.try_join.Goals as goal

-- The first slice file is accepted, and what it leaves stands in the work array.

first_slice : (c : In_ok-prefix) → AcceptedSlice (tree c.in_ok-ty.ty) c.args.first.now c.in_ok-prefix.prefix
first_slice c = slice_accepted c.in_ok-ty.ty.small (rw c.of.ensures at c.in_ok-prefix.ensures) (λ i. omega (arith, c.type_inv.first i))

abbrev type-left : In_ok-prefix → Ty
type-left c = derivative (tree c.in_ok-ty.ty) (first_slice c).prefix

left_of : (c : In_ok-prefix) → InFront (type-left c) c.read_slice_file.new.left c.in_ok-prefix.prefix.remains
left_of c = left-held c.in_ok-ty.ty.small (rw c.of.ensures at c.in_ok-prefix.ensures) (first_slice c) (omega arith)

-- And then the second.
second_slice : (c : In_ok-read_slice_file) {t : Ty} → Holds (take c.in_ok-prefix.prefix.remains c.read_slice_file.new.left) t
    → AcceptedSlice t c.args.second.now c.in_ok-read_slice_file.field-0
second_slice c held = slice_accepted held.small (rw (c.of-2.ensures, has_tree held) at c.in_ok-read_slice_file.ensures) (λ i. omega (arith, c.type_inv.second i))

-- What has to be written, and how long it is.
module _ {first second : List ℕ} {t : Ty} {one two : Known} (p : AcceptedSlice t first one) (q : AcceptedSlice (derivative t p.prefix) second two) where
  abbrev joined_file : List ℕ
  joined_file = slice_file_bytes (concat p.prefix q.prefix)

  join_is : (ty : List ℕ) → accepted t ≡ type_file ty → join ty first second ≡ accepted joined_file
  unfolding join
  join_is ty read = goes_on _ _ _ read p.is_accepted ∙ rw q.is_accepted

  joined_long : 2 + (length first - 2 + (length second - 2) - one.overlap) ≡ length joined_file
  joined_long = ap (λ n. 2 + n) (joined_width p q) ∙ sym (slice_file-size _)

join_stops : (ty : List ℕ) {first : List ℕ} (second : List ℕ) {t : Ty} {one : Known} → accepted t ≡ type_file ty → (p : AcceptedSlice t first one)
    (e : Fault) → slice_file (derivative t p.prefix) second ≡ refused e → join ty first second ≡ refused e
unfolding join
join_stops ty second read p e h = goes_on _ _ _ read p.is_accepted ∙ rw h

pub slice_bounds-left-end : goal.slice_bounds-left-end
slice_bounds-left-end c = (left_of (goal.at.slice_bounds-left-end c).In_ok-prefix).inside

pub slice_bounds-remainder-end : goal.slice_bounds-remainder-end
slice_bounds-remainder-end c = (left_of (goal.at.slice_bounds-remainder-end c).In_ok-prefix).long

pub invariant_of-remainder : goal.invariant_of-remainder
invariant_of-remainder c =
    let h = (left_of (goal.at.invariant_of-remainder c).In_ok-prefix).holds in
    record { whole = is_whole h; small = is_small h }

pub overflow_sub-joined : goal.overflow_sub-joined
overflow_sub-joined c = omega (arith, (first_slice (goal.at.overflow_sub-joined c).In_ok-prefix).fills)

pub overflow_sub-joined-2 : goal.overflow_sub-joined-2
overflow_sub-joined-2 c =
    let at = goal.at.overflow_sub-joined-2 c in
    omega (arith, (second_slice at.In_ok-read_slice_file (left_of at.In_ok-prefix).holds).fills)

pub overflow_sub-joined-3 : goal.overflow_sub-joined-3
overflow_sub-joined-3 c = omega (arith, overlap_less (first_slice (goal.at.overflow_sub-joined-3 c).In_ok-prefix))

pub returns-then-out-joined : goal.returns-then-out-joined
returns-then-out-joined c =
    let at = goal.at.returns-then-out-joined c in
    let p = first_slice at.In_ok-prefix in
    let q = second_slice at.In_ok-read_slice_file (left_of at.In_ok-prefix).holds in
    shortage_keeps _ (joined_file p q) (join_is p q _ c.in_ok-ty.ensures) (omega (arith, joined_long p q))

pub write_joined_file-requires : goal.write_joined_file-requires
write_joined_file-requires c =
    let at = goal.at.write_joined_file-requires c in
    let p = first_slice at.In_ok-prefix in
    let q = second_slice at.In_ok-read_slice_file (left_of at.In_ok-prefix).holds in
    joined_file_due p q c.in_ok-ty.ty.small _ _ (joined_width p q) (omega arith)

pub returns-in_err-ty : goal.returns-in_err-ty
unfolding join
returns-in_err-ty c = refusal_keeps _ c.in_err-ty.field-0.0 (search rules) (type_stops _ _ _ c.in_err-ty.ensures)

pub returns-in_err-prefix : goal.returns-in_err-prefix
unfolding join
returns-in_err-prefix c =
    let e = slice_refused c.in_ok-ty.ty.small (rw c.of.ensures at c.in_err-prefix.ensures) in
    refusal_keeps _ c.in_err-prefix.field-0.0 (search rules) (slice_stops _ _ _ c.in_ok-ty.ensures e)

pub returns-in_err-read_slice_file : goal.returns-in_err-read_slice_file
returns-in_err-read_slice_file c =
    let at = goal.at.returns-in_err-read_slice_file c in
    let h = (left_of at.In_ok-prefix).holds in
    let e = slice_refused h.small (rw (c.of-2.ensures, has_tree h) at c.in_err-read_slice_file.ensures) in
    refusal_keeps _ c.in_err-read_slice_file.field-0.0 (search rules) (join_stops _ _ c.in_ok-ty.ensures (first_slice at.In_ok-prefix) _ e)

pub returns : goal.returns
returns c =
    let at = goal.at.returns c in
    let p = first_slice at.In_ok-prefix in
    let q = second_slice at.In_ok-read_slice_file (left_of at.In_ok-prefix).holds in
    let long = joined_long p q in
    file_keeps _ (joined_file p q) (join_is p q _ c.in_ok-ty.ensures) (omega (arith, long)) long
    (c.write_joined_file.ensures.each (joined_file_due p q c.in_ok-ty.ty.small _ _ (joined_width p q) (omega arith)))
