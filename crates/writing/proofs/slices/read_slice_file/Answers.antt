-- `read_slice_file` meets its contract: the file's length is tried against its count, `walk_prefix` says what the section holds and
-- writes what it leaves, and what is left of it and of the file says whether a byte is left inside the section or behind it.
use Rattle.std.proofs.Common.{◌≡◌, Err, length, ◌-◌, ◌+◌, false, refl, sym, arith, rules}
use borrow.Author.Tests.{eqb-true}
use Rattle.stream.specs.Reading.{Bytes, read}
use Rattle.stream.specs.Reading.Walking.{body}
use Rattle.reading.specs.Fronts.{front_tree}
use Rattle.writing.specs.Leaving.{Leaves}
use Rattle.writing.proofs.SliceWalk.{some_bytes}
use Rattle.writing.proofs.SliceFile.{count_missing, section_short, walk_failed, left_inside, left_behind, section_walked, refused_leaving, whole_leaving}
use Rattle.writing.proofs.slices.read_slice_file.Goals.{In_ok-prefix}
use Rattle.writing.proofs.slices.read_slice_file.Goals as goal

-- The walk came to its end.
past : (c : In_ok-prefix)
    → Leaves (front_tree c.args.ty) (body c.args.file.now) false c.args.left.now c.walk_prefix.new.left (read c.in_ok-prefix.prefix.known c.in_ok-prefix.prefix.rest.now)
past c = section_walked c.args.file.now (2 + c.count_of-count.result - 2) (omega arith) c.in_ok-prefix.ensures.walk

bytes : (c : In_ok-prefix) → Bytes c.args.file.now
bytes c = λ i. omega (arith, c.type_inv.file i)

pub returns-then-length-lt2 : goal.returns-then-length-lt2
returns-then-length-lt2 c = refused_leaving (count_missing _ _ (omega arith)) refl

pub returns-then-length-count : goal.returns-then-length-count
returns-then-length-count c = refused_leaving (section_short _ _ (omega arith)) refl

pub returns-in_err-prefix : goal.returns-in_err-prefix
returns-in_err-prefix c =
    let failed = section_walked c.args.file.now (2 + c.count_of-count.result - 2) (omega arith) c.in_err-prefix.ensures.walk in
    let refused : c.from_residual.result ≡ Err c.in_err-prefix.field-0.0 = search rules in
    rw refused (refused_leaving (walk_failed _ _ c.args.ty.small (omega arith) (omega arith) _ failed.walks) failed.long)

pub returns-then-end-length : goal.returns-then-end-length
returns-then-end-length c =
    let p = (goal.at.returns-then-end-length c).In_ok-prefix in
    refused_leaving
    (left_behind _ c.args.file.now c.args.ty.small (omega arith) (omega arith) (bytes p) (past p).walks
    (eqb-true (length c.in_ok-prefix.prefix.rest.now) 0 (sym c.if-not-is_empty.ensures)) (omega arith))
    (past p).long

pub returns-then-not-is_empty : goal.returns-then-not-is_empty
returns-then-not-is_empty c =
    let p = (goal.at.returns-then-not-is_empty c).In_ok-prefix in
    refused_leaving
    (left_inside _ c.args.file.now c.args.ty.small (omega arith) (omega arith) (bytes p) (past p).walks
    (some_bytes c.in_ok-prefix.prefix.rest.now (sym c.if-not-is_empty.ensures)))
    (past p).long

pub returns : goal.returns
returns c =
    let p = (goal.at.returns c).In_ok-prefix in
    whole_leaving c.args.ty.small (omega arith) (omega arith) (bytes p) (eqb-true (length c.in_ok-prefix.prefix.rest.now) 0 (sym c.if-not-is_empty.ensures))
    (omega arith) (past p)
