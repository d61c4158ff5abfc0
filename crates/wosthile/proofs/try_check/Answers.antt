-- `try_check` meets its contract: the reader gives the patch; the type that it gives is written in the work array, which has room for every
-- type that the second pass accepts; it is copied only where there is room for its file.
use Rattle.std.proofs.Common.{arith, rules}
use Rattle.wosthile.proofs.Keeping.{refusal_keeps, type_keeps}
use Rattle.wosthile.proofs.CheckOutcome.{not_read, TypeGiven, not_typed, type_given}
use Rattle.wosthile.proofs.try_check.Goals.{In_ok-typed}
use Rattle.wosthile.proofs.try_check.Goals as goal

-- The second pass gives a type, which stands in the work array.
type_of : (c : In_ok-typed) → TypeGiven c.args.patch.now c.type_node.new.out c.in_ok-typed.typed.size
type_of c = type_given _ c.in_ok-patch.patch c.in_ok-patch.ensures c.in_ok-typed.ensures (omega arith)

pub slice_bounds-given-end : goal.slice_bounds-given-end
slice_bounds-given-end c = (type_of (goal.at.slice_bounds-given-end c).In_ok-typed).here.inside

pub slice_bounds-put_file-end : goal.slice_bounds-put_file-end
slice_bounds-put_file-end c = (type_of (goal.at.slice_bounds-put_file-end c).In_ok-typed).here.long

pub returns-in_err-patch : goal.returns-in_err-patch
returns-in_err-patch c = refusal_keeps _ c.in_err-patch.field-0.0 (search rules) (not_read _ c.in_err-patch.ensures)

pub returns-in_err-typed : goal.returns-in_err-typed
returns-in_err-typed c =
    refusal_keeps _ c.in_err-typed.field-0.0 (search rules)
    (not_typed _ c.in_ok-patch.patch c.in_ok-patch.ensures c.in_err-typed.ensures)

pub returns : goal.returns
returns c =
    let t = type_of (goal.at.returns c).In_ok-typed in
    type_keeps _ t.here.holds t.is_typed c.put_file.ensures
