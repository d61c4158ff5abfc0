-- `carried_end` meets its contract: `type_end` says where the type ends in the bytes from its place on.
use Rattle.std.proofs.Common.{◌≡◌, Err, sym, ◌∙◌, arith, rules, length-drop}
use Rattle.std.proofs.lemmas.List.{take_rest}
use Rattle.patch_reading.proofs.NodeRoots.{ends_within, carried_failed, carried_ended}
use Rattle.patch_reading.proofs.nodes.carried_end.Goals as goal

pub overflow_add-result : goal.overflow_add-result
overflow_add-result c =
    omega (arith, ends_within _ _ _ (sym (rw take_rest at c.in_ok-read.ensures)), length-drop c.args.at c.args.bytes.now)

pub returns-in_err-read : goal.returns-in_err-read
returns-in_err-read c =
    let failed : c.from_residual.result ≡ Err c.in_err-read.field-0.0 = search rules in
    failed ∙ sym (carried_failed c.args.bytes.now c.args.at _ (sym (rw take_rest at c.in_err-read.ensures)))

pub returns : goal.returns
returns c = sym (carried_ended c.args.bytes.now c.args.at (omega arith) _ (sym (rw take_rest at c.in_ok-read.ensures)))
