-- `add_counts` meets its contract: the last eight bytes are totals, and both sums are written where none passes the limit
-- (`TotalsAdded`).
use Rattle.std.proofs.Common.{◌≡◌, ◌+◌, Err, ap, ◌∙◌, arith, rules}
use Rattle.wosthile.proofs.TotalsAdded.{last_are, in_last, totals_eight, sum_made, sum_passed, arrived_passed, sent_passed, sums_held, sums_written}
use Rattle.wosthile.proofs.totals.add_counts.Goals as goal

pub total_at-requires : goal.total_at-requires
total_at-requires c = omega (arith, totals_eight (last_are c.args.patch.now (λ i. omega (arith, c.type_inv.patch i)) c.requires.has_totals))

pub total_at-requires-2 : goal.total_at-requires-2
total_at-requires-2 c = omega (arith, totals_eight (last_are c.args.patch.now (λ i. omega (arith, c.type_inv.patch i)) c.requires.has_totals))

pub returns-in_err-came : goal.returns-in_err-came
returns-in_err-came c =
    let refused : c.from_residual.result ≡ Err c.in_err-came.field-0.0 = search rules in
    let passed = sum_passed _ c.checked_add.ensures c.ok_or.ensures.value c.in_err-came.was in
    rw (refused, passed.1) (arrived_passed (last_are c.args.patch.now (λ i. omega (arith, c.type_inv.patch i)) c.requires.has_totals) _ _ (rw (c.total_at.ensures ∙ in_last c.args.patch.now 0) at passed.0))

pub returns-in_err-went : goal.returns-in_err-went
returns-in_err-went c =
    let refused : c.from_residual-in_err-went.result ≡ Err c.in_err-went.field-0.0 = search rules in
    let passed = sum_passed _ c.checked_add-2.ensures c.ok_or-2.ensures.value c.in_err-went.was in
    rw (refused, passed.1) (sent_passed (last_are c.args.patch.now (λ i. omega (arith, c.type_inv.patch i)) c.requires.has_totals) _ _ (rw (c.total_at-2.ensures ∙ in_last c.args.patch.now 4) at passed.0))

pub returns : goal.returns
returns c =
    let came = sum_made _ c.checked_add.ensures c.ok_or.ensures.value c.in_ok-came.was in
    let went = sum_made _ c.checked_add-2.ensures c.ok_or-2.ensures.value c.in_ok-went.was in
    sums_held (last_are c.args.patch.now (λ i. omega (arith, c.type_inv.patch i)) c.requires.has_totals) _ _ (came.1 ∙ ap (λ n. n + c.args.arrived) (c.total_at.ensures ∙ in_last c.args.patch.now 0)) came.0 (went.1 ∙ ap (λ n. n + c.args.sent) (c.total_at-2.ensures ∙ in_last c.args.patch.now 4)) went.0
    (sums_written c.args.out.now _ _ c.requires.eight c.put_number.ensures c.put_number-2.ensures)
