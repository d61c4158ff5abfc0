-- Eight bytes that fill a section are totals.
use Rattle.std.proofs.Common.{arith}
use Rattle.patch_reading.proofs.PatchParts.{totals_short, totals_long, totals_read, totals_are}
use Rattle.patch_reading.proofs.files.split_totals.Goals as goal

pub returns-then-body-lt-TOTALS-clause-seen : goal.returns-then-body-lt-TOTALS-clause-seen
returns-then-body-lt-TOTALS-clause-seen c = totals_short _ _ _ c.in_ok-body.ensures (omega arith)

pub returns-then-body-gt-TOTALS-clause-seen : goal.returns-then-body-gt-TOTALS-clause-seen
returns-then-body-gt-TOTALS-clause-seen c = totals_long _ _ _ c.in_ok-body.ensures (omega arith)

pub returns-clause-seen : goal.returns-clause-seen
returns-clause-seen c = totals_read _ _ _ c.in_ok-body.ensures (omega arith) (omega arith)

pub returns-clause-are_totals : goal.returns-clause-are_totals
returns-clause-are_totals c = totals_are _ _ _ c.in_ok-body.ensures (λ i. omega (arith, c.type_inv.bytes i)) (omega arith) (omega arith)
