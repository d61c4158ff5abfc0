-- `put_number` meets its contract: each digit goes in front of those that are there.
use Rattle.std.specs.Prelude.{◌-◌}
use Rattle.std.proofs.Common.{arith, ◌∙◌, drop-set-lt}
use Rattle.writing.proofs.Digits.{step}
use Rattle.writing.proofs.numbers.put_number.Goals as goal

pub loop-at-preserved : goal.loop-at-preserved
loop-at-preserved g c =
    let i = c.loop-at.invariant in
    record {
      at_most = omega arith;
      behind = drop-set-lt g.row.W c.loop-at.out (c.loop-at.at - 1) _ (omega arith) ∙ i.behind;
      digits = step g.row.W c.loop-at.at c.loop-at.rest c.loop-at.out (omega arith) (omega arith) (omega arith) ∙ i.digits;
    }
