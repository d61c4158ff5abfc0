-- `write_both` meets its contract: by the room that there is for both files (`FilesWritten`).
use Rattle.std.proofs.Common.{arith}
use Rattle.wosthile.proofs.FilesWritten.{output_short, patch_short, files_fit, output_long, patch_long, output_written, patch_due}
use Rattle.wosthile.proofs.write_both.Goals as goal

pub returns-then-out-output : goal.returns-then-out-output
returns-then-out-output c =
    record { each = λ due. output_short _ _ _ (omega (arith, output_long due, c.if-out-output.true)) }

pub returns-then-next-needed : goal.returns-then-next-needed
returns-then-next-needed c =
    record { each = λ due. patch_short _ _ _ (omega (arith, output_long due)) (omega (arith, patch_long due)) }

pub returns : goal.returns
returns c =
    record {
      each = λ due.
          files_fit _ _ _ (omega (arith, output_long due)) (omega (arith, patch_long due)) (output_long due) (patch_long due)
          (output_written due _ c.write_section.ensures)
          (c.write_patch_file.ensures.each (patch_due due c.args.next.now c.if-next-needed.false));
    }
