-- `play_held` meets its contract: the program waits for no file that is whole, and a file that is not has at most 65,536 bytes.
use Rattle.std.proofs.Common.{length-drop, arith}
use Rattle.stream.proofs.Reading.Laws.{bytes_drop}
use Rattle.transcript.proofs.Playing.Laws.{held_short}
use Rattle.runner.proofs.play_held.Goals as goal

pub returns-clause-no_file_left : goal.returns-clause-no_file_left
returns-clause-no_file_left c =
    λ goes room. omega (
      arith,
      length-drop c.play.result.taken c.args.input.now,
      held_short _ _ _ (bytes_drop c.play.result.taken c.args.input.now (λ i. omega (arith, c.type_inv.input i))) goes (c.play.ensures.waits (omega (arith, room))),
    )
