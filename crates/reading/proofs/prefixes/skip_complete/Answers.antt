-- `skip_complete` meets its contract: where the type fixes how wide its complete prefixes are, the prefix is as wide; otherwise the slice
-- tells.
use Rattle.std.proofs.Common.{◌+◌, ap, arith}
use Rattle.reading.specs.SliceReads.Laws.{prefix_inside}
use Rattle.reading.proofs.prefixes.skip_complete.Goals as goal

pub overflow_add-result : goal.overflow_add-result
overflow_add-result c =
    let due = c.requires in
    omega (arith, prefix_inside due.stands, c.in-Some.ensures due.prefix due.is_prefix due.is_complete)

pub returns-in-Some : goal.returns-in-Some
returns-in-Some c = record { each = λ due. ap (λ width. c.args.place + width) (c.in-Some.ensures due.prefix due.is_prefix due.is_complete) }
