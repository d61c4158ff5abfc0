-- `write_leaf_left` meets its contract: a leaf still awaited leaves the type under it, which is copied, and one that has come the
-- empty type.
use Rattle.std.proofs.Common.{arith, ap, ◌∙◌}
use Rattle.stream.proofs.Types.Laws.{limit_is}
use Rattle.stream.specs.Types.{size}
use Rattle.writing.proofs.SliceLeft.{awaited_left, come_left}
use Rattle.writing.proofs.slices.write_leaf_left.Goals as goal

pub append_type-requires : goal.append_type-requires
append_type-requires c = omega (arith, c.split.result.0.small, limit_is)

pub returns-then-awaited : goal.returns-then-awaited
returns-then-awaited c =
    awaited_left c.if-awaited.true (c.size.ensures ∙ ap size c.split.ensures.whole) (rw c.split.ensures.whole at c.append_type.ensures)

pub returns : goal.returns
returns c = come_left c.if-awaited.false c.append_kind.ensures
