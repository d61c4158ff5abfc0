-- `write_leaf_concat` meets its contract: if the leaf is still awaited the join is the second prefix, otherwise it is the leaf
-- and the second prefix has one byte.
use Rattle.std.proofs.Common.{sym, arith}
use Rattle.writing.proofs.JoiningLeaf.{awaited_due, awaited_written, come_due, come_written}
use Rattle.writing.proofs.JoiningParts.{inside, settled}
use Rattle.writing.proofs.write_leaf_concat.Goals as goal

pub bounds-first-first_place : goal.bounds-first-first_place
bounds-first-first_place c = (inside _ _ _ _ _ c.requires.due).first_there

pub copy_prefix-written-requires : goal.copy_prefix-written-requires
copy_prefix-written-requires c = awaited_due c.requires.leaf (sym c.if-is_unfinished.ensures) c.requires.due

pub overflow_add-result-then-is_unfinished : goal.overflow_add-result-then-is_unfinished
overflow_add-result-then-is_unfinished c =
    omega (
      arith,
      settled _ _ _ _ _ c.requires.due (awaited_written c.requires.leaf (sym c.if-is_unfinished.ensures) c.copy_prefix-written.ensures),
    )

pub copy_prefix-written-requires-else-is_unfinished : goal.copy_prefix-written-requires-else-is_unfinished
copy_prefix-written-requires-else-is_unfinished c = come_due c.requires.leaf (sym c.if-is_unfinished.ensures) c.requires.due

pub overflow_add-result-else-is_unfinished : goal.overflow_add-result-else-is_unfinished
overflow_add-result-else-is_unfinished c =
    omega (
      arith,
      settled _ _ _ _ _ c.requires.due
          (come_written c.requires.leaf (sym c.if-is_unfinished.ensures) c.copy_prefix-written-else-is_unfinished.ensures),
    )

pub overflow_add-result-else-is_unfinished-2 : goal.overflow_add-result-else-is_unfinished-2
overflow_add-result-else-is_unfinished-2 c = omega (arith, inside _ _ _ _ _ c.requires.due)

pub returns-then-is_unfinished : goal.returns-then-is_unfinished
returns-then-is_unfinished c =
    awaited_written c.requires.leaf (sym c.if-is_unfinished.ensures) c.copy_prefix-written.ensures

pub returns-else-is_unfinished : goal.returns-else-is_unfinished
returns-else-is_unfinished c =
    come_written c.requires.leaf (sym c.if-is_unfinished.ensures) c.copy_prefix-written-else-is_unfinished.ensures
