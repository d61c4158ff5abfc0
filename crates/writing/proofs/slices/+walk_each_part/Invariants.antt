-- A part is smaller than the whole; `walk_prefix` calls `walk_one` and `walk_two` on the whole.
use Rattle.std.proofs.Common.{◌+◌, ◌*◌}
use Rattle.stream.specs.Types.{size}
use Rattle.reading.specs.Fronts.{front_tree}
use Rattle.writing.proofs.slices.+walk_each_part.Given as goal

abbrev pub decreases-walk_prefix : goal.decreases-walk_prefix
decreases-walk_prefix l = 2 * size (front_tree l.ty) + 1

abbrev pub decreases-walk_one : goal.decreases-walk_one
decreases-walk_one l = 2 * size (front_tree l.ty)

abbrev pub decreases-walk_two : goal.decreases-walk_two
decreases-walk_two l = 2 * size (front_tree l.ty)
