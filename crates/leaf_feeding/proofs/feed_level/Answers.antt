-- `feed_level` meets its contract: where a type of one node has room, it writes the bytes of its value behind the kind byte of a level
-- that has come, or it stays, as the prefix opens it or not (`LevelSent`).
use Rattle.std.proofs.Common.{sym}
use Rattle.leaf_feeding.proofs.Emitted.{none_given, some_room}
use Rattle.leaf_feeding.proofs.LevelSent.{value_room, level_fed, level_waits}
use Rattle.leaf_feeding.proofs.feed_level.Goals as goal

pub returns-then-is_empty : goal.returns-then-is_empty
returns-then-is_empty c = λ s p whole. none_given (sym c.if-is_empty.ensures)

pub copy-requires : goal.copy-requires
copy-requires c = value_room c.args.level c.requires.is_level c.requires.leaf_rooms (some_room _ (sym c.if-is_empty.ensures)) c.value.ensures

pub returns-then-opens : goal.returns-then-opens
returns-then-opens c =
    λ s p whole.
    level_fed c.args.level c.requires.is_level c.requires.leaf_rooms (some_room _ (sym c.if-is_empty.ensures)) s p
    (sym (c.if-opens.ensures.each p whole)) c.value.ensures c.copy.ensures c.leave_silent.ensures

pub returns : goal.returns
returns c =
    λ s p whole.
    level_waits c.args.level c.requires.is_level c.requires.leaf_rooms (some_room _ (sym c.if-is_empty.ensures)) s p
    (sym (c.if-opens.ensures.each p whole)) c.copy-2.ensures
