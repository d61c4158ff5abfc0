-- `feed_cue` meets its contract: where a type of one node has room, it writes the one byte of a cue that has come or is awaited, as the
-- prefix opens it or not (`Emitted`), whatever the type.
use Rattle.std.proofs.Common.{sym}
use Rattle.leaf_feeding.proofs.Emitted.{none_given, some_room, cue_sent, cue_waits}
use Rattle.leaf_feeding.proofs.feed_cue.Goals as goal

pub returns-then-is_empty : goal.returns-then-is_empty
returns-then-is_empty c = λ s p whole. none_given (sym c.if-is_empty.ensures)

pub returns-then-opens : goal.returns-then-opens
returns-then-opens c =
    λ s p whole. cue_sent c.requires (some_room _ (sym c.if-is_empty.ensures)) s p (sym (c.if-opens.ensures.each p whole)) c.leave_silent.ensures

pub returns : goal.returns
returns c = λ s p whole. cue_waits c.requires (some_room _ (sym c.if-is_empty.ensures)) s p (sym (c.if-opens.ensures.each p whole))
