-- `append_kind` meets its contract: the byte is set if there is room for it (`RoomBehind`).
use Rattle.std.proofs.Common.{[], ◌∷◌, arith}
use Rattle.writing.proofs.RoomBehind.{appended_byte, not_appended}
use Rattle.writing.proofs.appending.append_kind.Goals.{then-written-out, else-written-out}
use Rattle.writing.proofs.appending.append_kind.Goals as goal

pub returns : goal.returns
returns c =
    elim c.if-written-out.branch [
      | then-written-out w ↦ rw w.out-is (appended_byte _ _ _ w.if-written-out.true)
      | else-written-out w ↦ rw w.out-is (not_appended (c.args.kind ∷ []) _ _ (omega (arith, w.if-written-out.false)))
    ]
