-- `put_fed` meets its contract: field by field, each on the part behind what is written.
use Rattle.std.proofs.Common.{sym, List, [], ◌∷◌, ℕ, ◌≤◌, length, arith}
use Rattle.std.proofs.Math.ListN.{set}
use Rattle.writing.specs.Writing.Laws.{begins, goes_on, byte_on}
use Rattle.writing.specs.Writing.{Begun}
use Rattle.transcript.specs.Transcripts.{hexadecimal}
use Rattle.transcript.proofs.Transcripts.Laws.{hexadecimal_length}
use Rattle.transcript.proofs.put_fed.Goals as goal

-- The number and a space.
opened : (lent : List ℕ) → 2 ≤ length lent → Begun (48 ∷ 32 ∷ []) lent (set (set lent 0 48) 1 32) 2
opened lent h = byte_on (begins 48 (omega arith)) 32 (omega arith)

pub returns : goal.returns
returns c =
    let output = c.args.output.now in
    let type = c.args.ty.now in
    let sent = goes_on (opened c.args.out.now (omega arith)) (hexadecimal output) c.put_hexadecimal.ensures (sym (hexadecimal_length output)) in
    let typed = goes_on (byte_on sent 32 (omega arith)) (hexadecimal type) c.put_hexadecimal-2.ensures (sym (hexadecimal_length type)) in
    byte_on typed 10 (omega arith)
