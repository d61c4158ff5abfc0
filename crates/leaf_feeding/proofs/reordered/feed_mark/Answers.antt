-- `feed_mark` meets its contract: where the type that it gives has room, what it sends has (`TypedFirst`).
use Rattle.leaf_feeding.proofs.TypedFirst.{typed_failed, typed_large, typed_due, typed_fed}
use Rattle.leaf_feeding.proofs.reordered.feed_mark.Goals as goal

pub returns-in_err-typed : goal.returns-in_err-typed
returns-in_err-typed c =
    rw c.from_residual.ensures
    (typed_failed _ c.args.mark.front.carries c.args.input c.requires.leaf_rooms c.give_marked.ensures c.in_err-typed.ensures.value)

pub returns-then-given-typed : goal.returns-then-given-typed
returns-then-given-typed c =
    typed_large _ c.args.mark.front.carries c.args.input c.requires.leaf_rooms c.give_marked.ensures _ c.in_ok-typed.ensures.value
    c.if-given-typed.true

pub send_marked-sent-requires-clause-send_due : goal.send_marked-sent-requires-clause-send_due
send_marked-sent-requires-clause-send_due c =
    typed_due _ c.args.mark.front.carries c.args.input c.requires.leaf_rooms c.give_marked.ensures _ c.in_ok-typed.ensures.value
    c.if-given-typed.false

pub returns : goal.returns
returns c =
    typed_fed _ c.args.mark.front.carries c.args.input c.requires.leaf_rooms c.give_marked.ensures _ c.in_ok-typed.ensures.value
    c.if-given-typed.false c.send_marked-sent.ensures
