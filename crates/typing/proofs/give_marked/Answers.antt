-- `give_marked` meets its contract: its kind tells which part of the either the type is that the node carries.
use Rattle.std.proofs.Common.{refl, ap, ◌∙◌, arith}
use Rattle.stream.specs.Types.{size}
use Rattle.stream.proofs.Types.Laws.{limit_is}
use Rattle.node.specs.Checking.{typing}
use Rattle.typing.proofs.TypingLeaf.{carried_typed, other_mark}
use Rattle.typing.proofs.give_marked.Goals as goal

pub overflow_add-end : goal.overflow_add-end
overflow_add-end c = omega (arith, c.carried-carried.result.small, limit_is)

pub returns-then-kind-eq16 : goal.returns-then-kind-eq16
unfolding typing
returns-then-kind-eq16 c =
    let carried = c.carried-carried.ensures in
    let given = rw carried at c.give_either.ensures in
    rw c.ending.ensures (carried_typed c.args.ty c.args.front c.kind.ensures c.if-kind-eq16.true given refl (c.size-end.ensures ∙ ap size carried))

pub returns-else-kind-eq16 : goal.returns-else-kind-eq16
unfolding typing
returns-else-kind-eq16 c =
    let carried = c.carried-carried.ensures in
    let given = rw carried at c.give_either-else-kind-eq16.ensures in
    let is = other_mark (rw c.kind.ensures c.requires) c.if-kind-eq16.false in
    rw c.ending-else-kind-eq16.ensures (carried_typed c.args.ty c.args.front c.kind.ensures is given refl (c.size-end.ensures ∙ ap size carried))
