-- `type_leaf` meets its contract: each kind without parts gives what the function for it writes (`TypingLeaf`).
use Rattle.std.proofs.Common.{rules, refl, sym, ap, ◌∙◌, arith}
use Rattle.stream.specs.Types.{cue, level, size}
use Rattle.stream.specs.TypeFiles.{type_bytes}
use Rattle.stream.proofs.Types.Laws.{limit_is}
use Rattle.node.specs.Checking.{typing}
use Rattle.patch_reading.specs.Fronts.{node}
use Rattle.patch_reading.proofs.NodeParts.{value_node_width}
use Rattle.typing.proofs.TypingLeaf.{leaf_typed, alone_typed, carried_typed, kind_given, marks_left}
use Rattle.typing.proofs.type_leaf.Goals as goal

pub overflow_add-size : goal.overflow_add-size
overflow_add-size c = omega (arith, c.carried-carried.result.small, limit_is)

pub returns-in-0 : goal.returns-in-0
unfolding typing
returns-in-0 c = rw c.ending.ensures (alone_typed c.args.ty c.args.front c.kind.ensures c.in-0.is c.give_type.ensures refl refl)

pub returns-in-1 : goal.returns-in-1
unfolding typing
returns-in-1 c =
    let carried = c.carried-carried.ensures in
    let given = rw carried at c.give_carried.ensures in
    rw c.ending-in-1.ensures (carried_typed c.args.ty c.args.front c.kind.ensures c.in-1.is given refl (c.size.ensures ∙ ap size carried))

pub returns-in-2 : goal.returns-in-2
unfolding typing type_bytes
returns-in-2 c =
    let given = kind_given cue refl c.append_kind.ensures in
    rw c.ending-in-2.ensures (alone_typed c.args.ty c.args.front c.kind.ensures c.in-2.is given refl refl)

pub returns-in-3 : goal.returns-in-3
unfolding typing type_bytes
returns-in-3 c =
    let wide = value_node_width (node c.args.front) (sym c.kind.ensures ∙ c.in-3.is) in
    let given = kind_given level refl c.append_kind-in-3.ensures in
    rw c.ending-in-3.ensures (leaf_typed c.args.ty c.args.front c.kind.ensures c.in-3.is given (sym wide))

pub returns-in-5 : goal.returns-in-5
unfolding typing
returns-in-5 c = rw c.ending-in-5.ensures (alone_typed c.args.ty c.args.front c.kind.ensures c.in-5.is c.give_first.ensures refl refl)

pub returns-in-6 : goal.returns-in-6
unfolding typing
returns-in-6 c = rw c.ending-in-6.ensures (alone_typed c.args.ty c.args.front c.kind.ensures c.in-6.is c.give_second.ensures refl refl)

pub returns-in-7 : goal.returns-in-7
unfolding typing
returns-in-7 c = rw c.ending-in-7.ensures (alone_typed c.args.ty c.args.front c.kind.ensures c.in-7.is c.give_first-in-7.ensures refl refl)

pub returns-in-8 : goal.returns-in-8
unfolding typing
returns-in-8 c = rw c.ending-in-8.ensures (alone_typed c.args.ty c.args.front c.kind.ensures c.in-8.is c.give_second-in-8.ensures refl refl)

pub returns-in-11 : goal.returns-in-11
unfolding typing
returns-in-11 c = rw c.ending-in-11.ensures (alone_typed c.args.ty c.args.front c.kind.ensures c.in-11.is c.give_regrouped_right.ensures refl refl)

pub returns-in-12 : goal.returns-in-12
unfolding typing
returns-in-12 c = rw c.ending-in-12.ensures (alone_typed c.args.ty c.args.front c.kind.ensures c.in-12.is c.give_regrouped_left.ensures refl refl)

pub returns-in-13 : goal.returns-in-13
unfolding typing
returns-in-13 c = rw c.ending-in-13.ensures (alone_typed c.args.ty c.args.front c.kind.ensures c.in-13.is c.give_spread.ensures refl refl)

pub returns-in-14 : goal.returns-in-14
unfolding typing
returns-in-14 c = rw c.ending-in-14.ensures (alone_typed c.args.ty c.args.front c.kind.ensures c.in-14.is c.give_front.ensures refl refl)

pub give_marked-requires : goal.give_marked-requires
give_marked-requires c = marks_left (node c.args.front) c.requires (search rules)
