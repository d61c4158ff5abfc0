-- `type_node`, `type_parts` and `type_choose` meet their contracts: a node hands its input, or the parts of it, to its parts, and
-- the types that these give make the node's (`TypingParts`, `TypingChain`, `TypingChoose`).
use Rattle.std.proofs.Common.{rules, refl, sym, ap, arith, ◌≡◌, ◌+◌, Err}
use Rattle.std.proofs.lemmas.List.{length-take-le}
use Rattle.stream.specs.declared.Fault.TheVariants.{WrongShape}
use Rattle.stream.proofs.TypeFiles.Held.{is_whole, is_small}
use Rattle.reading.specs.Views.{tree}
use Rattle.patch_reading.specs.PatchReads.{node_width}
use Rattle.patch_reading.specs.Fronts.{node}
use Rattle.patch_reading.proofs.NodeParts.{fork_width}
use Rattle.typing.specs.Typing.Laws.{requires_fails}
use Rattle.typing.proofs.Given.{gave, was_refused, size_inside, given_there, first_inside, second_inside}
use Rattle.typing.proofs.TypingParts.{first_failed, second_failed, both_given, both_is, then_is, no_parts}
use Rattle.typing.proofs.TypingChain.{two as chain_two, chain_refused, second_refused as chain_second_refused, chain_given}
use Rattle.typing.proofs.TypingChoose.{two as choose_two, choose_shapeless, first_refused, second_refused, outputs_differ, outputs_same}
use Rattle.typing.proofs.+type_each_node.Goals as goal

pub type_node-returns-in-4 : goal.type_node-returns-in-4
type_node-returns-in-4 t c = rw (both_is (node c.args.front) c.kind.ensures (tree c.args.ty) c.in-4.is) c.type_parts.ensures

pub type_node-returns-in_err-first-in-9 : goal.type_node-returns-in_err-first-in-9
type_node-returns-in_err-first-in-9 t c =
    let refused : c.from_residual.result ≡ Err WrongShape = search rules in
    let other = no_parts 3 (tree c.args.ty) c.parts_of.result c.parts_of.ensures c.in_err-first-in-9.ensures.variant in
    rw (refused, then_is (node c.args.front) c.kind.ensures (tree c.args.ty) c.in-9.is) (requires_fails _ other refl)

pub type_node-returns-in_ok-first-in-9 : goal.type_node-returns-in_ok-first-in-9
type_node-returns-in_ok-first-in-9 t c =
    let parts = rw c.in_ok-first-in-9.ensures.ok_part at c.parts_of.ensures in
    rw (then_is (node c.args.front) c.kind.ensures (tree c.args.ty) c.in-9.is, parts.0, ← parts.1, ← parts.2)
    c.type_parts-in-9.ensures

pub type_node-type_node-requires : goal.type_node-type_node-requires
type_node-type_node-requires t c =
    let two = chain_two c.args.front c.kind.ensures c.in-10.is (tree c.args.ty) in
    (omega (arith, fork_width (node c.args.front) two, ap node_width c.first.ensures, c.decreases), tt)

pub type_node-returns-in_err-first-in-10 : goal.type_node-returns-in_err-first-in-10
type_node-returns-in_err-first-in-10 t c =
    let refused : c.from_residual-in_err-first-in-10.result ≡ Err c.in_err-first-in-10.field-0.0 = search rules in
    let one = was_refused c.first.result c.first.ensures c.in_err-first-in-10.ensures in
    rw refused (chain_refused c.args.front c.kind.ensures c.in-10.is (tree c.args.ty) one)

pub type_node-invariant_of-given : goal.type_node-invariant_of-given
type_node-invariant_of-given t c =
    let held = given_there c.args.ty c.first.result refl c.in_ok-first-in-10.ensures in
    record { whole = is_whole held; small = is_small held }

pub type_node-slice_bounds-middle-end : goal.type_node-slice_bounds-middle-end
type_node-slice_bounds-middle-end t c = size_inside (gave c.first.result c.first.ensures c.in_ok-first-in-10.ensures) refl

pub type_node-slice_bounds-given-end : goal.type_node-slice_bounds-given-end
type_node-slice_bounds-given-end t c =
    let one = gave c.first.result c.first.ensures c.in_ok-first-in-10.ensures in
    sym (length-take-le _ _ (size_inside one refl))

pub type_node-overflow_add-end : goal.type_node-overflow_add-end
type_node-overflow_add-end t c =
    let one = gave c.first.result c.first.ensures c.in_ok-first-in-10.ensures in
    omega (arith, first_inside c.args.front (chain_two c.args.front c.kind.ensures c.in-10.is (tree c.args.ty)) one.ends)

pub type_node-second-requires-clause-ends : goal.type_node-second-requires-clause-ends
type_node-second-requires-clause-ends t c =
    let one = gave c.first.result c.first.ensures c.in_ok-first-in-10.ensures in
    ap (λ m. 1 + m) one.ends

pub type_node-type_node-requires-in-10 : goal.type_node-type_node-requires-in-10
type_node-type_node-requires-in-10 t c =
    let two = chain_two c.args.front c.kind.ensures c.in-10.is (tree c.args.ty) in
    (omega (arith, fork_width (node c.args.front) two, ap node_width c.second.ensures, c.decreases), tt)

pub type_node-returns-in_err-second-in-10 : goal.type_node-returns-in_err-second-in-10
type_node-returns-in_err-second-in-10 t c =
    let one = gave c.first.result c.first.ensures c.in_ok-first-in-10.ensures in
    let refused : c.from_residual-in_err-second-in-10.result ≡ Err c.in_err-second-in-10.field-0.0 = search rules in
    let other = was_refused c.second.result c.second.ensures c.in_err-second-in-10.ensures in
    rw refused (chain_second_refused c.args.front c.kind.ensures c.in-10.is (tree c.args.ty) one refl other)

pub type_node-overflow_add-result : goal.type_node-overflow_add-result
type_node-overflow_add-result t c =
    let one = gave c.first.result c.first.ensures c.in_ok-first-in-10.ensures in
    let other = gave c.second.result c.second.ensures c.in_ok-second-in-10.ensures in
    omega (arith, second_inside c.args.front (chain_two c.args.front c.kind.ensures c.in-10.is (tree c.args.ty)) one.ends other.ends)

pub type_node-returns-in_ok-second-in-10 : goal.type_node-returns-in_ok-second-in-10
type_node-returns-in_ok-second-in-10 t c =
    let one = gave c.first.result c.first.ensures c.in_ok-first-in-10.ensures in
    let other = gave c.second.result c.second.ensures c.in_ok-second-in-10.ensures in
    chain_given c.args.front c.kind.ensures c.in-10.is (tree c.args.ty) one refl other

pub type_parts-type_node-requires : goal.type_parts-type_node-requires
type_parts-type_node-requires t c =
    (omega (arith, fork_width (node c.args.front) c.requires.two_parts, ap node_width c.first.ensures, c.decreases), tt)

pub type_parts-returns-in_err-one : goal.type_parts-returns-in_err-one
type_parts-returns-in_err-one t c =
    let refused : c.from_residual.result ≡ Err c.in_err-one.field-0.0 = search rules in
    let one = was_refused c.first.result c.first.ensures c.in_err-one.ensures in
    rw refused
    (first_failed c.args.front c.requires.two_parts (tree c.args.first) (tree c.args.second) c.append_kind-before.ensures c.within-start.ensures one)

pub type_parts-overflow_add-end : goal.type_parts-overflow_add-end
type_parts-overflow_add-end t c =
    let one = gave c.first.result c.first.ensures c.in_ok-one.ensures in
    omega (arith, first_inside c.args.front c.requires.two_parts one.ends)

pub type_parts-overflow_add-written : goal.type_parts-overflow_add-written
type_parts-overflow_add-written t c =
    let one = gave c.first.result c.first.ensures c.in_ok-one.ensures in
    omega (arith, c.append_kind-before.ensures.ends, one.few)

pub type_parts-second-requires-clause-ends : goal.type_parts-second-requires-clause-ends
type_parts-second-requires-clause-ends t c =
    let one = gave c.first.result c.first.ensures c.in_ok-one.ensures in
    ap (λ m. 1 + m) one.ends

pub type_parts-type_node-requires-2 : goal.type_parts-type_node-requires-2
type_parts-type_node-requires-2 t c =
    (omega (arith, fork_width (node c.args.front) c.requires.two_parts, ap node_width c.second.ensures, c.decreases), tt)

pub type_parts-returns-in_err-other : goal.type_parts-returns-in_err-other
type_parts-returns-in_err-other t c =
    let one = gave c.first.result c.first.ensures c.in_ok-one.ensures in
    let refused : c.from_residual-in_err-other.result ≡ Err c.in_err-other.field-0.0 = search rules in
    let other = was_refused c.second.result c.second.ensures c.in_err-other.ensures in
    rw refused
    (second_failed c.args.front c.requires.two_parts (tree c.args.first) (tree c.args.second) c.append_kind-before.ensures c.within-start.ensures one
    c.within-rest.ensures other)

pub type_parts-overflow_add-end-2 : goal.type_parts-overflow_add-end-2
type_parts-overflow_add-end-2 t c =
    let one = gave c.first.result c.first.ensures c.in_ok-one.ensures in
    let other = gave c.second.result c.second.ensures c.in_ok-other.ensures in
    omega (arith, second_inside c.args.front c.requires.two_parts one.ends other.ends)

pub type_parts-overflow_add-written-2 : goal.type_parts-overflow_add-written-2
type_parts-overflow_add-written-2 t c =
    let one = gave c.first.result c.first.ensures c.in_ok-one.ensures in
    let other = gave c.second.result c.second.ensures c.in_ok-other.ensures in
    omega (arith, c.append_kind-before.ensures.ends, one.few, other.few)

pub type_parts-returns : goal.type_parts-returns
type_parts-returns t c =
    let one = gave c.first.result c.first.ensures c.in_ok-one.ensures in
    let other = gave c.second.result c.second.ensures c.in_ok-other.ensures in
    rw (c.ending.ensures, c.limit.ensures)
    (both_given c.args.front c.requires.two_parts (tree c.args.first) (tree c.args.second) c.append_kind-before.ensures c.within-start.ensures one
    c.within-rest.ensures c.requires.forks other)

pub type_choose-returns-in_err-first : goal.type_choose-returns-in_err-first
type_choose-returns-in_err-first t c =
    let refused : c.from_residual.result ≡ Err WrongShape = search rules in
    let other = no_parts 5 (tree c.args.ty) c.parts_of.result c.parts_of.ensures c.in_err-first.ensures.variant in
    rw refused (choose_shapeless c.args.front c.args.ty c.requires other)

pub type_choose-type_node-requires : goal.type_choose-type_node-requires
type_choose-type_node-requires t c =
    let two = choose_two c.args.front c.args.ty c.requires in
    (omega (arith, fork_width (node c.args.front) two, ap node_width c.first.ensures, c.decreases), tt)

pub type_choose-returns-in_err-first_typed : goal.type_choose-returns-in_err-first_typed
type_choose-returns-in_err-first_typed t c =
    let parts = rw c.in_ok-first.ensures.ok_part at c.parts_of.ensures in
    let refused : c.from_residual-in_err-first_typed.result ≡ Err c.in_err-first_typed.field-0.0 = search rules in
    let one = was_refused c.first.result c.first.ensures c.in_err-first_typed.ensures in
    rw refused (first_refused c.args.front c.args.ty c.requires c.in_ok-first.first c.in_ok-first.second parts one)

pub type_choose-overflow_add-end : goal.type_choose-overflow_add-end
type_choose-overflow_add-end t c =
    let one = gave c.first.result c.first.ensures c.in_ok-first_typed.ensures in
    omega (arith, first_inside c.args.front (choose_two c.args.front c.args.ty c.requires) one.ends)

pub type_choose-second-requires-clause-ends : goal.type_choose-second-requires-clause-ends
type_choose-second-requires-clause-ends t c =
    let one = gave c.first.result c.first.ensures c.in_ok-first_typed.ensures in
    ap (λ m. 1 + m) one.ends

pub type_choose-type_node-requires-2 : goal.type_choose-type_node-requires-2
type_choose-type_node-requires-2 t c =
    let two = choose_two c.args.front c.args.ty c.requires in
    (omega (arith, fork_width (node c.args.front) two, ap node_width c.second.ensures, c.decreases), tt)

pub type_choose-returns-in_err-second_typed : goal.type_choose-returns-in_err-second_typed
type_choose-returns-in_err-second_typed t c =
    let parts = rw c.in_ok-first.ensures.ok_part at c.parts_of.ensures in
    let one = gave c.first.result c.first.ensures c.in_ok-first_typed.ensures in
    let refused : c.from_residual-in_err-second_typed.result ≡ Err c.in_err-second_typed.field-0.0 = search rules in
    let other = was_refused c.second.result c.second.ensures c.in_err-second_typed.ensures in
    rw refused (second_refused c.args.front c.args.ty c.requires c.in_ok-first.first c.in_ok-first.second parts one other)

pub type_choose-slice_bounds-one-end : goal.type_choose-slice_bounds-one-end
type_choose-slice_bounds-one-end t c = size_inside (gave c.first.result c.first.ensures c.in_ok-first_typed.ensures) refl

pub type_choose-slice_bounds-given-end : goal.type_choose-slice_bounds-given-end
type_choose-slice_bounds-given-end t c =
    let one = gave c.first.result c.first.ensures c.in_ok-first_typed.ensures in
    sym (length-take-le _ _ (size_inside one refl))

pub type_choose-slice_bounds-other-end : goal.type_choose-slice_bounds-other-end
type_choose-slice_bounds-other-end t c = size_inside (gave c.second.result c.second.ensures c.in_ok-second_typed.ensures) refl

pub type_choose-slice_bounds-ne-end : goal.type_choose-slice_bounds-ne-end
type_choose-slice_bounds-ne-end t c =
    let other = gave c.second.result c.second.ensures c.in_ok-second_typed.ensures in
    sym (length-take-le _ _ (size_inside other refl))

pub type_choose-returns-then-ne : goal.type_choose-returns-then-ne
type_choose-returns-then-ne t c =
    let parts = rw c.in_ok-first.ensures.ok_part at c.parts_of.ensures in
    let one = gave c.first.result c.first.ensures c.in_ok-first_typed.ensures in
    let other = gave c.second.result c.second.ensures c.in_ok-second_typed.ensures in
    outputs_differ c.args.front c.args.ty c.requires c.in_ok-first.first c.in_ok-first.second parts one other refl refl c.ne.ensures c.if-ne.true

pub type_choose-overflow_add-result : goal.type_choose-overflow_add-result
type_choose-overflow_add-result t c =
    let one = gave c.first.result c.first.ensures c.in_ok-first_typed.ensures in
    let other = gave c.second.result c.second.ensures c.in_ok-second_typed.ensures in
    omega (arith, second_inside c.args.front (choose_two c.args.front c.args.ty c.requires) one.ends other.ends)

pub type_choose-returns : goal.type_choose-returns
type_choose-returns t c =
    let parts = rw c.in_ok-first.ensures.ok_part at c.parts_of.ensures in
    let one = gave c.first.result c.first.ensures c.in_ok-first_typed.ensures in
    let other = gave c.second.result c.second.ensures c.in_ok-second_typed.ensures in
    outputs_same c.args.front c.args.ty c.requires c.in_ok-first.first c.in_ok-first.second parts one other refl refl c.ne.ensures
    c.if-ne.false c.append.ensures
