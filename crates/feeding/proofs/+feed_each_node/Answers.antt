-- `feed_node` and the functions for two parts meet their contracts. A node without parts is typed and fed by the function for its kind,
-- whose answer is the node's (`FeedingLeaf`). The others feed their parts, and what these send, leave and give makes theirs, or one of
-- them fails, and then they fail (`FeedingBoth`, `FeedingParts`, `FeedingThen`, `FeedingComing`, `FeedingChain`, `FeedingChoose`,
-- `FeedingFirstChosen`, `FeedingSecondChosen`). Every call is at fewer nodes, or hands the same node on, from `feed_node` to a
-- function for two parts, from `feed_then` to `feed_parts` or `feed_coming`, and from `feed_choose` to the function for the chosen part
-- (`Below`).
use Rattle.std.proofs.Common.{refl, sym, ap, ◌∙◌, arith, ℕ, length-take-le}
use Rattle.reading.specs.Views.{tree}
use Rattle.reading.specs.InputViews.{type, prefix}
use Rattle.reading.proofs.InputViews.{is_prefix}
use Rattle.node.specs.Nodes.Kinds.{node_arity}
use Rattle.node.specs.PatchFiles.{node_bytes}
use Rattle.patch_reading.specs.Fronts.{node}
use Rattle.patch_reading.proofs.NodeParts.{made_of, fork_width, value_node_width}
use Rattle.patch_reading.proofs.NodeFronts.{inside}
use Rattle.feeding.proofs.Below.{first_fewer, second_fewer}
use Rattle.feeding.proofs.Typings.{has_told}
use Rattle.feeding.proofs.FeedingLeaf.{leaf_rooms, leaf_fed, other_fed, above_listed}
use Rattle.feeding.proofs.FeedingBoth.{both_answers}
use Rattle.feeding.proofs.FeedingParts.{none_left, some_left}
use Rattle.feeding.proofs.FeedingParts as FeedingParts
use Rattle.feeding.proofs.FeedingThen as FeedingThen
use Rattle.feeding.proofs.FeedingComing as FeedingComing
use Rattle.feeding.proofs.FeedingChain as FeedingChain
use Rattle.feeding.proofs.FeedingChoose as FeedingChoose
use Rattle.feeding.proofs.FeedingFirstChosen as FeedingFirstChosen
use Rattle.feeding.proofs.FeedingSecondChosen as FeedingSecondChosen
use Rattle.feeding.proofs.+feed_each_node.Goals.{feed_parts-After-given_kind}
use Rattle.feeding.proofs.+feed_each_node.Goals as goal

-- feed_node: each arm hands on what its kind is due, and answers as it does.

pub feed_node-feed_pass-requires : goal.feed_node-feed_pass-requires
feed_node-feed_pass-requires t c = leaf_rooms c.requires

pub feed_node-feed_cue-requires : goal.feed_node-feed_cue-requires
feed_node-feed_cue-requires t c = leaf_rooms c.requires

pub feed_node-feed_left-requires : goal.feed_node-feed_left-requires
feed_node-feed_left-requires t c = leaf_rooms c.requires

pub feed_node-feed_right-requires : goal.feed_node-feed_right-requires
feed_node-feed_right-requires t c = leaf_rooms c.requires

pub feed_node-feed_first-requires : goal.feed_node-feed_first-requires
feed_node-feed_first-requires t c = leaf_rooms c.requires

pub feed_node-feed_second-requires : goal.feed_node-feed_second-requires
feed_node-feed_second-requires t c = leaf_rooms c.requires

pub feed_node-feed_regroup_right-requires : goal.feed_node-feed_regroup_right-requires
feed_node-feed_regroup_right-requires t c = leaf_rooms c.requires

pub feed_node-feed_regroup_left-requires : goal.feed_node-feed_regroup_left-requires
feed_node-feed_regroup_left-requires t c = leaf_rooms c.requires

pub feed_node-feed_spread-requires : goal.feed_node-feed_spread-requires
feed_node-feed_spread-requires t c = leaf_rooms c.requires

pub feed_node-feed_front-requires : goal.feed_node-feed_front-requires
feed_node-feed_front-requires t c = leaf_rooms c.requires

pub feed_node-feed_silent-requires-clause-leaf_rooms : goal.feed_node-feed_silent-requires-clause-leaf_rooms
feed_node-feed_silent-requires-clause-leaf_rooms t c = leaf_rooms c.requires

pub feed_node-feed_level-requires-clause-leaf_rooms : goal.feed_node-feed_level-requires-clause-leaf_rooms
feed_node-feed_level-requires-clause-leaf_rooms t c = leaf_rooms c.requires

pub feed_node-feed_mark-requires-clause-leaf_rooms : goal.feed_node-feed_mark-requires-clause-leaf_rooms
feed_node-feed_mark-requires-clause-leaf_rooms t c = leaf_rooms c.requires

pub feed_node-returns-in-0 : goal.feed_node-returns-in-0
unfolding node_bytes
feed_node-returns-in-0 t c = leaf_fed (made_of (node c.args.front) (sym c.kind.ensures ∙ c.in-0.is)) (prefix c.args.input) c.feed_pass.ensures

pub feed_node-returns-in-2 : goal.feed_node-returns-in-2
unfolding node_bytes
feed_node-returns-in-2 t c =
    leaf_fed (made_of (node c.args.front) (sym c.kind.ensures ∙ c.in-2.is)) (prefix c.args.input)
    (c.feed_cue.ensures (type c.args.input) (prefix c.args.input) c.args.input.whole)

pub feed_node-returns-in-5 : goal.feed_node-returns-in-5
unfolding node_bytes
feed_node-returns-in-5 t c = leaf_fed (made_of (node c.args.front) (sym c.kind.ensures ∙ c.in-5.is)) (prefix c.args.input) c.feed_left.ensures

pub feed_node-returns-in-6 : goal.feed_node-returns-in-6
unfolding node_bytes
feed_node-returns-in-6 t c = leaf_fed (made_of (node c.args.front) (sym c.kind.ensures ∙ c.in-6.is)) (prefix c.args.input) c.feed_right.ensures

pub feed_node-returns-in-7 : goal.feed_node-returns-in-7
unfolding node_bytes
feed_node-returns-in-7 t c = leaf_fed (made_of (node c.args.front) (sym c.kind.ensures ∙ c.in-7.is)) (prefix c.args.input) c.feed_first.ensures

pub feed_node-returns-in-8 : goal.feed_node-returns-in-8
unfolding node_bytes
feed_node-returns-in-8 t c = leaf_fed (made_of (node c.args.front) (sym c.kind.ensures ∙ c.in-8.is)) (prefix c.args.input) c.feed_second.ensures

pub feed_node-returns-in-11 : goal.feed_node-returns-in-11
unfolding node_bytes
feed_node-returns-in-11 t c = leaf_fed (made_of (node c.args.front) (sym c.kind.ensures ∙ c.in-11.is)) (prefix c.args.input) c.feed_regroup_right.ensures

pub feed_node-returns-in-12 : goal.feed_node-returns-in-12
unfolding node_bytes
feed_node-returns-in-12 t c = leaf_fed (made_of (node c.args.front) (sym c.kind.ensures ∙ c.in-12.is)) (prefix c.args.input) c.feed_regroup_left.ensures

pub feed_node-returns-in-13 : goal.feed_node-returns-in-13
unfolding node_bytes
feed_node-returns-in-13 t c = leaf_fed (made_of (node c.args.front) (sym c.kind.ensures ∙ c.in-13.is)) (prefix c.args.input) c.feed_spread.ensures

pub feed_node-returns-in-14 : goal.feed_node-returns-in-14
unfolding node_bytes
feed_node-returns-in-14 t c = leaf_fed (made_of (node c.args.front) (sym c.kind.ensures ∙ c.in-14.is)) (prefix c.args.input) c.feed_front.ensures

pub feed_node-returns-in-3 : goal.feed_node-returns-in-3
feed_node-returns-in-3 t c =
    rw (value_node_width (node c.args.front) (sym c.kind.ensures ∙ c.in-3.is))
    (c.feed_level.ensures (type c.args.input) (prefix c.args.input) c.args.input.whole)

pub feed_node-returns-in-18-to-255 : goal.feed_node-returns-in-18-to-255
feed_node-returns-in-18-to-255 t c = other_fed {n = node c.args.front} (above_listed 18 (omega (arith, c.kind.ensures))) (prefix c.args.input)

-- feed_both hands the input to both its nodes.

pub feed_both-returns : goal.feed_both-returns
feed_both-returns t c = both_answers (node c.args.front) c.requires.is_both (prefix c.args.input) c.requires.rooms.rooms c.feed_parts.ensures

-- feed_then and feed_choose: on another type they fail; otherwise they hand their node on, by what has come.

pub feed_then-returns-in-Crossed : goal.feed_then-returns-in-Crossed
feed_then-returns-in-Crossed t c =
    rw (c.in-Crossed.ensures.1, c.in-Crossed.ensures.0)
    (FeedingThen.crossed_answers (node c.args.front) c.requires.is_then (prefix c.in-Crossed.first) (prefix c.in-Crossed.second) c.requires.rooms.rooms
    c.feed_parts.ensures)

pub feed_then-returns-in_default : goal.feed_then-returns-in_default
feed_then-returns-in_default t c =
    FeedingThen.no_sequence (node c.args.front) c.requires.is_then c.parts.ensures (is_prefix c.args.input) c.in_default.not-Coming
    c.in_default.not-Crossed

pub feed_choose-returns-in_default-parts : goal.feed_choose-returns-in_default-parts
feed_choose-returns-in_default-parts t c =
    FeedingChoose.no_either (node c.args.front) c.requires.is_choose c.parts.ensures (is_prefix c.args.input) (λ e. omega (arith, c.kind.ensures, e))
    c.in_default-parts.not-FirstChosen c.in_default-parts.not-SecondChosen

-- feed_parts: the three kind bytes are set, the first node is fed behind them, and the second behind that.

parts_begun : (t : ℕ) (c : feed_parts-After-given_kind t)
    → FeedingParts.Begun c.args.pair (node c.args.front) (type c.args.first) (type c.args.second) (prefix c.args.first) (prefix c.args.second) c.args.out.now c.args.remainder.now c.args.given.now c.sent_kind.result c.given_kind.result
parts_begun t c =
    record {
      is_pair = c.requires.is_pair;
      first_fits = is_prefix c.args.first;
      second_fits = is_prefix c.args.second;
      rooms = c.requires.rooms;
      sends_kind = c.sent_kind.ensures;
      gives_kind = c.given_kind.ensures;
      some = some_left c.args.given.now c.is_empty.ensures c.if-is_empty.false;
    }

pub feed_parts-returns-then-is_empty : goal.feed_parts-returns-then-is_empty
feed_parts-returns-then-is_empty t c =
    FeedingParts.no_room c.args.pair (node c.args.front) (prefix c.args.first) (prefix c.args.second) (none_left c.args.given.now c.is_empty.ensures c.if-is_empty.true)

pub feed_parts-feed_node-requires : goal.feed_parts-feed_node-requires
feed_parts-feed_node-requires t c =
    let begun = parts_begun t (goal.at.feed_parts-feed_node-requires t c).After-given_kind in
    (omega (arith, c.decreases, first_fewer (node c.args.front) (FeedingParts.two_parts c.args.pair _ c.requires.is_pair) c.first.ensures), rw c.first.ensures (FeedingParts.first_rooms begun))

pub feed_parts-returns-in_err-one : goal.feed_parts-returns-in_err-one
feed_parts-returns-in_err-one t c =
    let begun = parts_begun t (goal.at.feed_parts-returns-in_err-one t c).After-given_kind in
    rw c.from_residual.ensures (FeedingParts.first_fails begun (rw c.first.ensures at c.in_err-one.ensures))

pub feed_parts-overflow_add-end : goal.feed_parts-overflow_add-end
feed_parts-overflow_add-end t c =
    let begun = parts_begun t (goal.at.feed_parts-overflow_add-end t c).After-given_kind in
    let one = rw c.first.ensures at c.in_ok-one.ensures in
    omega (arith, (FeedingParts.gave begun one).steps.ends, fork_width (node c.args.front) (FeedingParts.two_parts c.args.pair _ c.requires.is_pair), inside c.args.front)

pub feed_parts-overflow_add-sent : goal.feed_parts-overflow_add-sent
feed_parts-overflow_add-sent t c =
    let begun = parts_begun t (goal.at.feed_parts-overflow_add-sent t c).After-given_kind in
    let one = rw c.first.ensures at c.in_ok-one.ensures in
    omega (arith, FeedingParts.out_taken begun one)

pub feed_parts-overflow_add-size : goal.feed_parts-overflow_add-size
feed_parts-overflow_add-size t c =
    let begun = parts_begun t (goal.at.feed_parts-overflow_add-size t c).After-given_kind in
    let one = rw c.first.ensures at c.in_ok-one.ensures in
    omega (arith, FeedingParts.given_taken begun one)

pub feed_parts-kept_before-kept-requires : goal.feed_parts-kept_before-kept-requires
feed_parts-kept_before-kept-requires t c =
    let begun = parts_begun t (goal.at.feed_parts-kept_before-kept-requires t c).After-given_kind in
    let one = rw c.first.ensures at c.in_ok-one.ensures in
    omega (arith, FeedingParts.left_taken begun one)

pub feed_parts-second-requires-clause-ends : goal.feed_parts-second-requires-clause-ends
feed_parts-second-requires-clause-ends t c =
    let begun = parts_begun t (goal.at.feed_parts-second-requires-clause-ends t c).After-given_kind in
    let one = rw c.first.ensures at c.in_ok-one.ensures in
    omega (arith, (FeedingParts.gave begun one).steps.ends)

pub feed_parts-slice_bounds-feed_node-count-4 : goal.feed_parts-slice_bounds-feed_node-count-4
feed_parts-slice_bounds-feed_node-count-4 t c =
    let begun = parts_begun t (goal.at.feed_parts-slice_bounds-feed_node-count-4 t c).After-given_kind in
    let one = rw c.first.ensures at c.in_ok-one.ensures in
    (FeedingParts.out_taken begun one).has_room

pub feed_parts-slice_bounds-feed_node-count-5 : goal.feed_parts-slice_bounds-feed_node-count-5
feed_parts-slice_bounds-feed_node-count-5 t c =
    let begun = parts_begun t (goal.at.feed_parts-slice_bounds-feed_node-count-5 t c).After-given_kind in
    let one = rw c.first.ensures at c.in_ok-one.ensures in
    FeedingParts.left_inside begun one c.kept_before-kept.ensures

pub feed_parts-slice_bounds-feed_node-count-6 : goal.feed_parts-slice_bounds-feed_node-count-6
feed_parts-slice_bounds-feed_node-count-6 t c =
    let begun = parts_begun t (goal.at.feed_parts-slice_bounds-feed_node-count-6 t c).After-given_kind in
    let one = rw c.first.ensures at c.in_ok-one.ensures in
    (FeedingParts.given_taken begun one).has_room

pub feed_parts-slice_bounds-feed_node-start-4 : goal.feed_parts-slice_bounds-feed_node-start-4
feed_parts-slice_bounds-feed_node-start-4 t c =
    let begun = parts_begun t (goal.at.feed_parts-slice_bounds-feed_node-start-4 t c).After-given_kind in
    let one = rw c.first.ensures at c.in_ok-one.ensures in
    (FeedingParts.out_taken begun one).has_room

pub feed_parts-slice_bounds-feed_node-start-5 : goal.feed_parts-slice_bounds-feed_node-start-5
feed_parts-slice_bounds-feed_node-start-5 t c =
    let begun = parts_begun t (goal.at.feed_parts-slice_bounds-feed_node-start-5 t c).After-given_kind in
    let one = rw c.first.ensures at c.in_ok-one.ensures in
    FeedingParts.left_inside begun one c.kept_before-kept.ensures

pub feed_parts-slice_bounds-feed_node-start-6 : goal.feed_parts-slice_bounds-feed_node-start-6
feed_parts-slice_bounds-feed_node-start-6 t c =
    let begun = parts_begun t (goal.at.feed_parts-slice_bounds-feed_node-start-6 t c).After-given_kind in
    let one = rw c.first.ensures at c.in_ok-one.ensures in
    (FeedingParts.given_taken begun one).has_room

pub feed_parts-feed_node-requires-2 : goal.feed_parts-feed_node-requires-2
feed_parts-feed_node-requires-2 t c =
    let begun = parts_begun t (goal.at.feed_parts-feed_node-requires-2 t c).After-given_kind in
    let one = rw c.first.ensures at c.in_ok-one.ensures in
    (omega (arith, c.decreases, second_fewer (node c.args.front) (FeedingParts.two_parts c.args.pair _ c.requires.is_pair) c.second.ensures), rw c.second.ensures (FeedingParts.second_rooms begun one c.kept_before-kept.ensures))

pub feed_parts-returns-in_err-other : goal.feed_parts-returns-in_err-other
feed_parts-returns-in_err-other t c =
    let begun = parts_begun t (goal.at.feed_parts-returns-in_err-other t c).After-given_kind in
    let one = rw c.first.ensures at c.in_ok-one.ensures in
    rw c.from_residual-in_err-other.ensures (FeedingParts.second_fails begun one c.kept_before-kept.ensures (rw c.second.ensures at c.in_err-other.ensures))

pub feed_parts-overflow_add-result : goal.feed_parts-overflow_add-result
feed_parts-overflow_add-result t c =
    let begun = parts_begun t (goal.at.feed_parts-overflow_add-result t c).After-given_kind in
    let one = rw c.first.ensures at c.in_ok-one.ensures in
    let other = rw c.second.ensures at c.in_ok-other.ensures in
    omega (arith, FeedingParts.end_both begun one c.kept_before-kept.ensures other, inside c.args.front)

pub feed_parts-overflow_add-result-2 : goal.feed_parts-overflow_add-result-2
feed_parts-overflow_add-result-2 t c =
    let begun = parts_begun t (goal.at.feed_parts-overflow_add-result-2 t c).After-given_kind in
    let one = rw c.first.ensures at c.in_ok-one.ensures in
    let other = rw c.second.ensures at c.in_ok-other.ensures in
    omega (arith, FeedingParts.out_full begun one c.kept_before-kept.ensures other)

pub feed_parts-overflow_add-result-3 : goal.feed_parts-overflow_add-result-3
feed_parts-overflow_add-result-3 t c =
    let begun = parts_begun t (goal.at.feed_parts-overflow_add-result-3 t c).After-given_kind in
    let one = rw c.first.ensures at c.in_ok-one.ensures in
    let other = rw c.second.ensures at c.in_ok-other.ensures in
    omega (arith, FeedingParts.left_full begun one c.kept_before-kept.ensures other)

pub feed_parts-overflow_add-result-4 : goal.feed_parts-overflow_add-result-4
feed_parts-overflow_add-result-4 t c =
    let begun = parts_begun t (goal.at.feed_parts-overflow_add-result-4 t c).After-given_kind in
    let one = rw c.first.ensures at c.in_ok-one.ensures in
    let other = rw c.second.ensures at c.in_ok-other.ensures in
    omega (arith, FeedingParts.given_full begun one c.kept_before-kept.ensures other)

pub feed_parts-returns : goal.feed_parts-returns
feed_parts-returns t c =
    let begun = parts_begun t (goal.at.feed_parts-returns t c).After-given_kind in
    let one = rw c.first.ensures at c.in_ok-one.ensures in
    let other = rw c.second.ensures at c.in_ok-other.ensures in
    FeedingParts.both_fed begun one c.kept_before-kept.ensures other

-- feed_coming: three kind bytes are set, the first node is fed behind them, and the second is typed and copied behind that.

pub feed_coming-returns-then-is_empty : goal.feed_coming-returns-then-is_empty
feed_coming-returns-then-is_empty t c =
    FeedingComing.no_room c.args.front c.requires.is_then (tree c.args.second) (is_prefix c.args.part) c.requires.rooms (none_left c.args.given.now c.is_empty.ensures c.if-is_empty.true)

pub feed_coming-feed_node-requires : goal.feed_coming-feed_node-requires
feed_coming-feed_node-requires t c =
    let some = some_left c.args.given.now c.is_empty.ensures c.if-is_empty.false in
    (omega (arith, c.decreases, first_fewer (node c.args.front) (ap node_arity c.requires.is_then) c.first.ensures), rw c.first.ensures (FeedingComing.first_rooms c.args.front c.requires.is_then (tree c.args.second) (is_prefix c.args.part) c.requires.rooms some))

pub feed_coming-returns-in_err-step : goal.feed_coming-returns-in_err-step
feed_coming-returns-in_err-step t c =
    let some = some_left c.args.given.now c.is_empty.ensures c.if-is_empty.false in
    rw c.from_residual.ensures (FeedingComing.first_fails c.args.front c.requires.is_then (tree c.args.second) (is_prefix c.args.part) c.requires.rooms some (rw c.first.ensures at c.in_err-step.ensures))

pub feed_coming-overflow_add-end : goal.feed_coming-overflow_add-end
feed_coming-overflow_add-end t c =
    let some = some_left c.args.given.now c.is_empty.ensures c.if-is_empty.false in
    let one = rw c.first.ensures at c.in_ok-step.ensures in
    omega (arith, (FeedingComing.gave c.args.front c.requires.is_then (tree c.args.second) (is_prefix c.args.part) c.requires.rooms some one).steps.ends, fork_width (node c.args.front) (ap node_arity c.requires.is_then), inside c.args.front)

pub feed_coming-overflow_add-size : goal.feed_coming-overflow_add-size
feed_coming-overflow_add-size t c =
    let some = some_left c.args.given.now c.is_empty.ensures c.if-is_empty.false in
    let one = rw c.first.ensures at c.in_ok-step.ensures in
    omega (arith, FeedingComing.given_taken c.args.front c.requires.is_then (tree c.args.second) (is_prefix c.args.part) c.requires.rooms some one)

pub feed_coming-second-waiting-requires-clause-ends : goal.feed_coming-second-waiting-requires-clause-ends
feed_coming-second-waiting-requires-clause-ends t c =
    let some = some_left c.args.given.now c.is_empty.ensures c.if-is_empty.false in
    let one = rw c.first.ensures at c.in_ok-step.ensures in
    omega (arith, (FeedingComing.gave c.args.front c.requires.is_then (tree c.args.second) (is_prefix c.args.part) c.requires.rooms some one).steps.ends)

pub feed_coming-slice_bounds-type_node-count : goal.feed_coming-slice_bounds-type_node-count
feed_coming-slice_bounds-type_node-count t c =
    let some = some_left c.args.given.now c.is_empty.ensures c.if-is_empty.false in
    let one = rw c.first.ensures at c.in_ok-step.ensures in
    (FeedingComing.given_taken c.args.front c.requires.is_then (tree c.args.second) (is_prefix c.args.part) c.requires.rooms some one).has_room

pub feed_coming-slice_bounds-copy-count : goal.feed_coming-slice_bounds-copy-count
feed_coming-slice_bounds-copy-count t c =
    let some = some_left c.args.given.now c.is_empty.ensures c.if-is_empty.false in
    let one = rw c.first.ensures at c.in_ok-step.ensures in
    (FeedingComing.left_taken c.args.front c.requires.is_then (tree c.args.second) (is_prefix c.args.part) c.requires.rooms some one).has_room

pub feed_coming-slice_bounds-type_node-start : goal.feed_coming-slice_bounds-type_node-start
feed_coming-slice_bounds-type_node-start t c =
    let some = some_left c.args.given.now c.is_empty.ensures c.if-is_empty.false in
    let one = rw c.first.ensures at c.in_ok-step.ensures in
    (FeedingComing.given_taken c.args.front c.requires.is_then (tree c.args.second) (is_prefix c.args.part) c.requires.rooms some one).has_room

pub feed_coming-slice_bounds-copy-start : goal.feed_coming-slice_bounds-copy-start
feed_coming-slice_bounds-copy-start t c =
    let some = some_left c.args.given.now c.is_empty.ensures c.if-is_empty.false in
    let one = rw c.first.ensures at c.in_ok-step.ensures in
    (FeedingComing.left_taken c.args.front c.requires.is_then (tree c.args.second) (is_prefix c.args.part) c.requires.rooms some one).has_room

pub feed_coming-returns-in_err-typed : goal.feed_coming-returns-in_err-typed
feed_coming-returns-in_err-typed t c =
    let some = some_left c.args.given.now c.is_empty.ensures c.if-is_empty.false in
    let one = rw c.first.ensures at c.in_ok-step.ensures in
    rw c.from_residual-in_err-typed.ensures (FeedingComing.second_untyped c.args.front c.requires.is_then (tree c.args.second) (is_prefix c.args.part) c.requires.rooms some one (rw c.second-waiting.ensures at c.type_node.ensures) c.in_err-typed.ensures.value)

pub feed_coming-overflow_sub-given : goal.feed_coming-overflow_sub-given
feed_coming-overflow_sub-given t c =
    let some = some_left c.args.given.now c.is_empty.ensures c.if-is_empty.false in
    let one = rw c.first.ensures at c.in_ok-step.ensures in
    let told = rw (c.second-waiting.ensures, has_told c.in_ok-typed.ensures.value) at c.type_node.ensures in
    FeedingComing.given_inside c.args.front c.requires.is_then (tree c.args.second) (is_prefix c.args.part) c.requires.rooms some one told

pub feed_coming-returns-then-given-size : goal.feed_coming-returns-then-given-size
feed_coming-returns-then-given-size t c =
    let some = some_left c.args.given.now c.is_empty.ensures c.if-is_empty.false in
    let one = rw c.first.ensures at c.in_ok-step.ensures in
    let told = rw (c.second-waiting.ensures, has_told c.in_ok-typed.ensures.value) at c.type_node.ensures in
    FeedingComing.second_no_room c.args.front c.requires.is_then (tree c.args.second) (is_prefix c.args.part) c.requires.rooms some one told (omega (arith, c.if-given-size.true))

pub feed_coming-overflow_add-kept : goal.feed_coming-overflow_add-kept
feed_coming-overflow_add-kept t c =
    let some = some_left c.args.given.now c.is_empty.ensures c.if-is_empty.false in
    let one = rw c.first.ensures at c.in_ok-step.ensures in
    omega (arith, FeedingComing.left_taken c.args.front c.requires.is_then (tree c.args.second) (is_prefix c.args.part) c.requires.rooms some one)

pub feed_coming-slice_bounds-copy-end : goal.feed_coming-slice_bounds-copy-end
feed_coming-slice_bounds-copy-end t c =
    let some = some_left c.args.given.now c.is_empty.ensures c.if-is_empty.false in
    let one = rw c.first.ensures at c.in_ok-step.ensures in
    let told = rw (c.second-waiting.ensures, has_told c.in_ok-typed.ensures.value) at c.type_node.ensures in
    sym (length-take-le _ _ (FeedingComing.node_inside c.args.front c.requires.is_then (tree c.args.second) (is_prefix c.args.part) c.requires.rooms some one told c.second-waiting.result c.second-waiting.ensures))

pub feed_coming-copy-requires : goal.feed_coming-copy-requires
feed_coming-copy-requires t c =
    let some = some_left c.args.given.now c.is_empty.ensures c.if-is_empty.false in
    let one = rw c.first.ensures at c.in_ok-step.ensures in
    let told = rw (c.second-waiting.ensures, has_told c.in_ok-typed.ensures.value) at c.type_node.ensures in
    FeedingComing.copy_room c.args.front c.requires.is_then (tree c.args.second) (is_prefix c.args.part) c.requires.rooms some one told c.second-waiting.result c.second-waiting.ensures

pub feed_coming-overflow_add-result : goal.feed_coming-overflow_add-result
feed_coming-overflow_add-result t c =
    let some = some_left c.args.given.now c.is_empty.ensures c.if-is_empty.false in
    let one = rw c.first.ensures at c.in_ok-step.ensures in
    let told = rw (c.second-waiting.ensures, has_told c.in_ok-typed.ensures.value) at c.type_node.ensures in
    omega (arith, FeedingComing.end_both c.args.front c.requires.is_then (tree c.args.second) (is_prefix c.args.part) c.requires.rooms some one told, inside c.args.front)

pub feed_coming-overflow_add-result-2 : goal.feed_coming-overflow_add-result-2
feed_coming-overflow_add-result-2 t c =
    let some = some_left c.args.given.now c.is_empty.ensures c.if-is_empty.false in
    let one = rw c.first.ensures at c.in_ok-step.ensures in
    omega (arith, FeedingComing.out_taken c.args.front c.requires.is_then (tree c.args.second) (is_prefix c.args.part) c.requires.rooms some one)

pub feed_coming-overflow_add-result-3 : goal.feed_coming-overflow_add-result-3
feed_coming-overflow_add-result-3 t c =
    let some = some_left c.args.given.now c.is_empty.ensures c.if-is_empty.false in
    let one = rw c.first.ensures at c.in_ok-step.ensures in
    let told = rw (c.second-waiting.ensures, has_told c.in_ok-typed.ensures.value) at c.type_node.ensures in
    omega (arith, FeedingComing.kept_inside c.args.front c.requires.is_then (tree c.args.second) (is_prefix c.args.part) c.requires.rooms some one told)

pub feed_coming-overflow_add-result-4 : goal.feed_coming-overflow_add-result-4
feed_coming-overflow_add-result-4 t c =
    let some = some_left c.args.given.now c.is_empty.ensures c.if-is_empty.false in
    let one = rw c.first.ensures at c.in_ok-step.ensures in
    let told = rw (c.second-waiting.ensures, has_told c.in_ok-typed.ensures.value) at c.type_node.ensures in
    omega (arith, FeedingComing.given_full c.args.front c.requires.is_then (tree c.args.second) (is_prefix c.args.part) c.requires.rooms some one told c.second-waiting.result c.second-waiting.ensures (omega (arith, c.if-given-size.false)) c.copy.ensures)

pub feed_coming-returns : goal.feed_coming-returns
feed_coming-returns t c =
    let some = some_left c.args.given.now c.is_empty.ensures c.if-is_empty.false in
    let one = rw c.first.ensures at c.in_ok-step.ensures in
    let told = rw (c.second-waiting.ensures, has_told c.in_ok-typed.ensures.value) at c.type_node.ensures in
    FeedingComing.coming_fed c.args.front c.requires.is_then (tree c.args.second) (is_prefix c.args.part) c.requires.rooms some one told c.second-waiting.result c.second-waiting.ensures (omega (arith, c.if-given-size.false)) c.copy.ensures

-- feed_chain: what the first node sends and gives on the work arrays is fed to the second.

pub feed_chain-feed_node-requires : goal.feed_chain-feed_node-requires
feed_chain-feed_node-requires t c =
    (omega (arith, c.decreases, first_fewer (node c.args.front) (ap node_arity c.requires.is_chain) c.first.ensures), rw c.first.ensures (FeedingChain.first_rooms (node c.args.front) c.requires.is_chain (is_prefix c.args.input) c.requires.rooms refl refl))

pub feed_chain-returns-in_err-step : goal.feed_chain-returns-in_err-step
feed_chain-returns-in_err-step t c =
    rw c.from_residual.ensures (FeedingChain.first_fails (node c.args.front) c.requires.is_chain (is_prefix c.args.input) c.requires.rooms refl refl (rw c.first.ensures at c.in_err-step.ensures))

pub feed_chain-slice_bounds-middle-end : goal.feed_chain-slice_bounds-middle-end
feed_chain-slice_bounds-middle-end t c =
    let one = rw c.first.ensures at c.in_ok-step.ensures in
    FeedingChain.size_inside (node c.args.front) c.requires.is_chain (is_prefix c.args.input) c.requires.rooms refl refl one

pub feed_chain-slice_bounds-sent-end : goal.feed_chain-slice_bounds-sent-end
feed_chain-slice_bounds-sent-end t c =
    let one = rw c.first.ensures at c.in_ok-step.ensures in
    sym (length-take-le _ _ (FeedingChain.size_inside (node c.args.front) c.requires.is_chain (is_prefix c.args.input) c.requires.rooms refl refl one))

pub feed_chain-slice_bounds-between-end : goal.feed_chain-slice_bounds-between-end
feed_chain-slice_bounds-between-end t c =
    let one = rw c.first.ensures at c.in_ok-step.ensures in
    FeedingChain.sent_inside (node c.args.front) c.requires.is_chain (is_prefix c.args.input) c.requires.rooms refl refl one

pub feed_chain-slice_bounds-sent-end-2 : goal.feed_chain-slice_bounds-sent-end-2
feed_chain-slice_bounds-sent-end-2 t c =
    let one = rw c.first.ensures at c.in_ok-step.ensures in
    sym (length-take-le _ _ (FeedingChain.sent_inside (node c.args.front) c.requires.is_chain (is_prefix c.args.input) c.requires.rooms refl refl one))

pub feed_chain-invariant_of-sent : goal.feed_chain-invariant_of-sent
feed_chain-invariant_of-sent t c =
    let one = rw c.first.ensures at c.in_ok-step.ensures in
    record { whole = FeedingChain.type_whole (node c.args.front) c.requires.is_chain (is_prefix c.args.input) c.requires.rooms refl refl one; small = FeedingChain.type_small (node c.args.front) c.requires.is_chain (is_prefix c.args.input) c.requires.rooms refl refl one }

pub feed_chain-invariant_of-sent-2 : goal.feed_chain-invariant_of-sent-2
feed_chain-invariant_of-sent-2 t c =
    let one = rw c.first.ensures at c.in_ok-step.ensures in
    record { whole = FeedingChain.prefix_whole (node c.args.front) c.requires.is_chain (is_prefix c.args.input) c.requires.rooms refl refl one; is_prefix = FeedingChain.prefix_fits (node c.args.front) c.requires.is_chain (is_prefix c.args.input) c.requires.rooms refl refl one }

pub feed_chain-overflow_add-end : goal.feed_chain-overflow_add-end
feed_chain-overflow_add-end t c =
    let one = rw c.first.ensures at c.in_ok-step.ensures in
    omega (arith, (FeedingChain.gave (node c.args.front) c.requires.is_chain (is_prefix c.args.input) c.requires.rooms refl refl one).steps.ends, fork_width (node c.args.front) (ap node_arity c.requires.is_chain), inside c.args.front)

pub feed_chain-overflow_add-kept : goal.feed_chain-overflow_add-kept
feed_chain-overflow_add-kept t c =
    let one = rw c.first.ensures at c.in_ok-step.ensures in
    omega (arith, FeedingChain.left_taken (node c.args.front) c.requires.is_chain (is_prefix c.args.input) c.requires.rooms refl refl one)

pub feed_chain-slice_bounds-feed_node-count-2 : goal.feed_chain-slice_bounds-feed_node-count-2
feed_chain-slice_bounds-feed_node-count-2 t c =
    let one = rw c.first.ensures at c.in_ok-step.ensures in
    (FeedingChain.left_taken (node c.args.front) c.requires.is_chain (is_prefix c.args.input) c.requires.rooms refl refl one).has_room

pub feed_chain-slice_bounds-feed_node-start-2 : goal.feed_chain-slice_bounds-feed_node-start-2
feed_chain-slice_bounds-feed_node-start-2 t c =
    let one = rw c.first.ensures at c.in_ok-step.ensures in
    (FeedingChain.left_taken (node c.args.front) c.requires.is_chain (is_prefix c.args.input) c.requires.rooms refl refl one).has_room

pub feed_chain-feed_node-requires-2 : goal.feed_chain-feed_node-requires-2
feed_chain-feed_node-requires-2 t c =
    let one = rw c.first.ensures at c.in_ok-step.ensures in
    (omega (arith, c.decreases, second_fewer (node c.args.front) (ap node_arity c.requires.is_chain) c.second.ensures), rw c.second.ensures (FeedingChain.second_rooms (node c.args.front) c.requires.is_chain (is_prefix c.args.input) c.requires.rooms refl refl one))

pub feed_chain-returns-in_err-rest : goal.feed_chain-returns-in_err-rest
feed_chain-returns-in_err-rest t c =
    let one = rw c.first.ensures at c.in_ok-step.ensures in
    rw c.from_residual-in_err-rest.ensures
    (FeedingChain.second_fails (node c.args.front) c.requires.is_chain (is_prefix c.args.input) c.requires.rooms refl refl one (rw (c.second.ensures, FeedingChain.type_seen (node c.args.front) c.requires.is_chain (is_prefix c.args.input) c.requires.rooms refl refl one, FeedingChain.prefix_seen (node c.args.front) c.requires.is_chain (is_prefix c.args.input) c.requires.rooms refl refl one) at c.in_err-rest.ensures))

pub feed_chain-overflow_add-result : goal.feed_chain-overflow_add-result
feed_chain-overflow_add-result t c =
    let one = rw c.first.ensures at c.in_ok-step.ensures in
    let rest = rw (c.second.ensures, FeedingChain.type_seen (node c.args.front) c.requires.is_chain (is_prefix c.args.input) c.requires.rooms refl refl one, FeedingChain.prefix_seen (node c.args.front) c.requires.is_chain (is_prefix c.args.input) c.requires.rooms refl refl one) at c.in_ok-rest.ensures in
    omega (arith, FeedingChain.end_both (node c.args.front) c.requires.is_chain (is_prefix c.args.input) c.requires.rooms refl refl one rest, inside c.args.front)

pub feed_chain-overflow_add-result-2 : goal.feed_chain-overflow_add-result-2
feed_chain-overflow_add-result-2 t c =
    let one = rw c.first.ensures at c.in_ok-step.ensures in
    let rest = rw (c.second.ensures, FeedingChain.type_seen (node c.args.front) c.requires.is_chain (is_prefix c.args.input) c.requires.rooms refl refl one, FeedingChain.prefix_seen (node c.args.front) c.requires.is_chain (is_prefix c.args.input) c.requires.rooms refl refl one) at c.in_ok-rest.ensures in
    omega (arith, FeedingChain.left_full (node c.args.front) c.requires.is_chain (is_prefix c.args.input) c.requires.rooms refl refl one rest)

pub feed_chain-returns : goal.feed_chain-returns
feed_chain-returns t c =
    let one = rw c.first.ensures at c.in_ok-step.ensures in
    let rest = rw (c.second.ensures, FeedingChain.type_seen (node c.args.front) c.requires.is_chain (is_prefix c.args.input) c.requires.rooms refl refl one, FeedingChain.prefix_seen (node c.args.front) c.requires.is_chain (is_prefix c.args.input) c.requires.rooms refl refl one) at c.in_ok-rest.ensures in
    FeedingChain.chain_fed (node c.args.front) c.requires.is_chain (is_prefix c.args.input) c.requires.rooms refl refl one rest

-- feed_first_chosen: the first node is fed, and the second is typed behind what is left of it.

pub feed_first_chosen-feed_node-requires : goal.feed_first_chosen-feed_node-requires
feed_first_chosen-feed_node-requires t c =
    (omega (arith, c.decreases, first_fewer (node c.args.front) (ap node_arity c.requires.is_choose) c.first.ensures), rw c.first.ensures (FeedingFirstChosen.first_rooms c.args.front c.requires.is_choose (tree c.args.other) (is_prefix c.args.part) c.requires.rooms))

pub feed_first_chosen-returns-in_err-step : goal.feed_first_chosen-returns-in_err-step
feed_first_chosen-returns-in_err-step t c =
    rw c.from_residual.ensures (FeedingFirstChosen.first_fails c.args.front c.requires.is_choose (tree c.args.other) (is_prefix c.args.part) c.requires.rooms (rw c.first.ensures at c.in_err-step.ensures))

pub feed_first_chosen-overflow_add-end : goal.feed_first_chosen-overflow_add-end
feed_first_chosen-overflow_add-end t c =
    let one = rw c.first.ensures at c.in_ok-step.ensures in
    omega (arith, (FeedingFirstChosen.gave c.args.front c.requires.is_choose (tree c.args.other) (is_prefix c.args.part) c.requires.rooms one).steps.ends, fork_width (node c.args.front) (ap node_arity c.requires.is_choose), inside c.args.front)

pub feed_first_chosen-slice_bounds-type_node-count : goal.feed_first_chosen-slice_bounds-type_node-count
feed_first_chosen-slice_bounds-type_node-count t c =
    let one = rw c.first.ensures at c.in_ok-step.ensures in
    FeedingFirstChosen.left_inside c.args.front c.requires.is_choose (tree c.args.other) (is_prefix c.args.part) c.requires.rooms one

pub feed_first_chosen-slice_bounds-type_node-start : goal.feed_first_chosen-slice_bounds-type_node-start
feed_first_chosen-slice_bounds-type_node-start t c =
    let one = rw c.first.ensures at c.in_ok-step.ensures in
    FeedingFirstChosen.left_inside c.args.front c.requires.is_choose (tree c.args.other) (is_prefix c.args.part) c.requires.rooms one

pub feed_first_chosen-returns-in_err-typed : goal.feed_first_chosen-returns-in_err-typed
feed_first_chosen-returns-in_err-typed t c =
    let one = rw c.first.ensures at c.in_ok-step.ensures in
    rw c.from_residual-in_err-typed.ensures
    (FeedingFirstChosen.second_untyped c.args.front c.requires.is_choose (tree c.args.other) (is_prefix c.args.part) c.requires.rooms one (rw c.second.ensures at c.type_node.ensures) c.in_err-typed.ensures.value)

pub feed_first_chosen-overflow_add-stop : goal.feed_first_chosen-overflow_add-stop
feed_first_chosen-overflow_add-stop t c =
    let one = rw c.first.ensures at c.in_ok-step.ensures in
    let told = rw (c.second.ensures, has_told c.in_ok-typed.ensures.value) at c.type_node.ensures in
    omega (arith, FeedingFirstChosen.stop_inside c.args.front c.requires.is_choose (tree c.args.other) (is_prefix c.args.part) c.requires.rooms one told, (FeedingFirstChosen.left_leads c.args.front c.requires.is_choose (tree c.args.other) (is_prefix c.args.part) c.requires.rooms one told).long)

pub feed_first_chosen-slice_bounds-ne-end : goal.feed_first_chosen-slice_bounds-ne-end
feed_first_chosen-slice_bounds-ne-end t c =
    let one = rw c.first.ensures at c.in_ok-step.ensures in
    FeedingFirstChosen.type_inside c.args.front c.requires.is_choose (tree c.args.other) (is_prefix c.args.part) c.requires.rooms one

pub feed_first_chosen-slice_bounds-ne-end-2 : goal.feed_first_chosen-slice_bounds-ne-end-2
feed_first_chosen-slice_bounds-ne-end-2 t c =
    let one = rw c.first.ensures at c.in_ok-step.ensures in
    FeedingFirstChosen.type_long c.args.front c.requires.is_choose (tree c.args.other) (is_prefix c.args.part) c.requires.rooms one

pub feed_first_chosen-slice_bounds-ne-end-3 : goal.feed_first_chosen-slice_bounds-ne-end-3
feed_first_chosen-slice_bounds-ne-end-3 t c =
    let one = rw c.first.ensures at c.in_ok-step.ensures in
    let told = rw (c.second.ensures, has_told c.in_ok-typed.ensures.value) at c.type_node.ensures in
    FeedingFirstChosen.stop_inside c.args.front c.requires.is_choose (tree c.args.other) (is_prefix c.args.part) c.requires.rooms one told

pub feed_first_chosen-returns-then-ne : goal.feed_first_chosen-returns-then-ne
feed_first_chosen-returns-then-ne t c =
    let one = rw c.first.ensures at c.in_ok-step.ensures in
    let told = rw (c.second.ensures, has_told c.in_ok-typed.ensures.value) at c.type_node.ensures in
    FeedingFirstChosen.differ c.args.front c.requires.is_choose (tree c.args.other) (is_prefix c.args.part) c.requires.rooms one told c.ne.ensures c.if-ne.true

pub feed_first_chosen-overflow_add-result : goal.feed_first_chosen-overflow_add-result
feed_first_chosen-overflow_add-result t c =
    let one = rw c.first.ensures at c.in_ok-step.ensures in
    let told = rw (c.second.ensures, has_told c.in_ok-typed.ensures.value) at c.type_node.ensures in
    omega (arith, FeedingFirstChosen.end_both c.args.front c.requires.is_choose (tree c.args.other) (is_prefix c.args.part) c.requires.rooms one told, inside c.args.front)

pub feed_first_chosen-returns : goal.feed_first_chosen-returns
feed_first_chosen-returns t c =
    let one = rw c.first.ensures at c.in_ok-step.ensures in
    let told = rw (c.second.ensures, has_told c.in_ok-typed.ensures.value) at c.type_node.ensures in
    FeedingFirstChosen.chosen_fed c.args.front c.requires.is_choose (tree c.args.other) (is_prefix c.args.part) c.requires.rooms one told c.ne.ensures c.if-ne.false

-- feed_second_chosen: the first node is typed at the end of the room for what is left, and the second is fed in front of it.

pub feed_second_chosen-overflow_sub-spare : goal.feed_second_chosen-overflow_sub-spare
feed_second_chosen-overflow_sub-spare t c =
    FeedingSecondChosen.room_at_end c.args.front c.requires.is_choose (tree c.args.other) (is_prefix c.args.part) c.requires.rooms

pub feed_second_chosen-returns-in_err-typed : goal.feed_second_chosen-returns-in_err-typed
feed_second_chosen-returns-in_err-typed t c =
    rw c.from_residual.ensures (FeedingSecondChosen.first_untyped c.args.front c.requires.is_choose (tree c.args.other) (is_prefix c.args.part) c.requires.rooms (rw c.first.ensures at c.type_node.ensures) c.in_err-typed.ensures.value)

pub feed_second_chosen-overflow_add-end : goal.feed_second_chosen-overflow_add-end
feed_second_chosen-overflow_add-end t c =
    let told = rw (c.first.ensures, has_told c.in_ok-typed.ensures.value) at c.type_node.ensures in
    omega (arith, (FeedingSecondChosen.first_given c.args.front c.requires.is_choose (tree c.args.other) (is_prefix c.args.part) c.requires.rooms told).ends, fork_width (node c.args.front) (ap node_arity c.requires.is_choose), inside c.args.front)

pub feed_second_chosen-second-requires-clause-ends : goal.feed_second_chosen-second-requires-clause-ends
feed_second_chosen-second-requires-clause-ends t c =
    let told = rw (c.first.ensures, has_told c.in_ok-typed.ensures.value) at c.type_node.ensures in
    omega (arith, (FeedingSecondChosen.first_given c.args.front c.requires.is_choose (tree c.args.other) (is_prefix c.args.part) c.requires.rooms told).ends)

pub feed_second_chosen-feed_node-requires : goal.feed_second_chosen-feed_node-requires
feed_second_chosen-feed_node-requires t c =
    let told = rw (c.first.ensures, has_told c.in_ok-typed.ensures.value) at c.type_node.ensures in
    (omega (arith, c.decreases, second_fewer (node c.args.front) (ap node_arity c.requires.is_choose) c.second.ensures), rw c.second.ensures (FeedingSecondChosen.second_rooms c.args.front c.requires.is_choose (tree c.args.other) (is_prefix c.args.part) c.requires.rooms told))

pub feed_second_chosen-returns-in_err-step : goal.feed_second_chosen-returns-in_err-step
feed_second_chosen-returns-in_err-step t c =
    let told = rw (c.first.ensures, has_told c.in_ok-typed.ensures.value) at c.type_node.ensures in
    rw c.from_residual-in_err-step.ensures (FeedingSecondChosen.second_fails c.args.front c.requires.is_choose (tree c.args.other) (is_prefix c.args.part) c.requires.rooms told (rw c.second.ensures at c.in_err-step.ensures))

pub feed_second_chosen-overflow_add-stop : goal.feed_second_chosen-overflow_add-stop
feed_second_chosen-overflow_add-stop t c =
    let told = rw (c.first.ensures, has_told c.in_ok-typed.ensures.value) at c.type_node.ensures in
    let other = rw c.second.ensures at c.in_ok-step.ensures in
    omega (arith, FeedingSecondChosen.stop_inside c.args.front c.requires.is_choose (tree c.args.other) (is_prefix c.args.part) c.requires.rooms told other, (FeedingSecondChosen.left_leads c.args.front c.requires.is_choose (tree c.args.other) (is_prefix c.args.part) c.requires.rooms told other).long)

pub feed_second_chosen-slice_bounds-ne-end : goal.feed_second_chosen-slice_bounds-ne-end
feed_second_chosen-slice_bounds-ne-end t c =
    let told = rw (c.first.ensures, has_told c.in_ok-typed.ensures.value) at c.type_node.ensures in
    let other = rw c.second.ensures at c.in_ok-step.ensures in
    FeedingSecondChosen.type_inside c.args.front c.requires.is_choose (tree c.args.other) (is_prefix c.args.part) c.requires.rooms told other

pub feed_second_chosen-slice_bounds-ne-end-2 : goal.feed_second_chosen-slice_bounds-ne-end-2
feed_second_chosen-slice_bounds-ne-end-2 t c =
    let told = rw (c.first.ensures, has_told c.in_ok-typed.ensures.value) at c.type_node.ensures in
    let other = rw c.second.ensures at c.in_ok-step.ensures in
    FeedingSecondChosen.type_long c.args.front c.requires.is_choose (tree c.args.other) (is_prefix c.args.part) c.requires.rooms told other

pub feed_second_chosen-slice_bounds-ne-end-3 : goal.feed_second_chosen-slice_bounds-ne-end-3
feed_second_chosen-slice_bounds-ne-end-3 t c =
    let told = rw (c.first.ensures, has_told c.in_ok-typed.ensures.value) at c.type_node.ensures in
    let other = rw c.second.ensures at c.in_ok-step.ensures in
    FeedingSecondChosen.stop_inside c.args.front c.requires.is_choose (tree c.args.other) (is_prefix c.args.part) c.requires.rooms told other

pub feed_second_chosen-returns-then-ne : goal.feed_second_chosen-returns-then-ne
feed_second_chosen-returns-then-ne t c =
    let told = rw (c.first.ensures, has_told c.in_ok-typed.ensures.value) at c.type_node.ensures in
    let other = rw c.second.ensures at c.in_ok-step.ensures in
    FeedingSecondChosen.differ c.args.front c.requires.is_choose (tree c.args.other) (is_prefix c.args.part) c.requires.rooms told other c.ne.ensures c.if-ne.true

pub feed_second_chosen-overflow_add-result : goal.feed_second_chosen-overflow_add-result
feed_second_chosen-overflow_add-result t c =
    let told = rw (c.first.ensures, has_told c.in_ok-typed.ensures.value) at c.type_node.ensures in
    let other = rw c.second.ensures at c.in_ok-step.ensures in
    omega (arith, FeedingSecondChosen.end_both c.args.front c.requires.is_choose (tree c.args.other) (is_prefix c.args.part) c.requires.rooms told other, inside c.args.front)

pub feed_second_chosen-returns : goal.feed_second_chosen-returns
feed_second_chosen-returns t c =
    let told = rw (c.first.ensures, has_told c.in_ok-typed.ensures.value) at c.type_node.ensures in
    let other = rw c.second.ensures at c.in_ok-step.ensures in
    FeedingSecondChosen.chosen_fed c.args.front c.requires.is_choose (tree c.args.other) (is_prefix c.args.part) c.requires.rooms told other c.ne.ensures c.if-ne.false
