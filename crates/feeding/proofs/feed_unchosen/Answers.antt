-- `feed_unchosen` meets its contract: the type that choose gives is found as Check finds it; if it has room, so has its empty prefix, and the
-- node's own bytes have room by what is due.
use Rattle.std.proofs.Common.{sym, length-take-le}
use Rattle.std.specs.Prelude.{Ok}
use Rattle.reading.specs.Views.{tree}
use Rattle.patch_reading.specs.Fronts.{node}
use Rattle.typing.specs.Typing.{NodeTyped}
use Rattle.feeding.proofs.FeedingChoose.{whole_untyped, no_room, type_whole, type_small, nothing_room, node_inside, copy_room, waited}
use Rattle.feeding.proofs.Typings.{has_told}
use Rattle.feeding.proofs.feed_unchosen.Goals.{In_ok-typed}
use Rattle.feeding.proofs.feed_unchosen.Goals as goal

typed : (c : In_ok-typed) → NodeTyped (tree c.args.ty) (node c.args.front) c.args.given.now c.type_choose.new.out (Ok c.in_ok-typed.typed)
typed c = rw (has_told c.in_ok-typed.ensures.value) at c.type_choose.ensures

pub returns-in_err-typed : goal.returns-in_err-typed
returns-in_err-typed c =
    rw c.from_residual.ensures
    (whole_untyped c.args.front c.requires.is_choose (tree c.args.ty) c.requires.rooms c.type_choose.ensures c.in_err-typed.ensures.value)

pub returns-then-given-size : goal.returns-then-given-size
returns-then-given-size c =
    no_room c.args.front c.requires.is_choose (tree c.args.ty) c.requires.rooms (typed (goal.at.returns-then-given-size c).In_ok-typed)
    c.if-given-size.true

pub invariant_of-whole : goal.invariant_of-whole
invariant_of-whole c =
    let told = typed (goal.at.invariant_of-whole c).In_ok-typed in
    record {
      whole = type_whole c.args.front c.requires.is_choose (tree c.args.ty) c.requires.rooms told c.if-given-size.false;
      small = type_small c.args.front c.requires.is_choose (tree c.args.ty) c.requires.rooms told c.if-given-size.false;
    }

pub write_empty-sent-requires : goal.write_empty-sent-requires
write_empty-sent-requires c =
    rw c.of.ensures
    (nothing_room c.args.front c.requires.is_choose (tree c.args.ty) c.requires.rooms (typed (goal.at.write_empty-sent-requires c).In_ok-typed)
    c.if-given-size.false)

pub slice_bounds-copy-end : goal.slice_bounds-copy-end
slice_bounds-copy-end c =
    sym (length-take-le _ _ (node_inside c.args.front c.requires.is_choose (tree c.args.ty) c.requires.rooms (typed (goal.at.slice_bounds-copy-end c).In_ok-typed)))

pub copy-requires : goal.copy-requires
copy-requires c =
    copy_room c.args.front c.requires.is_choose (tree c.args.ty) c.requires.rooms (typed (goal.at.copy-requires c).In_ok-typed)

pub returns : goal.returns
returns c =
    waited c.args.front c.requires.is_choose (tree c.args.ty) c.requires.rooms (typed (goal.at.returns c).In_ok-typed) c.if-given-size.false
    (rw c.of.ensures at c.write_empty-sent.ensures.width) (rw c.of.ensures at c.write_empty-sent.ensures.buffer) c.copy.ensures
