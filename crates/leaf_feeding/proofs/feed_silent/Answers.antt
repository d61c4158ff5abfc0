-- `feed_silent` meets its contract: the type that the node carries is given as it is, its empty prefix is sent, and the node stays
-- (`SilentSent`).
use Rattle.std.proofs.Common.{sym, arith, ◌+◌, length-take-le}
use Rattle.patch_reading.proofs.NodeFronts.{inside}
use Rattle.leaf_feeding.proofs.SilentSent.{not_nullable, without_room, silent_ends, silence_due, silent_fed}
use Rattle.leaf_feeding.proofs.feed_silent.Goals as goal

pub returns-then-not-is_nullable : goal.returns-then-not-is_nullable
returns-then-not-is_nullable c =
    not_nullable c.args.silent c.requires.is_silent c.carried-carried.result c.carried-carried.ensures (sym c.if-not-is_nullable.ensures)

pub returns-then-given-size : goal.returns-then-given-size
returns-then-given-size c =
    without_room c.args.silent c.requires.is_silent c.carried-carried.result c.carried-carried.ensures (omega arith)

pub slice_bounds-copy-end : goal.slice_bounds-copy-end
slice_bounds-copy-end c =
    let ends =
    silent_ends c.args.silent c.requires.is_silent c.carried-carried.result c.carried-carried.ensures (sym c.if-not-is_nullable.ensures)
    in
    sym (length-take-le (1 + c.size-size.result) c.args.silent.bytes.now (omega (arith, ends, inside c.args.silent)))

pub write_silence-requires : goal.write_silence-requires
write_silence-requires c =
    silence_due c.args.silent c.requires.is_silent c.carried-carried.result c.carried-carried.ensures (sym c.if-not-is_nullable.ensures)
    c.requires.leaf_rooms (omega arith)

pub returns : goal.returns
returns c =
    let due =
    silence_due c.args.silent c.requires.is_silent c.carried-carried.result c.carried-carried.ensures (sym c.if-not-is_nullable.ensures)
    c.requires.leaf_rooms (omega arith)
    in
    silent_fed c.args.silent c.requires.is_silent c.carried-carried.result c.carried-carried.ensures (sym c.if-not-is_nullable.ensures)
    c.requires.leaf_rooms (omega arith) c.size-size.ensures c.copy.ensures (c.write_silence.ensures.each due) c.copy-2.ensures
