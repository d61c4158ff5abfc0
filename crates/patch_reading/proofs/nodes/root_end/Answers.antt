-- `root_end` meets its contract: the kind byte says whether a type, a value or nothing stands behind it (`NodeRoots`), and
-- `carried_end` says where the type ends.
use Rattle.std.proofs.Common.{refl, sym, ap, ◌∙◌, get_or, arith}
use Rattle.stream.specs.Tables.{shared}
use Rattle.node.specs.Nodes.Kinds.{no_kind, contents_by_kind, node_contents}
use Rattle.patch_reading.proofs.NodeRoots.{cut_short, plain_end, unlisted_end, type_end, value_failed, value_ended}
use Rattle.patch_reading.proofs.nodes.root_end.Goals as goal

pub returns-then-at-length : goal.returns-then-at-length
returns-then-at-length c = sym (cut_short c.args.bytes.now c.args.at c.if-at-length.true)

pub returns-in-0 : goal.returns-in-0
returns-in-0 c = sym (plain_end c.args.bytes.now c.args.at (omega arith) (ap node_contents c.in-0.is))

pub returns-in-1 : goal.returns-in-1
returns-in-1 c = c.carried_end.ensures ∙ sym (type_end c.args.bytes.now c.args.at (omega arith) (ap node_contents c.in-1.is))

pub returns-in-2 : goal.returns-in-2
returns-in-2 c = sym (plain_end c.args.bytes.now c.args.at (omega arith) (ap node_contents c.in-2.is))

pub returns-then-length-next-lt-VALUE_WIDTH : goal.returns-then-length-next-lt-VALUE_WIDTH
returns-then-length-next-lt-VALUE_WIDTH c =
    sym (value_failed c.args.bytes.now c.args.at (omega arith) (ap node_contents c.in-3.is) c.if-length-next-lt-VALUE_WIDTH.true)

pub returns-else-length-next-lt-VALUE_WIDTH : goal.returns-else-length-next-lt-VALUE_WIDTH
returns-else-length-next-lt-VALUE_WIDTH c =
    sym (value_ended c.args.bytes.now c.args.at (omega arith) (ap node_contents c.in-3.is) (omega arith))

pub returns-in-4-to-15 : goal.returns-in-4-to-15
returns-in-4-to-15 c =
    sym (plain_end c.args.bytes.now c.args.at (omega arith) (sym (shared contents_by_kind no_kind 4 12 refl (get_or c.args.bytes.now c.args.at 0) (omega arith) (omega arith))))

pub returns-in-16-to-17 : goal.returns-in-16-to-17
returns-in-16-to-17 c =
    c.carried_end-in-16-to-17.ensures
    ∙ sym (type_end c.args.bytes.now c.args.at (omega arith) (sym (shared contents_by_kind no_kind 16 2 refl (get_or c.args.bytes.now c.args.at 0) (omega arith) (omega arith))))

pub returns-in-18-to-255 : goal.returns-in-18-to-255
returns-in-18-to-255 c = sym (unlisted_end c.args.bytes.now c.args.at (omega arith) (omega arith))
