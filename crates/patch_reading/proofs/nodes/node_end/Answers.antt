-- `node_end` meets its contract: `root_end` says where the next root ends, and its kind how many parts it owes.
use Rattle.std.proofs.Common.{◌≡◌, Err, get_or, sym, ◌∙◌, arith, rules}
use Rattle.reading.specs.Sections.Laws.{failed}
use Rattle.reading.specs.Sections.Walking.{starts, ends, too_many, stops, goes_on}
use Rattle.node.specs.Nodes.{node_limit}
use Rattle.node.specs.PatchFiles.{node_root, read_node}
use Rattle.stream.specs.declared.Fault.TheVariants.{TooManyNodes}
use Rattle.patch_reading.proofs.NodeRoots.{few_parts, makes_one, root_read}
use Rattle.patch_reading.proofs.nodes.node_end.Goals as goal

pub loop-owed-init : goal.loop-owed-init
loop-owed-init c = starts TooManyNodes node_root node_limit makes_one _

pub returns-then-count-eq-MAX_NODES : goal.returns-then-count-eq-MAX_NODES
unfolding read_node node_limit
returns-then-count-eq-MAX_NODES c = sym (too_many c.loop-owed.invariant (omega arith) (omega arith))

pub returns-in_err-end : goal.returns-in_err-end
unfolding read_node node_limit
returns-in_err-end c =
    let refused : c.from_residual.result ≡ Err c.in_err-end.field-0.0 = search rules in
    refused ∙ sym (stops c.loop-owed.invariant (omega arith) (omega arith) _ (failed _ _ _ (sym c.in_err-end.ensures)))

pub bounds-bytes-at : goal.bounds-bytes-at
bounds-bytes-at c =
    (root_read c.args.bytes.now c.loop-owed.at _ (λ i. omega (arith, c.type_inv.bytes i)) (sym c.in_ok-end.ensures)).starts_inside

pub overflow_add-owed : goal.overflow_add-owed
unfolding node_limit
overflow_add-owed c = omega (arith, c.node_arity.ensures, few_parts (get_or c.args.bytes.now c.loop-owed.at 0))

pub overflow_add-count : goal.overflow_add-count
unfolding node_limit
overflow_add-count c = omega arith

pub loop-owed-smaller : goal.loop-owed-smaller
unfolding node_limit
loop-owed-smaller c = omega arith

pub loop-owed-preserved : goal.loop-owed-preserved
unfolding node_limit
loop-owed-preserved c =
    let r = root_read c.args.bytes.now c.loop-owed.at _ (λ i. omega (arith, c.type_inv.bytes i)) (sym c.in_ok-end.ensures) in
    rw c.node_arity.ensures
    (goes_on c.loop-owed.invariant (omega arith) (omega arith) _ _ (few_parts (get_or c.args.bytes.now c.loop-owed.at 0)) r.ends_inside r.owes)

pub returns : goal.returns
unfolding read_node
returns c = sym (ends c.loop-owed.invariant (omega arith))
