-- The bytes up to where the node ends are those of the node that is read.
use Rattle.std.proofs.Common.{◌≡◌, Err, rules, arith, sym, ap, ◌∙◌}
use Rattle.stream.specs.Reading.{read}
use Rattle.reading.specs.Sections.Laws.{failed}
use Rattle.patch_reading.specs.PatchViews.{node_seen}
use Rattle.patch_reading.proofs.NodeFronts.{has_node, is_front}
use Rattle.patch_reading.proofs.PatchParts.{NodeEnds, node_ended}
use Rattle.patch_reading.proofs.files.split_node.Goals.{In_ok-end}
use Rattle.patch_reading.proofs.files.split_node.Goals as goal

ended : (c : In_ok-end) → NodeEnds c.args.bytes.now c.in_ok-end.end
ended c = node_ended c.args.bytes.now c.in_ok-end.end (λ i. omega (arith, c.type_inv.bytes i)) c.in_ok-end.ensures

pub split_at-requires : goal.split_at-requires
split_at-requires c = (ended (goal.at.split_at-requires c).In_ok-end).fits

pub invariant_of-result : goal.invariant_of-result
invariant_of-result c =
    let e = ended (goal.at.invariant_of-result c).In_ok-end in
    rw c.split_at.ensures.front (record { front = is_front e.stands })

pub returns-in_err-end-clause-seen : goal.returns-in_err-end-clause-seen
returns-in_err-end-clause-seen c =
    let refused : c.from_residual.result ≡ Err c.in_err-end.field-0.0 = search rules in
    ap node_seen refused ∙ sym (failed _ _ _ (sym c.in_err-end.ensures))

pub returns-clause-seen : goal.returns-clause-seen
returns-clause-seen c =
    let e = ended (goal.at.returns-clause-seen c).In_ok-end in
    ap (λ n. read n c.split_at.result.1.now) (rw c.split_at.ensures.front (has_node e.stands)) ∙ ap (read e.node) c.split_at.ensures.back ∙ sym e.reads

pub returns-clause-one_node : goal.returns-clause-one_node
returns-clause-one_node c = rw c.split_at.ensures.front (ended (goal.at.returns-clause-one_node c).In_ok-end).one
