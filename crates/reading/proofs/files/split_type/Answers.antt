-- The bytes up to where the type ends are those of the type that is read.
use Rattle.std.proofs.Common.{◌≡◌, Err, rules, arith, sym, ap, ◌∙◌}
use Rattle.stream.specs.Reading.{read}
use Rattle.stream.proofs.TypeFiles.Held.{has_tree, is_whole, is_small}
use Rattle.reading.specs.Sections.Laws.{failed}
use Rattle.reading.specs.Reads.{type_seen}
use Rattle.reading.proofs.TypeFront.{front}
use Rattle.reading.proofs.files.split_type.Goals as goal

pub split_at-requires : goal.split_at-requires
split_at-requires c = (front c.args.bytes.now c.in_ok-end.end (λ i. omega (arith, c.type_inv.bytes i)) c.in_ok-end.ensures).fits

pub new-requires : goal.new-requires
new-requires c =
    let f = front c.args.bytes.now c.in_ok-end.end (λ i. omega (arith, c.type_inv.bytes i)) c.in_ok-end.ensures in
    rw c.split_at.ensures.front (record { whole = is_whole f.held; small = is_small f.held })

pub returns-in_err-end : goal.returns-in_err-end
returns-in_err-end c =
    let refused : c.from_residual.result ≡ Err c.in_err-end.field-0.0 = search rules in
    ap type_seen refused ∙ sym (failed _ _ _ (sym c.in_err-end.ensures))

pub returns : goal.returns
returns c =
    let f = front c.args.bytes.now c.in_ok-end.end (λ i. omega (arith, c.type_inv.bytes i)) c.in_ok-end.ensures in
    ap (λ x. read x c.split_at.result.1.now) (c.new.ensures ∙ rw c.split_at.ensures.front (has_tree f.held)) ∙ ap (read f.type) c.split_at.ensures.back ∙ sym f.reads
