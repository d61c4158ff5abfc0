-- `copy` meets its contract: each turn writes the next byte of the source behind those that are written.
use Rattle.std.proofs.Common.{◌≡◌, ap, ◌∙◌, [], ◌∷◌, ◌++◌, ◌+◌, take, get_or, arith, add-one}
use Rattle.std.proofs.Math.Seq.{take-suc, take-length}
use Rattle.stream.specs.Buffers.{at_front}
use Rattle.writing.specs.Writing.Laws.{byte_on, length_kept}
use Rattle.writing.proofs.copy.Goals as goal

pub bounds-out-next : goal.bounds-out-next
bounds-out-next c = omega (arith, c.requires, length_kept c.loop-next.invariant (omega (arith, c.requires)))

pub loop-next-preserved : goal.loop-next-preserved
loop-next-preserved c =
    let source = c.args.source.now in
    let next = c.loop-next.next in
    let one_more : take (next + 1) source ≡ take next source ++ get_or source next 0 ∷ []
    = ap (λ n. take n source) (add-one next) ∙ take-suc source next 0 (omega arith) in
    rw one_more (byte_on c.loop-next.invariant _ (omega (arith, c.requires)))

pub returns : goal.returns
returns c =
    let done : take c.loop-next.next c.args.source.now ≡ c.args.source.now
    = ap (λ n. take n c.args.source.now) (omega arith) ∙ take-length c.args.source.now in
    c.loop-next.invariant.buffer ∙ ap (λ e. at_front e c.args.out.now) done
