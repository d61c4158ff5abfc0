-- `write_silence` meets its contract: no byte of the type is above 4, and the bytes of its empty prefix are those, each turned.
use Rattle.std.proofs.Common.{◌≡◌, ap, ◌∙◌, take, map, arith}
use Rattle.std.proofs.Math.Seq.{take-length}
use Rattle.stream.specs.Buffers.{at_front}
use Rattle.writing.specs.Writing.Laws.{byte_on, length_kept}
use Rattle.writing.proofs.Silence.{silence, stays_low, all_silent, one_more}
use Rattle.writing.proofs.write_silence.Goals as goal

pub bounds-out-at : goal.bounds-out-at
bounds-out-at c =
    omega (arith, c.requires.room, length_kept c.loop-at.invariant (omega (arith, c.requires.room)))

pub overflow_mul-out : goal.overflow_mul-out
overflow_mul-out c = omega (arith, stays_low c.requires c.loop-at.at)

pub loop-at-preserved : goal.loop-at-preserved
loop-at-preserved c =
    rw (one_more c.args.source.now c.loop-at.at (omega arith)) (byte_on c.loop-at.invariant _ (omega (arith, c.requires.room)))

pub returns : goal.returns
returns c =
    let done : take c.loop-at.at c.args.source.now ≡ c.args.source.now
    = ap (λ n. take n c.args.source.now) (omega arith) ∙ take-length c.args.source.now in
    record {
      each = λ due.
          c.loop-at.invariant.buffer ∙ ap (λ e. at_front e c.args.out.now) (ap (map silence) done ∙ all_silent due);
    }
