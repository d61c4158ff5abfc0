-- `play` meets its contract: what has been played so far, and then the next file, is what is played of all (`plays_on`).
use Rattle.std.proofs.Common.{◌≡◌, subst, ◌∙◌, ◌+◌, drop, arith}
use Rattle.std.proofs.Math.Path.{ap}
use Rattle.writing.specs.Writing.Laws.{part_is}
use Rattle.transcript.specs.Playing.{state_of, Waits}
use Rattle.transcript.proofs.Playing.Laws.{plays_on}
use Rattle.transcript.proofs.play.Goals as goal

pub loop-out-preserved : goal.loop-out-preserved
loop-out-preserved c = plays_on _ _ _ _ c.loop-out.invariant c.play_next-next.ensures.plays

pub returns-then-next-eq0 : goal.returns-then-next-eq0
returns-then-next-eq0 c =
    let next = c.play_next-next in
    let taken = c.loop-out.taken in
    let input = c.args.input.now in
    let none : next.result.taken ≡ 0 = omega arith in
    let place : taken ≡ taken + next.result.taken = omega arith in
    record {
      plays = plays_on _ _ _ _ c.loop-out.invariant next.ensures.plays;
      waits = λ room.
          subst (Waits (state_of next.result.stage next.new.patch)) (part_is taken input ∙ ap (λ n. drop n input) place) (next.ensures.waits none);
    }
