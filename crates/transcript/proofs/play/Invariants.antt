-- `play`: what has been played so far.
use Rattle.std.proofs.Common.{◌-◌, length}
use Rattle.transcript.specs.Playing.{Plays}
use Rattle.transcript.proofs.play.Given as goal

abbrev pub invariant-loop-out : goal.invariant-loop-out
invariant-loop-out l =
    Plays l.fn.stage l.initial.patch l.input l.initial.out (record { stage = l.reached; taken = l.taken; written = l.written }) l.patch l.out

abbrev pub decreases-loop-out : goal.decreases-loop-out
decreases-loop-out l = length l.input - l.taken
