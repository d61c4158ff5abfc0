-- `main`: each turn leaves everything as the next one asks for it.
use Rattle.std.proofs.Common.{◌≤◌, length}
use Rattle.transcript.specs.Playing.{Inside}
use Rattle.runner.proofs.main.Given as goal

abbrev pub invariant-loop : goal.invariant-loop
invariant-loop l = Inside l.progress.stage l.patch × (l.progress.from ≤ l.progress.held) × (l.progress.held ≤ length l.input)
