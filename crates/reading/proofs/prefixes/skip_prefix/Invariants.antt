-- `skip_prefix` meets its contract: whichever prefix stands at `place`, `owed` prefixes of it are ahead at `end` (`Run`), and the
-- byte there says how many parts take the place of the first of them.
use Rattle.std.proofs.Common.{ℕ, List, ◌-◌, length}
use Rattle.stream.specs.Prefixes.{Prefix}
use Rattle.reading.specs.SliceReads.{PrefixAt}
use Rattle.reading.proofs.PrefixWalk.{Run}
use Rattle.reading.proofs.prefixes.skip_prefix.Given as goal

abbrev pub invariant-loop-owed : goal.invariant-loop-owed
invariant-loop-owed l = (p : Prefix) → PrefixAt l.slice l.place p → (passed : List ℕ) × Run l.slice l.place p passed l.owed l.end

abbrev pub decreases-loop-owed : goal.decreases-loop-owed
decreases-loop-owed l = length l.slice - l.end
