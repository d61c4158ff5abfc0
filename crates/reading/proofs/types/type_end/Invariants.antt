-- After `at` roots, behind the type stands what stands behind the `owed` types that start at `at` (`Walked`).
use Rattle.std.proofs.Common.{◌-◌}
use Rattle.stream.specs.declared.Fault.TheVariants.{TypeTooLarge}
use Rattle.stream.specs.Types.{type_limit}
use Rattle.stream.specs.TypeFiles.{type_root}
use Rattle.reading.specs.Sections.Walking.{Walked}
use Rattle.reading.proofs.types.type_end.Given as goal

abbrev pub invariant-loop-owed : goal.invariant-loop-owed
invariant-loop-owed l = Walked TypeTooLarge type_root type_limit l.bytes l.owed l.at l.at

abbrev pub decreases-loop-owed : goal.decreases-loop-owed
decreases-loop-owed l = type_limit - l.at
