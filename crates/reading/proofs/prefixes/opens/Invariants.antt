-- What all bytes tell is what the others tell.
use Rattle.std.specs.Prelude.{◌≡◌, false, drop}
use Rattle.reading.specs.Scans.{scan_opens}
use Rattle.reading.proofs.prefixes.opens.Given as goal

abbrev pub invariant-loop-kind : goal.invariant-loop-kind
invariant-loop-kind l = scan_opens l.unfinished (drop l.kind-index l.prefix) ≡ scan_opens false l.prefix
