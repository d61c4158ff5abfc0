-- `count_arrivals` meets its contract: whichever prefix the bytes are, what was counted are the arrivals in the nodes before `next`
-- (`Counting`), and behind a level that has come its value is passed.
use Rattle.std.specs.Prelude.{◌≡◌, []}
use Rattle.std.proofs.Common.{◌-◌, length}
use Rattle.stream.specs.Prefixes.{Prefix}
use Rattle.stream.specs.SliceFiles.{prefix_bytes}
use Rattle.reading.proofs.ArrivalsScan.{Counting}
use Rattle.reading.proofs.prefixes.count_arrivals.Given as goal

abbrev pub invariant-loop-next : goal.invariant-loop-next
invariant-loop-next l = (p : Prefix) → prefix_bytes p [] ≡ l.prefix → Counting l.prefix p l.count l.next

abbrev pub decreases-loop-next : goal.decreases-loop-next
decreases-loop-next l = length l.prefix - l.next
