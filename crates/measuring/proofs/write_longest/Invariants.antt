-- The types that are still to be gone through begin at `at`, and what has been written with what they owe is the longest prefix
-- (`Writing`).
use Rattle.std.proofs.Common.{◌-◌, length}
use Rattle.measuring.proofs.LongestWalk.{Writing, to_write}
use Rattle.measuring.proofs.write_longest.Given as goal

abbrev pub invariant-loop-written : goal.invariant-loop-written
invariant-loop-written l = Writing l.ty.bytes.now l.plan l.initial.out (to_write l.ty) l.out l.at l.written

abbrev pub decreases-loop-written : goal.decreases-loop-written
decreases-loop-written l = length l.ty.bytes.now - l.at
