-- `write_concat` ends: each call starts further on in the first prefix.
use Rattle.std.proofs.Common.{◌-◌, length}
use Rattle.writing.proofs.+write_concat.Given as goal

abbrev pub decreases-write_concat : goal.decreases-write_concat
decreases-write_concat l = length l.first.now - l.first_place
