-- `section_end` meets its contract: the length is tried against the two bytes of the count, and against what they count.
use Rattle.std.proofs.Common.{sym, arith}
use Rattle.reading.specs.Sections.{any_bytes}
use Rattle.reading.specs.Sections.Laws.{count_missing, section_short, section_there}
use Rattle.reading.proofs.sections.section_end.Goals as goal

pub returns-then-length-lt2 : goal.returns-then-length-lt2
returns-then-length-lt2 c = sym (count_missing any_bytes c.args.bytes.now (omega arith))

pub returns-then-length-count : goal.returns-then-length-count
returns-then-length-count c = sym (section_short any_bytes c.args.bytes.now (omega arith))

pub returns : goal.returns
returns c = rw c.count_of-count.ensures.0 (sym (section_there c.args.bytes.now (omega arith) (omega arith)))
