-- `write_section` meets its contract: the count is written first, and behind it the body.
use Rattle.std.proofs.Common.{refl}
use Rattle.writing.specs.Writing.Laws.{section_written}
use Rattle.writing.proofs.write_section.Goals as goal

pub returns : goal.returns
returns c = section_written _ _ _ c.put_count.ensures _ _ refl c.copy.ensures
