-- `write_patch_file` meets its contract: the section of the type, and on the part behind it the section of the nodes, and behind both that
-- of the totals (`PatchWritten`).
use Rattle.wosthile.proofs.PatchWritten.{totals_fit, patch_written}
use Rattle.wosthile.proofs.write_patch_file.Goals as goal

pub write_section-requires-3 : goal.write_section-requires-3
write_section-requires-3 c = totals_fit c.requires c.write_section.ensures c.write_section-2.ensures

pub returns : goal.returns
returns c = patch_written _ _ _ _ c.write_section.ensures c.write_section-2.ensures c.write_section-3.ensures
