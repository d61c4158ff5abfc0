-- `write_joined_file` meets its contract: the count is written first, and behind it the join (`JoinedFile`).
use Rattle.writing.proofs.JoinedFile.{joined_file_written}
use Rattle.writing.proofs.write_joined_file.Goals as goal

pub returns : goal.returns
returns c = joined_file_written c.put_count.ensures c.write_concat.ensures
