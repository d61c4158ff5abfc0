-- `write_longest_file` meets its contract: the count is written first, and behind it the longest prefix.
use Rattle.std.proofs.Common.{arith}
use Rattle.measuring.proofs.LongestFile.{countable, body_room, file_written}
use Rattle.measuring.proofs.write_longest_file.Goals as goal

pub put_count-requires : goal.put_count-requires
put_count-requires c = (omega (arith, countable _ c.requires.measured c.args.ty.small), omega (arith, c.requires.room))

pub write_longest-requires-clause-room : goal.write_longest-requires-clause-room
write_longest-requires-clause-room c = body_room _ c.requires.measured _ c.put_count.ensures c.requires.room

pub returns : goal.returns
returns c = file_written _ c.requires.measured _ c.put_count.ensures c.write_longest.ensures
