-- `send_regrouped_right` meets its contract: 5 5 p is copied from its second byte on, and otherwise the pieces of the slice make
-- what is sent (`Regrouped`).
use Rattle.writing.specs.Appending.Laws.{nothing_written, written_on}
use Rattle.leaf_feeding.proofs.Regrouped.{delivered, how_cut, countable, pieces_delivered, regroups_right, right_coming}
use Rattle.leaf_feeding.proofs.reordered.send_regrouped_right.Goals as goal

pub crossed_in_first-requires : goal.crossed_in_first-requires
crossed_in_first-requires c = how_cut regroups_right c.args.input c.requires

pub write_right-requires : goal.write_right-requires
write_right-requires c = countable regroups_right c.args.input c.requires c.in-Some.cut c.in-Some.ensures

pub returns-in-None : goal.returns-in-None
returns-in-None c =
    delivered c.requires (right_coming c.args.input c.in-None.ensures) (written_on (nothing_written _) c.append.ensures)

pub returns-in-Some : goal.returns-in-Some
returns-in-Some c = pieces_delivered regroups_right c.args.input c.requires c.in-Some.cut c.in-Some.ensures c.write_right.ensures
