-- `send_spread` meets its contract: 5 p is copied twice behind the kind of two sides, and otherwise the pieces of the slice make
-- what is sent (`Regrouped`).
use Rattle.writing.specs.Appending.Laws.{nothing_written, written_on}
use Rattle.leaf_feeding.proofs.Regrouped.{delivered, how_cut, countable, pieces_delivered, spreads, spread_coming}
use Rattle.leaf_feeding.proofs.reordered.send_spread.Goals as goal

pub crossed_in_second-requires : goal.crossed_in_second-requires
crossed_in_second-requires c = how_cut spreads c.args.input c.requires

pub write_spread-requires : goal.write_spread-requires
write_spread-requires c = countable spreads c.args.input c.requires c.in-Some.cut c.in-Some.ensures

pub returns-in-None : goal.returns-in-None
returns-in-None c =
    delivered c.requires (spread_coming c.args.input c.in-None.ensures)
    (written_on (written_on (written_on (nothing_written _) c.append_kind-before.ensures) c.append-half.ensures) c.append.ensures)

pub returns-in-Some : goal.returns-in-Some
returns-in-Some c = pieces_delivered spreads c.args.input c.requires c.in-Some.cut c.in-Some.ensures c.write_spread.ensures
