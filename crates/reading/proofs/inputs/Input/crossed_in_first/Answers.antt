-- The slice holds a prefix that is cut so, and no other bytes.
use Rattle.reading.proofs.PieceViews.{some_cut}
use Rattle.reading.proofs.inputs.Input.crossed_in_first.Goals as goal

pub crossed_in_first-requires : goal.crossed_in_first-requires
crossed_in_first-requires c = some_cut c.args.self c.requires
