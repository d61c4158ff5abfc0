-- The slice holds a prefix that is cut so, and no other bytes.
use Rattle.reading.proofs.PieceViews.{some_cut}
use Rattle.reading.proofs.inputs.Input.crossed_in_second.Goals as goal

pub crossed_in_second-requires : goal.crossed_in_second-requires
crossed_in_second-requires c = some_cut c.args.self c.requires
