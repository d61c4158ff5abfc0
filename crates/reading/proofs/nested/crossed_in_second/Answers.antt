-- The first kind byte tells whether s has come, and behind it stands s.
use Rattle.std.proofs.Common.{arith, sym}
use Rattle.reading.proofs.PieceViews.{not_empty, second_inside, second_waits, second_begins, second_found, span, told}
use Rattle.reading.proofs.nested.crossed_in_second.Goals as goal

pub bounds-slice-0 : goal.bounds-slice-0
bounds-slice-0 c = not_empty c.requires.prefix (sym c.requires.whole)

pub returns-then-slice-eq5 : goal.returns-then-slice-eq5
returns-then-slice-eq5 c = record { each = λ p here cut. second_waits cut.is_cut (sym here) c.if-slice-eq5.true }

pub skip_prefix-gap-requires : goal.skip_prefix-gap-requires
skip_prefix-gap-requires c = second_begins c.if-slice-eq5.false c.requires.is_cut (sym c.requires.whole)

pub bounds-slice-gap : goal.bounds-slice-gap
bounds-slice-gap c = second_inside c.if-slice-eq5.false c.skip_prefix-gap.ensures c.requires.is_cut (sym c.requires.whole)

pub slice_bounds-pieces_behind-count : goal.slice_bounds-pieces_behind-count
slice_bounds-pieces_behind-count c = let s = span (second_begins c.if-slice-eq5.false c.requires.is_cut (sym c.requires.whole)) c.skip_prefix-gap.ensures in omega arith

pub slice_bounds-pieces_behind-start : goal.slice_bounds-pieces_behind-start
slice_bounds-pieces_behind-start c = let s = span (second_begins c.if-slice-eq5.false c.requires.is_cut (sym c.requires.whole)) c.skip_prefix-gap.ensures in omega arith

pub slice_bounds-pieces_behind-end : goal.slice_bounds-pieces_behind-end
slice_bounds-pieces_behind-end c = let s = span (second_begins c.if-slice-eq5.false c.requires.is_cut (sym c.requires.whole)) c.skip_prefix-gap.ensures in omega arith

pub slice_bounds-pieces_behind-count-2 : goal.slice_bounds-pieces_behind-count-2
slice_bounds-pieces_behind-count-2 c = let s = second_inside c.if-slice-eq5.false c.skip_prefix-gap.ensures c.requires.is_cut (sym c.requires.whole) in omega arith

pub slice_bounds-pieces_behind-start-2 : goal.slice_bounds-pieces_behind-start-2
slice_bounds-pieces_behind-start-2 c = let s = second_inside c.if-slice-eq5.false c.skip_prefix-gap.ensures c.requires.is_cut (sym c.requires.whole) in omega arith

pub pieces_behind-requires : goal.pieces_behind-requires
pieces_behind-requires c = (second_found c.if-slice-eq5.false c.skip_prefix-gap.ensures c.requires.is_cut (sym c.requires.whole)).some

pub returns : goal.returns
returns c = record { each = λ p here cut. told (second_found c.if-slice-eq5.false c.skip_prefix-gap.ensures cut.is_cut (sym here)) c.pieces_behind.ensures }
