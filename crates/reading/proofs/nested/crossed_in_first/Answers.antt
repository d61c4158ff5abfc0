-- The kind byte behind the first tells whether s has come, and behind these stands s.
use Rattle.std.proofs.Common.{arith, sym}
use Rattle.reading.proofs.PieceViews.{first_inside, first_waits, first_begins, first_found, span, told}
use Rattle.reading.proofs.nested.crossed_in_first.Goals as goal

pub bounds-slice-1 : goal.bounds-slice-1
bounds-slice-1 c = first_inside c.requires.is_cut (sym c.requires.whole)

pub returns-then-slice-eq5 : goal.returns-then-slice-eq5
returns-then-slice-eq5 c = record { each = λ p here cut. first_waits cut.is_cut (sym here) c.if-slice-eq5.true }

pub skip_prefix-second-requires : goal.skip_prefix-second-requires
skip_prefix-second-requires c = first_begins c.if-slice-eq5.false c.requires.is_cut (sym c.requires.whole)

pub bounds-slice-0 : goal.bounds-slice-0
bounds-slice-0 c = let more = first_inside c.requires.is_cut (sym c.requires.whole) in omega arith

pub slice_bounds-pieces_behind-count : goal.slice_bounds-pieces_behind-count
slice_bounds-pieces_behind-count c = let s = span (first_begins c.if-slice-eq5.false c.requires.is_cut (sym c.requires.whole)) c.skip_prefix-second.ensures in omega arith

pub slice_bounds-pieces_behind-start : goal.slice_bounds-pieces_behind-start
slice_bounds-pieces_behind-start c = let s = span (first_begins c.if-slice-eq5.false c.requires.is_cut (sym c.requires.whole)) c.skip_prefix-second.ensures in omega arith

pub slice_bounds-pieces_behind-end : goal.slice_bounds-pieces_behind-end
slice_bounds-pieces_behind-end c = let s = span (first_begins c.if-slice-eq5.false c.requires.is_cut (sym c.requires.whole)) c.skip_prefix-second.ensures in omega arith

pub slice_bounds-pieces_behind-count-2 : goal.slice_bounds-pieces_behind-count-2
slice_bounds-pieces_behind-count-2 c = let s = span (first_begins c.if-slice-eq5.false c.requires.is_cut (sym c.requires.whole)) c.skip_prefix-second.ensures in omega arith

pub slice_bounds-pieces_behind-start-2 : goal.slice_bounds-pieces_behind-start-2
slice_bounds-pieces_behind-start-2 c = let s = span (first_begins c.if-slice-eq5.false c.requires.is_cut (sym c.requires.whole)) c.skip_prefix-second.ensures in omega arith

pub pieces_behind-requires : goal.pieces_behind-requires
pieces_behind-requires c = (first_found c.if-slice-eq5.false c.requires.is_cut (sym c.requires.whole) c.skip_prefix-second.ensures).some

pub returns : goal.returns
returns c = record { each = λ p here cut. told (first_found c.if-slice-eq5.false cut.is_cut (sym here) c.skip_prefix-second.ensures) c.pieces_behind.ensures }
