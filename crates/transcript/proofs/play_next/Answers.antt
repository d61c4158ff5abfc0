-- `play_next` meets its contract: the reader of sections says where the first file ends, and what takes it is known by the stage.
use Rattle.std.proofs.Common.{refl, sym}
use Rattle.transcript.specs.declared.Stage.TheVariants.{Stopped}
use Rattle.transcript.specs.Playing.{state_of, Inside, has_stopped, no_file}
use Rattle.transcript.proofs.Playing.Laws.{FirstFile, first_file, no_file_first, plays_file, plays_nothing}
use Rattle.transcript.proofs.play_next.Goals.{In-Ok}
use Rattle.transcript.proofs.play_next.Goals as goal

-- The first file is whole.
first : (c : In-Ok) → FirstFile c.args.input.now c.in-Ok.end
first c = first_file _ _ (sym c.in-Ok.ensures)

pub slice_bounds-file-count : goal.slice_bounds-file-count
slice_bounds-file-count c = (first (goal.at.slice_bounds-file-count c).In-Ok).two

pub slice_bounds-file-start : goal.slice_bounds-file-start
slice_bounds-file-start c = (first (goal.at.slice_bounds-file-start c).In-Ok).two

pub slice_bounds-file-end : goal.slice_bounds-file-end
slice_bounds-file-end c = (first (goal.at.slice_bounds-file-end c).In-Ok).fits

pub returns-in_default : goal.returns-in_default
returns-in_default c = plays_nothing _ _ _ _ c.requires.inside (no_file (no_file_first _ _ (sym c.in_default.ensures)))

pub returns-in-Awaiting : goal.returns-in-Awaiting
returns-in-Awaiting c =
    rw (c.taken.ensures, c.in-Awaiting.is)
    (plays_file _ _ _ _ (first (goal.at.returns-in-Awaiting c).In-Ok) c.requires.line_room c.take_patch.ensures)

pub returns-in-Feeding : goal.returns-in-Feeding
returns-in-Feeding c =
    rw (c.taken-in-Feeding.ensures, c.in-Feeding.is)
    (plays_file _ _ _ _ (first (goal.at.returns-in-Feeding c).In-Ok) c.requires.line_room c.take_slice.ensures)

pub returns-in-Stopped : goal.returns-in-Stopped
unfolding state_of Inside
returns-in-Stopped c = rw c.in-Stopped.is (plays_nothing Stopped _ _ _ tt (has_stopped refl))
