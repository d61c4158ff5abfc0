-- Slice files that tell the readings of the documents apart (docs/DECISIONS.md), each with its type and its number.
use Rattle.std.specs.Prelude.{◌≡◌, refl, true, false, List, [], ◌∷◌, map, ℕ}
use Rattle.stream.specs.Types.{Ty, empty, cue, level, seq, par, either}
use Rattle.stream.specs.Prefixes.{nothing, cue_awaited, cue_come, level_awaited, level_come, in_first, crossed, beside, none_chosen, first_chosen, second_chosen, arrivals, derivative}
use Rattle.stream.specs.Prefixes.Functions.{complete, concat}
use Rattle.stream.specs.Reading.Examples.{verdict, section_of, numbers, verdicts}
use Rattle.stream.specs.SliceFiles.{slice_file}
use Rattle.stream.specs.Computing.{stream_definitions}

abbrev table : List ((Ty × List ℕ) × ℕ)
table =
    ((seq cue cue, section_of (6 ∷ 2 ∷ 1 ∷ [])), 0)
    ∷ ((seq cue cue, section_of (5 ∷ 2 ∷ [])), 0)
    ∷ ((level, section_of (4 ∷ 0 ∷ 0 ∷ [])), 0)
    -- a count that is cut short, a section of no bytes, a tree or a value cut short
    ∷ ((cue, []), 11)
    ∷ ((cue, 0 ∷ []), 11)
    ∷ ((cue, 0 ∷ 1 ∷ []), 11)
    ∷ ((cue, section_of []), 11)
    ∷ ((par cue cue, section_of (7 ∷ 1 ∷ [])), 11)
    ∷ ((level, section_of (4 ∷ 1 ∷ [])), 11)
    -- the length is tried before the contents
    ∷ ((cue, 0 ∷ 2 ∷ 200 ∷ []), 11)
    -- 12 is decided by the number alone, before the type is asked; 14 by the kind, before its value is read
    ∷ ((cue, section_of (15 ∷ [])), 12)
    ∷ ((cue, section_of (200 ∷ [])), 12)
    ∷ ((seq cue cue, section_of (6 ∷ 200 ∷ [])), 12)
    ∷ ((cue, section_of (7 ∷ [])), 14)
    ∷ ((empty, section_of (1 ∷ [])), 14)
    ∷ ((cue, section_of (4 ∷ 1 ∷ [])), 14)
    -- a kind that keeps a crossed first part from being complete is refused at its own byte
    ∷ ((seq cue cue, section_of (6 ∷ 1 ∷ 1 ∷ [])), 14)
    ∷ ((seq level cue, section_of (6 ∷ 3 ∷ 1 ∷ [])), 14)
    ∷ ((seq (par cue cue) cue, section_of (6 ∷ 7 ∷ 1 ∷ [])), 14)
    ∷ ((seq (par cue cue) cue, section_of (6 ∷ 7 ∷ 1 ∷ 15 ∷ [])), 14)
    ∷ ((seq (par cue cue) cue, section_of (6 ∷ 7 ∷ 1 ∷ 2 ∷ 1 ∷ 1 ∷ [])), 14)
    ∷ ((seq (par cue cue) cue, section_of (6 ∷ 7 ∷ 1 ∷ 200 ∷ [])), 14)
    ∷ ((seq (par cue cue) cue, section_of (6 ∷ 7 ∷ 2 ∷ 1 ∷ 1 ∷ [])), 14)
    ∷ ((seq (par cue cue) cue, section_of (6 ∷ 7 ∷ 15 ∷ [])), 12)
    -- .. and so into the second part of a crossing inside it, but not into the second part itself
    ∷ ((seq (seq cue cue) cue, section_of (6 ∷ 6 ∷ 2 ∷ 1 ∷ 1 ∷ [])), 14)
    ∷ ((seq (seq cue cue) cue, section_of (6 ∷ 5 ∷ 2 ∷ 1 ∷ [])), 14)
    ∷ ((seq (seq cue cue) cue, section_of (6 ∷ 6 ∷ 2 ∷ 2 ∷ 1 ∷ [])), 0)
    -- empty in sequence with empty: the crossing is still owed
    ∷ ((seq (seq empty empty) cue, section_of (6 ∷ 5 ∷ 0 ∷ 1 ∷ [])), 14)
    ∷ ((seq (seq empty empty) cue, section_of (6 ∷ 6 ∷ 0 ∷ 0 ∷ 1 ∷ [])), 0)
    -- either: none chosen, or one part chosen and its slice; a slice of the other part does not belong there
    ∷ ((either cue level, section_of (8 ∷ [])), 0)
    ∷ ((either cue level, section_of (9 ∷ 1 ∷ [])), 0)
    ∷ ((either cue level, section_of (10 ∷ 4 ∷ 0 ∷ 7 ∷ [])), 0)
    ∷ ((either cue level, section_of (9 ∷ 3 ∷ [])), 14)
    ∷ ((either cue level, section_of (10 ∷ 2 ∷ [])), 14)
    ∷ ((either cue level, section_of (2 ∷ [])), 14)
    ∷ ((either cue level, section_of (9 ∷ [])), 11)
    ∷ ((either cue level, section_of (8 ∷ 1 ∷ [])), 13)
    ∷ ((either cue level, section_of (15 ∷ [])), 12)
    -- .. once the choice is made, only slices of the chosen part belong there
    ∷ ((cue, section_of (9 ∷ 2 ∷ [])), 14)
    ∷ ((cue, section_of (8 ∷ [])), 14)
    -- .. and 8 keeps a crossed first part from being complete, as does a choice that is not complete
    ∷ ((seq (either cue level) cue, section_of (6 ∷ 8 ∷ 1 ∷ [])), 14)
    ∷ ((seq (either cue level) cue, section_of (6 ∷ 9 ∷ 1 ∷ 1 ∷ [])), 14)
    ∷ ((seq (either cue level) cue, section_of (6 ∷ 9 ∷ 2 ∷ 1 ∷ [])), 0)
    ∷ ((seq (either cue level) cue, section_of (6 ∷ 10 ∷ 4 ∷ 0 ∷ 7 ∷ 2 ∷ [])), 0)
    -- bytes left over, in the section and after it, whatever they are
    ∷ ((cue, section_of (1 ∷ 1 ∷ [])), 13)
    ∷ ((cue, section_of (2 ∷ 200 ∷ [])), 13)
    ∷ ((cue, 0 ∷ 1 ∷ 1 ∷ 9 ∷ []), 13)
    ∷ []

pub slice_file_examples : verdicts (λ x. verdict (slice_file x.0 x.1)) table ≡ numbers table
unfolding stream_definitions
slice_file_examples = refl

-- What prefixes are and do: whether one is complete, what it leaves, and joins.

pub complete_examples :
    map complete
    (level_come 0 ∷ level_awaited ∷ in_first cue_come ∷ crossed cue_come cue_awaited ∷ crossed cue_come cue_come
    ∷ none_chosen ∷ first_chosen cue_awaited ∷ second_chosen cue_come ∷ [])
    ≡ true ∷ false ∷ false ∷ false ∷ true ∷ false ∷ false ∷ true ∷ []
unfolding stream_definitions
complete_examples = refl

-- A level that has come counts once, whatever bytes its value has; a crossing and a choice count nothing.
pub arrivals_examples :
    map arrivals
    (level_come 516 ∷ level_awaited ∷ beside cue_come (level_come 0) ∷ in_first cue_awaited ∷ crossed nothing cue_awaited
    ∷ crossed cue_come (in_first cue_come) ∷ none_chosen ∷ first_chosen cue_awaited ∷ second_chosen (level_come 514) ∷ [])
    ≡ 1 ∷ 0 ∷ 2 ∷ 0 ∷ 0 ∷ 2 ∷ 0 ∷ 0 ∷ 1 ∷ []
unfolding stream_definitions
arrivals_examples = refl

pub derivative_examples :
    (derivative (seq cue level) (in_first cue_come) ≡ seq empty level)
    × (derivative (seq cue level) (crossed cue_come level_awaited) ≡ level)
    × (derivative (par cue level) (beside cue_come level_awaited) ≡ par empty level)
    × (derivative level (level_come 0) ≡ empty)
    × (derivative (either cue level) none_chosen ≡ either cue level)
    × (derivative (either cue level) (first_chosen cue_awaited) ≡ cue)
    × (derivative (either cue level) (second_chosen (level_come 7)) ≡ empty)
unfolding stream_definitions
derivative_examples = (refl, refl, refl, refl, refl, refl, refl)

-- 5 p joined with 6 b r keeps p, and a choice joined with q keeps its mark.
pub concat_examples :
    (concat (in_first cue_come) (crossed nothing cue_awaited) ≡ crossed cue_come cue_awaited)
    × (concat (in_first cue_awaited) (in_first cue_come) ≡ in_first cue_come)
    × (concat (crossed cue_come cue_awaited) cue_come ≡ crossed cue_come cue_come)
    × (concat (level_come 0) nothing ≡ level_come 0)
    × (concat none_chosen (second_chosen level_awaited) ≡ second_chosen level_awaited)
    × (concat (first_chosen cue_awaited) cue_come ≡ first_chosen cue_come)
unfolding stream_definitions
concat_examples = (refl, refl, refl, refl, refl, refl)
