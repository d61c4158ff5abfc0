-- Types and the bytes of their longest prefixes, with those that tell readings apart (docs/DECISIONS.md): the longer side is the one
-- with more bytes, not with more nodes, and of equally long sides the first is chosen.
use Rattle.std.specs.Prelude.{◌≡◌, refl, List, [], ◌∷◌, map, ℕ}
use Rattle.stream.specs.Types.{Ty, empty, cue, level, seq, par, either}
use Rattle.stream.specs.SliceFiles.{prefix_bytes}
use Rattle.stream.specs.Longest.{longest_prefix}
use Rattle.stream.specs.Computing.{stream_definitions}

abbrev table : List (Ty × List ℕ)
table =
    (empty, 0 ∷ [])
    ∷ (cue, 2 ∷ [])
    ∷ (level, 4 ∷ 255 ∷ 255 ∷ [])
    ∷ (seq empty empty, 6 ∷ 0 ∷ 0 ∷ [])
    ∷ (par cue (seq cue level), 7 ∷ 2 ∷ 6 ∷ 2 ∷ 4 ∷ 255 ∷ 255 ∷ [])
    ∷ (either cue level, 10 ∷ 4 ∷ 255 ∷ 255 ∷ [])
    -- three bytes on either side
    ∷ (either (par cue cue) level, 9 ∷ 7 ∷ 2 ∷ 2 ∷ [])
    ∷ (either level (par cue cue), 9 ∷ 4 ∷ 255 ∷ 255 ∷ [])
    -- five nodes with five bytes, and three nodes with seven
    ∷ (either (par cue (par cue cue)) (par level level), 10 ∷ 7 ∷ 4 ∷ 255 ∷ 255 ∷ 4 ∷ 255 ∷ 255 ∷ [])
    -- an either inside is chosen by itself, and counts by what is chosen in it
    ∷ (either cue (either level cue), 10 ∷ 9 ∷ 4 ∷ 255 ∷ 255 ∷ [])
    ∷ (either (either (either cue cue) cue) (seq cue (par cue cue)), 10 ∷ 6 ∷ 2 ∷ 7 ∷ 2 ∷ 2 ∷ [])
    ∷ []

pub longest_examples :
    map (λ (row : Ty × List ℕ). prefix_bytes (longest_prefix row.0) []) table ≡ map (λ (row : Ty × List ℕ). row.1) table
unfolding stream_definitions
longest_examples = refl
