-- Case 2 of document 01 as its program prints it, and the streams on which a reader could slip.
use Rattle.std.specs.Prelude.{◌≡◌, refl, List, [], ◌∷◌, ◌++◌, map, ℕ}
use Rattle.stream.specs.Reading.Examples.{section_of}
use Rattle.node.specs.Computing.{node_definitions}
use Rattle.node.specs.PatchFiles.Examples.{with_totals, sections}
use Rattle.meaning.specs.Answers.{takes_slice, check, feed, first_section}
use Rattle.transcript.specs.Transcripts.{files_within, files, digit, hexadecimal, number_line, line, patch_after, takes, prints, transcript}

-- Prepend, after its length; a slice file, after its own.
abbrev prepend : List ℕ
prepend = section_of (sections (1 ∷ []) (10 ∷ 14 ∷ 9 ∷ 2 ∷ 0 ∷ []))

abbrev slice : List ℕ → List ℕ
slice body = section_of (section_of body)

abbrev streams : List (List ℕ)
streams =
    (prepend ++ slice (1 ∷ []) ++ slice (2 ∷ []))  -- case 2
    ∷ (prepend ++ slice (1 ∷ []) ++ 0 ∷ 3 ∷ 0 ∷ 1 ∷ [])  -- ends inside a file
    ∷ (prepend ++ slice (1 ∷ []) ++ 0 ∷ [])  -- ends inside a length
    ∷ (prepend ++ slice (200 ∷ []) ++ slice (1 ∷ []))  -- a refused slice leaves the patch
    ∷ (prepend ++ 0 ∷ 0 ∷ [])  -- a file of no bytes
    ∷ (section_of (sections (1 ∷ []) (5 ∷ [])) ++ slice (1 ∷ []))  -- a refused patch
    -- a slice that would pass a total is refused with 31 and leaves the patch
    ∷ (section_of (with_totals (1 ∷ []) (0 ∷ []) (section_of (255 ∷ 255 ∷ 255 ∷ 255 ∷ 0 ∷ 0 ∷ 0 ∷ 0 ∷ []))) ++ slice (2 ∷ []) ++ slice (1 ∷ []))
    ∷ prepend  -- a patch and nothing more
    ∷ (0 ∷ 0 ∷ [])  -- a patch file of no bytes
    ∷ (0 ∷ 16 ∷ 0 ∷ 1 ∷ 1 ∷ 0 ∷ 1 ∷ [])  -- ends inside the patch file
    ∷ (0 ∷ [])  -- ends inside its length
    ∷ []

abbrev pages : List (List ℕ)
pages =
    (48 ∷ 32 ∷ 48 ∷ 54 ∷ 48 ∷ 50 ∷ 48 ∷ 49 ∷ 32 ∷ 48 ∷ 49 ∷ 10 ∷ 48 ∷ 32 ∷ 48 ∷ 50 ∷ 32 ∷ 48 ∷ 48 ∷ 10 ∷ [])
    ∷ (48 ∷ 32 ∷ 48 ∷ 54 ∷ 48 ∷ 50 ∷ 48 ∷ 49 ∷ 32 ∷ 48 ∷ 49 ∷ 10 ∷ [])
    ∷ (48 ∷ 32 ∷ 48 ∷ 54 ∷ 48 ∷ 50 ∷ 48 ∷ 49 ∷ 32 ∷ 48 ∷ 49 ∷ 10 ∷ [])
    ∷ (49 ∷ 50 ∷ 10 ∷ 48 ∷ 32 ∷ 48 ∷ 54 ∷ 48 ∷ 50 ∷ 48 ∷ 49 ∷ 32 ∷ 48 ∷ 49 ∷ 10 ∷ [])
    ∷ (49 ∷ 49 ∷ 10 ∷ [])
    ∷ (55 ∷ 10 ∷ [])
    ∷ (51 ∷ 49 ∷ 10 ∷ 48 ∷ 32 ∷ 48 ∷ 49 ∷ 32 ∷ 48 ∷ 49 ∷ 10 ∷ [])
    ∷ []
    ∷ (49 ∷ 10 ∷ [])
    ∷ []
    ∷ []
    ∷ []

pub printed : map transcript streams ≡ pages
unfolding node_definitions takes_slice check feed first_section files_within files digit hexadecimal number_line line patch_after takes prints transcript
printed = refl
