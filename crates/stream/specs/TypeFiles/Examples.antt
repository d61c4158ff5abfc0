-- Type files that tell the readings of the documents apart (docs/DECISIONS.md), with their numbers.
use Rattle.std.specs.Prelude.{◌≡◌, refl, List, [], ◌∷◌, ℕ}
use Rattle.stream.specs.Reading.Examples.{verdict, section_of, copies, numbers, verdicts}
use Rattle.stream.specs.TypeFiles.{type_file}
use Rattle.stream.specs.Computing.{stream_definitions}

abbrev table : List (List ℕ × ℕ)
table =
    (section_of (3 ∷ 1 ∷ 4 ∷ 0 ∷ 2 ∷ []), 0)
    ∷ (section_of (5 ∷ 1 ∷ 5 ∷ 0 ∷ 2 ∷ []), 0)
    -- 255 nodes are read; a 256th is refused once it is needed, whether a byte follows or not and whatever it is
    ∷ (section_of (copies 127 (4 ∷ 1 ∷ []) (1 ∷ [])), 0)
    ∷ (section_of (copies 127 (4 ∷ 1 ∷ []) (4 ∷ 1 ∷ 1 ∷ [])), 4)
    ∷ (section_of (copies 127 (4 ∷ 1 ∷ []) (4 ∷ [])), 4)
    ∷ (section_of (copies 127 (4 ∷ 1 ∷ []) (4 ∷ 200 ∷ [])), 4)
    -- .. and not before it is needed
    ∷ (section_of (copies 128 (4 ∷ []) []), 1)
    -- a count that is cut short, a section of no bytes, a section longer than the bytes
    ∷ ([], 1)
    ∷ (0 ∷ [], 1)
    ∷ (0 ∷ 0 ∷ [], 1)
    ∷ (2 ∷ 88 ∷ copies 150 (4 ∷ 4 ∷ []) [], 1)
    -- cut short, and a kind not listed
    ∷ (section_of (3 ∷ 1 ∷ []), 1)
    ∷ (section_of (5 ∷ 1 ∷ []), 1)
    ∷ (section_of (19 ∷ []), 2)
    ∷ (section_of (3 ∷ 19 ∷ []), 2)
    -- bytes after a whole tree are not looked at, and a long section is no fault by itself
    ∷ (section_of (1 ∷ 200 ∷ []), 3)
    ∷ (section_of (copies 127 (4 ∷ 1 ∷ []) (1 ∷ 1 ∷ [])), 3)
    ∷ (0 ∷ 1 ∷ 1 ∷ 9 ∷ [], 3)
    ∷ []

pub type_file_examples : verdicts (λ file. verdict (type_file file)) table ≡ numbers table
unfolding stream_definitions
type_file_examples = refl
