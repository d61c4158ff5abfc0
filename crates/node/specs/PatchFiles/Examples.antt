-- Patch files that tell the readings of documents 01 and 02 apart (docs/DECISIONS.md), with the numbers of Check's two passes.
use Rattle.std.specs.Prelude.{◌≡◌, refl, List, [], ◌∷◌, ◌++◌, ℕ}
use Rattle.stream.specs.Types.{Ty, empty, cue, level, seq, par, either}
use Rattle.stream.specs.Reading.{Result, accepted, refused}
use Rattle.stream.specs.Reading.Examples.{verdict, section_of, copies, numbers, verdicts}
use Rattle.node.specs.PatchFiles.{Checked, patch_file}
use Rattle.node.specs.Computing.{node_definitions}

-- The sections of a patch file: with any bytes behind the first two, with totals of one byte, and with totals of 0.
abbrev pub with_totals : List ℕ → List ℕ → List ℕ → List ℕ
with_totals input nodes totals = section_of input ++ section_of nodes ++ totals

abbrev pub counted_sections : List ℕ → List ℕ → (arrived sent : ℕ) → List ℕ
counted_sections input nodes arrived sent = with_totals input nodes (section_of (0 ∷ 0 ∷ 0 ∷ arrived ∷ 0 ∷ 0 ∷ 0 ∷ sent ∷ []))

abbrev pub sections : List ℕ → List ℕ → List ℕ
sections input nodes = counted_sections input nodes 0 0

-- A type of 255 nodes, and 62 nodes that want one more.
abbrev largest : List ℕ
largest = copies 127 (4 ∷ 1 ∷ []) (1 ∷ [])

abbrev chained : List ℕ → List ℕ
chained rest = copies 31 (10 ∷ 0 ∷ []) rest

abbrev table : List (List ℕ × ℕ)
table =
    (sections (1 ∷ []) (10 ∷ 14 ∷ 9 ∷ 2 ∷ 0 ∷ []), 0)
    -- 63 nodes are read; a 64th is refused once it is needed, whether a byte follows or not, and not before
    ∷ (sections (1 ∷ []) (chained (0 ∷ [])), 0)
    ∷ (sections (1 ∷ []) (chained (10 ∷ 0 ∷ 0 ∷ [])), 5)
    ∷ (sections (1 ∷ []) (chained (10 ∷ [])), 5)
    ∷ (sections (1 ∷ []) (chained (10 ∷ 99 ∷ [])), 5)
    ∷ (sections (1 ∷ []) (copies 32 (10 ∷ []) []), 1)
    -- no section, one section, a value cut short
    ∷ ([], 1)
    ∷ (0 ∷ [], 1)
    ∷ (section_of (1 ∷ []), 1)
    ∷ (section_of (1 ∷ []) ++ section_of (0 ∷ []), 1)
    ∷ (sections (1 ∷ []) (3 ∷ 7 ∷ []), 1)
    -- the type section ends before the next begins; the last section ends before the file does
    ∷ (0 ∷ 1 ∷ 77 ∷ 0 ∷ 9 ∷ [], 2)
    ∷ (section_of (1 ∷ 1 ∷ []), 3)
    ∷ (sections (1 ∷ 200 ∷ []) (0 ∷ []), 3)
    ∷ (sections (1 ∷ []) (77 ∷ []) ++ 5 ∷ [], 2)
    ∷ (sections (1 ∷ []) (0 ∷ 0 ∷ []), 3)
    -- the third section: full, shorter, longer, not whole, of one byte; bytes behind it
    ∷ (with_totals (1 ∷ []) (0 ∷ []) (section_of (copies 8 (255 ∷ []) [])), 0)
    ∷ (with_totals (1 ∷ []) (0 ∷ []) (section_of []), 1)
    ∷ (with_totals (1 ∷ []) (0 ∷ []) (section_of (copies 7 (0 ∷ []) [])), 1)
    ∷ (with_totals (1 ∷ []) (0 ∷ []) (section_of (copies 9 (0 ∷ []) [])), 3)
    ∷ (with_totals (1 ∷ []) (0 ∷ []) (0 ∷ 9 ∷ copies 8 (0 ∷ []) []), 1)
    ∷ (with_totals (1 ∷ []) (0 ∷ []) (0 ∷ 7 ∷ copies 8 (0 ∷ []) []), 1)
    ∷ (with_totals (1 ∷ []) (0 ∷ []) (0 ∷ 9 ∷ copies 10 (0 ∷ []) []), 3)
    ∷ (with_totals (1 ∷ []) (0 ∷ []) (0 ∷ 8 ∷ copies 9 (0 ∷ []) []), 3)
    ∷ (with_totals (1 ∷ []) (0 ∷ []) (0 ∷ []), 1)
    -- the first pass comes before the second
    ∷ (with_totals (1 ∷ []) (5 ∷ []) (section_of (copies 7 (0 ∷ []) [])), 1)
    ∷ (sections (1 ∷ []) (5 ∷ []) ++ 0 ∷ [], 3)
    ∷ (sections (1 ∷ []) (10 ∷ 5 ∷ 99 ∷ []), 2)
    -- 7 and 6 at the node's own turn in preorder
    ∷ (sections (1 ∷ []) (4 ∷ 5 ∷ 1 ∷ 1 ∷ []), 7)
    ∷ (sections (1 ∷ []) (4 ∷ 1 ∷ 1 ∷ 5 ∷ []), 6)
    ∷ (sections (1 ∷ []) (9 ∷ 1 ∷ 1 ∷ 0 ∷ []), 7)
    ∷ (sections (1 ∷ []) (1 ∷ 3 ∷ 0 ∷ 0 ∷ []), 6)
    ∷ (sections (1 ∷ []) (1 ∷ 4 ∷ 0 ∷ 0 ∷ []), 0)
    -- a type given inside counts, and a chain's first part comes before its second
    ∷ (sections largest (0 ∷ []), 0)
    ∷ (sections largest (10 ∷ 14 ∷ 8 ∷ []), 4)
    ∷ (sections largest (10 ∷ 14 ∷ 5 ∷ []), 4)
    ∷ (sections largest (4 ∷ 0 ∷ 0 ∷ []), 4)
    -- a carried type has its own count of 255 and does not count among the nodes
    ∷ (sections (1 ∷ []) (1 ∷ copies 127 (4 ∷ 0 ∷ []) (0 ∷ [])), 0)
    ∷ (sections (1 ∷ []) (1 ∷ copies 128 (4 ∷ 0 ∷ []) (0 ∷ [])), 4)
    ∷ (sections (1 ∷ []) (10 ∷ 1 ∷ copies 128 (4 ∷ 0 ∷ []) (0 ∷ 99 ∷ [])), 4)
    -- the shapes that the nodes take
    ∷ (sections (3 ∷ 1 ∷ 1 ∷ []) (5 ∷ []), 7)
    ∷ (sections (3 ∷ 1 ∷ 1 ∷ []) (6 ∷ []), 7)
    ∷ (sections (4 ∷ 1 ∷ 1 ∷ []) (7 ∷ []), 7)
    ∷ (sections (4 ∷ 1 ∷ 1 ∷ []) (8 ∷ []), 7)
    ∷ (sections (3 ∷ 1 ∷ 3 ∷ 1 ∷ 1 ∷ []) (11 ∷ []), 7)
    ∷ (sections (3 ∷ 3 ∷ 1 ∷ 1 ∷ 1 ∷ []) (12 ∷ []), 7)
    ∷ (sections (3 ∷ 1 ∷ 3 ∷ 1 ∷ 1 ∷ []) (13 ∷ []), 7)
    ∷ (sections (4 ∷ 1 ∷ 1 ∷ []) (15 ∷ 0 ∷ 0 ∷ []), 7)
    -- choose: its output types are compared after its second part's own faults and before 4
    ∷ (sections (5 ∷ 1 ∷ 1 ∷ []) (15 ∷ 0 ∷ 0 ∷ []), 0)
    ∷ (sections (5 ∷ 1 ∷ 2 ∷ []) (15 ∷ 0 ∷ 0 ∷ []), 30)
    ∷ (sections (5 ∷ 1 ∷ 2 ∷ []) (15 ∷ 0 ∷ 5 ∷ []), 7)
    ∷ (sections (5 ∷ 1 ∷ 2 ∷ []) (4 ∷ 1 ∷ copies 127 (4 ∷ 0 ∷ []) (0 ∷ 15 ∷ 0 ∷ 0 ∷ [])), 30)
    ∷ (sections (5 ∷ 1 ∷ 2 ∷ []) (4 ∷ 1 ∷ copies 127 (4 ∷ 0 ∷ []) (0 ∷ 15 ∷ 2 ∷ 2 ∷ [])), 4)
    -- they are compared as trees, not by size
    ∷ (sections (5 ∷ 4 ∷ 1 ∷ 2 ∷ 4 ∷ 2 ∷ 1 ∷ []) (15 ∷ 0 ∷ 0 ∷ []), 30)
    ∷ (sections (5 ∷ 1 ∷ 2 ∷ []) (15 ∷ 16 ∷ 2 ∷ 17 ∷ 1 ∷ []), 0)
    ∷ (sections (5 ∷ 1 ∷ 2 ∷ []) (15 ∷ 17 ∷ 2 ∷ 17 ∷ 1 ∷ []), 30)
    -- 16 and 17 carry a type of any kind; the type that they give is larger than the one that they carry
    ∷ (sections (1 ∷ []) (16 ∷ []), 1)
    ∷ (sections (1 ∷ []) (17 ∷ 19 ∷ []), 2)
    ∷ (sections (1 ∷ []) (16 ∷ copies 126 (4 ∷ 0 ∷ []) (0 ∷ [])), 0)
    ∷ (sections (1 ∷ []) (17 ∷ copies 127 (4 ∷ 0 ∷ []) (0 ∷ [])), 4)
    ∷ (sections (1 ∷ []) (10 ∷ 16 ∷ copies 128 (4 ∷ 0 ∷ []) (0 ∷ 99 ∷ [])), 4)
    ∷ []

pub patch_file_examples : verdicts (λ file. verdict (patch_file file)) table ≡ numbers table
unfolding node_definitions
patch_file_examples = refl

-- The output types of the nodes.

abbrev output_of : Result Checked → Ty
output_of (accepted c) = c.output
output_of (refused e) = empty

abbrev outputs : List (List ℕ × Ty) → List (Ty × Ty)
outputs [] = []
outputs (row ∷ rows) = (output_of (patch_file row.0), row.1) ∷ outputs rows

abbrev pub Equal : List (Ty × Ty) → Type 0
Equal [] = Unit
Equal (row ∷ rows) = (row.0 ≡ row.1) × Equal rows

abbrev given : List (List ℕ × Ty)
given =
    (sections (4 ∷ 1 ∷ 2 ∷ []) (4 ∷ 6 ∷ 5 ∷ []), par level cue)
    ∷ (sections (3 ∷ 1 ∷ 2 ∷ []) (4 ∷ 7 ∷ 8 ∷ []), par cue level)
    ∷ (sections (3 ∷ 1 ∷ 2 ∷ []) (9 ∷ 3 ∷ 0 ∷ 7 ∷ 2 ∷ []), seq level cue)
    ∷ (sections (3 ∷ 3 ∷ 0 ∷ 1 ∷ 2 ∷ []) (11 ∷ []), seq empty (seq cue level))
    ∷ (sections (3 ∷ 0 ∷ 3 ∷ 1 ∷ 2 ∷ []) (12 ∷ []), seq (seq empty cue) level)
    ∷ (sections (3 ∷ 0 ∷ 4 ∷ 1 ∷ 2 ∷ []) (13 ∷ []), par (seq empty cue) (seq empty level))
    ∷ (sections (2 ∷ []) (10 ∷ 14 ∷ 8 ∷ []), level)
    ∷ (sections (2 ∷ []) (1 ∷ 4 ∷ 0 ∷ 0 ∷ []), par empty empty)
    ∷ (sections (5 ∷ 1 ∷ 2 ∷ []) (15 ∷ 2 ∷ 2 ∷ []), cue)
    ∷ (sections (1 ∷ []) (16 ∷ 2 ∷ []), either cue level)
    ∷ (sections (1 ∷ []) (17 ∷ 2 ∷ []), either level cue)
    ∷ []

pub output_type_examples : Equal (outputs given)
unfolding node_definitions
output_type_examples = (refl, (refl, (refl, (refl, (refl, (refl, (refl, (refl, (refl, (refl, (refl, tt)))))))))))
