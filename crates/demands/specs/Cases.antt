-- The starred cases of document 01, 1 to 9, of which M-103 moves the eighth, and of document 02 calls on choices (M-100), for the longest
-- slice (M-101), on nodes that wait (M-103), for the counts (M-104) and for the totals (M-105), each as one table: a call by the contents
-- of the sections that it is handed, and what comes back.
use Rattle.std.specs.Prelude.{◌≡◌, refl, List, [], ◌∷◌, ◌++◌, map, ℕ}
use Rattle.stream.specs.Bounds.{slice_file_limit, patch_file_limit}
use Rattle.stream.specs.Faults.{number}
use Rattle.stream.specs.Reading.{Result, accepted, refused, section_bytes}
use Rattle.stream.specs.Reading.Examples.{copies}
use Rattle.node.specs.Computing.{node_definitions}
use Rattle.meaning.specs.Answers.{takes_slice, check, admit, join, feed, longest, FedFiles, with_room, fits_both, admitted, fed}

pub data Question : Type 0 where
  checking : (input nodes : List ℕ) → Question
  admitting : (type slice : List ℕ) → Question
  joining : (type first second : List ℕ) → Question
  feeding : (input nodes slice : List ℕ) → Question
  measuring : (type : List ℕ) → Question
  checking_file : (patch : List ℕ) → Question
  feeding_file : (patch slice : List ℕ) (output_lent patch_lent : ℕ) → Question

-- What comes back: the number of a refusal, or the files written.
pub data Answer : Type 0 where
  number_alone : ℕ → Answer
  files : List (List ℕ) → Answer

abbrev pub a_section : List ℕ → List ℕ
unfolding section_bytes
a_section contents = section_bytes contents []

-- A patch whose totals are below 256, and one that was never fed.
abbrev pub patch_with : (input nodes : List ℕ) (arrived sent : ℕ) → List ℕ
patch_with input nodes arrived sent = a_section input ++ a_section nodes ++ a_section (0 ∷ 0 ∷ 0 ∷ arrived ∷ 0 ∷ 0 ∷ 0 ∷ sent ∷ [])

abbrev pub new_patch : (input nodes : List ℕ) → List ℕ
new_patch input nodes = patch_with input nodes 0 0

abbrev pub told : {A : Type 0} → (A → List (List ℕ)) → Result A → Answer
told f (accepted a) = files (f a)
told f (refused e) = number_alone (number e)

abbrev pub answered : Question → Answer
answered (checking input nodes) = told (λ w. w ∷ []) (check (new_patch input nodes))
answered (admitting type slice) = told (λ c. []) (admit (a_section type) (a_section slice))
answered (joining type first second) = told (λ w. w ∷ []) (join (a_section type) (a_section first) (a_section second))
answered (feeding input nodes slice) = told (λ (w : FedFiles). w.output ∷ w.patch ∷ []) (feed (new_patch input nodes) (a_section slice))
answered (measuring type) = told (λ w. w ∷ []) (longest (a_section type))
answered (checking_file patch) = told (λ w. w ∷ []) (check patch)
answered (feeding_file patch slice output_lent patch_lent) =
    told (λ (w : FedFiles). w.output ∷ w.patch ∷ []) (with_room (fits_both output_lent patch_lent) (feed patch (a_section slice)))

abbrev pub sends_and_leaves : (output input nodes : List ℕ) (arrived sent : ℕ) → Answer
sends_and_leaves output input nodes arrived sent = files (a_section output ∷ patch_with input nodes arrived sent ∷ [])

abbrev pub writes_file : List ℕ → Answer
writes_file contents = files (a_section contents ∷ [])

abbrev pub table : List (Question × Answer)
table =
    -- 1
    (feeding (4 ∷ 1 ∷ 2 ∷ []) (4 ∷ 6 ∷ 5 ∷ []) (7 ∷ 2 ∷ 3 ∷ []), sends_and_leaves (7 ∷ 3 ∷ 2 ∷ []) (4 ∷ 0 ∷ 2 ∷ []) (4 ∷ 6 ∷ 5 ∷ []) 1 1)
    -- 2, and then slice 2
    ∷ (feeding (1 ∷ []) (10 ∷ 14 ∷ 9 ∷ 2 ∷ 0 ∷ []) (1 ∷ []), sends_and_leaves (6 ∷ 2 ∷ 1 ∷ []) (1 ∷ []) (10 ∷ 0 ∷ 0 ∷ []) 0 1)
    ∷ (feeding (1 ∷ []) (10 ∷ 0 ∷ 0 ∷ []) (2 ∷ []), sends_and_leaves (2 ∷ []) (0 ∷ []) (10 ∷ 0 ∷ 0 ∷ []) 1 1)
    -- 3
    ∷ (feeding (1 ∷ []) (10 ∷ 14 ∷ 9 ∷ 2 ∷ 0 ∷ []) (2 ∷ []), sends_and_leaves (6 ∷ 2 ∷ 2 ∷ []) (0 ∷ []) (10 ∷ 0 ∷ 0 ∷ []) 1 2)
    -- 4, and from the same start
    ∷ (feeding (3 ∷ 1 ∷ 1 ∷ []) (7 ∷ []) (5 ∷ 2 ∷ []), sends_and_leaves (2 ∷ []) (3 ∷ 0 ∷ 1 ∷ []) (7 ∷ []) 1 1)
    ∷ (feeding (3 ∷ 1 ∷ 1 ∷ []) (7 ∷ []) (6 ∷ 2 ∷ 1 ∷ []), sends_and_leaves (2 ∷ []) (1 ∷ []) (1 ∷ 0 ∷ []) 1 1)
    -- 5, and from the same start
    ∷ (feeding (3 ∷ 1 ∷ 4 ∷ 1 ∷ 1 ∷ []) (13 ∷ []) (5 ∷ 2 ∷ []), sends_and_leaves (7 ∷ 5 ∷ 2 ∷ 5 ∷ 2 ∷ []) (3 ∷ 0 ∷ 4 ∷ 1 ∷ 1 ∷ []) (13 ∷ []) 1 2)
    ∷ (feeding (3 ∷ 1 ∷ 4 ∷ 1 ∷ 1 ∷ []) (13 ∷ []) (6 ∷ 2 ∷ 7 ∷ 2 ∷ 1 ∷ []), sends_and_leaves (7 ∷ 6 ∷ 2 ∷ 2 ∷ 6 ∷ 2 ∷ 1 ∷ []) (4 ∷ 0 ∷ 1 ∷ []) (0 ∷ []) 2 3)
    -- 6
    ∷ (feeding (3 ∷ 3 ∷ 1 ∷ 1 ∷ 1 ∷ []) (11 ∷ []) (5 ∷ 6 ∷ 2 ∷ 1 ∷ []), sends_and_leaves (6 ∷ 2 ∷ 5 ∷ 1 ∷ []) (3 ∷ 1 ∷ 1 ∷ []) (0 ∷ []) 1 1)
    -- 7, and joining
    ∷ (admitting (3 ∷ 1 ∷ 1 ∷ []) (6 ∷ 1 ∷ 1 ∷ []), number_alone 14)
    ∷ (joining (3 ∷ 1 ∷ 1 ∷ []) (5 ∷ 2 ∷ []) (6 ∷ 0 ∷ 1 ∷ []), writes_file (6 ∷ 2 ∷ 1 ∷ []))
    -- 8, as M-103 has it: "in case 8 node 2 now sends 1 and stays"
    ∷ (feeding (0 ∷ []) (0 ∷ []) (0 ∷ []), sends_and_leaves (0 ∷ []) (0 ∷ []) (0 ∷ []) 0 0)
    ∷ (feeding (1 ∷ []) (2 ∷ []) (1 ∷ []), sends_and_leaves (1 ∷ []) (1 ∷ []) (2 ∷ []) 0 0)
    -- 9
    ∷ (checking (3 ∷ 1 ∷ 1 ∷ []) (5 ∷ []), number_alone 7)
    ∷ (checking (1 ∷ []) (1 ∷ 3 ∷ 0 ∷ 0 ∷ []), number_alone 6)
    ∷ (checking (1 ∷ []) (1 ∷ 4 ∷ 0 ∷ 0 ∷ []), writes_file (4 ∷ 0 ∷ 0 ∷ []))
    ∷ []

pub cases : map (λ (row : Question × Answer). answered row.0) table ≡ map (λ (row : Question × Answer). row.1) table
unfolding node_definitions takes_slice check admit join feed
cases = refl

abbrev pub choices : List (Question × Answer)
choices =
    -- how long a crossed first part is follows from the choice in it, which has to be made and be complete
    (feeding (3 ∷ 5 ∷ 1 ∷ 2 ∷ 1 ∷ []) (8 ∷ []) (6 ∷ 10 ∷ 4 ∷ 0 ∷ 7 ∷ 2 ∷ []), sends_and_leaves (2 ∷ []) (0 ∷ []) (0 ∷ []) 2 1)
    ∷ (admitting (3 ∷ 5 ∷ 1 ∷ 2 ∷ 1 ∷ []) (6 ∷ 8 ∷ 1 ∷ []), number_alone 14)
    ∷ (admitting (3 ∷ 5 ∷ 1 ∷ 2 ∷ 1 ∷ []) (6 ∷ 9 ∷ 1 ∷ 1 ∷ []), number_alone 14)
    -- a slice of the part that was not chosen, a byte behind 8, a kind that is not listed
    ∷ (admitting (5 ∷ 1 ∷ 2 ∷ []) (9 ∷ 3 ∷ []), number_alone 14)
    ∷ (admitting (5 ∷ 1 ∷ 2 ∷ []) (8 ∷ 1 ∷ []), number_alone 13)
    ∷ (admitting (5 ∷ 1 ∷ 2 ∷ []) (15 ∷ []), number_alone 12)
    -- joins: inside the choice, which is made once
    ∷ (joining (5 ∷ 1 ∷ 2 ∷ []) (8 ∷ []) (10 ∷ 3 ∷ []), writes_file (10 ∷ 3 ∷ []))
    ∷ (joining (5 ∷ 1 ∷ 2 ∷ []) (9 ∷ 1 ∷ []) (2 ∷ []), writes_file (9 ∷ 2 ∷ []))
    ∷ (joining (5 ∷ 1 ∷ 2 ∷ []) (9 ∷ 1 ∷ []) (9 ∷ 2 ∷ []), number_alone 14)
    -- choose on 8, on 9 and on 10; 16 and 17
    ∷ (feeding (5 ∷ 1 ∷ 2 ∷ []) (15 ∷ 2 ∷ 2 ∷ []) (8 ∷ []), sends_and_leaves (1 ∷ []) (5 ∷ 1 ∷ 2 ∷ []) (15 ∷ 2 ∷ 2 ∷ []) 0 0)
    ∷ (feeding (5 ∷ 1 ∷ 1 ∷ []) (15 ∷ 0 ∷ 2 ∷ []) (9 ∷ 1 ∷ []), sends_and_leaves (1 ∷ []) (1 ∷ []) (0 ∷ []) 0 0)
    ∷ (feeding (5 ∷ 1 ∷ 1 ∷ []) (15 ∷ 0 ∷ 2 ∷ []) (10 ∷ 2 ∷ []), sends_and_leaves (2 ∷ []) (0 ∷ []) (1 ∷ 0 ∷ []) 1 1)
    ∷ (feeding (1 ∷ []) (16 ∷ 2 ∷ []) (1 ∷ []), sends_and_leaves (9 ∷ 1 ∷ []) (1 ∷ []) (0 ∷ []) 0 0)
    ∷ (feeding (1 ∷ []) (17 ∷ 2 ∷ []) (2 ∷ []), sends_and_leaves (10 ∷ 2 ∷ []) (0 ∷ []) (0 ∷ []) 1 1)
    -- 30, after the second part's own faults and before 4
    ∷ (checking (5 ∷ 1 ∷ 2 ∷ []) (15 ∷ 0 ∷ 0 ∷ []), number_alone 30)
    ∷ (checking (5 ∷ 1 ∷ 2 ∷ []) (15 ∷ 0 ∷ 5 ∷ []), number_alone 7)
    ∷ (checking (5 ∷ 1 ∷ 2 ∷ []) (4 ∷ 1 ∷ copies 127 (4 ∷ 0 ∷ []) (0 ∷ 15 ∷ 0 ∷ 0 ∷ [])), number_alone 30)
    ∷ (checking (5 ∷ 1 ∷ 2 ∷ []) (4 ∷ 1 ∷ copies 127 (4 ∷ 0 ∷ []) (0 ∷ 15 ∷ 2 ∷ 2 ∷ [])), number_alone 4)
    ∷ []

pub choice_cases : map (λ (row : Question × Answer). answered row.0) choices ≡ map (λ (row : Question × Answer). row.1) choices
unfolding node_definitions takes_slice check admit join feed
choice_cases = refl

abbrev pub longest_slices : List (Question × Answer)
longest_slices =
    -- of equally long sides the first is chosen, whichever has more nodes; else the longer one
    (measuring (5 ∷ 4 ∷ 1 ∷ 1 ∷ 2 ∷ []), writes_file (9 ∷ 7 ∷ 2 ∷ 2 ∷ []))
    ∷ (measuring (5 ∷ 2 ∷ 4 ∷ 1 ∷ 1 ∷ []), writes_file (9 ∷ 4 ∷ 255 ∷ 255 ∷ []))
    ∷ (measuring (5 ∷ 1 ∷ 2 ∷ []), writes_file (10 ∷ 4 ∷ 255 ∷ 255 ∷ []))
    -- a sequence is crossed, also one that brings nothing
    ∷ (measuring (3 ∷ 0 ∷ 0 ∷ []), writes_file (6 ∷ 0 ∷ 0 ∷ []))
    ∷ (measuring (3 ∷ 1 ∷ 4 ∷ 1 ∷ 2 ∷ []), writes_file (6 ∷ 2 ∷ 7 ∷ 2 ∷ 4 ∷ 255 ∷ 255 ∷ []))
    -- 255 nodes, of which 128 are levels: 511 bytes and the count
    ∷ (measuring (copies 127 (4 ∷ 2 ∷ []) (2 ∷ [])), writes_file (copies 127 (7 ∷ 4 ∷ 255 ∷ 255 ∷ []) (4 ∷ 255 ∷ 255 ∷ [])))
    -- the faults of a type
    ∷ (measuring [], number_alone 1)
    ∷ (measuring (3 ∷ 1 ∷ []), number_alone 1)
    ∷ (measuring (3 ∷ 1 ∷ 200 ∷ []), number_alone 2)
    ∷ (measuring (1 ∷ 1 ∷ []), number_alone 3)
    ∷ (measuring (copies 128 (4 ∷ 2 ∷ []) (2 ∷ [])), number_alone 4)
    ∷ []

pub longest_cases : map (λ (row : Question × Answer). answered row.0) longest_slices ≡ map (λ (row : Question × Answer). row.1) longest_slices
unfolding node_definitions longest
longest_cases = refl

abbrev pub opening_cues : List (Question × Answer)
opening_cues =
    -- the slice judged is the one that the node is fed, not the patch's: nothing on the left side; what second sends, which is complete
    (feeding (4 ∷ 1 ∷ 1 ∷ []) (10 ∷ 5 ∷ 2 ∷ []) (7 ∷ 1 ∷ 2 ∷ []), sends_and_leaves (1 ∷ []) (4 ∷ 1 ∷ 0 ∷ []) (10 ∷ 5 ∷ 2 ∷ []) 1 0)
    ∷ (feeding (3 ∷ 1 ∷ 0 ∷ []) (10 ∷ 8 ∷ 2 ∷ []) (5 ∷ 1 ∷ []), sends_and_leaves (2 ∷ []) (3 ∷ 1 ∷ 0 ∷ []) (10 ∷ 8 ∷ 1 ∷ 0 ∷ []) 0 1)
    -- an empty slice that is complete opens; one that is not waits, also of two empty parts in sequence
    ∷ (feeding (0 ∷ []) (2 ∷ []) (0 ∷ []), sends_and_leaves (2 ∷ []) (0 ∷ []) (1 ∷ 0 ∷ []) 0 1)
    ∷ (feeding (4 ∷ 0 ∷ 0 ∷ []) (2 ∷ []) (7 ∷ 0 ∷ 0 ∷ []), sends_and_leaves (2 ∷ []) (4 ∷ 0 ∷ 0 ∷ []) (1 ∷ 0 ∷ []) 0 1)
    ∷ (feeding (3 ∷ 0 ∷ 0 ∷ []) (2 ∷ []) (5 ∷ 0 ∷ []), sends_and_leaves (1 ∷ []) (3 ∷ 0 ∷ 0 ∷ []) (2 ∷ []) 0 0)
    -- a crossing opens, and a choice, with no cue and no level in them
    ∷ (feeding (3 ∷ 0 ∷ 1 ∷ []) (2 ∷ []) (5 ∷ 0 ∷ []), sends_and_leaves (1 ∷ []) (3 ∷ 0 ∷ 1 ∷ []) (2 ∷ []) 0 0)
    ∷ (feeding (3 ∷ 0 ∷ 1 ∷ []) (2 ∷ []) (6 ∷ 0 ∷ 1 ∷ []), sends_and_leaves (2 ∷ []) (1 ∷ []) (1 ∷ 0 ∷ []) 0 1)
    ∷ (feeding (5 ∷ 1 ∷ 1 ∷ []) (2 ∷ []) (8 ∷ []), sends_and_leaves (1 ∷ []) (5 ∷ 1 ∷ 1 ∷ []) (2 ∷ []) 0 0)
    ∷ (feeding (5 ∷ 1 ∷ 1 ∷ []) (2 ∷ []) (9 ∷ 1 ∷ []), sends_and_leaves (2 ∷ []) (1 ∷ []) (1 ∷ 0 ∷ []) 0 1)
    -- choose feeds its node what is inside the choice
    ∷ (feeding (5 ∷ 1 ∷ 1 ∷ []) (15 ∷ 0 ∷ 2 ∷ []) (10 ∷ 1 ∷ []), sends_and_leaves (1 ∷ []) (1 ∷ []) (2 ∷ []) 0 0)
    -- a level waits with its value and sends it once; what is left sends nothing more
    ∷ (feeding (4 ∷ 1 ∷ 2 ∷ []) (3 ∷ 4 ∷ 1 ∷ []) (7 ∷ 1 ∷ 3 ∷ []), sends_and_leaves (3 ∷ []) (4 ∷ 1 ∷ 2 ∷ []) (3 ∷ 4 ∷ 1 ∷ []) 0 0)
    ∷ (feeding (4 ∷ 1 ∷ 2 ∷ []) (3 ∷ 4 ∷ 1 ∷ []) (7 ∷ 1 ∷ 4 ∷ 0 ∷ 0 ∷ []), sends_and_leaves (4 ∷ 4 ∷ 1 ∷ []) (4 ∷ 1 ∷ 0 ∷ []) (1 ∷ 0 ∷ []) 1 1)
    ∷ (feeding (4 ∷ 1 ∷ 0 ∷ []) (1 ∷ 0 ∷ []) (7 ∷ 2 ∷ 0 ∷ []), sends_and_leaves (0 ∷ []) (4 ∷ 0 ∷ 0 ∷ []) (1 ∷ 0 ∷ []) 1 0)
    ∷ []

pub opening_cases : map (λ (row : Question × Answer). answered row.0) opening_cues ≡ map (λ (row : Question × Answer). row.1) opening_cues
unfolding node_definitions takes_slice feed
opening_cases = refl

-- The counts that a call tells behind its number: of Admit what arrived, of Feed what arrived and what was sent.
abbrev pub counted : Question → List ℕ
counted (checking input nodes) = []
counted (admitting type slice) = let a = admitted (admit (a_section type) (a_section slice)) in a.number ∷ a.arrived ∷ []
counted (joining type first second) = []
counted (feeding input nodes slice) = let f = fed (feed (new_patch input nodes) (a_section slice)) in f.number ∷ f.arrived ∷ f.sent ∷ []
counted (measuring type) = []
counted (checking_file patch) = []
counted (feeding_file patch slice output_lent patch_lent) = []

abbrev pub arrivals_told : List (Question × List ℕ)
arrivals_told =
    -- a level counts once, whatever its value: its two bytes are no kinds
    (admitting (2 ∷ []) (4 ∷ 2 ∷ 4 ∷ []), 0 ∷ 1 ∷ [])
    ∷ (admitting (2 ∷ []) (4 ∷ 0 ∷ 0 ∷ []), 0 ∷ 1 ∷ [])
    ∷ (admitting (2 ∷ []) (3 ∷ []), 0 ∷ 0 ∷ [])
    -- a crossing and a choice count nothing; what came before the crossing counts with what came behind it
    ∷ (admitting (3 ∷ 0 ∷ 1 ∷ []) (6 ∷ 0 ∷ 1 ∷ []), 0 ∷ 0 ∷ [])
    ∷ (admitting (5 ∷ 1 ∷ 1 ∷ []) (9 ∷ 1 ∷ []), 0 ∷ 0 ∷ [])
    ∷ (admitting (3 ∷ 1 ∷ 4 ∷ 1 ∷ 2 ∷ []) (6 ∷ 2 ∷ 7 ∷ 2 ∷ 4 ∷ 4 ∷ 2 ∷ []), 0 ∷ 3 ∷ [])
    -- the most: every leaf of a type of 255 nodes
    ∷ (admitting (copies 127 (4 ∷ 1 ∷ []) (1 ∷ [])) (copies 127 (7 ∷ 2 ∷ []) (2 ∷ [])), 0 ∷ 128 ∷ [])
    -- refused: nothing
    ∷ (admitting (3 ∷ 1 ∷ 1 ∷ []) (6 ∷ 2 ∷ 2 ∷ 2 ∷ []), 13 ∷ 0 ∷ [])
    ∷ (feeding (4 ∷ 1 ∷ 1 ∷ []) (0 ∷ []) (7 ∷ 2 ∷ []), 11 ∷ 0 ∷ 0 ∷ [])
    -- what is sent is counted in the output: both and spread send an arrival twice, left may send none
    ∷ (feeding (1 ∷ []) (4 ∷ 0 ∷ 0 ∷ []) (2 ∷ []), 0 ∷ 1 ∷ 2 ∷ [])
    ∷ (feeding (3 ∷ 1 ∷ 4 ∷ 1 ∷ 1 ∷ []) (13 ∷ []) (6 ∷ 2 ∷ 7 ∷ 2 ∷ 1 ∷ []), 0 ∷ 2 ∷ 3 ∷ [])
    ∷ (feeding (4 ∷ 1 ∷ 1 ∷ []) (5 ∷ []) (7 ∷ 1 ∷ 2 ∷ []), 0 ∷ 1 ∷ 0 ∷ [])
    -- a node's own cue is sent, and did not arrive; between the nodes of a chain nothing is sent
    ∷ (feeding (1 ∷ []) (10 ∷ 14 ∷ 9 ∷ 2 ∷ 0 ∷ []) (1 ∷ []), 0 ∷ 0 ∷ 1 ∷ [])
    ∷ (feeding (1 ∷ []) (10 ∷ 4 ∷ 0 ∷ 0 ∷ 5 ∷ []) (2 ∷ []), 0 ∷ 1 ∷ 1 ∷ [])
    ∷ []

pub arrivals_cases : map (λ (row : Question × List ℕ). counted row.0) arrivals_told ≡ map (λ (row : Question × List ℕ). row.1) arrivals_told
unfolding node_definitions takes_slice admit feed admitted fed
arrivals_cases = refl

-- M-105. A patch on a cue, by its nodes and the bytes behind its second section.
abbrev pub on_cue : (nodes behind : List ℕ) → List ℕ
on_cue nodes behind = a_section (1 ∷ []) ++ a_section nodes ++ behind

-- The totals 4,294,967,295, one less, and 0.
abbrev pub full : List ℕ
full = 255 ∷ 255 ∷ 255 ∷ 255 ∷ []

abbrev pub nearly_full : List ℕ
nearly_full = 255 ∷ 255 ∷ 255 ∷ 254 ∷ []

abbrev pub zero_total : List ℕ
zero_total = 0 ∷ 0 ∷ 0 ∷ 0 ∷ []

-- A slice fed to such a patch, with long buffers; and what is sent and left, by the type left, the nodes and the totals.
abbrev pub feeding_cue : (nodes arrived sent slice : List ℕ) → Question
feeding_cue nodes arrived sent slice = feeding_file (on_cue nodes (a_section (arrived ++ sent))) slice slice_file_limit patch_file_limit

abbrev pub leaves_totals : (output input nodes arrived sent : List ℕ) → Answer
leaves_totals output input nodes arrived sent =
    files (a_section output ∷ (a_section input ++ a_section nodes ++ a_section (arrived ++ sent)) ∷ [])

abbrev pub totals_told : List (Question × Answer)
totals_told =
    -- a third section that is shorter, longer, not whole; bytes behind it; none, and one byte
    (checking_file (on_cue (0 ∷ []) (a_section (copies 8 (255 ∷ []) []))), writes_file (1 ∷ []))
    ∷ (checking_file (on_cue (0 ∷ []) (a_section (copies 7 (0 ∷ []) []))), number_alone 1)
    ∷ (checking_file (on_cue (0 ∷ []) (a_section (copies 9 (0 ∷ []) []))), number_alone 3)
    ∷ (checking_file (on_cue (0 ∷ []) (0 ∷ 9 ∷ copies 8 (0 ∷ []) [])), number_alone 1)
    ∷ (checking_file (on_cue (0 ∷ []) (0 ∷ 7 ∷ copies 8 (0 ∷ []) [])), number_alone 1)
    ∷ (checking_file (on_cue (0 ∷ []) (0 ∷ 9 ∷ copies 10 (0 ∷ []) [])), number_alone 3)
    ∷ (checking_file (on_cue (0 ∷ []) (0 ∷ 8 ∷ copies 9 (0 ∷ []) [])), number_alone 3)
    ∷ (checking_file (on_cue (0 ∷ []) []), number_alone 1)
    ∷ (checking_file (on_cue (0 ∷ []) (0 ∷ [])), number_alone 1)
    -- of the first pass: before 7
    ∷ (checking_file (on_cue (5 ∷ []) (a_section (copies 7 (0 ∷ []) []))), number_alone 1)
    ∷ (checking_file (on_cue (5 ∷ []) (a_section (copies 8 (0 ∷ []) []))), number_alone 7)
    -- full totals: no arrival is accepted, and one is 31, of either total, also with short buffers
    ∷ (feeding_cue (0 ∷ []) full full (1 ∷ []), leaves_totals (1 ∷ []) (1 ∷ []) (0 ∷ []) full full)
    ∷ (feeding_cue (0 ∷ []) full zero_total (2 ∷ []), number_alone 31)
    ∷ (feeding_cue (0 ∷ []) zero_total full (2 ∷ []), number_alone 31)
    ∷ (feeding_file (on_cue (0 ∷ []) (a_section (full ++ full))) (2 ∷ []) 0 0, number_alone 31)
    ∷ (feeding_file (on_cue (0 ∷ []) (a_section (full ++ full))) (1 ∷ []) 3 15, number_alone 20)
    -- a bad slice keeps its number
    ∷ (feeding_cue (0 ∷ []) full full [], number_alone 11)
    ∷ (feeding_cue (0 ∷ []) full full (200 ∷ []), number_alone 12)
    ∷ (feeding_cue (0 ∷ []) full full (2 ∷ 2 ∷ []), number_alone 13)
    ∷ (feeding_cue (0 ∷ []) full full (4 ∷ 0 ∷ 0 ∷ []), number_alone 14)
    -- 4,294,967,295 itself is accepted; what is sent twice passes it
    ∷ (feeding_cue (0 ∷ []) nearly_full nearly_full (2 ∷ []), leaves_totals (2 ∷ []) (0 ∷ []) (0 ∷ []) full full)
    ∷ (feeding_cue (4 ∷ 0 ∷ 0 ∷ []) nearly_full nearly_full (2 ∷ []), number_alone 31)
    -- a cue of the node's own is sent where nothing arrives
    ∷ (feeding_cue (10 ∷ 14 ∷ 9 ∷ 2 ∷ 0 ∷ []) full full (1 ∷ []), number_alone 31)
    ∷ (feeding_cue (10 ∷ 14 ∷ 9 ∷ 2 ∷ 0 ∷ []) full zero_total (1 ∷ []), leaves_totals (6 ∷ 2 ∷ 1 ∷ []) (1 ∷ []) (10 ∷ 0 ∷ 0 ∷ []) full (0 ∷ 0 ∷ 0 ∷ 1 ∷ []))
    -- the high byte first, and each total by its own count
    ∷ (
      feeding_cue (4 ∷ 0 ∷ 0 ∷ []) (0 ∷ 0 ∷ 0 ∷ 255 ∷ []) (0 ∷ 255 ∷ 255 ∷ 254 ∷ []) (2 ∷ []),
      leaves_totals (7 ∷ 2 ∷ 2 ∷ []) (0 ∷ []) (4 ∷ 0 ∷ 0 ∷ []) (0 ∷ 0 ∷ 1 ∷ 0 ∷ []) (1 ∷ 0 ∷ 0 ∷ 0 ∷ []),
    )
    ∷ []

pub totals_cases : map (λ (row : Question × Answer). answered row.0) totals_told ≡ map (λ (row : Question × Answer). row.1) totals_told
unfolding node_definitions takes_slice check feed with_room
totals_cases = refl
