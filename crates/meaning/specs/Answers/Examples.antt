-- Calls that tell the readings of document 01 apart (docs/DECISIONS.md): the order of the files in one call, the lengths that
-- 20 compares, what stands in a buffer afterwards, Admit's answer, and the longest slice.
use Rattle.std.specs.Prelude.{◌≡◌, refl, List, [], ◌∷◌, ◌++◌, map, ℕ}
use Rattle.stream.specs.Reading.{Result, accepted}
use Rattle.stream.specs.Reading.Examples.{section_of, copies}
use Rattle.node.specs.Computing.{node_definitions}
use Rattle.node.specs.PatchFiles.Examples.{with_totals, counted_sections, sections}
use Rattle.meaning.specs.Answers.{takes_slice, check, admit, left, join, feed, longest, FedFiles, with_room, fits_one, fits_both, number_of, written, admitted, fed, after}

-- A patch that passes a cue, and a slice in which it has come.
abbrev passing : List ℕ
passing = sections (1 ∷ []) (0 ∷ [])

abbrev come : List ℕ
come = section_of (2 ∷ [])

-- A patch of 16 bytes that sends a cue and leaves one of 17.
abbrev cue_in : ℕ → Result FedFiles
cue_in left = with_room (fits_both 3 left) (feed (sections (1 ∷ []) (2 ∷ [])) come)

abbrev checked_in : ℕ → Result (List ℕ)
checked_in lent = with_room (fits_one lent) (check passing)

abbrev fed_in : ℕ → ℕ → Result FedFiles
fed_in output left = with_room (fits_both output left) (feed passing come)

-- Each file is judged wholly before the next; a buffer has to hold the whole file, its count included; both have to; one as long as
-- the patch fed may be too short for the patch left.
pub number_examples :
    number_of (admit (section_of (1 ∷ 1 ∷ [])) (section_of (200 ∷ [])))
    ∷ number_of (join (section_of (1 ∷ [])) (section_of (1 ∷ 1 ∷ [])) (section_of (200 ∷ [])))
    ∷ number_of (join (section_of (1 ∷ [])) come (section_of (2 ∷ [])))
    ∷ number_of (feed (sections (1 ∷ []) (5 ∷ [])) (section_of (200 ∷ [])))
    ∷ number_of (left (section_of (1 ∷ [])) (section_of (15 ∷ [])))
    ∷ map (λ n. number_of (checked_in n)) (4 ∷ 3 ∷ 2 ∷ 0 ∷ [])
    ++ number_of (fed_in 3 16) ∷ number_of (fed_in 3 15) ∷ number_of (fed_in 2 16) ∷ number_of (fed_in 2 15)
    ∷ number_of (cue_in 16) ∷ number_of (cue_in 17) ∷ []
    ≡ 3 ∷ 13 ∷ 14 ∷ 7 ∷ 12 ∷ 0 ∷ 0 ∷ 20 ∷ 20 ∷ 0 ∷ 20 ∷ 20 ∷ 20 ∷ 20 ∷ 0 ∷ []
unfolding node_definitions takes_slice check admit left join feed with_room
number_examples = refl

-- The bytes behind an answer stay, and a refused call leaves all of them.
pub buffer_examples :
    after (λ file. file) (checked_in 5) (9 ∷ 9 ∷ 9 ∷ 8 ∷ 7 ∷ []) ∷ after (λ file. file) (checked_in 2) (9 ∷ 8 ∷ []) ∷ []
    ≡ (0 ∷ 1 ∷ 1 ∷ 8 ∷ 7 ∷ []) ∷ (9 ∷ 8 ∷ []) ∷ []
unfolding node_definitions check after with_room
buffer_examples = refl

-- The caller is told the number, and the length of each file that was written; 0 on a refusal.
pub written_examples :
    written (checked_in 5) ∷ written (checked_in 2) ∷ written (with_room (fits_one 9) (check (sections (4 ∷ 1 ∷ 2 ∷ []) (0 ∷ [])))) ∷ []
    ≡ record { number = 0; written = 3 } ∷ record { number = 20; written = 0 } ∷ record { number = 0; written = 5 } ∷ []
unfolding node_definitions check with_room written
written_examples = refl

pub fed_examples :
    fed (fed_in 3 16) ∷ fed (fed_in 3 15) ∷ []
    ≡ record { number = 0; output = 3; patch = 16; arrived = 1; sent = 1 } ∷ record { number = 20; output = 0; patch = 0; arrived = 0; sent = 0 } ∷ []
unfolding node_definitions takes_slice feed with_room fed
fed_examples = refl

-- What is sent is by the slice and by the patch, and the patch left is fed: the sides swapped, a first part that
-- has come, and two that leave more bytes than they had and send each arrival twice.
pub feed_examples :
    feed (sections (4 ∷ 1 ∷ 2 ∷ []) (4 ∷ 6 ∷ 5 ∷ [])) (section_of (7 ∷ 2 ∷ 3 ∷ []))
    ∷ feed (sections (3 ∷ 1 ∷ 1 ∷ []) (7 ∷ [])) (section_of (6 ∷ 2 ∷ 1 ∷ []))
    ∷ feed (sections (3 ∷ 4 ∷ 1 ∷ 1 ∷ 1 ∷ []) (4 ∷ 7 ∷ 7 ∷ [])) (section_of (6 ∷ 7 ∷ 2 ∷ 2 ∷ 1 ∷ [])) ∷ []
    ≡ accepted (record { output = section_of (7 ∷ 3 ∷ 2 ∷ []); patch = counted_sections (4 ∷ 0 ∷ 2 ∷ []) (4 ∷ 6 ∷ 5 ∷ []) 1 1; arrived = 1; sent = 1 })
    ∷ accepted (record { output = section_of (2 ∷ []); patch = counted_sections (1 ∷ []) (1 ∷ 0 ∷ []) 1 1; arrived = 1; sent = 1 })
    ∷ accepted (record {
      output = section_of (7 ∷ 7 ∷ 2 ∷ 2 ∷ 7 ∷ 2 ∷ 2 ∷ []);
      patch = counted_sections (1 ∷ []) (4 ∷ 1 ∷ 4 ∷ 0 ∷ 0 ∷ 1 ∷ 4 ∷ 0 ∷ 0 ∷ []) 2 4;
      arrived = 2;
      sent = 4;
    }) ∷ []
unfolding node_definitions takes_slice feed
feed_examples = refl

-- Totals at their limit: full ones take a slice without arrivals; one arrival more is 31, of either, behind what is wrong with the slice
-- and before a short buffer; 4,294,967,295 itself is reached, and its bytes have the high one first.
abbrev full : List ℕ
full = 255 ∷ 255 ∷ 255 ∷ 255 ∷ []

abbrev nearly_full : List ℕ
nearly_full = 255 ∷ 255 ∷ 255 ∷ 254 ∷ []

abbrev none : List ℕ
none = 0 ∷ 0 ∷ 0 ∷ 0 ∷ []

abbrev cue_fed : (nodes arrived sent slice : List ℕ) → Result FedFiles
cue_fed nodes arrived sent slice = feed (with_totals (1 ∷ []) nodes (section_of (arrived ++ sent))) (section_of slice)

pub limit_examples :
    number_of (cue_fed (0 ∷ []) full full (1 ∷ [])) ∷ number_of (cue_fed (0 ∷ []) full none (2 ∷ []))
    ∷ number_of (cue_fed (0 ∷ []) none full (2 ∷ [])) ∷ number_of (cue_fed (0 ∷ []) full full (200 ∷ []))
    ∷ number_of (with_room (fits_both 0 0) (cue_fed (0 ∷ []) full full (2 ∷ [])))
    ∷ number_of (with_room (fits_both 0 0) (cue_fed (0 ∷ []) nearly_full nearly_full (2 ∷ [])))
    ∷ number_of (cue_fed (4 ∷ 0 ∷ 0 ∷ []) nearly_full nearly_full (2 ∷ [])) ∷ []
    ≡ 0 ∷ 31 ∷ 31 ∷ 12 ∷ 31 ∷ 20 ∷ 31 ∷ []
unfolding node_definitions takes_slice feed with_room
limit_examples = refl

pub totals_examples :
    cue_fed (0 ∷ []) (0 ∷ 1 ∷ 2 ∷ 255 ∷ []) nearly_full (2 ∷ []) ∷ []
    ≡ accepted (record {
      output = come;
      patch = with_totals (0 ∷ []) (0 ∷ []) (section_of ((0 ∷ 1 ∷ 3 ∷ 0 ∷ []) ++ full));
      arrived = 1;
      sent = 1;
    }) ∷ []
unfolding node_definitions takes_slice feed
totals_examples = refl

-- 1 for complete, 0 for not, and 0 on a refusal; cues and levels that came are counted.
pub admit_examples :
    map (λ slice. admitted (admit (section_of (3 ∷ 1 ∷ 2 ∷ [])) (section_of slice)))
    ((6 ∷ 2 ∷ 4 ∷ 0 ∷ 0 ∷ []) ∷ (6 ∷ 2 ∷ 3 ∷ []) ∷ (5 ∷ 2 ∷ []) ∷ (6 ∷ 1 ∷ 3 ∷ []) ∷ [])
    ≡ record { number = 0; complete = 1; arrived = 2 } ∷ record { number = 0; complete = 0; arrived = 1 }
    ∷ record { number = 0; complete = 0; arrived = 1 } ∷ record { number = 14; complete = 0; arrived = 0 } ∷ []
unfolding node_definitions admit admitted
admit_examples = refl

-- The longest slice of a type: of 255 nodes with 128 levels it has 513 bytes, which fit a buffer of 513, and not one of 512.
abbrev longest_in : ℕ → List ℕ → Result (List ℕ)
longest_in lent type = with_room (fits_one lent) (longest (section_of type))

pub longest_examples :
    written (longest_in 513 (copies 127 (4 ∷ 2 ∷ []) (2 ∷ []))) ∷ written (longest_in 512 (copies 127 (4 ∷ 2 ∷ []) (2 ∷ [])))
    ∷ written (longest_in 6 (5 ∷ 1 ∷ 2 ∷ [])) ∷ written (longest_in 5 (5 ∷ 1 ∷ 2 ∷ [])) ∷ written (longest_in 0 (5 ∷ 1 ∷ 200 ∷ [])) ∷ []
    ≡ record { number = 0; written = 513 } ∷ record { number = 20; written = 0 }
    ∷ record { number = 0; written = 6 } ∷ record { number = 20; written = 0 } ∷ record { number = 2; written = 0 } ∷ []
unfolding node_definitions longest with_room written
longest_examples = refl
