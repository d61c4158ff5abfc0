-- Prefixes: what has come so far of a stream. Document 01 calls one a slice (Files, "Slices" to "Join"), and document 02 adds those
-- of either (M-100), what nodes 2 and 3 wait for (M-103) and what is counted (M-104). The source's names for them (its Figure 4) stand
-- behind the kind bytes.
use Rattle.std.specs.Prelude.{◌≡◌, ℕ, ◌+◌, ◌<◌}
use Rattle.stream.specs.Levels.{level_limit}
use Rattle.stream.specs.Types.{Ty, empty, cue, level, seq, par, either, first_part, second_part}
pub mod Functions
pub mod Kinds

pub data Prefix : Type 0 where
  nothing : Prefix  -- 0, epsp, of the empty type
  cue_awaited : Prefix  -- 1, onepA, not yet
  cue_come : Prefix  -- 2, onepB, come
  level_awaited : Prefix  -- 3, not yet
  level_come : ℕ → Prefix  -- 4, come, and the value
  in_first : Prefix → Prefix  -- 5, catpA, a sequence whose first part is still coming
  crossed : Prefix → Prefix → Prefix  -- 6, catpB, the complete first part, then a prefix of the second
  beside : Prefix → Prefix → Prefix  -- 7, parp, both sides
  none_chosen : Prefix  -- 8, sumpEmp, of either
  first_chosen : Prefix → Prefix  -- 9, sumpA, and a prefix of the first part
  second_chosen : Prefix → Prefix  -- 10, sumpB, and a prefix of the second part

-- "Complete means: 0, 2, 4, a 6 whose second is complete, a 7 with both complete." "A choice .. is complete when that [its slice]
-- is"; 8 "is never complete". (The source's batch, seen as a prefix.)
pub data Complete : Prefix → Type 0 where
  whole_nothing : Complete nothing
  whole_cue : Complete cue_come
  whole_level : {v : ℕ} → Complete (level_come v)
  whole_crossed : {b q : Prefix} → Complete q → Complete (crossed b q)
  whole_beside : {p q : Prefix} → Complete p → Complete q → Complete (beside p q)
  whole_first_chosen : {p : Prefix} → Complete p → Complete (first_chosen p)
  whole_second_chosen : {p : Prefix} → Complete p → Complete (second_chosen p)

-- The prefixes of a type: "For type 0: 0. For 1: 1 not yet, 2 come. For 2: 3 not yet, 4 come .. For 3: 5 then a slice of
-- the first part; or 6, crossed, then a complete slice of the first part and a slice of the second. For 4: 7 then both." For 5: "8
-- none chosen .., 9 first chosen and its slice, 10 second chosen and its slice."
pub data IsPrefix : Ty → Prefix → Type 0 where
  of_empty : IsPrefix empty nothing
  of_cue_awaited : IsPrefix cue cue_awaited
  of_cue_come : IsPrefix cue cue_come
  of_level_awaited : IsPrefix level level_awaited
  of_level_come : {v : ℕ} → v < level_limit → IsPrefix level (level_come v)
  of_first : {s t : Ty} {p : Prefix} → IsPrefix s p → IsPrefix (seq s t) (in_first p)
  of_crossed : {s t : Ty} {b q : Prefix} → IsPrefix s b → Complete b → IsPrefix t q → IsPrefix (seq s t) (crossed b q)
  of_beside : {s t : Ty} {p q : Prefix} → IsPrefix s p → IsPrefix t q → IsPrefix (par s t) (beside p q)
  of_none_chosen : {s t : Ty} → IsPrefix (either s t) none_chosen
  of_first_chosen : {s t : Ty} {p : Prefix} → IsPrefix s p → IsPrefix (either s t) (first_chosen p)
  of_second_chosen : {s t : Ty} {p : Prefix} → IsPrefix t p → IsPrefix (either s t) (second_chosen p)

-- "The empty slice of a type is 0, 1 or 3 at its leaves, 5 with the empty slice of the first part, 7 with both empty." "8 none
-- chosen (also its empty slice)".
unfoldable pub empty_prefix : Ty → Prefix
empty_prefix empty = nothing
empty_prefix cue = cue_awaited
empty_prefix level = level_awaited
empty_prefix (seq s t) = in_first (empty_prefix s)
empty_prefix (par s t) = beside (empty_prefix s) (empty_prefix t)
empty_prefix (either s t) = none_chosen

-- A prefix p of s opens a node that waits, if it "differs from its type's empty slice or is complete" (M-103).
pub data Opens (s : Ty) (p : Prefix) : Type 0 where
  opens_differing : (p ≡ empty_prefix s → ⊥) → Opens s p
  opens_complete : Complete p → Opens s p

-- "Reading a slice now also counts the cues and levels come in it" (M-104): its arrivals. A crossing and a choice are neither.
unfoldable pub arrivals : Prefix → ℕ
arrivals nothing = 0
arrivals cue_awaited = 0
arrivals cue_come = 1
arrivals level_awaited = 0
arrivals (level_come v) = 1
arrivals (in_first p) = arrivals p
arrivals (crossed b q) = arrivals b + arrivals q
arrivals (beside p q) = arrivals p + arrivals q
arrivals none_chosen = 0
arrivals (first_chosen p) = arrivals p
arrivals (second_chosen p) = arrivals p

-- What a prefix leaves of its type (the source's derivative): "0 leaves empty; 1 and 3 leave the type; 2 and 4 leave
-- empty; 5 leaves a sequence of what is left of the first part and the whole second; 6 leaves what is left of the
-- second; 7 leaves both remainders side by side." "A choice leaves what its slice leaves"; "8 leaves the type".
unfoldable pub derivative : Ty → Prefix → Ty
derivative t nothing = empty
derivative t cue_awaited = t
derivative t cue_come = empty
derivative t level_awaited = t
derivative t (level_come v) = empty
derivative t (in_first p) = seq (derivative (first_part t) p) (second_part t)
derivative t (crossed b q) = derivative (second_part t) q
derivative t (beside p q) = par (derivative (first_part t) p) (derivative (second_part t) q)
derivative t none_chosen = t
derivative t (first_chosen p) = derivative (first_part t) p
derivative t (second_chosen p) = derivative (second_part t) p

-- Join (the source's prefix concatenation): Concat p q r says that p, joined with a prefix q of what p leaves, is r. "After 0, 2
-- or 4, p; after 1 or 3, q; 5 p with 5 q is 5 (p joined q); 5 p with 6 b r is 6 (p joined b) r; 6 b p with q is 6 b (p joined
-- q); 7 joins each side." A choice "joined with q keeps its mark and joins inside"; 8 "joined with q gives q".
pub data Concat : Prefix → Prefix → Prefix → Type 0 where
  after_nothing : {q : Prefix} → Concat nothing q nothing
  after_cue : {q : Prefix} → Concat cue_come q cue_come
  after_level : {v : ℕ} {q : Prefix} → Concat (level_come v) q (level_come v)
  cue_awaited_yet : {q : Prefix} → Concat cue_awaited q q
  level_awaited_yet : {q : Prefix} → Concat level_awaited q q
  still_in_first : {p q r : Prefix} → Concat p q r → Concat (in_first p) (in_first q) (in_first r)
  now_crossed : {p b c r : Prefix} → Concat p b c → Concat (in_first p) (crossed b r) (crossed c r)
  behind_crossing : {b p q r : Prefix} → Concat p q r → Concat (crossed b p) q (crossed b r)
  each_side : {p q x y u v : Prefix} → Concat p x u → Concat q y v → Concat (beside p q) (beside x y) (beside u v)
  none_chosen_yet : {q : Prefix} → Concat none_chosen q q
  inside_first : {p q r : Prefix} → Concat p q r → Concat (first_chosen p) q (first_chosen r)
  inside_second : {p q r : Prefix} → Concat p q r → Concat (second_chosen p) q (second_chosen r)
