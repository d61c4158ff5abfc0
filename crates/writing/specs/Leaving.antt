-- What the reader of slices tells and writes in one pass: contracts inside the library, which no demand rests on.
use Rattle.std.specs.Prelude.{Result, Ok, Err, ◌≡◌, Bool, true, cond, List, [], ◌∷◌, ℕ, ◌+◌, ◌≤◌, ◌<◌, length, get_or, drop}
use Rattle.stream.specs.Types.{Ty, empty, size, kind, first_part, second_part}
use Rattle.stream.specs.Prefixes.{Prefix, derivative}
use Rattle.stream.specs.Prefixes.Kinds.{root_width, prefix_arity}
use Rattle.stream.specs.Reading.{Reading, read, fault, accepted}
use Rattle.stream.specs.TypeFiles.{type_bytes}
use Rattle.stream.specs.SliceFiles.{owed, slice_file}
use Rattle.reading.specs.TypeReads.{TypeAt}
use Rattle.reading.specs.SliceReads.{is_unfinished, belongs_at, stood_on, leaf_walked, slice_read, read_owed, Walks, ReadsSlice}
use Rattle.writing.specs.Appending.{Holds, Appends, Within}
use Rattle.reading.specs.declared.prefixes.Known.{Known}
use Rattle.writing.specs.declared.slices.Walked.{Walked}
use Rattle.stream.specs.declared.Fault.{Fault}

-- What a walk answers, as a reading: what is known of the prefix, and the bytes behind it; and that `rest` is behind the type.

abbrev pub seen : Result Walked Fault → Reading Known
seen (Ok w) = read w.known w.rest.now
seen (Err e) = fault e

abbrev pub Behind : List ℕ → Result Walked Fault → Type 0
Behind rest (Ok w) = w.behind.now ≡ rest
Behind rest (Err e) = Unit {0}

-- A leaf leaves the whole type under it while it is awaited, and the empty type once it has come.
abbrev pub leaf_leaves : (awaited : Bool) → Ty → Ty
leaf_leaves awaited t = cond awaited t empty

-- It stands on `many` nodes of t, and what it leaves has been written.
pub record LeafLeft (t : Ty) (awaited : Bool) (lent lent_after : List ℕ) (many : ℕ) : Type 0 where
  pub stands_on : many ≡ size (leaf_leaves awaited t)
  pub left : Holds (type_bytes (leaf_leaves awaited t) []) lent lent_after

-- The same with the walk through the leaf, which is written only if it is not cut short.
pub record WalksLeafLeaving (t : Ty) (bytes slice lent lent_after : List ℕ) (answer : Result Walked Fault) : Type 0 where
  pub walks : seen answer ≡ leaf_walked (stood_on (get_or slice 0 0) t) (get_or slice 0 0) slice
  pub behind : Behind (drop (stood_on (get_or slice 0 0) t) bytes) answer
  pub long : length lent_after ≡ length lent
  pub left : root_width (get_or slice 0 0) ≤ length slice → Holds (type_bytes (leaf_leaves (is_unfinished (get_or slice 0 0)) t) []) lent lent_after

-- Where the part that is walked through first under a slice's kind writes what it leaves: behind the kind byte that the type left
-- keeps; nowhere if it was crossed, since then nothing of it is left; at the front if it was chosen, since that is all that is left.
pub record FirstStarts (kind type_kind : ℕ) (lent lent_after : List ℕ) (start : ℕ) : Type 0 where
  pub long : length lent_after ≡ length lent
  pub inside : start ≤ length lent_after
  pub crossed : kind ≡ 6 → (lent_after ≡ lent) × (start ≡ length lent)
  pub chosen : 8 < kind → (lent_after ≡ lent) × (start ≡ 0)
  pub kept : (kind ≡ 6 → ⊥) → kind ≤ 8 → Appends (type_kind ∷ []) 0 lent lent_after 1 × Within 1 (length lent_after) start

-- The part that is walked through first, and the bytes that it begins: those behind the kind byte, or those behind the first part if the
-- second was chosen.
pub record PartUnder (t : Ty) (bytes : List ℕ) (kind : ℕ) (part : Ty) (begun : List ℕ) : Type 0 where
  pub first : (kind ≡ 10 → ⊥) → (part ≡ first_part t) × (begun ≡ drop 1 bytes)
  pub second : kind ≡ 10 → (part ≡ second_part t) × (begun ≡ drop (1 + size (first_part t)) bytes)

-- A kind byte with so many parts behind it, which belongs there, is at the front of the slice.
pub record PartsDue (many : ℕ) (t : Ty) (slice : List ℕ) (must_complete : Bool) : Type 0 where
  pub more : 0 < length slice
  pub listed : get_or slice 0 0 ≤ 10
  pub parts : prefix_arity (get_or slice 0 0) ≡ many
  pub fits : belongs_at (kind t) (get_or slice 0 0) must_complete ≡ true

-- What a prefix that was read leaves of t has been written; where none was read nothing is said.
unfoldable pub LeftBy : Ty → Reading Prefix → (lent lent_after : List ℕ) → Type 0
LeftBy t (read p r) lent lent_after = Holds (type_bytes (derivative t p) []) lent lent_after
LeftBy t (fault e) lent lent_after = Unit

pub record Leaves (t : Ty) (slice : List ℕ) (must_complete : Bool) (lent lent_after : List ℕ) (answer : Reading Known) : Type 0 where
  pub walks : Walks t slice must_complete answer
  pub long : length lent_after ≡ length lent
  pub left : (budget : ℕ) → size t ≤ budget → LeftBy t (read_owed budget (owed t must_complete) slice) lent lent_after

pub record WalksLeaving (t : Ty) (bytes slice : List ℕ) (must_complete : Bool) (lent lent_after : List ℕ) (answer : Result Walked Fault) : Type 0 where
  pub walk : Leaves t slice must_complete lent lent_after (seen answer)
  pub behind : Behind (drop (size t) bytes) answer

-- The same for a slice file.
pub record SliceReadLeaving (t : Ty) (file lent lent_after : List ℕ) (answer : Result Known Fault) : Type 0 where
  pub reads : answer ≡ slice_read t (slice_file t file)
  pub long : length lent_after ≡ length lent
  pub left : (p : Prefix) → slice_file t file ≡ accepted p → Holds (type_bytes (derivative t p) []) lent lent_after

-- And where the type stands at a place of some bytes, whichever it is.
pub record ReadsSliceLeaving (types : List ℕ) (at : ℕ) (file lent lent_after : List ℕ) (answer : Result Known Fault) : Type 0 where
  pub reads : ReadsSlice types at file answer
  pub long : length lent_after ≡ length lent
  pub left : (t : Ty) → TypeAt types at t → (p : Prefix) → slice_file t file ≡ accepted p
      → Holds (type_bytes (derivative t p) []) lent lent_after
