-- What the reader of slices tells its callers, and what it asks of them: contracts inside the library, which no demand rests on.
use Rattle.std.specs.Prelude.{Option, Some, None, Result, Ok, Err, ◌≡◌, Bool, true, false, ◌&&◌, not, cond, List, [], ◌∷◌, ℕ, suc, ◌+◌, ◌-◌, ◌≤◌, ◌<◌, eqb, leb, length, get_or, drop}
use Rattle.stream.specs.declared.Fault.{Fault}
use Rattle.stream.specs.declared.Fault.TheVariants.{SliceCutShort}
use Rattle.reading.specs.Places.{PrefixPlace}
use Rattle.reading.specs.declared.prefixes.Known.{Known}
use Rattle.stream.specs.Types.{Ty, size, type_limit}
use Rattle.stream.specs.Levels.{value_width}
use Rattle.stream.specs.Prefixes.{Prefix, nothing, cue_awaited, cue_come, level_awaited, level_come, in_first, crossed, beside, none_chosen, first_chosen, second_chosen, Complete, IsPrefix, arrivals, derivative}
use Rattle.stream.specs.Prefixes.Functions.{complete}
use Rattle.stream.specs.Prefixes.Kinds.{root_width, root_arrivals}
use Rattle.stream.specs.Reading.{Reading, read, fault, Result as Outcome, accepted, refused, tree}
use Rattle.reading.specs.TypeReads.{TypeAt}
use Rattle.stream.specs.SliceFiles.{Owed, owed, prefix_root, prefix_bytes, slice_over, slice_file}
pub mod Laws
pub mod Descent

-- How many bytes a prefix takes.
unfoldable pub prefix_width : Prefix → ℕ
prefix_width nothing = 1
prefix_width cue_awaited = 1
prefix_width cue_come = 1
prefix_width level_awaited = 1
prefix_width (level_come v) = suc value_width
prefix_width (in_first p) = suc (prefix_width p)
prefix_width (crossed b q) = suc (prefix_width b + prefix_width q)
prefix_width (beside p q) = suc (prefix_width p + prefix_width q)
prefix_width none_chosen = 1
prefix_width (first_chosen p) = suc (prefix_width p)
prefix_width (second_chosen p) = suc (prefix_width p)

-- How many bytes a join with a later prefix is shorter than the two: each node that is not in a crossed first part, and is
-- not itself a crossing or the mark of a choice, meets one of the later prefix, and one of the two is written.
unfoldable pub overlap : Prefix → ℕ
overlap nothing = 1
overlap cue_awaited = 1
overlap cue_come = 1
overlap level_awaited = 1
overlap (level_come v) = 1
overlap (in_first p) = suc (overlap p)
overlap (crossed b q) = overlap q
overlap (beside p q) = suc (overlap p + overlap q)
overlap none_chosen = 1
overlap (first_chosen p) = overlap p
overlap (second_chosen p) = overlap p

-- What is known of a prefix of t.
unfoldable pub known : Ty → Prefix → Known
known t p = record { complete = complete p; remains = size (derivative t p); arrived = arrivals p; overlap = overlap p }

unfoldable pub slice_read : Ty → Outcome Prefix → Result Known Fault
slice_read t (accepted p) = Ok (known t p)
slice_read t (refused e) = Err e

-- The reader's answer, whichever type stands at `at`.
pub record ReadsSlice (types : List ℕ) (at : ℕ) (file : List ℕ) (answer : Result Known Fault) : Type 0 where
  pub each : (t : Ty) → TypeAt types at t → answer ≡ slice_read t (slice_file t file)

-- A prefix stands at a place of some bytes; what stands behind it is free.
pub record PrefixAt (bytes : List ℕ) (place : ℕ) (p : Prefix) : Type 0 where
  pub rest : List ℕ
  pub here : drop place bytes ≡ prefix_bytes p rest

pub record SomePrefixAt (bytes : List ℕ) (place : ℕ) : Type 0 where
  pub prefix : Prefix
  pub stands : PrefixAt bytes place prefix

-- The same with where it ends.
pub record PrefixIn (bytes : List ℕ) (place : PrefixPlace) (p : Prefix) : Type 0 where
  pub stands : PrefixAt bytes place.start p
  pub ends : place.end ≡ place.start + prefix_width p

-- `end` is where the prefix at `place` ends, whichever it is.
pub record PrefixEnds (bytes : List ℕ) (place end : ℕ) : Type 0 where
  pub each : (p : Prefix) → PrefixAt bytes place p → end ≡ place + prefix_width p

-- What a type says of how many bytes its complete prefixes have: all have `wide`, unless a choice decides.
abbrev pub CompleteWide : Ty → Option ℕ → Type 0
CompleteWide t (Some wide) = (p : Prefix) → IsPrefix t p → Complete p → wide ≡ prefix_width p
CompleteWide t None = Unit {0}

-- A complete prefix of t stands at `place`; `end` is where it ends.
pub record CompleteAt (t : Ty) (slice : List ℕ) (place : ℕ) : Type 0 where
  pub prefix : Prefix
  pub is_prefix : IsPrefix t prefix
  pub is_complete : Complete prefix
  pub stands : PrefixAt slice place prefix

pub record CompleteEnds (t : Ty) (slice : List ℕ) (place end : ℕ) : Type 0 where
  pub each : (due : CompleteAt t slice place) → end ≡ place + prefix_width due.prefix

-- The kind of type that each kind of slice belongs to, by its number; the kinds that keep a slice from being complete; those that can
-- stand in an empty slice.
abbrev pub types_by_kind : List ℕ
types_by_kind = 0 ∷ 1 ∷ 1 ∷ 2 ∷ 2 ∷ 3 ∷ 3 ∷ 4 ∷ 5 ∷ 5 ∷ 5 ∷ []

abbrev pub type_kind_of : ℕ → ℕ
type_kind_of k = get_or types_by_kind k 4

abbrev pub unfinished_by_kind : List Bool
unfinished_by_kind = false ∷ true ∷ false ∷ true ∷ false ∷ true ∷ false ∷ false ∷ true ∷ false ∷ false ∷ []

abbrev pub is_unfinished : ℕ → Bool
is_unfinished k = get_or unfinished_by_kind k false

abbrev pub empty_by_kind : List Bool
empty_by_kind = true ∷ true ∷ false ∷ true ∷ false ∷ true ∷ false ∷ true ∷ true ∷ false ∷ false ∷ []

abbrev pub kind_brings_nothing : ℕ → Bool
kind_brings_nothing k = get_or empty_by_kind k false

abbrev pub belongs_at : ℕ → ℕ → Bool → Bool
belongs_at type_kind k must_complete = eqb type_kind (type_kind_of k) && not (must_complete && is_unfinished k)

-- Whether the first part under a kind has to be complete; the kinds 0 to 4 and 8 have no parts.
abbrev pub first_complete_by_kind : Bool → List Bool
first_complete_by_kind c = c ∷ c ∷ c ∷ c ∷ c ∷ false ∷ true ∷ c ∷ c ∷ c ∷ c ∷ []

abbrev pub first_complete : ℕ → Bool → Bool
first_complete k c = get_or (first_complete_by_kind c) k c

-- How many nodes of its type a leaf of kind k stands on: all of them while it is awaited, one when it has come.
abbrev pub stood_on : ℕ → Ty → ℕ
stood_on k t = cond (is_unfinished k) (size t) 1

-- A leaf of kind k at the front of some bytes, walked through, which stands on so many nodes: what is known of it, and the bytes behind it.
unfoldable pub leaf_walked : (nodes k : ℕ) → List ℕ → Reading Known
leaf_walked nodes k s =
    cond (leb (root_width k) (length s))
    (read (record { complete = not (is_unfinished k); remains = nodes; arrived = root_arrivals k; overlap = 1 }) (drop (root_width k) s))
    (fault SliceCutShort)

-- What is known of a prefix by its parts: of a sequence, whose first part is still coming or was crossed, and of two side by side.
abbrev pub first_known : Known → (second_size : ℕ) → Known
first_known first second_size =
    record { complete = false; remains = 1 + first.remains + second_size; arrived = first.arrived; overlap = 1 + first.overlap }

abbrev pub crossed_known : Known → Known → Known
crossed_known first second =
    record { complete = second.complete; remains = second.remains; arrived = first.arrived + second.arrived; overlap = second.overlap }

abbrev pub both_known : Known → Known → Known
both_known first second =
    record {
      complete = first.complete && second.complete;
      remains = 1 + first.remains + second.remains;
      arrived = first.arrived + second.arrived;
      overlap = 1 + first.overlap + second.overlap;
    }

-- What is known of both, behind what is known of the first.
abbrev pub combined : (Known → Known → Known) → Known → Reading Known → Reading Known
combined both first (read second r) = read (both first second) r
combined both first (fault e) = fault e

abbrev pub SumsFit : Known → Known → Type 0
SumsFit first second =
    (first.remains + second.remains < type_limit) × (first.overlap + second.overlap < type_limit) × (first.arrived + second.arrived < type_limit)

-- The same of a first part and of what became of the second: what is known of both, or the fault of the second. Of a fault nothing has to fit.
abbrev pub known_after : (Known → Known → Known) → Known → Result Known Fault → Result Known Fault
known_after both first (Ok second) = Ok (both first second)
known_after both first (Err e) = Err e

abbrev pub SumsFitIfKnown : Known → Result Known Fault → Type 0
SumsFitIfKnown first (Ok second) = SumsFit first second
SumsFitIfKnown first (Err e) = Unit {0}

-- A prefix of what is owed, of at most `budget` nodes, at the front of some bytes.
unfoldable pub read_owed : (budget : ℕ) → Owed → List ℕ → Reading Prefix
read_owed budget o s = tree slice_over prefix_root budget o s

-- What is known of a prefix that is read.
unfoldable pub known_read : Ty → Reading Prefix → Reading Known
known_read t (read p r) = read (known t p) r
known_read t (fault e) = fault e

-- What a walk through a prefix of t at the front of a slice comes to, under any budget that is enough for t.
pub record Walks (t : Ty) (slice : List ℕ) (must_complete : Bool) (answer : Reading Known) : Type 0 where
  pub each : (budget : ℕ) → size t ≤ budget → answer ≡ known_read t (read_owed budget (owed t must_complete) slice)

-- A slice file that its reader accepts.
pub record AcceptedSlice (t : Ty) (file : List ℕ) (about : Known) : Type 0 where
  pub prefix : Prefix
  pub is_accepted : slice_file t file ≡ accepted prefix
  pub is_prefix : IsPrefix t prefix
  pub completeness : about.complete ≡ complete prefix
  pub remains : about.remains ≡ size (derivative t prefix)
  pub arrived : about.arrived ≡ arrivals prefix
  pub overlap : about.overlap ≡ overlap prefix
  pub stands : PrefixAt file 2 prefix
  pub fills : length file ≡ 2 + prefix_width prefix
