-- Stream types, as trees (document 01, Files, "Types"; document 02, M-100).
use Rattle.std.specs.Prelude.{Bool, true, false, ◌&&◌, ℕ, suc, ◌+◌, ◌≤◌, eqb}
pub mod Kinds

pub data Ty : Type 0 where
  empty : Ty  -- 0, the stream with nothing in it (the source's ε)
  cue : Ty  -- 1, one event (the source's unit type 1)
  level : Ty  -- 2, one event with a value
  seq : Ty → Ty → Ty  -- 3, sequence: one part after the other (the source's s · t)
  par : Ty → Ty → Ty  -- 4, side by side (the source's s ∥ t)
  either : Ty → Ty → Ty  -- 5, either: one part or the other, as is chosen (the source's s + t)

-- "A type is nullable if it is 0, or 4 with both parts nullable. Sequence is never nullable." So either is
-- not: its empty slice, 8, is never complete.
pub data Nullable : Ty → Type 0 where
  null_empty : Nullable empty
  null_par : {s t : Ty} → Nullable s → Nullable t → Nullable (par s t)

unfoldable pub nullable : Ty → Bool
nullable empty = true
nullable cue = false
nullable level = false
nullable (seq s t) = false
nullable (par s t) = nullable s && nullable t
nullable (either s t) = false

-- The number of nodes, "counted as a tree".
unfoldable pub size : Ty → ℕ
size empty = 1
size cue = 1
size level = 1
size (seq s t) = suc (size s + size t)
size (par s t) = suc (size s + size t)
size (either s t) = suc (size s + size t)

-- "At most 255 nodes in a type".
unfoldable pub type_limit : ℕ
type_limit = 255

abbrev pub Small : Ty → Type 0
Small t = size t ≤ type_limit

-- The kind byte, and the parts of a type of kind 3, 4 or 5. A type of another kind has no parts; there the answer is the
-- empty type, which no rule uses.
abbrev pub kind : Ty → ℕ
kind empty = 0
kind cue = 1
kind level = 2
kind (seq s t) = 3
kind (par s t) = 4
kind (either s t) = 5

abbrev pub first_part : Ty → Ty
first_part empty = empty
first_part cue = empty
first_part level = empty
first_part (seq s t) = s
first_part (par s t) = s
first_part (either s t) = s

abbrev pub second_part : Ty → Ty
second_part empty = empty
second_part cue = empty
second_part level = empty
second_part (seq s t) = t
second_part (par s t) = t
second_part (either s t) = t

abbrev pub has_kind : ℕ → Ty → Bool
has_kind k t = eqb (kind t) k

-- Whether two types are the same tree.
unfoldable pub same_type : Ty → Ty → Bool
same_type empty u = has_kind 0 u
same_type cue u = has_kind 1 u
same_type level u = has_kind 2 u
same_type (seq s t) u = has_kind 3 u && (same_type s (first_part u) && same_type t (second_part u))
same_type (par s t) u = has_kind 4 u && (same_type s (first_part u) && same_type t (second_part u))
same_type (either s t) u = has_kind 5 u && (same_type s (first_part u) && same_type t (second_part u))
