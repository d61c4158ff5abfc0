-- What the readers of types tell their callers: where a type stands, or the first fault.
use Rattle.std.specs.Prelude.{Option, Some, None, Result, Ok, Err, ◌≡◌, cond, List, [], ◌∷◌, ℕ, ◌+◌, ◌≤◌, get_or, drop}
use Rattle.stream.specs.declared.Fault.{Fault}
use Rattle.reading.specs.Places.{TypePlace}
use Rattle.stream.specs.Types.{Ty, nullable, size, type_limit, Small}
use Rattle.stream.specs.Reading.{Result as Outcome, accepted, refused}
use Rattle.stream.specs.TypeFiles.{type_bytes, type_file}
pub mod Laws

-- The type of a file stands behind the two bytes of its section's count.
abbrev pub in_file : Ty → TypePlace
in_file t = record { start = 2; end = 2 + size t }

unfoldable pub type_read : Outcome Ty → Result TypePlace Fault
type_read (accepted t) = Ok (in_file t)
type_read (refused e) = Err e

-- A type of at most 255 nodes stands at a place of some bytes; what stands behind it is free.
pub record TypeAt (bytes : List ℕ) (at : ℕ) (t : Ty) : Type 0 where
  pub rest : List ℕ
  pub here : drop at bytes ≡ type_bytes t rest
  pub small : Small t

pub record SomeTypeAt (bytes : List ℕ) (at : ℕ) : Type 0 where
  pub type : Ty
  pub stands : TypeAt bytes at type

-- The same with where it ends.
pub record TypeIn (bytes : List ℕ) (place : TypePlace) (t : Ty) : Type 0 where
  pub stands : TypeAt bytes place.start t
  pub ends : place.end ≡ place.start + size t

pub record SomeTypeIn (bytes : List ℕ) (place : TypePlace) : Type 0 where
  pub type : Ty
  pub here : TypeIn bytes place type

-- `end` is where the type at `at` ends, whichever it is.
pub record TypeEnds (bytes : List ℕ) (at end : ℕ) : Type 0 where
  pub each : (t : Ty) → TypeAt bytes at t → end ≡ at + size t

-- What is told of a type at `at`: where it ends if it is nullable.
unfoldable pub nullable_end : ℕ → Ty → Option ℕ
nullable_end at t = cond (nullable t) (Some (at + size t)) None

pub record NullableEnds (bytes : List ℕ) (at : ℕ) (answer : Option ℕ) : Type 0 where
  pub each : (t : Ty) → TypeAt bytes at t → answer ≡ nullable_end at t

-- A type file that its reader accepts.
pub record AcceptedType (file : List ℕ) (start : ℕ) : Type 0 where
  pub type : Ty
  pub is_accepted : type_file file ≡ accepted type
  pub stands : TypeAt file start type
