-- A type file and a slice file, read in turn: what an operation that begins with them comes to.
use mathlib.Core.Path.{◌≡◌}
use mathlib.Core.List.{List}
use Prim.Native.Nat.{ℕ}
use Rattle.stream.specs.declared.Fault.{Fault}
use Rattle.stream.specs.Types.{Ty}
use Rattle.stream.specs.Prefixes.{Prefix}
use Rattle.stream.specs.Reading.{Result as Outcome, accepted, refused, go_on}
use Rattle.stream.specs.TypeFiles.{type_file}
use Rattle.stream.specs.SliceFiles.{slice_file}

-- Every operation on a type and a slice begins in this way, and goes on as k says.
abbrev pub with_both : {A : Type 0} → (types file : List ℕ) → (Ty → Prefix → Outcome A) → Outcome A
with_both types file k = go_on (type_file types) (λ t. go_on (slice_file t file) (k t))

module _ {A : Type 0} (types file : List ℕ) (k : Ty → Prefix → Outcome A) where
  -- The reader of the type refuses.
  pub type_stops : {e : Fault} → refused e ≡ type_file types → with_both types file k ≡ refused e
  type_stops h = rw (← h)

  module _ {t : Ty} (read : accepted t ≡ type_file types) where
    -- The reader of the slice refuses.
    pub slice_stops : {e : Fault} → slice_file t file ≡ refused e → with_both types file k ≡ refused e
    slice_stops h = rw (← read, h)

    -- Both are accepted.
    pub goes_on : {p : Prefix} → slice_file t file ≡ accepted p → with_both types file k ≡ k t p
    goes_on h = rw (← read, h)
