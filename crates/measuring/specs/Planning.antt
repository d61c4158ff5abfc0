-- What the functions promise and ask that plan the longest prefix of a type and write it: contracts inside the library, which no
-- demand rests on.
use Rattle.std.specs.Prelude.{◌≡◌, Bool, true, false, List, [], ◌∷◌, ℕ, ◌+◌, ◌≤◌, ◌<◌, leb, length, get_or, set, drop}
use Rattle.measuring.specs.declared.Planned.{Planned}
use Rattle.stream.specs.Types.{Ty, empty, cue, level, seq, par, either, size}
use Rattle.stream.specs.Levels.{value_bytes}
use Rattle.stream.specs.Buffers.{at_front}
use Rattle.stream.specs.Longest.{byte_count, largest_level, longest_prefix}
use Rattle.reading.specs.TypeReads.{TypeAt}
pub mod Laws
pub mod Standing

-- The kind that the longest prefix of a type begins with, by the type's kind, of an either if its first part is chosen; of a byte
-- that is no type's kind nobody asks.
abbrev pub longest_kinds : List ℕ
longest_kinds = 0 ∷ 2 ∷ 4 ∷ 6 ∷ 7 ∷ 9 ∷ []

abbrev pub longest_kind : ℕ → ℕ
longest_kind k = get_or longest_kinds k 9

-- The bytes of the largest value.
abbrev pub largest_value : List ℕ
largest_value = value_bytes largest_level []

-- The mark at the root of a part that is not chosen.
abbrev pub passed_over : List ℕ → List ℕ
passed_over [] = []
passed_over (k ∷ r) = 255 ∷ r

-- The plan of a type's longest prefix, and then r: a byte for each node of the type, the kind that is written for it. Of an either one
-- part is passed over, as the flag says: whether the first is chosen.
abbrev pub plan_choice : Bool → (List ℕ → List ℕ) → (List ℕ → List ℕ) → List ℕ → List ℕ
plan_choice true first second r = 9 ∷ first (passed_over (second r))
plan_choice false first second r = 10 ∷ passed_over (first (second r))

unfoldable pub plan : Ty → List ℕ → List ℕ
plan empty r = 0 ∷ r
plan cue r = 2 ∷ r
plan level r = 4 ∷ r
plan (seq s t) r = 6 ∷ plan s (plan t r)
plan (par s t) r = 7 ∷ plan s (plan t r)
plan (either s t) r = plan_choice (leb (byte_count (longest_prefix t)) (byte_count (longest_prefix s))) (plan s) (plan t) r

-- These bytes begin with the plan of t; what is behind it is free.
abbrev pub IsPlan : Ty → List ℕ → Type 0
IsPlan t s = s ≡ plan t (drop (size t) s)

-- The longest prefix of t was planned at the front of `lent`, and has `width` bytes; and with where the type ends.

pub record PlansLongest (t : Ty) (lent lent_after : List ℕ) (width : ℕ) : Type 0 where
  pub wide : width ≡ byte_count (longest_prefix t)
  pub buffer : lent_after ≡ at_front (plan t []) lent

pub record PlansFront (t : Ty) (lent lent_after : List ℕ) (planned : Planned) : Type 0 where
  pub ends : planned.end ≡ size t
  pub plans : PlansLongest t lent lent_after planned.width

-- The type at `at` is to be planned on `lent`, which has a byte for each of its nodes.
pub record PlanDue (types : List ℕ) (at : ℕ) (lent : List ℕ) : Type 0 where
  pub type : Ty
  pub stands : TypeAt types at type
  pub room : size type ≤ length lent

-- It was planned: where it ends, how many bytes its longest prefix has, and the plan.
pub record IsPlanned (type : Ty) (at : ℕ) (lent lent_after : List ℕ) (planned : Planned) : Type 0 where
  pub ends : planned.end ≡ at + size type
  pub wide : planned.width ≡ byte_count (longest_prefix type)
  pub buffer : lent_after ≡ at_front (plan type []) lent

pub record Plans (types : List ℕ) (at : ℕ) (lent lent_after : List ℕ) (planned : Planned) : Type 0 where
  pub each : (due : PlanDue types at lent) → IsPlanned due.type at lent lent_after planned

-- Of an either both parts have been planned on `lent` behind its root, the second from `second` on.
pub record ChoiceDue (first_width second_width second : ℕ) (lent : List ℕ) : Type 0 where
  pub first_few : first_width ≤ 65535
  pub second_few : second_width ≤ 65535
  pub first_there : 1 < length lent
  pub second_there : second < length lent

pub record Chooses (first_width second_width second : ℕ) (lent lent_after : List ℕ) (width : ℕ) : Type 0 where
  pub takes_first : second_width ≤ first_width → (width ≡ 1 + first_width) × (lent_after ≡ set lent second 255)
  pub takes_second : first_width < second_width → (width ≡ 1 + second_width) × (lent_after ≡ set (set lent 0 10) 1 255)
  pub long : length lent_after ≡ length lent

-- The type at the front of `types` has been planned, and its longest prefix has `width` bytes.
pub record AsPlanned (types planned : List ℕ) (width : ℕ) : Type 0 where
  pub type : Ty
  pub stands : TypeAt types 0 type
  pub behind : List ℕ
  pub is_planned : planned ≡ plan type behind
  pub measured : width ≡ byte_count (longest_prefix type)
