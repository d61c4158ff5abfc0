-- What the writers promise and ask: contracts inside the library, which no demand rests on.
use Rattle.std.specs.Prelude.{◌≡◌, List, [], ◌∷◌, ℕ, ◌+◌, ◌≤◌, length, get_or}
use Rattle.writing.specs.declared.Moved.{Moved}
use Rattle.stream.specs.Types.{Ty, Nullable, size}
use Rattle.stream.specs.Buffers.{at_front}
use Rattle.stream.specs.Prefixes.{Prefix, Complete, IsPrefix, empty_prefix, derivative}
use Rattle.stream.specs.Prefixes.Functions.{concat}
use Rattle.stream.specs.Prefixes.Kinds.{prefix_arity}
use Rattle.stream.specs.TypeFiles.{type_bytes}
use Rattle.stream.specs.SliceFiles.{prefix_bytes, slice_file_bytes}
use Rattle.reading.specs.TypeReads.{TypeAt}
use Rattle.reading.specs.SliceReads.{prefix_width, PrefixAt}
pub mod Laws
pub mod Standing

-- The first `written` bytes of what was lent, which is `now` by now.
pub record Begun (bytes lent now : List ℕ) (written : ℕ) : Type 0 where
  pub long : written ≡ length bytes
  pub buffer : now ≡ at_front bytes lent

-- The prefix at `place` is to be copied onto `lent`, which has room for it.
pub record PrefixDue (slice : List ℕ) (place : ℕ) (lent : List ℕ) : Type 0 where
  pub prefix : Prefix
  pub stands : PrefixAt slice place prefix
  pub room : prefix_width prefix ≤ length lent

pub record PrefixWritten (slice : List ℕ) (place : ℕ) (lent lent_after : List ℕ) (written : ℕ) : Type 0 where
  pub each : (due : PrefixDue slice place lent) → (written ≡ prefix_width due.prefix) × (lent_after ≡ at_front (prefix_bytes due.prefix []) lent)

-- Where both end, how many bytes were written, and which.
pub record Moves (first_end second_end : ℕ) (bytes lent lent_after : List ℕ) (moved : Moved) : Type 0 where
  pub first : moved.first ≡ first_end
  pub second : moved.second ≡ second_end
  pub written : moved.written ≡ length bytes
  pub buffer : lent_after ≡ at_front bytes lent

-- A prefix, and one of what it leaves, in their bytes.
pub record Follows (first : List ℕ) (first_place : ℕ) (second : List ℕ) (second_place : ℕ) (t : Ty) (p q : Prefix) : Type 0 where
  pub first_at : PrefixAt first first_place p
  pub second_at : PrefixAt second second_place q
  pub is_first : IsPrefix t p
  pub is_second : IsPrefix (derivative t p) q

-- Their join is to be written on `lent`, which has room for it.
pub record ConcatDue (first : List ℕ) (first_place : ℕ) (second : List ℕ) (second_place : ℕ) (lent : List ℕ) : Type 0 where
  pub type : Ty
  pub one : Prefix
  pub other : Prefix
  pub follows : Follows first first_place second second_place type one other
  pub room : prefix_width (concat one other) ≤ length lent

-- The same where the first prefix is a leaf.
pub record LeafConcatDue (first : List ℕ) (first_place : ℕ) (second : List ℕ) (second_place : ℕ) (lent : List ℕ) : Type 0 where
  pub due : ConcatDue first first_place second second_place lent
  pub leaf : prefix_arity (get_or first first_place 0) ≡ 0

pub record ConcatWritten (first : List ℕ) (first_place : ℕ) (second : List ℕ) (second_place : ℕ) (lent lent_after : List ℕ) (moved : Moved) : Type 0 where
  pub each : (due : ConcatDue first first_place second second_place lent)
      → Moves (first_place + prefix_width due.one) (second_place + prefix_width due.other) (prefix_bytes (concat due.one due.other) []) lent lent_after moved

-- The same for two slice files, and with a count before what is written; `joined` is how many bytes the join has.
pub record JoinedFileDue (first second : List ℕ) (joined : ℕ) (lent : List ℕ) : Type 0 where
  pub type : Ty
  pub one : Prefix
  pub other : Prefix
  pub follows : Follows first 2 second 2 type one other
  pub measured : joined ≡ prefix_width (concat one other)
  pub countable : joined ≤ 65535
  pub room : 2 + joined ≤ length lent

pub record JoinedFileWritten (first second : List ℕ) (joined : ℕ) (lent lent_after : List ℕ) : Type 0 where
  pub each : (due : JoinedFileDue first second joined lent) → lent_after ≡ at_front (slice_file_bytes (concat due.one due.other)) lent

-- The kind that the empty prefix of a type begins with, by the type's kind; of a byte that is no type's kind nobody asks.
abbrev pub empty_kind : ℕ → ℕ
empty_kind k = get_or (0 ∷ 1 ∷ 3 ∷ 5 ∷ 7 ∷ 8 ∷ []) k 7

-- The empty prefix of the type at `at` is to be written on `lent`, which has room for it.
pub record EmptyDue (types : List ℕ) (at : ℕ) (lent : List ℕ) : Type 0 where
  pub type : Ty
  pub stands : TypeAt types at type
  pub room : prefix_width (empty_prefix type) ≤ length lent

pub record EmptyWritten (types : List ℕ) (at : ℕ) (lent lent_after : List ℕ) (written : ℕ) : Type 0 where
  pub each : (due : EmptyDue types at lent)
      → (written ≡ prefix_width (empty_prefix due.type)) × (lent_after ≡ at_front (prefix_bytes (empty_prefix due.type) []) lent)

-- The empty prefix of a nullable type, which `source` holds and nothing else, is to be written on `lent`, which has room for it.
pub record SilenceDue (source lent : List ℕ) : Type 0 where
  pub type : Ty
  pub is_nullable : Nullable type
  pub bytes : source ≡ type_bytes type []
  pub room : length source ≤ length lent

pub record SilenceWritten (source lent lent_after : List ℕ) : Type 0 where
  pub each : (due : SilenceDue source lent) → lent_after ≡ at_front (prefix_bytes (empty_prefix due.type) []) lent

-- What the complete prefix at the front of `slice` leaves of a type is to be written on `lent`, which has room for it.
pub record SpentDue (slice lent : List ℕ) : Type 0 where
  pub type : Ty
  pub prefix : Prefix
  pub stands : PrefixAt slice 0 prefix
  pub is_complete : Complete prefix
  pub room : size (derivative type prefix) ≤ length lent

pub record SpentWritten (slice lent lent_after : List ℕ) (written : ℕ) : Type 0 where
  pub each : (due : SpentDue slice lent)
      → (written ≡ size (derivative due.type due.prefix))
      × (lent_after ≡ at_front (type_bytes (derivative due.type due.prefix) []) lent)
