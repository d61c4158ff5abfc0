-- What a complete prefix leaves, written byte by byte: what is written so far goes before what is left by the complete prefixes
-- that are still owed, one behind the other.
use mathlib.Core.Path.{◌≡◌, refl, sym, ap, ◌∙◌}
use mathlib.Core.Bool.{true, false, true≢false}
use mathlib.Core.List.{List, [], ◌∷◌, ◌++◌, append-nil}
use Prim.Native.Nat.{ℕ, suc, ◌+◌, ◌-◌, ◌≤◌, ◌<◌}
use native.Mathlib.Omega.{arith}
use lib.ListN.{length, get_or, set, length-append}
use lib.Seq.{append_snoc}
use Rattle.stream.specs.Types.{Ty, size, first_part, second_part}
use Rattle.stream.proofs.Types.Laws.{size_positive}
use Rattle.stream.specs.Buffers.{at_front}
use Rattle.stream.specs.Prefixes.{Prefix, Complete, whole_nothing, whole_cue, whole_level, whole_crossed, whole_beside, whole_first_chosen, whole_second_chosen, derivative}
use Rattle.stream.specs.TypeFiles.{type_bytes}
use Rattle.stream.proofs.TypeFiles.Laws.{type_length}
use Rattle.stream.specs.Prefixes.Kinds.{prefix_kind, prefix_arity, root_width}
use Rattle.reading.specs.TypeReads.Laws.{type_width}
use Rattle.reading.specs.SliceReads.{prefix_width, is_unfinished, PrefixAt, SomePrefixAt, PrefixEnds}
use Rattle.reading.specs.SliceReads.Laws.{width_positive, root_positive, prefix_inside, kind_at, crossed_first_at, crossed_second_at, beside_first_at, beside_second_at, first_chosen_at, second_chosen_at}
use Rattle.writing.specs.Writing.{SpentDue, SpentWritten}
use Rattle.writing.specs.Appending.Laws.{WrittenSoFar, nothing_written, written_on}
use Rattle.writing.proofs.RoomBehind.{appended_byte}
use Rattle.writing.proofs.PrefixKinds.{leaf-kind, kind_listed}

-- `owed` complete prefixes stand one behind the other from `next`; what they leave of their types has the bytes `left`.
data Pending (slice : List ℕ) : (owed next : ℕ) (left : List ℕ) → Type 0 where
  none : {next : ℕ} → next ≤ length slice → Pending slice 0 next []
  more : {owed next : ℕ} {left : List ℕ} (t : Ty) {p : Prefix} → PrefixAt slice next p → Complete p → Pending slice owed (next + prefix_width p) left
      → Pending slice (suc owed) next (type_bytes (derivative t p) left)

-- The next byte of what is left is k, and `owed` prefixes from `next` leave the others.
record Turns (slice : List ℕ) (k owed next : ℕ) (left : List ℕ) : Type 0 where
  others : List ℕ
  starts_with : left ≡ k ∷ others
  pending : Pending slice owed next others

-- A crossed prefix makes way for its second part, and no byte is written.
record Crosses (slice : List ℕ) (owed next : ℕ) (left : List ℕ) : Type 0 where
  first : SomePrefixAt slice (next + 1)
  second : (end : ℕ) → PrefixEnds slice (next + 1) end → (next < end) × Pending slice owed end left

-- A complete prefix is of no kind that would keep it from being complete.
finished_kind : {p : Prefix} → Complete p → is_unfinished (prefix_kind p) ≡ false
finished_kind whole_nothing = refl
finished_kind whole_cue = refl
finished_kind whole_level = refl
finished_kind (whole_crossed d) = refl
finished_kind (whole_beside c d) = refl
finished_kind (whole_first_chosen c) = refl
finished_kind (whole_second_chosen c) = refl

module _ {slice : List ℕ} where
  -- Each prefix leaves a byte at least.
  many : {owed next : ℕ} {left : List ℕ} → Pending slice owed next left → owed ≤ length left
  many (none i) = omega arith
  many (more {left = left} t {p} s d r) = omega (arith, type_length (derivative t p) left, size_positive (derivative t p), many r)

  -- The first of them can be read.
  starts_inside : {owed next : ℕ} {left : List ℕ} → Pending slice owed next left → 0 < owed → next < length slice
  starts_inside (none i) h = absurd (omega arith)
  starts_inside (more t {p} s d r) h = omega (arith, prefix_inside s, width_positive p)

  -- All before `next` are within the slice.
  ends_inside : {owed next : ℕ} {left : List ℕ} → Pending slice owed next left → next ≤ length slice
  ends_inside (none i) = i
  ends_inside (more t s d r) = omega (arith, prefix_inside s)

  -- Where none is owed nothing is left.
  nothing_left : {owed next : ℕ} {left : List ℕ} → Pending slice owed next left → owed ≡ 0 → left ≡ []
  nothing_left (none i) e = refl
  nothing_left (more t s d r) e = absurd (omega arith)

  -- The same under other names for the two numbers.
  moved : {owed next owed_after next_after : ℕ} {left : List ℕ} → Pending slice owed next left → owed ≡ owed_after → next ≡ next_after
      → Pending slice owed_after next_after left
  moved r e f = rw (← e, ← f) r

  -- At a kind 6.
  crosses : {owed next : ℕ} {left : List ℕ} → Pending slice owed next left → 0 < owed → get_or slice next 0 ≡ 6 → Crosses slice owed next left
  unfolding prefix_width derivative
  crosses (none i) h e = absurd (omega arith)
  crosses (more t s whole_nothing r) h e = absurd (omega (arith, kind_at s))
  crosses (more t s whole_cue r) h e = absurd (omega (arith, kind_at s))
  crosses (more t s whole_level r) h e = absurd (omega (arith, kind_at s))
  crosses (more {next = next} t s (whole_crossed {b} {q} d) r) h e =
      record {
        first = record { prefix = b; stands = crossed_first_at s };
        second = λ end ends.
            let behind : end ≡ next + 1 + prefix_width b = ends.each b (crossed_first_at s) in
            (omega arith, more (second_part t) (crossed_second_at s behind) d (moved r refl (omega arith)));
      }
  crosses (more t s (whole_beside c d) r) h e = absurd (omega (arith, kind_at s))
  crosses (more t s (whole_first_chosen c) r) h e = absurd (omega (arith, kind_at s))
  crosses (more t s (whole_second_chosen c) r) h e = absurd (omega (arith, kind_at s))

  -- Two prefixes side by side: both are owed, and leave their types side by side.
  forks : {owed next : ℕ} {left : List ℕ} → Pending slice owed next left → 0 < owed → get_or slice next 0 ≡ 7
      → Turns slice 4 (owed + 1) (next + 1) left
  unfolding prefix_width derivative type_bytes
  forks (none i) h e = absurd (omega arith)
  forks (more t s whole_nothing r) h e = absurd (omega (arith, kind_at s))
  forks (more t s whole_cue r) h e = absurd (omega (arith, kind_at s))
  forks (more t s whole_level r) h e = absurd (omega (arith, kind_at s))
  forks (more t s (whole_crossed d) r) h e = absurd (omega (arith, kind_at s))
  forks (more t s (whole_beside c d) r) h e =
      let second = more (second_part t) (beside_second_at s refl) d (moved r refl (omega arith)) in
      record { others = _; starts_with = refl; pending = moved (more (first_part t) (beside_first_at s) c second) (omega arith) refl }
  forks (more t s (whole_first_chosen c) r) h e = absurd (omega (arith, kind_at s))
  forks (more t s (whole_second_chosen c) r) h e = absurd (omega (arith, kind_at s))

  -- A choice leaves what the slice behind its mark leaves, and no byte is written.
  chooses : {owed next : ℕ} {left : List ℕ} → Pending slice owed next left → 0 < owed → 8 < get_or slice next 0
      → Pending slice owed (next + 1) left
  unfolding prefix_width derivative
  chooses (none i) h e = absurd (omega arith)
  chooses (more t s whole_nothing r) h e = absurd (omega (arith, kind_at s))
  chooses (more t s whole_cue r) h e = absurd (omega (arith, kind_at s))
  chooses (more t s whole_level r) h e = absurd (omega (arith, kind_at s))
  chooses (more t s (whole_crossed d) r) h e = absurd (omega (arith, kind_at s))
  chooses (more t s (whole_beside c d) r) h e = absurd (omega (arith, kind_at s))
  chooses (more t s (whole_first_chosen c) r) h e = more (first_part t) (first_chosen_at s) c (moved r refl (omega arith))
  chooses (more t s (whole_second_chosen c) r) h e = more (second_part t) (second_chosen_at s) c (moved r refl (omega arith))

  -- A complete leaf leaves the empty type.
  leaves : {owed next : ℕ} {left : List ℕ} → Pending slice owed next left → 0 < owed → prefix_arity (get_or slice next 0) ≡ 0
      → Turns slice 0 (owed - 1) (next + root_width (get_or slice next 0)) left
  unfolding prefix_width derivative type_bytes
  leaves (none i) h e = absurd (omega arith)
  leaves (more t s whole_nothing r) h e = record { others = _; starts_with = refl; pending = rw (kind_at s) (moved r (omega arith) refl) }
  leaves (more t s whole_cue r) h e = record { others = _; starts_with = refl; pending = rw (kind_at s) (moved r (omega arith) refl) }
  leaves (more t s whole_level r) h e = record { others = _; starts_with = refl; pending = rw (kind_at s) (moved r (omega arith) refl) }
  leaves (more t s (whole_crossed d) r) h e = absurd (omega (arith, rw (kind_at s) at e))
  leaves (more t s (whole_beside c d) r) h e = absurd (omega (arith, rw (kind_at s) at e))
  leaves (more t s (whole_first_chosen c) r) h e = absurd (omega (arith, rw (kind_at s) at e))
  leaves (more t s (whole_second_chosen c) r) h e = absurd (omega (arith, rw (kind_at s) at e))

  not_other : {owed next : ℕ} {left : List ℕ} → Pending slice owed next left → 0 < owed
      → (is_unfinished (get_or slice next 0) ≡ false) × (get_or slice next 0 ≤ 10)
  not_other (none i) h = absurd (omega arith)
  not_other (more t {p} s d r) h = (ap is_unfinished (kind_at s) ∙ finished_kind d, omega (arith, kind_at s, kind_listed p))

-- What is written so far, and what the prefixes that are still owed leave, are all that is to be written.
pub record Spending (slice lent whole now : List ℕ) (owed next written : ℕ) : Type 0 where
  bytes : List ℕ
  left : List ℕ
  all : bytes ++ left ≡ whole
  room : length whole ≤ length lent
  so_far : WrittenSoFar bytes lent now written
  pending : Pending slice owed next left

-- All that the prefix at the front leaves of its type.
abbrev pub to_write : {slice lent : List ℕ} → SpentDue slice lent → List ℕ
to_write due = type_bytes (derivative due.type due.prefix) []

-- Before the loop nothing is written, and the prefix at the front is owed.
pub starts : {slice lent : List ℕ} (due : SpentDue slice lent) → Spending slice lent (to_write due) lent 1 0 0
starts due =
    record {
      bytes = [];
      left = to_write due;
      all = refl;
      room = omega (arith, type_width (derivative due.type due.prefix), due.room);
      so_far = nothing_written _;
      pending = more due.type due.stands due.is_complete (none (prefix_inside due.stands));
    }

module _ {slice lent whole now : List ℕ} {owed next written : ℕ} (spending : Spending slice lent whole now owed next written) where
  -- As many bytes are written and left as there are to be.
  total : written + length spending.left ≡ length whole
  total = omega (arith, spending.so_far.long, ap length spending.all, length-append spending.bytes spending.left)

  -- Each prefix that is owed has room for a byte.
  pub fits : written + owed ≤ length lent
  fits = omega (arith, total, many spending.pending, spending.room)

  -- The buffer keeps its length.
  pub length_stays : length now ≡ length lent
  length_stays = spending.so_far.holds.long

  -- Where no prefix is owed any more all is written.
  finished : owed ≡ 0 → (written ≡ length whole) × (now ≡ at_front whole lent)
  finished z =
      let e = nothing_left spending.pending z in
      let same : spending.bytes ≡ whole = sym (append-nil spending.bytes) ∙ ap (λ l. spending.bytes ++ l) (sym e) ∙ spending.all in
      (omega (arith, total, ap length e), rw (← same) (spending.so_far.holds.in_front (omega (arith, spending.so_far.long, fits))))

  -- The place come to is within the slice, and before its end while a prefix is owed.
  pub within : next ≤ length slice
  within = ends_inside spending.pending

  -- A place is passed, and no byte is written.
  passed : {end : ℕ} → Pending slice owed end spending.left → Spending slice lent whole now owed end written
  passed pending =
      record {
        bytes = spending.bytes;
        left = spending.left;
        all = spending.all;
        room = spending.room;
        so_far = spending.so_far;
        pending = pending;
      }

  module _ (wanted : 0 < owed) where
    pub inside : next < length slice
    inside = starts_inside spending.pending wanted

    -- A byte is written.
    turned : {k owed_after next_after : ℕ} → Turns slice k owed_after next_after spending.left
        → Spending slice lent whole (set now written k) owed_after next_after (written + 1)
    turned {k} turns =
        record {
          bytes = spending.bytes ++ k ∷ [];
          left = turns.others;
          all = append_snoc spending.bytes k turns.others ∙ ap (λ l. spending.bytes ++ l) (sym turns.starts_with) ∙ spending.all;
          room = spending.room;
          so_far = written_on spending.so_far (appended_byte now written k (omega (arith, fits, length_stays)));
          pending = turns.pending;
        }

    -- At a kind 6 the first part stands behind the kind, and where it ends the loop goes on without a byte.
    pub first_part_at : get_or slice next 0 ≡ 6 → SomePrefixAt slice (next + 1)
    first_part_at six = (crosses spending.pending wanted six).first

    pub crossed : get_or slice next 0 ≡ 6 → {end : ℕ} → PrefixEnds slice (next + 1) end
        → (next < end) × Spending slice lent whole now owed end written
    crossed six {end} ends = let onward = (crosses spending.pending wanted six).second end ends in (onward.0, passed onward.1)

    -- At a choice it goes on behind the mark without a byte.
    pub chosen : 8 < get_or slice next 0 → Spending slice lent whole now owed (next + 1) written
    chosen is_mark = passed (chooses spending.pending wanted is_mark)

    -- At a kind 7 a byte 4 is written, and one prefix more is owed.
    pub forked : get_or slice next 0 ≡ 7 → Spending slice lent whole (set now written 4) (owed + 1) (next + 1) (written + 1)
    forked seven = turned (forks spending.pending wanted seven)

    -- At a leaf a byte 0 is written, and one prefix less is owed.
    pub leaf : get_or slice next 0 < 5 → {wide : ℕ} → wide ≡ root_width (get_or slice next 0)
        → (next < next + wide) × Spending slice lent whole (set now written 0) (owed - 1) (next + wide) (written + 1)
    leaf h e =
        (omega (arith, e, root_positive (get_or slice next 0)), rw e (turned (leaves spending.pending wanted (leaf-kind _ h))))

    -- No other kind stands there, nor one that would keep the prefix from being complete.
    pub no_unfinished : is_unfinished (get_or slice next 0) ≡ true → ⊥
    no_unfinished unfinished = true≢false (sym unfinished ∙ (not_other spending.pending wanted).0)

    pub listed : get_or slice next 0 ≤ 10
    listed = (not_other spending.pending wanted).1

-- So after the loop a type is written, if that is what was to be.
pub spent : (t : Ty) {slice lent now : List ℕ} {owed next written : ℕ} → Spending slice lent (type_bytes t []) now owed next written → owed ≡ 0
    → (written ≡ size t) × (now ≡ at_front (type_bytes t []) lent)
spent t spending z = let done = finished spending z in (done.0 ∙ type_width t, done.1)

-- And the contract is met, whichever prefix stood at the front.
pub spent_any : {slice lent now : List ℕ} {owed next written : ℕ}
    → ((due : SpentDue slice lent) → Spending slice lent (to_write due) now owed next written) → owed ≡ 0
    → SpentWritten slice lent now written
spent_any spending z = record { each = λ due. spent (derivative due.type due.prefix) (spending due) z }
