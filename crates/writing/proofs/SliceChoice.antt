-- The part that is walked through first under a kind byte with parts: where it stands, and, where the kind is the mark of a choice, what
-- the choice comes to and what it leaves, from how the walk through that part ended.
use mathlib.Core.Path.{◌≡◌, refl, sym, ap, ap₂, ◌∙◌}
use mathlib.Core.Bool.{Bool, true, false}
use mathlib.Core.List.{List}
use Prim.Native.Nat.{ℕ, suc, ◌+◌, ◌≤◌, ◌<◌}
use native.Mathlib.Omega.{arith}
use lib.Dec.{leb}
use lib.ListN.{get_or, drop}
use lib.Seq.{drop-drop}
use borrow.Author.Tests.{leb-true, leb-false}
use Rattle.stream.specs.declared.Fault.{Fault}
use Rattle.stream.specs.Types.{Ty, size, kind, first_part, second_part}
use Rattle.stream.specs.Types.Kinds.{Fork, fork-size}
use Rattle.stream.specs.Prefixes.{Prefix, first_chosen, second_chosen, derivative}
use Rattle.stream.specs.Prefixes.Kinds.{prefix_arity}
use Rattle.stream.specs.Reading.{Reading, read, fault, read_on}
use Rattle.stream.proofs.Reading.Laws.{◌&◌, past, every}
use Rattle.stream.specs.SliceFiles.{owed}
use Rattle.reading.specs.declared.prefixes.Known.{Known}
use Rattle.reading.specs.SliceReads.{first_complete, read_owed, known_read, Walks}
use Rattle.reading.specs.SliceReads.Descent.{kind_root, reads_one, first_chosen_known, second_chosen_known}
use Rattle.writing.specs.Writing.Laws.{part as lent_part, back, part_is, back_is}
use Rattle.writing.specs.Leaving.{FirstStarts, PartUnder, LeftBy, Leaves}
use Rattle.writing.proofs.SliceWalk.{walks, Begins, begun, fork_under, Forks, first_failed}
use Rattle.writing.proofs.SliceLeft.{all_left, HalfLeft}

module _ {t : Ty} {slice : List ℕ} {c : Bool} (begins : Begins t slice c) where
  -- The walk through the part u that was chosen, as that of the prefix that f makes of the part's.
  module _ {u : Ty} (smaller : size u < size t) (f : Prefix → Prefix)
      (part_read : (budget : ℕ) → read_owed (suc budget) (owed t c) slice ≡ read_on (read_owed budget (owed u c) (drop 1 slice)) (λ p r. read (f p) r))
      (part_known : (g : Reading Prefix) → known_read u g ≡ known_read t (read_on g (λ p r. read (f p) r)))
      (part_leaves : (p : Prefix) → derivative u p ≡ derivative t (f p)) where
    part_leaving : {lent now : List ℕ} {answer : Reading Known} → Leaves u (drop 1 slice) c lent now answer → Leaves t slice c lent now answer
    unfolding LeftBy
    part_leaving {lent} {now} {answer} part =
        record {
          walks =
              walks t slice c answer
              (λ budget enough. part.walks.each budget (omega arith) ∙ part_known (part_owed budget) ∙ ap (known_read t) (sym (part_read budget)));
          long = part.long;
          left =
              all_left t slice c lent now
              (λ budget enough. rw (part_read budget) (on (part_owed budget) (part.left budget (omega arith))));
        }
      where
        part_owed : ℕ → Reading Prefix
        part_owed budget = read_owed budget (owed u c) (drop 1 slice)

        on : (g : Reading Prefix) → LeftBy u g lent now → LeftBy t (read_on g (λ p r. read (f p) r)) lent now
        on (read p r) holds = rw (← part_leaves p) holds
        on (fault e) holds = tt

  -- The first part was chosen.
  first_chosen_part : Fork t → get_or slice 0 0 ≡ 9 → {lent now : List ℕ} {answer : Reading Known}
      → Leaves (first_part t) (drop 1 slice) c lent now answer → Leaves t slice c lent now answer
  unfolding derivative
  first_chosen_part fork nine =
      part_leaving (omega (arith, fork-size t fork)) first_chosen
      (λ budget. reads_one t c budget slice first_chosen (owed (first_part t) c) (drop 1 slice)
      (begun begins ∙ ap (λ k. kind_root k t c (drop 1 slice)) nine))
      (first_chosen_known t) (λ p. refl)

  -- The second was chosen.
  second_chosen_part : Fork t → get_or slice 0 0 ≡ 10 → {lent now : List ℕ} {answer : Reading Known}
      → Leaves (second_part t) (drop 1 slice) c lent now answer → Leaves t slice c lent now answer
  unfolding derivative
  second_chosen_part fork ten =
      part_leaving (omega (arith, fork-size t fork)) second_chosen
      (λ budget. reads_one t c budget slice second_chosen (owed (second_part t) c) (drop 1 slice)
      (begun begins ∙ ap (λ k. kind_root k t c (drop 1 slice)) ten))
      (second_chosen_known t) (λ p. refl)

-- Which part is walked through first under a kind with parts: the first, as it is or because it was chosen, or the second.
data Under (k : ℕ) : Type 0 where
  no_choice : k ≤ 8 → Under k
  of_first : k ≡ 9 → Under k
  of_second : k ≡ 10 → Under k

under : (k : ℕ) → k ≤ 10 → Under k
under k listed = go (leb k 8) refl (leb k 9) refl
  where
    go : (low : Bool) → leb k 8 ≡ low → (nine : Bool) → leb k 9 ≡ nine → Under k
    go true is nine e = no_choice (leb-true k 8 is)
    go false is true e = of_first (omega (arith, leb-false k 8 is, leb-true k 9 e))
    go false is false e = of_second (omega (arith, leb-false k 9 e))

-- A kind has two parts at most, and one with two is 6 or 7.
pub arity_most : (k : ℕ) → prefix_arity k ≤ 2
arity_most =
    every (λ k n. n ≤ 2) 2 _
    (omega arith
    & omega arith
    & omega arith
    & omega arith
    & omega arith
    & omega arith
    & omega arith
    & omega arith
    & omega arith
    & omega arith
    & omega arith
    & past (λ k h. omega arith))

pub two_parts : (k : ℕ) → k ≤ 10 → prefix_arity k ≡ 2 → (6 ≤ k) × (k ≤ 7)
two_parts =
    every (λ k n. k ≤ 10 → n ≡ 2 → (6 ≤ k) × (k ≤ 7)) 2 _
    ((λ l e. absurd (omega arith))
    & (λ l e. absurd (omega arith))
    & (λ l e. absurd (omega arith))
    & (λ l e. absurd (omega arith))
    & (λ l e. absurd (omega arith))
    & (λ l e. absurd (omega arith))
    & (λ l e. omega arith)
    & (λ l e. omega arith)
    & (λ l e. absurd (omega arith))
    & (λ l e. absurd (omega arith))
    & (λ l e. absurd (omega arith))
    & past (λ k h l e. absurd (omega arith)))

-- And one with one part is 5, or a mark.
pub one_part_only : (k : ℕ) → k ≤ 10 → prefix_arity k ≡ 1 → (k ≡ 9 → ⊥) → (k ≡ 10 → ⊥) → k ≡ 5
one_part_only =
    every (λ k n. k ≤ 10 → n ≡ 1 → (k ≡ 9 → ⊥) → (k ≡ 10 → ⊥) → k ≡ 5) 2 _
    ((λ l e nine ten. absurd (omega arith))
    & (λ l e nine ten. absurd (omega arith))
    & (λ l e nine ten. absurd (omega arith))
    & (λ l e nine ten. absurd (omega arith))
    & (λ l e nine ten. absurd (omega arith))
    & (λ l e nine ten. refl)
    & (λ l e nine ten. absurd (omega arith))
    & (λ l e nine ten. absurd (omega arith))
    & (λ l e nine ten. absurd (omega arith))
    & (λ l e nine ten. absurd (nine refl))
    & (λ l e nine ten. absurd (ten refl))
    & past (λ k h l e nine ten. absurd (omega arith)))

-- A kind byte with parts behind it that belongs there; d says whether `part` has to be complete, which is walked through first and
-- begins the bytes `from`.
pub record Parted (t : Ty) (bytes slice : List ℕ) (c d : Bool) (part : Ty) (from : List ℕ) : Type 0 where
  pub begins : Begins t slice c
  pub parts : prefix_arity (get_or slice 0 0) ≡ 0 → ⊥
  pub handed : d ≡ first_complete (get_or slice 0 0) c
  pub under : PartUnder t bytes (get_or slice 0 0) part from

-- The same walk in other words.
walked_at : {u v : Ty} {slice : List ℕ} {c d : Bool} {lent now : List ℕ} {answer : Reading Known} → u ≡ v → d ≡ c
    → Leaves u slice d lent now answer → Leaves v slice c lent now answer
walked_at same alike w = rw alike at (rw same at w)

module _ {t : Ty} {bytes slice : List ℕ} {c d : Bool} {part : Ty} {from : List ℕ} (parted : Parted t bytes slice c d part from) where
  pub fork : Fork t
  fork = fork_under parted.begins parted.parts

  pub whole_size : size t ≡ suc (size (first_part t) + size (second_part t))
  whole_size = fork-size t fork

  forks : get_or slice 0 0 ≤ 8 → Forks t slice c d
  forks low = record { begins = parted.begins; parts = parted.parts; no_choice = low; handed = parted.handed }

  -- The part is smaller than the whole.
  pub smaller : size part < size t
  smaller = go (under (get_or slice 0 0) parted.begins.listed)
    where
      go : Under (get_or slice 0 0) → size part < size t
      go (no_choice low) = omega (arith, whole_size, ap size (parted.under.first (λ ten. omega arith)).0)
      go (of_first nine) = omega (arith, whole_size, ap size (parted.under.first (λ ten. omega arith)).0)
      go (of_second ten) = omega (arith, whole_size, ap size (parted.under.second ten).0)

  -- Where the kind is that of a choice, the slice behind it is under the same demand as the whole.
  alike : {k : ℕ} → get_or slice 0 0 ≡ k → first_complete k c ≡ c → d ≡ c
  alike is same = parted.handed ∙ ap (λ k. first_complete k c) is ∙ same

  module _ {lent now : List ℕ} {answer : Reading Known} (walk : Leaves part (drop 1 slice) d lent now answer) where
    -- Where it is the first, as it is; where it was chosen.

    first_walked : (get_or slice 0 0 ≡ 10 → ⊥) → Leaves (first_part t) (drop 1 slice) d lent now answer
    first_walked no_second = walked_at (parted.under.first no_second).0 refl walk

    of_first_walked : get_or slice 0 0 ≡ 9 → Leaves t slice c lent now answer
    of_first_walked nine = first_chosen_part parted.begins fork nine (walked_at refl (alike nine refl) (first_walked (λ ten. omega arith)))

    of_second_walked : get_or slice 0 0 ≡ 10 → Leaves t slice c lent now answer
    of_second_walked ten = second_chosen_part parted.begins fork ten (walked_at (parted.under.second ten).0 (alike ten refl) walk)

  pub part_failed : {lent now : List ℕ} {e : Fault} → Leaves part (drop 1 slice) d lent now (fault e) → Walks t slice c (fault e)
  part_failed {e = e} walk = go (under (get_or slice 0 0) parted.begins.listed)
    where
      go : Under (get_or slice 0 0) → Walks t slice c (fault e)
      go (no_choice low) = first_failed (forks low) e (first_walked walk (λ ten. omega arith)).walks
      go (of_first nine) = (of_first_walked walk nine).walks
      go (of_second ten) = (of_second_walked walk ten).walks

-- The walk through the part has come to its end, what it leaves has been written where it starts, and `behind` is behind the part.
pub record PartLeft (t : Ty) (bytes slice : List ℕ) (c : Bool) (lent now y : List ℕ) (start : ℕ) (part : Ty) (from behind rest : List ℕ) (about : Known) : Type 0 where
  pub must_complete : Bool
  pub parted : Parted t bytes slice c must_complete part from
  pub written_from : FirstStarts (get_or slice 0 0) (kind t) lent now start
  pub left : Leaves part (drop 1 slice) must_complete (lent_part start now) y (read about rest)
  pub ends : behind ≡ drop (size part) from

-- All that was lent was lent on.
whole_lent : {t : Ty} {slice : List ℕ} {c : Bool} {lent now y : List ℕ} {start : ℕ} {answer : Reading Known}
    → now ≡ lent → start ≡ 0 → Leaves t slice c (lent_part start now) y answer → Leaves t slice c lent (back start now y) answer
whole_lent {now = now} {y} same front w = rw (front, back_is 0 now y) (rw same at (rw (part_is 0 now) at (rw front at w)))

module _ {t : Ty} {bytes slice : List ℕ} {c : Bool} {lent now y : List ℕ} {start : ℕ} {part : Ty} {from behind rest : List ℕ} {about : Known}
    (left : PartLeft t bytes slice c lent now y start part from behind rest about) where
  -- Unless the second part was chosen, the part is the first, and the second stands behind it.
  pub second_behind : (get_or slice 0 0 ≡ 10 → ⊥) → behind ≡ drop (1 + size (first_part t)) bytes
  second_behind no_second =
      let first = left.parted.under.first no_second in
      left.ends ∙ ap₂ (λ u s. drop (size u) s) first.0 first.1 ∙ drop-drop (size (first_part t)) 1 bytes

  -- What is behind the second is behind the whole.
  pub whole_behind : {begun after : List ℕ} → begun ≡ drop (1 + size (first_part t)) bytes → after ≡ drop (size (second_part t)) begun
      → after ≡ drop (size t) bytes
  whole_behind {begun} is ends =
      let whole : 1 + size (first_part t) + size (second_part t) ≡ size t = omega (arith, whole_size left.parted) in
      ends ∙ ap (drop (size (second_part t))) is ∙ drop-drop (size (second_part t)) (1 + size (first_part t)) bytes ∙ ap (λ n. drop n bytes) whole

  pub half_left : get_or slice 0 0 ≤ 8 → HalfLeft t slice c lent now y start rest about
  half_left low =
      let first = first_walked left.parted left.left (λ ten. omega arith) in
      record {
        halfway = record { must_complete = left.must_complete; forks = forks left.parted low; walked_first = first.walks };
        starts = left.written_from;
        long = first.long;
        first_left = first.left;
      }

  -- The first part was chosen, and the type of the second is passed.
  pub first_chosen_leaving : get_or slice 0 0 ≡ 9 → Leaves t slice c lent (back start now y) (read about rest)
  first_chosen_leaving nine =
      let front = left.written_from.chosen (omega arith) in
      whole_lent front.0 front.1 (of_first_walked left.parted left.left nine)

  -- The second part was chosen, and the type of the first was passed.
  pub second_chosen_leaving : get_or slice 0 0 ≡ 10
      → Leaves t slice c lent (back start now y) (read about rest) × (behind ≡ drop (size t) bytes)
  second_chosen_leaving ten =
      let front = left.written_from.chosen (omega arith) in
      let second = left.parted.under.second ten in (
        whole_lent front.0 front.1 (of_second_walked left.parted left.left ten),
        whole_behind second.1 (left.ends ∙ ap (λ u. drop (size u) from) second.0),
      )
