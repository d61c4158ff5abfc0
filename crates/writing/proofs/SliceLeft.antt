-- What a prefix that is walked through leaves of its type: what each kind byte has to write, from what its parts wrote.
use mathlib.Core.Path.{◌≡◌, refl, sym, ap, ◌∙◌}
use mathlib.Core.Bool.{Bool, true, false, cond}
use mathlib.Core.Logic.{⊎_elim}
use mathlib.Core.List.{List, [], ◌∷◌, ◌++◌, append-nil}
use Prim.Native.Nat.{ℕ, zero, suc, ◌+◌, ◌-◌, ◌≤◌, ◌<◌}
use native.Mathlib.Omega.{arith}
use lib.ListN.{length, get_or, drop, length-drop, drop_of_length-le}
use lib.Seq.{take-length}
use Rattle.stream.specs.declared.Fault.{Fault}
use Rattle.stream.specs.declared.Fault.TheVariants.{SliceCutShort, SliceUnlisted}
use Rattle.reading.specs.declared.prefixes.Known.{Known}
use Rattle.stream.specs.Tables.{beyond}
use Rattle.stream.specs.Types.{Ty, empty, seq, par, size, kind, type_limit, first_part, second_part}
use Rattle.stream.proofs.Types.Laws.{size_positive}
use Rattle.stream.specs.Levels.{value_width}
use Rattle.stream.proofs.Levels.Laws.{value_there, value_missing}
use Rattle.stream.specs.Prefixes.{Prefix, nothing, cue_awaited, cue_come, level_awaited, level_come, crossed, beside, none_chosen, derivative}
use Rattle.stream.specs.Prefixes.Kinds.{prefix_arities, prefix_arity, root_width}
use Rattle.stream.specs.Reading.{Reading, read, fault, read_on, leaf}
use Rattle.stream.proofs.Reading.Laws.{◌&◌, past, every}
use Rattle.stream.proofs.Reading.Numbers.{long_or_short}
use Rattle.stream.specs.TypeFiles.{type_bytes}
use Rattle.stream.specs.SliceFiles.{owed, prefix_root}
use Rattle.stream.proofs.SliceFiles.Laws.{nodes}
use Rattle.reading.specs.TypeReads.Laws.{type_before, type_width}
use Rattle.reading.specs.SliceReads.{known, is_unfinished, type_kind_of, first_known, crossed_known, both_known, combined, read_owed, Walks}
use Rattle.reading.specs.SliceReads.Descent.{kind_roots, kind_root, reads_fault, reads_leaf}
use Rattle.writing.specs.Appending.{Holds, Appends, Within}
use Rattle.writing.specs.Appending.Laws.{back_length, part_length, WrittenSoFar, nothing_written, written_on, written-part}
use Rattle.writing.specs.Writing.Laws.{part, back}
use Rattle.writing.specs.Leaving.{leaf_leaves, seen, Leaves, LeafLeft, WalksLeafLeaving, FirstStarts, LeftBy, WalksLeaving}
use Rattle.writing.proofs.SliceWalk.{level_root, second_reads, behind_first, failed, Begins, begun, type_kind_is, leaf_walks, stands_on_all, parts_read, Halfway, split, first_within, first_came, still_first, crossing, both_come}
use Rattle.writing.specs.declared.slices.Walked.{Walked}
use Rattle.std.specs.Prelude.{Result}

-- What a leaf leaves, written

pub leaf-size : (awaited : Bool) (t : Ty) → size (leaf_leaves awaited t) ≡ cond awaited (size t) 1
unfolding size
leaf-size true t = refl
leaf-size false t = refl

pub leaf-within : (awaited : Bool) (t : Ty) → size (leaf_leaves awaited t) ≤ size t
unfolding size
leaf-within true t = omega arith
leaf-within false t = size_positive t

module _ {t : Ty} {awaited : Bool} {lent lent_after : List ℕ} {n : ℕ} where
  pub awaited_left : awaited ≡ true → {many : ℕ} → many ≡ size t → Appends (type_bytes t []) 0 lent lent_after n → LeafLeft t awaited lent lent_after many
  awaited_left is_awaited stands appended =
      rw is_awaited (record { stands_on = stands; left = (written_on (nothing_written lent) appended).holds })

  pub come_left : awaited ≡ false → Appends (0 ∷ []) 0 lent lent_after n → LeafLeft t awaited lent lent_after 1
  unfolding size type_bytes
  come_left has_come appended = rw has_come (record { stands_on = refl; left = (written_on (nothing_written lent) appended).holds })

-- What a leaf of each kind leaves
module _ (t : Ty) (c : Bool) (budget n : ℕ) (s r lent now : List ℕ) (long : n ≡ 1 + length r) where
  abbrev Writes : (root_bytes : ℕ) → Ty → Type 0
  Writes wide left = wide ≤ n → Holds (type_bytes left []) lent now

  abbrev AllLeft : Type 0
  AllLeft = LeftBy t (read_owed (suc budget) (owed t c) s) lent now

  plain_left : (p : Prefix) → prefix_root (owed t c) s ≡ leaf p r → Holds (type_bytes (derivative t p) []) lent now → AllLeft
  unfolding LeftBy
  plain_left p e h = rw (reads_leaf t c budget s p r e) h

  level_left : prefix_root (owed t c) s ≡ kind_root 4 t c r → Writes (root_width 4) empty → AllLeft
  unfolding LeftBy derivative
  level_left e h = ⊎_elim there short (long_or_short value_width r)
    where
      there : value_width ≤ length r → AllLeft
      there l =
          let value = value_there SliceCutShort r l in
          rw (reads_leaf t c budget s (level_come value.0) (drop value_width r) (e ∙ ap level_root value.1)) (h (omega arith))

      short : length r < value_width → AllLeft
      short l = rw (reads_fault t c budget s SliceCutShort (e ∙ ap level_root (value_missing SliceCutShort r l))) tt

  leaf_left : (k : ℕ) → prefix_arity k ≡ 0 → prefix_root (owed t c) s ≡ kind_root k t c r
      → Writes (root_width k) (leaf_leaves (is_unfinished k) t) → AllLeft
  unfolding derivative
  leaf_left =
      every
      (λ k root. prefix_arity k ≡ 0 → prefix_root (owed t c) s ≡ root r → Writes (root_width k) (leaf_leaves (is_unfinished k) t) → AllLeft)
      (λ x. fault SliceUnlisted) (kind_roots t c)
      ((λ none e h. plain_left nothing e (h (omega arith)))
      & (λ none e h. plain_left cue_awaited e (h (omega arith)))
      & (λ none e h. plain_left cue_come e (h (omega arith)))
      & (λ none e h. plain_left level_awaited e (h (omega arith)))
      & (λ none e h. level_left e h)
      & (λ none e h. absurd (omega arith))
      & (λ none e h. absurd (omega arith))
      & (λ none e h. absurd (omega arith))
      & (λ none e h. plain_left none_chosen e (h (omega arith)))
      & (λ none e h. absurd (omega arith))
      & (λ none e h. absurd (omega arith))
      & past (λ k l none e h. absurd (omega (arith, beyond prefix_arities 2 k l))))

-- The walk that failed, and one through a leaf

-- The type has a node, so the budget is not spent.
pub all_left : (t : Ty) (slice : List ℕ) (c : Bool) (lent now : List ℕ)
    → ((budget : ℕ) → size t ≤ suc budget → LeftBy t (read_owed (suc budget) (owed t c) slice) lent now)
    → (budget : ℕ) → size t ≤ budget → LeftBy t (read_owed budget (owed t c) slice) lent now
all_left t slice c lent now each zero enough = absurd (omega (arith, size_positive t))
all_left t slice c lent now each (suc budget) enough = each budget enough

module _ {t : Ty} {slice : List ℕ} {c : Bool} {lent now : List ℕ} where
  pub stopped : {e : Fault} → Walks t slice c (fault e) → length now ≡ length lent → Leaves t slice c lent now (fault e)
  unfolding LeftBy
  stopped {e} walks long = record { walks = walks; long = long; left = λ budget enough. rw (failed budget enough e walks) tt }

  pub leaf_leaving : {bytes : List ℕ} → Begins t slice c → prefix_arity (get_or slice 0 0) ≡ 0 → (answer : Result Walked Fault)
      → WalksLeafLeaving t bytes slice lent now answer → WalksLeaving t bytes slice c lent now answer
  leaf_leaving {bytes} begins none answer leaf_walk =
      record {
        walk =
            record {
              walks = leaf_walks begins none (seen answer) leaf_walk.walks;
              long = leaf_walk.long;
              left =
                  all_left t slice c lent now
                  (λ budget enough.
                  leaf_left t c budget (length slice) slice (drop 1 slice) lent now (omega (arith, begins.more, length-drop 1 slice)) (get_or slice 0 0)
                  none (begun begins) leaf_walk.left);
            };
        behind = rw (stands_on_all begins none) at leaf_walk.behind;
      }

-- Two types in one, in bytes
seq_bytes : {k : ℕ} (s t : Ty) → k ≡ 3 → (k ∷ type_bytes s []) ++ type_bytes t [] ≡ type_bytes (seq s t) []
unfolding type_bytes
seq_bytes s t e = rw e (ap (λ l. 3 ∷ l) (sym (type_before s (type_bytes t []))))

par_bytes : {k : ℕ} (s t : Ty) → k ≡ 4 → (k ∷ type_bytes s []) ++ type_bytes t [] ≡ type_bytes (par s t) []
unfolding type_bytes
par_bytes s t e = rw e (ap (λ l. 4 ∷ l) (sym (type_before s (type_bytes t []))))

-- A part of no bytes comes back as it was.
none-back : (x y : List ℕ) → length y ≡ 0 → back (length x) x y ≡ x
none-back x [] e =
    rw (take-length x, drop_of_length-le (drop (length x) x) {i = length x - length x} (omega (arith, length-drop (length x) x)), append-nil x)
none-back x (a ∷ y) e = absurd (omega arith)

-- The walk through the first part leaves the work bytes as long as they were.
pub first_long : {k j : ℕ} {t : Ty} {slice : List ℕ} {c : Bool} {lent now y : List ℕ} {start : ℕ} {answer : Reading Known}
    → FirstStarts k j lent now start → Leaves t slice c (part start now) y answer → length (back start now y) ≡ length lent
first_long {now = now} {y} {start} starts first = back_length start now y starts.inside first.long ∙ starts.long

-- The walk through the first part has come to its end, and what it leaves has been written where it starts.
pub record HalfLeft (t : Ty) (slice : List ℕ) (c : Bool) (lent now y : List ℕ) (start : ℕ) (rest : List ℕ) (first : Known) : Type 0 where
  pub halfway : Halfway t slice c rest first
  pub starts : FirstStarts (get_or slice 0 0) (kind t) lent now start
  pub long : length y ≡ length (part start now)
  pub first_left : (budget : ℕ) → size (first_part t) ≤ budget
      → LeftBy (first_part t) (read_owed budget (owed (first_part t) halfway.must_complete) (drop 1 slice)) (part start now) y

module _ {t : Ty} {slice : List ℕ} {c : Bool} {lent now y : List ℕ} {start : ℕ} {rest : List ℕ} {first : Known}
    (half : HalfLeft t slice c lent now y start rest first) where
  abbrev written : List ℕ
  written = back start now y

  pub half_long : length written ≡ length lent
  half_long = back_length start now y half.starts.inside half.long ∙ half.starts.long

  kind_is : {k : ℕ} → get_or slice 0 0 ≡ k → kind t ≡ type_kind_of k
  kind_is e = type_kind_is half.halfway.forks.begins ∙ ap type_kind_of e

  module _ (budget : ℕ) (enough : size (first_part t) ≤ budget) where
    first_prefix : Prefix
    first_prefix = (first_within half.halfway budget enough).prefix

    -- Unless it was crossed, what the first part leaves stands behind the kind byte of the type.
    first_written : (get_or slice 0 0 ≡ 6 → ⊥)
        → WrittenSoFar (kind t ∷ type_bytes (derivative (first_part t) first_prefix) []) lent written (1 + first.remains)
    unfolding LeftBy known first_prefix
    first_written not_crossed =
        let f = first_within half.halfway budget enough in
        let kept = half.starts.kept not_crossed half.halfway.forks.no_choice in
        let remains : first.remains ≡ size (derivative (first_part t) f.prefix) = ap (λ k. k.remains) f.knows in
        written-part (written_on (nothing_written lent) kept.0) kept.1
        (rw f.reads at (half.first_left budget enough))
        (remains ∙ sym (type_width (derivative (first_part t) f.prefix)))

  -- A first part that is still coming: the whole second part stands behind it.

  pub second_due : 1 + first.remains + size (second_part t) ≤ 255
  unfolding type_limit
  second_due = omega (arith, (first_came half.halfway).remains_within, split half.halfway, half.halfway.forks.begins.small)

  pub still_first_leaving : get_or slice 0 0 ≡ 5 → {after : List ℕ} {n : ℕ} → Appends (type_bytes (second_part t) []) (1 + first.remains) written after n
      → Leaves t slice c lent after (read (first_known first (size (second_part t))) rest)
  unfolding LeftBy derivative first_prefix
  still_first_leaving five {after} appended =
      record {
        walks = still_first half.halfway five;
        long = appended.long ∙ half_long;
        left = all_left t slice c lent after go;
      }
    where
      go : (budget : ℕ) → size t ≤ suc budget → LeftBy t (read_owed (suc budget) (owed t c) slice) lent after
      go budget enough =
          let fits : size (first_part t) ≤ budget = omega (arith, split half.halfway) in
          let f = first_within half.halfway budget fits in
          let all = written_on (first_written budget fits (λ six. omega arith)) appended in
          rw (parts_read half.halfway.forks budget, five, f.reads)
          (rw (seq_bytes (derivative (first_part t) f.prefix) (second_part t) (kind_is five)) at all.holds)

  -- Two parts: how the second part's walk leaves the whole, once it is known what each prefix of it does.
  module _ (f : Prefix → Prefix → Prefix) (second_next : (budget : ℕ) → behind_first t c budget (get_or slice 0 0) ≡ second_reads t c budget f)
      {answer : Reading Known} {lent_on z after : List ℕ} (second : Leaves (second_part t) rest c lent_on z answer)
      (each : (budget : ℕ) (enough : size (first_part t) ≤ budget) (q : Prefix) → Holds (type_bytes (derivative (second_part t) q) []) lent_on z
      → Holds (type_bytes (derivative t (f (first_prefix budget enough) q)) []) lent after) where
    two_left : (budget : ℕ) → size t ≤ suc budget → LeftBy t (read_owed (suc budget) (owed t c) slice) lent after
    unfolding LeftBy first_prefix
    two_left budget enough =
        let fits : size (first_part t) ≤ budget = omega (arith, split half.halfway) in
        let h = first_within half.halfway budget fits in
        let less = budget - nodes h.prefix in
        rw (parts_read half.halfway.forks budget, h.reads, second_next budget)
        (on budget fits (read_owed less (owed (second_part t) c) rest)
        (second.left less (omega (arith, split half.halfway, h.few))))
      where
        on : (budget : ℕ) (enough : size (first_part t) ≤ budget) (g : Reading Prefix) → LeftBy (second_part t) g lent_on z
            → LeftBy t (read_on g (λ q r. read (f (first_prefix budget enough) q) r)) lent after
        on budget fits (read q r) holds = each budget fits q holds
        on budget fits (fault x) holds = tt

  pub untouched : get_or slice 0 0 ≡ 6 → written ≡ lent
  untouched six =
      let none = half.starts.crossed six in
      let y_long : length y ≡ 0 = omega (arith, half.long, part_length start now, none.1, ap length none.0) in
      rw (none.0, none.1) (none-back lent y y_long)

  pub crossing_leaving : get_or slice 0 0 ≡ 6 → (answer : Reading Known) {z : List ℕ} → Leaves (second_part t) rest c written z answer
      → Leaves t slice c lent z (combined crossed_known first answer)
  unfolding derivative
  crossing_leaving six answer {z} second =
      record {
        walks = crossing half.halfway six answer second.walks;
        long = second.long ∙ half_long;
        left =
            all_left t slice c lent z
            (two_left crossed (λ budget. ap (behind_first t c budget) six) second (λ budget enough q holds. rw (untouched six) at holds));
      }

  pub both_leaving : get_or slice 0 0 ≡ 7 → {from : ℕ} → Within (1 + first.remains) (length written) from → (answer : Reading Known) {z : List ℕ}
      → Leaves (second_part t) rest c (part from written) z answer
      → Leaves t slice c lent (back from written z) (combined both_known first answer)
  unfolding derivative
  both_leaving seven {from} there answer {z} second =
      record {
        walks = both_come half.halfway seven answer second.walks;
        long = back_length from written z there.inside second.long ∙ half_long;
        left =
            all_left t slice c lent (back from written z)
            (two_left beside (λ budget. ap (behind_first t c budget) seven) second
            (λ budget enough q holds.
            rw (par_bytes (derivative (first_part t) (first_prefix budget enough)) (derivative (second_part t) q) (kind_is seven)) at
            (written-part (first_written budget enough (λ six. omega arith)) there holds refl).holds));
      }
