-- The join of two prefixes of which the first is a choice, in their bytes: its mark stays, and the second prefix is joined with the
-- slice behind it.
use mathlib.Core.Path.{◌≡◌, refl}
use mathlib.Core.List.{List, [], ◌∷◌}
use Prim.Native.Nat.{ℕ, suc, ◌+◌, ◌<◌}
use native.Mathlib.Omega.{arith}
use lib.ListN.{get_or, set}
use Rattle.writing.specs.declared.Moved.{Moved}
use Rattle.stream.specs.Types.{Ty}
use Rattle.stream.specs.Prefixes.{Prefix, IsPrefix, of_empty, of_cue_awaited, of_cue_come, of_level_awaited, of_level_come, of_first, of_crossed, of_beside, of_none_chosen, of_first_chosen, of_second_chosen, derivative}
use Rattle.stream.specs.Prefixes.Functions.{concat}
use Rattle.stream.specs.SliceFiles.{prefix_bytes}
use Rattle.reading.specs.SliceReads.{prefix_width, PrefixAt}
use Rattle.reading.specs.SliceReads.Laws.{kind_at, first_chosen_at, second_chosen_at}
use Rattle.writing.specs.Writing.{Follows, ConcatDue, ConcatWritten}
use Rattle.writing.specs.Writing.Laws.{part, back, begins, goes_on, room_left}
use Rattle.writing.proofs.JoiningParts.{moves}

module _ (first : List ℕ) (first_place : ℕ) (second : List ℕ) (second_place : ℕ) where
  abbrev mark : ℕ
  mark = get_or first first_place 0

  -- The slice behind the mark, which the second prefix follows, and what the two make with the mark.
  record Marked (one other : Prefix) : Type 0 where
    type : Ty
    chosen : Prefix
    follows : Follows first (first_place + 1) second second_place type chosen other
    wide : prefix_width one ≡ suc (prefix_width chosen)
    joined_wide : prefix_width (concat one other) ≡ suc (prefix_width (concat chosen other))
    joined_bytes : mark ∷ prefix_bytes (concat chosen other) [] ≡ prefix_bytes (concat one other) []

  module _ (is_mark : 8 < mark) where
    marked : {t : Ty} {one other : Prefix} → Follows first first_place second second_place t one other → Marked one other
    unfolding derivative prefix_width concat prefix_bytes
    marked f = go f.is_first f.is_second f.first_at f.second_at
      where
        go : {t : Ty} {p q : Prefix} → IsPrefix t p → IsPrefix (derivative t p) q → PrefixAt first first_place p → PrefixAt second second_place q
            → Marked p q
        go of_empty k x y = absurd (omega (arith, kind_at x))
        go of_cue_awaited k x y = absurd (omega (arith, kind_at x))
        go of_cue_come k x y = absurd (omega (arith, kind_at x))
        go of_level_awaited k x y = absurd (omega (arith, kind_at x))
        go (of_level_come v) k x y = absurd (omega (arith, kind_at x))
        go (of_first i) k x y = absurd (omega (arith, kind_at x))
        go (of_crossed i d j) k x y = absurd (omega (arith, kind_at x))
        go (of_beside i j) k x y = absurd (omega (arith, kind_at x))
        go of_none_chosen k x y = absurd (omega (arith, kind_at x))
        go (of_first_chosen {s} {p = p} i) k x y =
            record {
              type = s;
              chosen = p;
              follows = record { first_at = first_chosen_at x; second_at = y; is_first = i; is_second = k };
              wide = refl;
              joined_wide = refl;
              joined_bytes = rw (kind_at x);
            }
        go (of_second_chosen {t = t} {p} i) k x y =
            record {
              type = t;
              chosen = p;
              follows = record { first_at = second_chosen_at x; second_at = y; is_first = i; is_second = k };
              wide = refl;
              joined_wide = refl;
              joined_bytes = rw (kind_at x);
            }

    module _ {lent : List ℕ} where
      pub chosen_due : ConcatDue first first_place second second_place lent
          → ConcatDue first (first_place + 1) second second_place (part 1 (set lent 0 mark))
      chosen_due due =
          let m = marked due.follows in
          record {
            type = m.type;
            one = m.chosen;
            other = due.other;
            follows = m.follows;
            room = omega (arith, due.room, m.joined_wide, room_left (begins {lent = lent} mark (omega (arith, due.room, m.joined_wide))));
          }

      pub chosen_written : {y : List ℕ} {moved : Moved}
          → ConcatWritten first (first_place + 1) second second_place (part 1 (set lent 0 mark)) y moved
          → ConcatWritten first first_place second second_place lent (back 1 (set lent 0 mark) y)
          (record { first = moved.first; second = moved.second; written = 1 + moved.written })
      unfolding chosen_due
      chosen_written joined =
          record {
            each = λ due.
                let m = marked due.follows in
                let d = joined.each (chosen_due due) in
                moves first first_place second second_place lent (omega (arith, d.first, m.wide)) d.second
                (goes_on (begins {lent = lent} mark (omega (arith, due.room, m.joined_wide))) (prefix_bytes (concat m.chosen due.other) [])
                d.buffer d.written)
                m.joined_bytes;
          }
