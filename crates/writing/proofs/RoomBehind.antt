-- Bytes written behind what stands there already: all of them if they have room, else none.
use mathlib.Core.Path.{◌≡◌, refl, sym, ap, ◌∙◌}
use mathlib.Core.List.{List, [], ◌∷◌, append-nil}
use Prim.Native.Nat.{ℕ, ◌+◌, ◌-◌, ◌≤◌, ◌<◌}
use native.Mathlib.Omega.{arith}
use native.Mathlib.Numerals.{add-one}
use lib.ListN.{length, drop, set, length-append, length-drop, drop_of_length-le}
use lib.Seq.{drop-drop, set_split}
use Rattle.stream.specs.Buffers.{at_front}
use Rattle.writing.specs.Writing.Laws.{part, back, part_is, front_length}
use Rattle.writing.specs.Appending.{Appends}
use Rattle.writing.specs.Appending.Laws.{part_length, back_length, holds_part}

pub appended : {source now y : List ℕ} (written : ℕ) → written + length source ≤ length now → y ≡ at_front source (part written now)
    → Appends source written now (back written now y) (written + length source)
appended {source} {now} {y} written room copied =
    record {
      ends = refl;
      long = back_length written now y (omega arith) kept;
      each = λ bytes lent long holds.
          holds_part holds (record { inside = omega arith; behind = λ h. sym long }) (record { long = kept; in_front = λ h. copied });
    }
  where
    kept : length y ≡ length (part written now)
    kept = ap length copied ∙ front_length source (part written now) (omega (arith, part_length written now))

pub not_appended : (source now : List ℕ) (written : ℕ) → length now < written + length source → Appends source written now now (written + length source)
not_appended source now written full =
    record {
      ends = refl;
      long = refl;
      each = λ bytes lent long holds.
          record { long = holds.long; in_front = λ room. absurd (omega (arith, length-append bytes source, holds.long)) };
    }

-- One byte that is set is a part of one byte that comes back.
set_back : (x : List ℕ) (i k : ℕ) → i < length x → set x i k ≡ back i x (at_front (k ∷ []) (part i x))
set_back x i k h =
    set_split x i k h
    ∙ rw (part_is i x, drop-drop 1 i x, drop_of_length-le (drop i x) {i = length x - i} (omega (arith, length-drop i x)), append-nil (drop (i + 1) x), add-one)

pub appended_byte : (now : List ℕ) (written k : ℕ) → written < length now → Appends (k ∷ []) written now (set now written k) (written + 1)
appended_byte now written k room = rw (set_back now written k room) (appended written (omega arith) refl)
