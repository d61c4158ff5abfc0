-- The algebra of writing where there may be no room.
use Rattle.std.specs.Prelude.{◌≡◌, refl, List, [], ◌++◌, ℕ, ◌+◌, ◌-◌, ◌≤◌, length, take, drop}
use Rattle.std.proofs.Common.{sym, ap, ◌∙◌, arith, length-append, length-drop, length-take-le}
use Rattle.stream.specs.Buffers.{at_front}
use Rattle.reading.specs.Nesting.{Piece}
use Rattle.reading.specs.Nesting.Laws.{piece_length}
use Rattle.writing.specs.Appending.{Holds, Appends, PartDue, Within}
use Rattle.writing.specs.Writing.Laws.{part, back, part_is, onward}

-- A part that is lent on, and comes back as long as it was.

pub part_length : (a : ℕ) (x : List ℕ) → length (part a x) ≡ length x - a
part_length a x = ap length (part_is a x) ∙ length-drop a x

pub back_length : (a : ℕ) (x y : List ℕ) → a ≤ length x → length y ≡ length (part a x) → length (back a x y) ≡ length x
back_length a x y inside kept =
    omega (
      arith,
      length-append (take a x) (y ++ drop (length x - a) (drop a x)),
      length-append y (drop (length x - a) (drop a x)),
      length-take-le a x inside,
      length-drop (length x - a) (drop a x),
      length-drop a x,
      part_length a x,
    )

pub holds_nothing : (x : List ℕ) → Holds [] x x
holds_nothing x = record { long = refl; in_front = λ h. refl }

-- More is written on the part behind, or on no part at all if there was no room.
pub holds_part : {bytes more lent now y : List ℕ} {start : ℕ} → Holds bytes lent now → Within (length bytes) (length now) start
    → Holds more (part start now) y → Holds (bytes ++ more) lent (back start now y)
holds_part {bytes} {more} {lent} {now} {y} {start} holds within rest =
    record { long = back_length start now y within.inside rest.long ∙ holds.long; in_front = all }
  where
    all : length (bytes ++ more) ≤ length lent → back start now y ≡ at_front (bytes ++ more) lent
    all room =
        let both = length-append bytes more in
        let starts : start ≡ length bytes = within.behind (omega (arith, holds.long)) in
        onward bytes lent now start (sym starts) (holds.in_front (omega arith)) more y
        (rest.in_front (omega (arith, part_length start now, holds.long)))

-- What has been written so far: all of `bytes`, which are `written` many.
pub record WrittenSoFar (bytes lent now : List ℕ) (written : ℕ) : Type 0 where
  pub long : length bytes ≡ written
  pub holds : Holds bytes lent now

pub nothing_written : (lent : List ℕ) → WrittenSoFar [] lent lent 0
nothing_written lent = record { long = refl; holds = holds_nothing lent }

pub written_on : {bytes source lent now after : List ℕ} {written end : ℕ} → WrittenSoFar bytes lent now written → Appends source written now after end
    → WrittenSoFar (bytes ++ source) lent after end
written_on {bytes} {source} {lent} so_far more =
    record {
      long = omega (arith, length-append bytes source, so_far.long, more.ends);
      holds = more.each bytes lent so_far.long so_far.holds;
    }

-- The same where the part behind is lent on, and comes back with `more`.
pub written-part : {bytes more lent now y : List ℕ} {written start n : ℕ} → WrittenSoFar bytes lent now written → Within written (length now) start
    → Holds more (part start now) y → n ≡ length more → WrittenSoFar (bytes ++ more) lent (back start now y) (written + n)
written-part {bytes} {more} so_far within rest long =
    record {
      long = omega (arith, length-append bytes more, so_far.long);
      holds = holds_part so_far.holds (rw so_far.long within) rest;
    }

-- A piece of some bytes is written: that it can be, where it ends, and what has been written with it.
module _ {source copied : List ℕ} {from to : ℕ} (piece : Piece source from to copied) where
  pub part_due : {written : ℕ} → written + length copied ≤ 65535 → PartDue source from to written
  part_due few = record { forward = piece.forward; inside = piece.inside; few = omega (arith, piece_length piece) }

  module _ {now after : List ℕ} {written end : ℕ} (appended : Appends (take (to - from) (drop from source)) written now after end) where
    pub part_ends : end ≡ written + length copied
    part_ends = omega (arith, appended.ends, ap length piece.taken)

    pub part_on : {bytes lent : List ℕ} → WrittenSoFar bytes lent now written → WrittenSoFar (bytes ++ copied) lent after end
    part_on so_far = written_on so_far (rw piece.taken at appended)

-- The same bytes in other words.
pub written_as : {bytes other lent now : List ℕ} {written : ℕ} → WrittenSoFar bytes lent now written → bytes ≡ other
    → WrittenSoFar other lent now written
written_as so_far same = rw same at so_far
