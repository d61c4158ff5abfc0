-- The algebra of writing: bytes at the front of a lent list, and parts of the list that are lent on and come back.
use Rattle.std.specs.Prelude.{◌≡◌, ℕ, suc, ◌+◌, ◌-◌, ◌/◌, ◌%◌, ◌≤◌, ◌<◌, length, get_or, drop, take, set}
use Rattle.std.proofs.Math.Path.{refl, ap}
use Rattle.std.proofs.Common.{sym, ◌∙◌, arith, length-drop, length-append, drop_of_length-le, drop-cons, drop-drop, take_all, take_at, drop_at}
use mathlib.Core.List.{List, [], ◌∷◌, ◌++◌, append_assoc, append-nil}
use Rattle.std.proofs.Math.Seq.{append_snoc}
use Rattle.std.proofs.lemmas.List.{set_at, set_split}
use Rattle.stream.specs.Reading.{section_bytes}
use Rattle.stream.specs.Buffers.{at_front}
use Rattle.writing.specs.Writing.{Begun}

-- The part of x from a on, as it is lent; and x after the part has come back as y.
abbrev pub part : ℕ → List ℕ → List ℕ
part a x = take (length x - a) (drop a x)

abbrev pub back : ℕ → List ℕ → List ℕ → List ℕ
back a x y = take a x ++ (y ++ drop (length x - a) (drop a x))

pub part_is : (a : ℕ) (x : List ℕ) → part a x ≡ drop a x
part_is a x = take_all (length x - a) (drop a x) (omega (arith, length-drop a x))

pub back_is : (a : ℕ) (x y : List ℕ) → back a x y ≡ take a x ++ y
back_is a x y = rw (drop_of_length-le (drop a x) {i = length x - a} (omega (arith, length-drop a x)), append-nil)

-- One byte, two and four, at the front.
pub byte : (x : List ℕ) (k : ℕ) → 0 < length x → set x 0 k ≡ at_front (k ∷ []) x
byte x k h = set_split x 0 k h

pub two_bytes : (x : List ℕ) (j k : ℕ) → 2 ≤ length x → set (set x 0 j) 1 k ≡ at_front (j ∷ k ∷ []) x
two_bytes [] j k h = absurd (omega arith)
two_bytes (a ∷ []) j k h = absurd (omega arith)
two_bytes (a ∷ b ∷ x) j k h = refl

pub four_bytes : (x : List ℕ) (i j k l : ℕ) → 4 ≤ length x → set (set (set (set x 0 i) 1 j) 2 k) 3 l ≡ at_front (i ∷ j ∷ k ∷ l ∷ []) x
four_bytes [] i j k l h = absurd (omega arith)
four_bytes (a ∷ []) i j k l h = absurd (omega arith)
four_bytes (a ∷ b ∷ []) i j k l h = absurd (omega arith)
four_bytes (a ∷ b ∷ c ∷ []) i j k l h = absurd (omega arith)
four_bytes (a ∷ b ∷ c ∷ d ∷ x) i j k l h = refl

-- The list keeps its length.
pub front_length : (e x : List ℕ) → length e ≤ length x → length (at_front e x) ≡ length x
front_length e x h = omega (arith, length-append e (drop (length e) x), length-drop (length e) x)

module _ (e x y : List ℕ) (a : ℕ) (long : length e ≡ a) (written : y ≡ at_front e x) where
  -- Behind what is written nothing has changed.
  pub beyond : part a y ≡ drop a x
  beyond = part_is a y ∙ rw (written, ← long) (drop_at e (drop (length e) x) (length e) refl)

  -- More is written on the part behind it.
  pub onward : (f z : List ℕ) → z ≡ at_front f (part a y) → back a y z ≡ at_front (e ++ f) x
  onward f z v =
      back_is a y z
      ∙ ap (λ l. l ++ z) (ap (take a) written ∙ take_at e (drop (length e) x) a long)
      ∙ ap (λ l. e ++ l) (v ∙ ap (at_front f) beyond ∙ ap (λ l. f ++ l) (drop-drop (length f) a x))
      ∙ sym (append_assoc e f (drop (a + length f) x))
      ∙ ap (λ n. e ++ f ++ drop n x) sum
    where
      sum : a + length f ≡ length (e ++ f)
      sum = omega (arith, length-append e f)

pub begins : {lent : List ℕ} (k : ℕ) → 0 < length lent → Begun (k ∷ []) lent (set lent 0 k) 1
begins {lent} k h = record { long = refl; buffer = byte lent k h }

module _ {e lent now : List ℕ} {a : ℕ} (begun : Begun e lent now a) where
  pub goes_on : (f : List ℕ) {z : List ℕ} {n : ℕ} → z ≡ at_front f (part a now) → n ≡ length f → Begun (e ++ f) lent (back a now z) (a + n)
  goes_on f {z} h long =
      record {
        long = omega (arith, begun.long, length-append e f);
        buffer = onward e lent now a (sym begun.long) begun.buffer f z h;
      }

  -- One byte more.
  pub byte_on : (k : ℕ) → a < length lent → Begun (e ++ k ∷ []) lent (set now a k) (a + 1)
  byte_on k room =
      let n = length e in
      let long : length (e ++ k ∷ []) ≡ suc n = omega (arith, length-append e (k ∷ [])) in
      record {
        long = omega (arith, begun.long);
        buffer =
            ap (λ l. set l a k) (begun.buffer ∙ ap (λ l. e ++ l) (drop-cons lent n 0 (omega (arith, begun.long))))
            ∙ set_at e (get_or lent n 0) (drop (suc n) lent) k a (sym begun.long)
            ∙ sym (append_snoc e k (drop (suc n) lent))
            ∙ ap (λ m. (e ++ k ∷ []) ++ drop m lent) (sym long);
      }

  pub room_left : length (part a now) ≡ length lent - a
  room_left = ap length (beyond e lent now a (sym begun.long) begun.buffer) ∙ length-drop a lent

  pub length_kept : a ≤ length lent → length now ≡ length lent
  length_kept h = ap length begun.buffer ∙ front_length e lent (omega (arith, begun.long))

-- A section: its count, and its body on the part behind.

abbrev pub count_bytes : ℕ → List ℕ
count_bytes count = count / 256 ∷ count % 256 ∷ []

module _ (count : ℕ) (lent y : List ℕ) (counted : y ≡ at_front (count_bytes count) lent) where
  pub room_behind_count : length (part 2 y) ≡ length lent - 2
  room_behind_count =
      let begun : Begun (count_bytes count) lent y 2 = record { long = refl; buffer = counted } in
      room_left begun

  pub section_written : (body z : List ℕ) → count ≡ length body → z ≡ at_front body (part 2 y) → back 2 y z ≡ at_front (section_bytes body []) lent
  unfolding section_bytes
  section_written body z long h =
      let all : count_bytes count ++ body ≡ section_bytes body [] = rw (long, append-nil body) in
      onward (count_bytes count) lent y 2 refl counted body z h ∙ ap (λ l. at_front l lent) all
