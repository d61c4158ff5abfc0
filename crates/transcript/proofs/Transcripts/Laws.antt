-- What is true of the program's lines and files.
use Rattle.std.specs.Prelude.{◌≡◌, refl, List, [], ◌∷◌, ◌++◌, Bool, true, false, ℕ, zero, suc, ◌+◌, ◌*◌, ◌/◌, ◌%◌, ◌≤◌, ◌<◌, leb, length, get_or, take, drop}
use Rattle.std.proofs.Common.{sym, ap, ap₂, ◌∙◌, append_assoc, arith, le-leb, add-one, length-drop, length-append, take-suc}
use Rattle.std.proofs.lemmas.Bool.{lt-leb}
use Rattle.std.proofs.lemmas.List.{take-append-le, drop-append-le}
use Rattle.transcript.specs.Transcripts.{files_within, files, digit, number_line, hexadecimal, fed_line}

-- Digits and letters; numbers of one digit and of two.

pub digit_low : (d : ℕ) → d < 10 → digit d ≡ 48 + d
unfolding digit
digit_low d h = rw (lt-leb 10 d h, digit)

pub digit_high : (d : ℕ) → 10 ≤ d → digit d ≡ 87 + d
unfolding digit
digit_high d h = rw (le-leb 10 d h, digit)

pub one_digit : (n : ℕ) → n < 10 → number_line n ≡ digit n ∷ 10 ∷ []
unfolding number_line
one_digit n h = rw (lt-leb 10 n h, number_line)

pub two_digits : (n : ℕ) → 10 ≤ n → number_line n ≡ digit (n / 10) ∷ digit (n % 10) ∷ 10 ∷ []
unfolding number_line
two_digits n h = rw (le-leb 10 n h, number_line)

pub number_line_length : (n : ℕ) → length (number_line n) ≤ 3
unfolding number_line
number_line_length n = go (leb 10 n) refl
  where
    go : (t : Bool) → leb 10 n ≡ t → length (number_line n) ≤ 3
    go true e = rw (e, number_line) (omega arith)
    go false e = rw (e, number_line) (omega arith)

-- Hexadecimal goes byte by byte.

pub hexadecimal_length : (s : List ℕ) → length (hexadecimal s) ≡ 2 * length s
unfolding hexadecimal
hexadecimal_length [] = refl
hexadecimal_length (b ∷ s) = omega (arith, hexadecimal_length s)

pub hexadecimal_append : (s r : List ℕ) → hexadecimal (s ++ r) ≡ hexadecimal s ++ hexadecimal r
unfolding hexadecimal
hexadecimal_append [] r = refl
hexadecimal_append (b ∷ s) r = ap (λ l. digit (b / 16) ∷ digit (b % 16) ∷ l) (hexadecimal_append s r)

pub fed_line_length : (output type : List ℕ) → length (fed_line output type) ≡ 4 + 2 * length output + 2 * length type
fed_line_length output type =
    let opening = (48 ∷ 32 ∷ []) ++ hexadecimal output in
    omega (
      arith,
      length-append (opening ++ (32 ∷ []) ++ hexadecimal type) (10 ∷ []),
      length-append (opening ++ (32 ∷ [])) (hexadecimal type),
      length-append opening (32 ∷ []),
      length-append (48 ∷ 32 ∷ []) (hexadecimal output),
      hexadecimal_length output,
      hexadecimal_length type,
    )

-- One byte more.
pub hexadecimal_more : (s : List ℕ) (at : ℕ) → at < length s
    → hexadecimal (take (at + 1) s) ≡ hexadecimal (take at s) ++ digit (get_or s at 0 / 16) ∷ [] ++ digit (get_or s at 0 % 16) ∷ []
unfolding hexadecimal
hexadecimal_more s at h =
    ap hexadecimal (ap (λ n. take n s) (add-one at) ∙ take-suc s at 0 h)
    ∙ hexadecimal_append (take at s) (get_or s at 0 ∷ [])
    ∙ sym (append_assoc (hexadecimal (take at s)) (digit (get_or s at 0 / 16) ∷ []) (digit (get_or s at 0 % 16) ∷ []))

-- Files

-- Any number of turns that is enough will do.
turns : (n m : ℕ) (s : List ℕ) → length s ≤ n → length s ≤ m → files_within n s ≡ files_within m s
unfolding files_within
turns zero zero s h k = refl
turns zero (suc m) [] h k = refl
turns zero (suc m) (b ∷ s) h k = absurd (omega arith)
turns (suc n) zero [] h k = refl
turns (suc n) zero (b ∷ s) h k = absurd (omega arith)
turns (suc n) (suc m) [] h k = refl
turns (suc n) (suc m) (b ∷ []) h k = refl
turns (suc n) (suc m) (b ∷ l ∷ s) h k =
    let rest = drop (b * 256 + l) s in
    let short = length-drop (b * 256 + l) s in
    let e = turns n m rest (omega (arith, short)) (omega (arith, short)) in
    ap (λ r. elim (leb (b * 256 + l) (length s)) as (λ t. List (List ℕ)) [ true ↦ take (b * 256 + l) s ∷ r | false ↦ [] ]) e

whole : (n h l : ℕ) (s : List ℕ) → h * 256 + l ≤ length s
    → files_within (suc n) (h ∷ l ∷ s) ≡ take (h * 256 + l) s ∷ files_within n (drop (h * 256 + l) s)
unfolding files_within
whole n h l s inside = rw (le-leb (h * 256 + l) (length s) inside, files_within)

-- The first file of a stream is whole, and what comes behind it changes nothing; or none is.
pub file_first : (h l : ℕ) (s more : List ℕ) → h * 256 + l ≤ length s
    → files (h ∷ l ∷ s ++ more) ≡ take (h * 256 + l) s ∷ files (drop (h * 256 + l) s ++ more)
unfolding files_within files
file_first h l s more inside =
    let k = h * 256 + l in
    let n = length (s ++ more) in
    let rest = drop k s ++ more in
    let short = length-drop k (s ++ more) in
    let e = drop-append-le k s more inside in
    whole (suc n) h l (s ++ more) (omega (arith, length-append s more))
    ∙ ap₂ (λ f r. f ∷ r) (take-append-le k s more inside)
    (ap (files_within (suc n)) e ∙ turns (suc n) (length rest) rest (omega (arith, short, ap length e)) (omega arith))

pub no_first : (h l : ℕ) (s : List ℕ) → length s < h * 256 + l → files (h ∷ l ∷ s) ≡ []
unfolding files_within files
no_first h l s short = rw (lt-leb (h * 256 + l) (length s) short, files_within)
