-- Numbers of any width: how many bytes they take, that these are bytes, and that a number is read as it was written.
use Rattle.std.specs.Prelude.{◌≡◌, refl, ◌⊎◌, Bool, true, false, List, [], ◌∷◌, ◌++◌, ℕ, zero, suc, ◌+◌, ◌*◌, ◌/◌, ◌%◌, ◌≤◌, ◌<◌, leb, length, get_or, take, drop}
use Rattle.std.proofs.Common.{ap, ap₂, ◌∙◌, inl, inr, ⊎_elim, arith, drop_of_length-le, drop-cons, take_at, drop_at, leb-true, leb-false}
use Rattle.stream.specs.declared.Fault.{Fault}
use Rattle.stream.specs.Reading.{Bytes, Reading, read, fault, read_on, next_byte, number_bytes, read_number}
use Rattle.stream.proofs.Reading.Laws.{bytes_cons, bytes_tail, read_on_read, FoundContents}
use Rattle.stream.proofs.Reading.Refusals.{Faults, read_on_faults}

-- The numbers of so many bytes lie below this.
unfoldable pub number_limit : ℕ → ℕ
number_limit zero = 1
number_limit (suc w) = 256 * number_limit w

-- A number's bytes, and what is behind them

pub number_length : (w v : ℕ) (r : List ℕ) → length (number_bytes w v r) ≡ w + length r
unfolding number_bytes
number_length zero v r = omega arith
number_length (suc w) v r = omega (arith, number_length w (v / 256) (v % 256 ∷ r))

pub number_append : (w v : ℕ) (r s : List ℕ) → number_bytes w v (r ++ s) ≡ number_bytes w v r ++ s
unfolding number_bytes
number_append zero v r s = refl
number_append (suc w) v r s = number_append w (v / 256) (v % 256 ∷ r) s

module _ (w v : ℕ) (r : List ℕ) where
  wide : length (number_bytes w v []) ≡ w
  wide = omega (arith, number_length w v [])

  pub number_front : take w (number_bytes w v r) ≡ number_bytes w v []
  number_front = ap (take w) (number_append w v [] r) ∙ take_at (number_bytes w v []) r w wide

  pub number_behind : drop w (number_bytes w v r) ≡ r
  number_behind = ap (drop w) (number_append w v [] r) ∙ drop_at (number_bytes w v []) r w wide

pub number_is_bytes : (w v : ℕ) (r : List ℕ) → Bytes r → Bytes (number_bytes w v r)
unfolding number_bytes
number_is_bytes zero v r b = b
number_is_bytes (suc w) v r b = number_is_bytes w (v / 256) (v % 256 ∷ r) (bytes_cons (v % 256) r (omega arith) b)

-- Reading what was written

abbrev low_byte : Fault → ℕ → List ℕ → Reading ℕ
low_byte if_short high r = read_on (next_byte if_short r) (λ low x. read (high * 256 + low) x)

pub number_reads : (if_short : Fault) (w v : ℕ) (r : List ℕ) → v < number_limit w → read_number if_short w (number_bytes w v r) ≡ read v r
unfolding read_number number_bytes number_limit
number_reads if_short zero v r h = ap₂ read (omega arith) refl
number_reads if_short (suc w) v r h =
    ap (λ g. read_on g (low_byte if_short)) (number_reads if_short w (v / 256) (v % 256 ∷ r) (omega arith)) ∙ ap₂ read (omega arith) refl

-- What was read was written

pub number_sound : (if_short : Fault) (w : ℕ) (s : List ℕ) (v : ℕ) (r : List ℕ) → Bytes s → read_number if_short w s ≡ read v r
    → FoundContents (number_bytes w) (λ x. x < number_limit w) s v r
unfolding read_number number_bytes number_limit
number_sound if_short zero s v r b e =
    let n : 0 ≡ v = cc in
    let t : s ≡ r = cc in
    record { bytes = rw t; within = omega arith; rest = rw t at b }
number_sound if_short (suc w) s v r b e =
    let x = read_on_read (read_number if_short w s) (low_byte if_short) v r e in
    let f = number_sound if_short w s x.0 x.1 b x.2 in
    last x.0 x.1 f.bytes f.within f.rest x.3
  where
    last : (h : ℕ) (x : List ℕ) → number_bytes w h x ≡ s → h < number_limit w → Bytes x → low_byte if_short h x ≡ read v r
        → FoundContents (number_bytes (suc w)) (λ y. y < number_limit (suc w)) s v r
    last h [] d k c e = let z : ◌≡◌ {A = ℕ} 0 1 = cc in absurd (omega arith)
    last h (l ∷ x) d k c e =
        let n : h * 256 + l ≡ v = cc in
        let t : x ≡ r = cc in
        let i : v / 256 ≡ h = omega (arith, c 0) in
        let j : v % 256 ≡ l = omega (arith, c 0) in
        record { bytes = rw (i, j, ← t) d; within = omega (arith, c 0); rest = rw t at (bytes_tail l x c) }

pub number_faults : (P : Fault → Type 0) (if_short : Fault) → P if_short → (w : ℕ) (s : List ℕ) → Faults P (read_number if_short w s)
unfolding read_number
number_faults P if_short c zero s = tt
number_faults P if_short c (suc w) s = read_on_faults P (read_number if_short w s) (low_byte if_short) (number_faults P if_short c w s) next
  where
    next : (h : ℕ) (r : List ℕ) → Faults P (low_byte if_short h r)
    next h [] = c
    next h (l ∷ r) = tt

-- Whether a number is there is a matter of lengths alone: all that a loop over the bytes asks.

pub long_or_short : (w : ℕ) (s : List ℕ) → (w ≤ length s) ⊎ (length s < w)
long_or_short w s = go (leb w (length s)) refl
  where
    go : (b : Bool) → leb w (length s) ≡ b → (w ≤ length s) ⊎ (length s < w)
    go true e = inl (leb-true w (length s) e)
    go false e = inr (leb-false w (length s) e)

pub number_there : (if_short : Fault) (w : ℕ) (s : List ℕ) → w ≤ length s → (v : ℕ) × (read_number if_short w s ≡ read v (drop w s))
unfolding read_number
number_there if_short zero s h = (0, refl)
number_there if_short (suc w) s h =
    let high = number_there if_short w s (omega arith) in
    (high.0 * 256 + get_or s w 0, ap (λ g. read_on g (low_byte if_short)) high.1 ∙ ap (low_byte if_short high.0) (drop-cons s w 0 h))

pub number_missing : (if_short : Fault) (w : ℕ) (s : List ℕ) → length s < w → read_number if_short w s ≡ fault if_short
unfolding read_number
number_missing if_short zero s h = absurd (omega arith)
number_missing if_short (suc w) s h =
    ⊎_elim last (λ k. ap (λ g. read_on g (low_byte if_short)) (number_missing if_short w s k)) (long_or_short w s)
  where
    last : w ≤ length s → read_on (read_number if_short w s) (low_byte if_short) ≡ fault if_short
    last k =
        let high = number_there if_short w s k in
        let none : length s ≤ w = omega arith in
        ap (λ g. read_on g (low_byte if_short)) high.1 ∙ ap (low_byte if_short high.0) (drop_of_length-le s none)
