-- A value is read as it was written: the laws of numbers at the width of a value.
use Rattle.std.specs.Prelude.{◌≡◌, refl, List, [], ◌++◌, ℕ, ◌+◌, ◌≤◌, ◌<◌, length, take, drop}
use Rattle.stream.specs.declared.Fault.{Fault}
use Rattle.stream.specs.Reading.{Bytes, read, fault}
use Rattle.stream.proofs.Reading.Laws.{FoundContents}
use Rattle.stream.proofs.Reading.Numbers.{number_limit, number_length, number_append, number_front, number_behind, number_is_bytes, number_reads, number_sound, number_faults, number_there, number_missing}
use Rattle.stream.proofs.Reading.Refusals.{Faults}
use Rattle.stream.specs.Levels.{level_limit, value_bytes, read_value, value_width}

pub level_limit_is : level_limit ≡ number_limit value_width
unfolding level_limit number_limit
level_limit_is = refl

pub value_length : (v : ℕ) (r : List ℕ) → length (value_bytes v r) ≡ value_width + length r
value_length v r = number_length value_width v r

pub value_append : (v : ℕ) (r s : List ℕ) → value_bytes v (r ++ s) ≡ value_bytes v r ++ s
value_append v r s = number_append value_width v r s

pub value_front : (v : ℕ) (r : List ℕ) → take value_width (value_bytes v r) ≡ value_bytes v []
value_front v r = number_front value_width v r

pub value_behind : (v : ℕ) (r : List ℕ) → drop value_width (value_bytes v r) ≡ r
value_behind v r = number_behind value_width v r

pub value_is_bytes : (v : ℕ) (r : List ℕ) → Bytes r → Bytes (value_bytes v r)
value_is_bytes v r b = number_is_bytes value_width v r b

pub value_reads : (if_short : Fault) (v : ℕ) (r : List ℕ) → v < level_limit → read_value if_short (value_bytes v r) ≡ read v r
value_reads if_short v r h = number_reads if_short value_width v r (rw level_limit_is at h)

pub value_sound : (if_short : Fault) (s : List ℕ) (v : ℕ) (r : List ℕ) → Bytes s → read_value if_short s ≡ read v r
    → FoundContents value_bytes (λ x. x < level_limit) s v r
value_sound if_short s v r b e =
    let f = number_sound if_short value_width s v r b e in
    record { bytes = f.bytes; within = rw level_limit_is f.within; rest = f.rest }

pub value_faults : (P : Fault → Type 0) (if_short : Fault) → P if_short → (s : List ℕ) → Faults P (read_value if_short s)
value_faults P if_short c s = number_faults P if_short c value_width s

pub value_there : (if_short : Fault) (s : List ℕ) → value_width ≤ length s → (v : ℕ) × (read_value if_short s ≡ read v (drop value_width s))
value_there if_short s h = number_there if_short value_width s h

pub value_missing : (if_short : Fault) (s : List ℕ) → length s < value_width → read_value if_short s ≡ fault if_short
value_missing if_short s h = number_missing if_short value_width s h
