-- The bytes of a nullable type and those of its empty prefix, one for one: 0 gives way to 0, and 4 to 7.
use mathlib.Core.Path.{◌≡◌, refl, ap, ◌∙◌}
use mathlib.Core.List.{List, [], ◌∷◌, ◌++◌, map, map-append}
use Prim.Native.Nat.{ℕ, zero, suc, ◌+◌, ◌*◌, ◌/◌, ◌≤◌, ◌<◌}
use native.Mathlib.Omega.{arith}
use native.Mathlib.Numerals.{add-one}
use lib.ListN.{length, get_or, take}
use lib.Seq.{take-suc}
use Rattle.stream.specs.Types.{Ty, Nullable, null_empty, null_par}
use Rattle.stream.specs.Prefixes.{empty_prefix}
use Rattle.stream.specs.TypeFiles.{type_bytes}
use Rattle.stream.specs.SliceFiles.{prefix_bytes}
use Rattle.writing.specs.Writing.{SilenceDue}

abbrev pub silence : ℕ → ℕ
silence k = k / 4 * 7

pub silent_bytes : {t : Ty} → Nullable t → (r : List ℕ) → map silence (type_bytes t r) ≡ prefix_bytes (empty_prefix t) (map silence r)
unfolding type_bytes prefix_bytes empty_prefix
silent_bytes null_empty r = refl
silent_bytes (null_par {s} {t} h k) r =
    ap (λ l. 7 ∷ l) (silent_bytes h (type_bytes t r) ∙ ap (prefix_bytes (empty_prefix s)) (silent_bytes k r))

-- No byte of a nullable type is more than 4.

abbrev Low : List ℕ → Type 0
Low bytes = (i : ℕ) → get_or bytes i 0 ≤ 4

low_cons : (k : ℕ) (r : List ℕ) → k ≤ 4 → Low r → Low (k ∷ r)
low_cons k r h low zero = h
low_cons k r h low (suc i) = low i

low_type : {t : Ty} → Nullable t → (r : List ℕ) → Low r → Low (type_bytes t r)
unfolding type_bytes
low_type null_empty r low = low_cons 0 r (omega arith) low
low_type (null_par {s} {t} h k) r low =
    low_cons 4 (type_bytes s (type_bytes t r)) (omega arith) (low_type h (type_bytes t r) (low_type k r low))

module _ {source lent : List ℕ} (due : SilenceDue source lent) where
  pub stays_low : (i : ℕ) → get_or source i 0 ≤ 4
  stays_low i = rw due.bytes (low_type due.is_nullable [] (λ j. omega arith) i)

  pub all_silent : map silence source ≡ prefix_bytes (empty_prefix due.type) []
  all_silent = ap (map silence) due.bytes ∙ silent_bytes due.is_nullable []

-- One byte more.
pub one_more : (source : List ℕ) (at : ℕ) → at < length source
    → map silence (take (at + 1) source) ≡ map silence (take at source) ++ silence (get_or source at 0) ∷ []
one_more source at h =
    ap (λ n. map silence (take n source)) (add-one at)
    ∙ ap (map silence) (take-suc source at 0 h)
    ∙ map-append silence (take at source) (get_or source at 0 ∷ [])
