-- The arrivals of a prefix, counted by one loop over its bytes: each node that is passed counts for its kind, and what was counted at the
-- end is the tally of the whole (`Run`).
use mathlib.Core.Path.{◌≡◌, refl, sym, ap, ◌∙◌}
use mathlib.Core.List.{List, []}
use Prim.Native.Nat.{ℕ, zero, suc, ◌+◌, ◌-◌, ◌≤◌, ◌<◌}
use native.Mathlib.Omega.{arith}
use lib.ListN.{length, get_or}
use Rattle.stream.specs.Prefixes.{Prefix, arrivals}
use Rattle.stream.specs.Prefixes.Kinds.{prefix_arity, root_width, arrivals_by_kind, root_arrivals, totals, arrivals-tally}
use Rattle.stream.proofs.Reading.Laws.{◌&◌, past, every}
use Rattle.stream.specs.SliceFiles.{prefix_bytes}
use Rattle.reading.specs.SliceReads.{prefix_width, PrefixAt}
use Rattle.reading.specs.SliceReads.Laws.{prefix_bytes_length}
use Rattle.reading.proofs.PrefixWalk.{Run, starts, within, finished, summed, turned}

-- On the way through the prefix p, whose bytes these are: `count` arrivals were in the nodes before `next`, each of which has a byte.
pub record Counting (bytes : List ℕ) (p : Prefix) (count next : ℕ) : Type 0 where
  pub passed : List ℕ
  pub owed : ℕ
  pub run : Run bytes 0 p passed owed next
  pub counted : count ≡ totals root_arrivals passed
  pub few : count ≤ next

stands : {bytes : List ℕ} {p : Prefix} → prefix_bytes p [] ≡ bytes → PrefixAt bytes 0 p
stands whole = record { rest = []; here = sym whole }

wide : {bytes : List ℕ} (p : Prefix) → prefix_bytes p [] ≡ bytes → length bytes ≡ prefix_width p
wide p whole = omega (arith, ap length whole, prefix_bytes_length p [])

pub none-counted : {bytes : List ℕ} {p : Prefix} → prefix_bytes p [] ≡ bytes → Counting bytes p 0 0
none-counted {p = p} whole = record { passed = []; owed = 1; run = starts p (stands whole); counted = refl; few = omega arith }

-- A cue or a level that has come is one; nothing else is.

pub cue_arrived : (k : ℕ) → k ≡ 2 → root_arrivals k ≡ 1
cue_arrived k e = rw e

pub level_arrived : (k : ℕ) → k ≡ 4 → root_arrivals k ≡ 1
level_arrived k e = rw e

pub none_arrived : (k : ℕ) → (k ≡ 2 → ⊥) → (k ≡ 4 → ⊥) → root_arrivals k ≡ 0
none_arrived =
    every (λ k n. (k ≡ 2 → ⊥) → (k ≡ 4 → ⊥) → n ≡ 0) 0 arrivals_by_kind
    ((λ h l. refl)
    & (λ h l. refl)
    & (λ h l. absurd (h refl))
    & (λ h l. refl)
    & (λ h l. absurd (l refl))
    & (λ h l. refl)
    & (λ h l. refl)
    & (λ h l. refl)
    & (λ h l. refl)
    & (λ h l. refl)
    & (λ h l. refl)
    & past (λ k long h l. refl))

module _ {bytes : List ℕ} {p : Prefix} {count next : ℕ} (whole : prefix_bytes p [] ≡ bytes) (counting : Counting bytes p count next) where
  inside : next + counting.owed ≤ length bytes
  inside = omega (arith, wide p whole, within counting.run)

  still_owed : next < length bytes → 0 < counting.owed
  still_owed more = go counting.owed refl
    where
      go : (n : ℕ) → counting.owed ≡ n → 0 < counting.owed
      go zero none = absurd (omega (arith, wide p whole, finished counting.run none))
      go (suc n) some = omega arith

  -- The kind byte come to is counted, and passed with its value.
  pub counted_on : {later behind : ℕ} → next < length bytes → later ≡ count + root_arrivals (get_or bytes next 0)
      → behind ≡ next + root_width (get_or bytes next 0) → later ≤ behind → Counting bytes p later behind
  counted_on more is_later is_behind fits =
      record {
        passed = _;
        owed = counting.owed + prefix_arity (get_or bytes next 0) - 1;
        run = turned counting.run (still_owed more) _ _ (omega (arith, still_owed more)) is_behind;
        counted = omega (arith, counting.counted);
        few = fits;
      }

  pub counted_all : length bytes ≤ next → count ≡ arrivals p
  counted_all at_end =
      let none : counting.owed ≡ 0 = omega (arith, inside) in
      counting.counted ∙ summed counting.run none root_arrivals ∙ sym (arrivals-tally p)
