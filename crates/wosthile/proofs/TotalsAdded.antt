-- Totals as they stand in a patch file, and the counts added to them.
use mathlib.Core.Path.{◌≡◌, refl, sym, ap, ◌∙◌, subst}
use mathlib.Core.Bool.{Bool, true, false}
use mathlib.Core.List.{List, [], ◌++◌, append-nil}
use Prim.Native.Nat.{ℕ, ◌+◌, ◌-◌, ◌/◌, ◌%◌, ◌≤◌, ◌<◌}
use native.Mathlib.Omega.{arith, by_contra}
use native.Mathlib.Nat.{add-zero}
use lib.ListN.{length, get_or, take, drop, drop_of_length-le}
use lib.Seq.{get_or-drop}
use Rattle.std.proofs.Common.{length-drop}
use Rattle.std.specs.Prelude.{Option, Some, None, Result, Ok, Err, SomeIff, ok_or, cond, ◌^◌}
use Rattle.stream.specs.Reading.{Bytes, found, number_bytes}
use Rattle.stream.proofs.Reading.Laws.{bytes_drop}
use Rattle.stream.proofs.Reading.Numbers.{number_behind, number_append, number_length}
use Rattle.stream.specs.Buffers.{at_front}
use Rattle.stream.specs.declared.Fault.{Fault}
use Rattle.stream.specs.declared.Fault.TheVariants.{TotalTooLarge}
use Rattle.reading.proofs.TypeFronts.{from_on}
use Rattle.writing.specs.Writing.{Begun}
use Rattle.writing.specs.Writing.Laws.{part, back, goes_on}
use Rattle.node.specs.Totals.{Totals, Held, held, total_limit, total_width, totals_bytes, read_totals}
use Rattle.node.proofs.Totals.Laws.{held_test, totals_length, totals_there, read_totals_sound}
use Rattle.patch_reading.specs.Found.{AreTotals, totals_of}
use Rattle.wosthile.specs.TotalsLeft.{total_in, counted, adds, Sums}

total_stands : (bytes : List ℕ) (at v : ℕ) (r : List ℕ) → drop at bytes ≡ number_bytes total_width v r → v ≤ total_limit → total_in bytes at ≡ v
unfolding number_bytes total_limit
total_stands bytes at v r e h =
    let first : get_or bytes at 0 ≡ v / 256 / 256 / 256 % 256 = sym (rw add-zero at (get_or-drop at bytes 0 0)) ∙ ap (λ l. get_or l 0 0) e in
    let second : get_or bytes (at + 1) 0 ≡ v / 256 / 256 % 256 = sym (get_or-drop at bytes 1 0) ∙ ap (λ l. get_or l 1 0) e in
    let third : get_or bytes (at + 2) 0 ≡ v / 256 % 256 = sym (get_or-drop at bytes 2 0) ∙ ap (λ l. get_or l 2 0) e in
    let fourth : get_or bytes (at + 3) 0 ≡ v % 256 = sym (get_or-drop at bytes 3 0) ∙ ap (λ l. get_or l 3 0) e in
    omega (arith, first, second, third, fourth, h)

-- The totals of a patch are its bytes.
module _ {s : List ℕ} (are : AreTotals s) where
  abbrev c : Totals
  c = totals_of s

  within : Held c
  within = (held_test c).0 are.1

  pub totals_eight : length s ≡ 8
  totals_eight = sym (ap length are.0) ∙ totals_length c []

  came_stands : total_in s 0 ≡ c.arrived
  unfolding totals_bytes
  came_stands = total_stands s 0 c.arrived _ (sym are.0) within.arrived

  went_stands : total_in s 4 ≡ c.sent
  unfolding totals_bytes
  went_stands =
      total_stands s 4 c.sent [] (ap (drop 4) (sym are.0) ∙ number_behind total_width c.arrived (number_bytes total_width c.sent [])) within.sent

-- Any eight bytes are totals; so are the last eight of a patch.

eight_are : (s : List ℕ) → Bytes s → length s ≡ 8 → AreTotals s
unfolding totals_of
eight_are s b long =
    let there = totals_there s (omega (arith, long)) in
    let f = read_totals_sound s there.0 (drop 8 s) b there.1 in
    let none : drop 8 s ≡ [] = drop_of_length-le s {i = 8} (omega (arith, long)) in
    let is : found (record { arrived = 0; sent = 0 }) (read_totals s) ≡ there.0 = ap (found _) there.1 in
    (rw is (rw none at f.bytes), rw is ((held_test there.0).1 f.within))

pub last_are : (s : List ℕ) → Bytes s → 8 ≤ length s → AreTotals (drop (length s - 8) s)
last_are s b least =
    eight_are (drop (length s - 8) s) (bytes_drop (length s - 8) s b) (omega (arith, length-drop (length s - 8) s))

-- These are read in the part of the patch that they are.
pub in_last : (s : List ℕ) (at : ℕ) → total_in (take (length s - (length s - 8)) (drop (length s - 8) s)) at ≡ total_in (drop (length s - 8) s) at
in_last s at = ap (λ l. total_in l at) (from_on (length s - 8) s)

-- Of totals alone they are all.
pub of_all : {s : List ℕ} → AreTotals s → (arrived sent : ℕ) {written : List ℕ} {answer : Result (Unit {0}) Fault}
    → Sums (counted (totals_of (drop (length s - 8) s)) arrived sent) written answer → Sums (counted (totals_of s) arrived sent) written answer
of_all {s} are arrived sent {written} {answer} sums =
    let all : drop (length s - 8) s ≡ s = ap (λ n. drop (n - 8) s) (totals_eight are) in
    subst (λ l. Sums (counted (totals_of l) arrived sent) written answer) all sums

not_held : (c : Totals) → (Held c → ⊥) → held c ≡ false
not_held c passed = go (held c) refl
  where
    go : (b : Bool) → held c ≡ b → b ≡ false
    go true e = absurd (passed ((held_test c).0 e))
    go false e = refl

-- Both sums on eight bytes, the second on the part behind the first.
pub sums_written : (lent : List ℕ) (a b : ℕ) {now : List ℕ} → length lent ≡ 8 → now ≡ at_front (number_bytes total_width a []) lent
    → {rest : List ℕ} → rest ≡ at_front (number_bytes total_width b []) (part 4 now)
    → back 4 now rest ≡ totals_bytes (record { arrived = a; sent = b }) []
unfolding totals_bytes
sums_written lent a b {now} long first {rest} more =
    let begun : Begun (number_bytes total_width a []) lent now 4 = record { long = sym (number_length total_width a []); buffer = first } in
    let all = goes_on begun (number_bytes total_width b []) more (sym (number_length total_width b [])) in
    let whole : 8 ≡ length (number_bytes total_width a [] ++ number_bytes total_width b []) = all.long in
    all.buffer
    ∙ ap (λ l. (number_bytes total_width a [] ++ number_bytes total_width b []) ++ l) (drop_of_length-le lent {i = length (number_bytes total_width a [] ++ number_bytes total_width b [])} (omega (arith, long, whole)))
    ∙ append-nil (number_bytes total_width a [] ++ number_bytes total_width b [])
    ∙ sym (number_append total_width a [] (number_bytes total_width b []))

-- What the adder tells says whether the totals are held.

pub is_held : (totals : Totals) {answer : Result (Unit {0}) Fault} → answer ≡ adds totals → answer ≡ Ok tt → held totals ≡ true
unfolding adds
is_held totals told fit = go (held totals) (sym fit ∙ told)
  where
    go : (b : Bool) → Ok (tt {0}) ≡ cond b (Ok tt) (Err TotalTooLarge) → b ≡ true
    go true e = refl
    go false e = let z : ◌≡◌ {A = ℕ} 0 1 = cc in absurd (omega arith)

pub has_passed : (totals : Totals) {answer : Result (Unit {0}) Fault} {e : Fault} → answer ≡ adds totals → answer ≡ Err e
    → (held totals ≡ false) × (e ≡ TotalTooLarge)
unfolding adds
has_passed totals {e = e} told over = go (held totals) (sym over ∙ told)
  where
    go : (b : Bool) → Err e ≡ cond b (Ok (tt {0})) (Err TotalTooLarge) → (b ≡ false) × (e ≡ TotalTooLarge)
    go true z = let x : ◌≡◌ {A = ℕ} 0 1 = cc in absurd (omega arith)
    go false z = (refl, cc)

-- A sum that is made, and one that passes the limit.

pub sum_made : {sum n : ℕ} (made : Option ℕ) {answer : Result ℕ Fault} → SomeIff made (sum < 2 ^ 32) sum → answer ≡ ok_or made TotalTooLarge
    → answer ≡ Ok n → (n ≤ 4294967295) × (n ≡ sum)
sum_made {sum} {n} made sums told ok = go made sums (sym ok ∙ told)
  where
    go : (o : Option ℕ) → SomeIff o (sum < 2 ^ 32) sum → Ok n ≡ ok_or o TotalTooLarge → (n ≤ 4294967295) × (n ≡ sum)
    go (Some m) s e = let same : n ≡ m = cc in (omega (arith, s.0, s.1), same ∙ s.1)
    go None s e = let z : ◌≡◌ {A = ℕ} 0 1 = cc in absurd (omega arith)

pub sum_passed : {sum : ℕ} {fault : Fault} (made : Option ℕ) {answer : Result ℕ Fault} → SomeIff made (sum < 2 ^ 32) sum
    → answer ≡ ok_or made TotalTooLarge → answer ≡ Err fault → (4294967295 < sum) × (fault ≡ TotalTooLarge)
sum_passed {sum} {fault} made sums told err = go made sums (sym err ∙ told)
  where
    go : (o : Option ℕ) → SomeIff o (sum < 2 ^ 32) sum → Err fault ≡ ok_or o TotalTooLarge → (4294967295 < sum) × (fault ≡ TotalTooLarge)
    go (Some m) s e = let z : ◌≡◌ {A = ℕ} 0 1 = cc in absurd (omega arith)
    go None s e = (by_contra _ _ (λ few. s (omega (arith, few))), cc)

-- What is told where a sum passes the limit, and where none does.

passed : {totals : Totals} {written : List ℕ} → (Held totals → ⊥) → Sums totals written (Err TotalTooLarge)
unfolding adds
passed over = record { told = rw (not_held _ over); bytes = λ e. let z : ◌≡◌ {A = ℕ} 0 1 = cc in absurd (omega arith) }

module _ {s : List ℕ} (are : AreTotals s) {written : List ℕ} (arrived sent : ℕ) where
  pub arrived_passed : 4294967295 < total_in s 0 + arrived → Sums (counted (totals_of s) arrived sent) written (Err TotalTooLarge)
  unfolding total_limit
  arrived_passed over = passed (λ w. omega (arith, w.arrived, came_stands are))

  pub sent_passed : 4294967295 < total_in s 4 + sent → Sums (counted (totals_of s) arrived sent) written (Err TotalTooLarge)
  unfolding total_limit
  sent_passed over = passed (λ w. omega (arith, w.sent, went_stands are))

  pub sums_held : {came went : ℕ} → came ≡ total_in s 0 + arrived → came ≤ 4294967295 → went ≡ total_in s 4 + sent → went ≤ 4294967295
      → written ≡ totals_bytes (record { arrived = came; sent = went }) [] → Sums (counted (totals_of s) arrived sent) written (Ok tt)
  unfolding total_limit adds
  sums_held {came} {went} came_is came_fits went_is went_fits is =
      let next = counted (totals_of s) arrived sent in
      let x : came ≡ next.arrived = came_is ∙ ap (λ n. n + arrived) (came_stands are) in
      let y : went ≡ next.sent = went_is ∙ ap (λ n. n + sent) (went_stands are) in
      record {
        told = rw ((held_test next).1 (record { arrived = omega (arith, x); sent = omega (arith, y) }));
        bytes = λ e. is ∙ (λ i. totals_bytes (record { arrived = x i; sent = y i }) []);
      }
