-- Totals are read as they were written, and what was read was written; the test of their limit is the limit.
use Rattle.std.specs.Prelude.{◌≡◌, true, ◌↔◌, List, [], ℕ, ◌+◌, ◌≤◌, ◌<◌, leb, length, drop}
use Rattle.std.proofs.Common.{ap, ◌∙◌, ⊎_elim, arith, length-drop, drop-drop, leb-true, le-leb}
use Rattle.stream.specs.declared.Fault.{Fault}
use Rattle.stream.specs.declared.Fault.TheVariants.{CutShort, LeftOver}
use Rattle.stream.proofs.Types.Laws.{and_left, and_right, and_both}
use Rattle.stream.specs.Reading.{Bytes, Reading, read, fault, read_on, number_bytes, read_number, section_bytes}
use Rattle.stream.proofs.Reading.Laws.{section_reads, section_sound, section_is_bytes, read_on_read, bytes_nil, FoundContents}
use Rattle.stream.proofs.Reading.Numbers.{number_limit, number_length, number_is_bytes, number_reads, number_sound, number_faults, long_or_short, number_there, number_missing}
use Rattle.stream.proofs.Reading.Refusals.{Faults, read_on_faults, section_faults}
use Rattle.node.specs.Totals.{Totals, total_width, total_limit, Held, held, totals_bytes, read_totals, totals_section}

-- The limit, as a test and by the width.

pub held_test : (c : Totals) → held c ≡ true ↔ Held c
unfolding held
held_test c = (
  (λ e. record {
    arrived = leb-true _ _ (and_left (leb c.arrived total_limit) _ e);
    sent = leb-true _ _ (and_right (leb c.arrived total_limit) _ e);
  }),
  (λ w. and_both (le-leb _ _ w.arrived) (le-leb _ _ w.sent)),
)

pub fits_width : {v : ℕ} → v ≤ total_limit → v < number_limit total_width
unfolding total_limit number_limit
fits_width h = omega (arith, h)

pub within_limit : {v : ℕ} → v < number_limit total_width → v ≤ total_limit
unfolding total_limit number_limit
within_limit h = omega (arith, h)

-- Lengths, and that they are bytes

pub totals_length : (c : Totals) (r : List ℕ) → length (totals_bytes c r) ≡ 8 + length r
unfolding totals_bytes
totals_length c r =
    omega (arith, number_length total_width c.arrived (number_bytes total_width c.sent r), number_length total_width c.sent r)

pub totals_section_is_bytes : (c : Totals) (r : List ℕ) → Bytes r → Bytes (section_bytes (totals_bytes c []) r)
unfolding totals_bytes
totals_section_is_bytes c r b =
    section_is_bytes (totals_bytes c []) r (omega (arith, totals_length c []))
    (number_is_bytes total_width c.arrived (number_bytes total_width c.sent []) (number_is_bytes total_width c.sent [] bytes_nil)) b

-- Reading what was written

read_totals_reads : (c : Totals) (r : List ℕ) → Held c → read_totals (totals_bytes c r) ≡ read c r
unfolding read_totals totals_bytes
read_totals_reads c r h =
    rw (
      number_reads CutShort total_width c.arrived (number_bytes total_width c.sent r) (fits_width h.arrived),
      number_reads CutShort total_width c.sent r (fits_width h.sent),
    )

pub totals_section_reads : (c : Totals) (r : List ℕ) → Held c → totals_section (section_bytes (totals_bytes c []) r) ≡ read c r
unfolding totals_section
totals_section_reads c r h = section_reads CutShort LeftOver read_totals (totals_bytes c []) r c (read_totals_reads c [] h)

-- What was read was written

pub read_totals_sound : (s : List ℕ) (c : Totals) (r : List ℕ) → Bytes s → read_totals s ≡ read c r → FoundContents totals_bytes Held s c r
unfolding read_totals totals_bytes
read_totals_sound s c r b e =
    let x = read_on_read (read_number CutShort total_width s)
    (λ a y. read_on (read_number CutShort total_width y) (λ d z. read (record { arrived = a; sent = d }) z)) c r e in
    let y = read_on_read (read_number CutShort total_width x.1) (λ d z. read (record { arrived = x.0; sent = d }) z) c r x.3 in
    let f = number_sound CutShort total_width s x.0 x.1 b x.2 in
    let g = number_sound CutShort total_width x.1 y.0 y.1 f.rest y.2 in
    go x.0 y.0 y.1 (let d = y.3 in cc) (let d = y.3 in cc) (rw g.bytes f.bytes)
    (record { arrived = within_limit f.within; sent = within_limit g.within }) g.rest
  where
    go : (a d : ℕ) (z : List ℕ) → ◌≡◌ {A = Totals} (record { arrived = a; sent = d }) c → z ≡ r
        → number_bytes total_width a (number_bytes total_width d z) ≡ s → Held (record { arrived = a; sent = d }) → Bytes z
        → FoundContents totals_bytes Held s c r
    go a d z h k e w t = rw (← h, ← k) (record { bytes = e; within = w; rest = t })

pub record FoundTotals (s : List ℕ) (c : Totals) (r : List ℕ) : Type 0 where
  pub bytes : section_bytes (totals_bytes c []) r ≡ s
  pub held : Held c

pub totals_section_sound : (s : List ℕ) (c : Totals) (r : List ℕ) → Bytes s → totals_section s ≡ read c r → FoundTotals s c r
unfolding totals_section
totals_section_sound s c r b e =
    let f = section_sound CutShort LeftOver read_totals s c r b e in
    let g = read_totals_sound f.body c [] f.body_bytes f.inside in
    record { bytes = rw g.bytes f.bytes; held = g.within }

-- Whether totals are there is a matter of lengths alone.

abbrev with_sent : ℕ → ℕ → List ℕ → Reading Totals
with_sent a b rest = read (record { arrived = a; sent = b }) rest

abbrev then_sent : ℕ → List ℕ → Reading Totals
then_sent a r = read_on (read_number CutShort total_width r) (with_sent a)

pub totals_missing : (s : List ℕ) → length s < 8 → read_totals s ≡ fault CutShort
unfolding read_totals
totals_missing s h = ⊎_elim second first (long_or_short total_width s)
  where
    first : length s < total_width → read_on (read_number CutShort total_width s) then_sent ≡ fault CutShort
    first k = ap (λ g. read_on g then_sent) (number_missing CutShort total_width s k)

    second : total_width ≤ length s → read_on (read_number CutShort total_width s) then_sent ≡ fault CutShort
    second k =
        let a = number_there CutShort total_width s k in
        let none = number_missing CutShort total_width (drop total_width s) (simp length-drop (omega arith)) in
        ap (λ g. read_on g then_sent) a.1 ∙ ap (λ g. read_on g (with_sent a.0)) none

pub totals_there : (s : List ℕ) → 8 ≤ length s → (c : Totals) × (read_totals s ≡ read c (drop 8 s))
unfolding read_totals
totals_there s h =
    let a = number_there CutShort total_width s (omega arith) in
    let b = number_there CutShort total_width (drop total_width s) (simp length-drop (omega arith)) in
    let c : Totals = record { arrived = a.0; sent = b.0 } in
    (c, ap (λ g. read_on g then_sent) a.1 ∙ ap (λ g. read_on g (with_sent a.0)) b.1 ∙ ap (λ r. read c r) (drop-drop total_width total_width s))

-- The refusals of the section are 1 and 3.
pub totals_section_faults : (P : Fault → Type 0) → P CutShort → P LeftOver → (s : List ℕ) → Faults P (totals_section s)
unfolding totals_section read_totals
totals_section_faults P cut over s = section_faults P CutShort LeftOver read_totals cut over contents s
  where
    contents : (s : List ℕ) → Faults P (read_totals s)
    contents s =
        read_on_faults P (read_number CutShort total_width s) _ (number_faults P CutShort cut total_width s)
        (λ a r. read_on_faults P (read_number CutShort total_width r) _ (number_faults P CutShort cut total_width r) (λ b x. tt))
