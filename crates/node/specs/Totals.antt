-- Totals: how many cues and levels have arrived and were sent in a whole show (document 02, M-105).
use Rattle.std.specs.Prelude.{Bool, ◌&&◌, List, ℕ, ◌+◌, ◌≤◌, leb}
use Rattle.stream.specs.declared.Fault.TheVariants.{CutShort, LeftOver}
use Rattle.stream.specs.Prefixes.{Prefix, arrivals}
use Rattle.stream.specs.Reading.{Reading, read, read_on, number_bytes, read_number, section}

-- "Arrived, then sent."
pub record Totals : Type 0 where
  pub arrived : ℕ
  pub sent : ℕ

-- "Feed adds its two counts": the totals after p has come and o was sent.
abbrev pub added : Totals → (p o : Prefix) → Totals
added c p o = record { arrived = c.arrived + arrivals p; sent = c.sent + arrivals o }

-- No total passes 4,294,967,295, the most that four bytes hold.
unfoldable pub total_limit : ℕ
total_limit = 4294967295

pub record Held (c : Totals) : Type 0 where
  pub arrived : c.arrived ≤ total_limit
  pub sent : c.sent ≤ total_limit

-- The same as a test, which is proved to agree (Laws: held_test).
unfoldable pub held : Totals → Bool
held c = leb c.arrived total_limit && leb c.sent total_limit

-- "Eight bytes: arrived, then sent, four bytes each, high byte first": these, and then r; and their reading.
abbrev pub total_width : ℕ
total_width = 4

unfoldable pub totals_bytes : Totals → List ℕ → List ℕ
totals_bytes c r = number_bytes total_width c.arrived (number_bytes total_width c.sent r)

unfoldable pub read_totals : List ℕ → Reading Totals
read_totals s =
    read_on (read_number CutShort total_width s)
    (λ a r. read_on (read_number CutShort total_width r) (λ b rest. read (record { arrived = a; sent = b }) rest))

-- "A whole section of another length is 1 if shorter, 3 if longer": as a section's contents always are.
unfoldable pub totals_section : List ℕ → Reading Totals
totals_section s = section CutShort LeftOver read_totals s
