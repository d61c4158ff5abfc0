-- What the adder of counts promises: a contract inside the library, which no demand rests on.
use Rattle.std.specs.Prelude.{Result, Ok, Err, cond, ◌≡◌, List, [], ℕ, ◌+◌, ◌*◌, get_or}
use Rattle.stream.specs.declared.Fault.{Fault}
use Rattle.stream.specs.declared.Fault.TheVariants.{TotalTooLarge}
use Rattle.node.specs.Totals.{Totals, held, totals_bytes}

-- The number of the four bytes at a place.
abbrev pub total_in : List ℕ → ℕ → ℕ
total_in bytes at = (get_or bytes at 0 * 256 + get_or bytes (at + 1) 0) * 65536 + (get_or bytes (at + 2) 0 * 256 + get_or bytes (at + 3) 0)

-- The totals after so many cues and levels more.
abbrev pub counted : Totals → (arrived sent : ℕ) → Totals
counted c arrived sent = record { arrived = c.arrived + arrived; sent = c.sent + sent }

-- The totals' bytes are written if they are held; otherwise the answer is 31.
unfoldable pub adds : Totals → Result (Unit {0}) Fault
adds totals = cond (held totals) (Ok tt) (Err TotalTooLarge)

pub record Sums (totals : Totals) (written : List ℕ) (answer : Result (Unit {0}) Fault) : Type 0 where
  pub told : answer ≡ adds totals
  pub bytes : answer ≡ Ok tt → written ≡ totals_bytes totals []
