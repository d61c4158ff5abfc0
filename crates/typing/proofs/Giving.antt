-- A type that is written is given, if it is not too large.
use Rattle.std.specs.Prelude.{◌≡◌, refl, Bool, true, false, List, [], ℕ, ◌≤◌, leb, length, Ok, Err}
use Rattle.std.proofs.Common.{sym, ap, ◌∙◌, arith, le-leb}
use Rattle.stream.specs.declared.Fault.TheVariants.{TypeTooLarge}
use Rattle.stream.specs.Types.{Ty, size, type_limit, Small}
use Rattle.stream.specs.Reading.{accepted, require}
use Rattle.stream.specs.TypeFiles.{type_bytes}
use Rattle.stream.proofs.TypeFiles.Held.{type_width}
use Rattle.reading.specs.declared.types.TypeView.{TypeView}
use Rattle.reading.specs.Views.{tree}
use Rattle.writing.specs.Appending.{Appends}
use Rattle.writing.specs.Appending.Laws.{WrittenSoFar, nothing_written, written_on}
use Rattle.node.specs.Checking.{gives}
use Rattle.node.proofs.Checking.Laws.{gives_accepted}
use Rattle.typing.specs.Typing.{sized, limited_size, TypeGiven}

pub size_told : (t : Ty) → sized (gives t) ≡ limited_size (size t)
unfolding sized gives limited_size
size_told t = go (leb (size t) type_limit)
  where
    go : (b : Bool) → sized (require b TypeTooLarge (accepted t)) ≡ elim b [ true ↦ Ok (size t) | false ↦ Err TypeTooLarge ]
    go true = refl
    go false = refl

few : (n : ℕ) → n ≤ type_limit → limited_size n ≡ Ok n
unfolding limited_size
few n h = rw (limited_size, le-leb n type_limit h)

module _ {n : ℕ} {pieces lent now : List ℕ} (t : Ty) (so_far : WrittenSoFar pieces lent now n) (all : pieces ≡ type_bytes t []) where
  as_large : n ≡ size t
  as_large = sym so_far.long ∙ ap length all ∙ type_width t

  pub type_given : TypeGiven (gives t) lent now (limited_size n)
  type_given =
      record {
        answers = ap limited_size as_large ∙ sym (size_told t);
        long = so_far.holds.long;
        writes = λ u e. rw (← (gives_accepted t u e).0, ← all) so_far.holds;
      }

  pub small_given : Small t → TypeGiven (gives t) lent now (Ok n)
  small_given small = rw (← few n (omega (arith, as_large, small))) type_given

pub view_given : (v : TypeView) {lent now : List ℕ} {n : ℕ} → Appends v.bytes.now 0 lent now n → TypeGiven (gives (tree v)) lent now (Ok n)
view_given v {lent} appended = small_given (tree v) (written_on (nothing_written lent) appended) (sym v.whole) v.small
