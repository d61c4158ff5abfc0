-- What the readers of files answer, as the readings of the documents: a value and the bytes behind it, or the first fault.
use Rattle.std.specs.Prelude.{Result, Ok, Err, List, [], ℕ}
use Rattle.std.proofs.Common.{Bor}
use Rattle.stream.specs.declared.Fault.{Fault}
use Rattle.stream.specs.Types.{Ty}
use Rattle.stream.specs.Reading.{Reading, read, fault, Result as Outcome, accepted, refused}
use Rattle.reading.specs.declared.types.TypeView.{TypeView}
use Rattle.reading.specs.Views.{tree}
pub mod Laws

abbrev pub type_seen : Result (TypeView × Bor (List ℕ)) Fault → Reading Ty
type_seen (Ok v) = read (tree v.0) v.1.now
type_seen (Err e) = fault e

abbrev pub bytes_seen : Result (Bor (List ℕ) × Bor (List ℕ)) Fault → Reading (List ℕ)
bytes_seen (Ok v) = read v.0.now v.1.now
bytes_seen (Err e) = fault e

abbrev pub whole_seen : Result TypeView Fault → Outcome Ty
whole_seen (Ok v) = accepted (tree v)
whole_seen (Err e) = refused e

-- The contents of a section, whatever they are.
abbrev pub all_bytes : List ℕ → Reading (List ℕ)
all_bytes s = read s []
