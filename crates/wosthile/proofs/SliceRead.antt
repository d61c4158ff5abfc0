-- What the reader of a slice file says of it, once it has answered.
use mathlib.Core.Path.{◌≡◌, refl}
use mathlib.Core.List.{List, []}
use Prim.Native.Nat.{ℕ}
use native.Mathlib.Omega.{arith}
use lib.ListN.{length}
use Rattle.std.specs.Prelude.{Ok, Err, Result}
use Rattle.stream.specs.declared.Fault.{Fault}
use Rattle.stream.specs.Types.{Ty, Small}
use Rattle.stream.specs.Prefixes.{derivative}
use Rattle.stream.specs.Reading.{Bytes, refused}
use Rattle.stream.specs.TypeFiles.{type_bytes}
use Rattle.stream.specs.SliceFiles.{slice_file}
use Rattle.reading.specs.declared.prefixes.Known.{Known}
use Rattle.reading.specs.TypeReads.{TypeAt}
use Rattle.reading.specs.TypeReads.Laws.{same_type}
use Rattle.reading.specs.SliceReads.{AcceptedSlice}
use Rattle.writing.specs.Leaving.{SliceReadLeaving, ReadsSliceLeaving}
use Rattle.writing.specs.Writing.Standing as standing
use Rattle.wosthile.proofs.Keeping.{InFront, in_front}

there : {t : Ty} → Small t → TypeAt (type_bytes t []) 0 t
there small = record { rest = []; here = refl; small = small }

module _ {t : Ty} (small : Small t) {file lent held : List ℕ} where
  placed : {answer : Result Known Fault} → SliceReadLeaving t file lent held answer → ReadsSliceLeaving (type_bytes t []) 0 file lent held answer
  placed told =
      record {
        reads = record { each = λ u stands. rw (same_type stands (there small)) told.reads };
        long = told.long;
        left = λ u stands p e. let same = same_type stands (there small) in rw same (told.left p (rw same at e));
      }

  pub slice_refused : {e : Fault} → SliceReadLeaving t file lent held (Err e) → slice_file t file ≡ refused e
  slice_refused told = standing.slice_refused (placed told).reads (there small) _ refl

  module _ {about : Known} (told : SliceReadLeaving t file lent held (Ok about)) where
    pub slice_accepted : Bytes file → AcceptedSlice t file about
    slice_accepted bytes = standing.slice_accepted (placed told).reads (there small) bytes about refl

    -- What it leaves, on work bytes that have room for every type.
    pub left-held : (p : AcceptedSlice t file about) → 255 ≡ length lent → InFront (derivative t p.prefix) held about.remains
    left-held p long =
        let h = standing.left-held (placed told) (there small) p (omega (arith, long)) in
        in_front h.inside (record { bytes = h.bytes; small = h.stands.small })
