-- The type at the front of some bytes, by where it ends.
use Rattle.std.specs.Prelude.{◌≡◌, refl, Result, Ok, Err, List, [], ℕ, ◌-◌, ◌≤◌, length, take, drop}
use Rattle.std.proofs.Common.{sym, ap, ◌∙◌, arith, take_at}
use Rattle.std.proofs.Math.Seq.{drop-append_seam}
use Rattle.stream.specs.declared.Fault.{Fault}
use Rattle.stream.specs.Types.{Ty}
use Rattle.stream.specs.Reading.{Reading, Bytes, read, fault}
use Rattle.stream.specs.TypeFiles.{type_bytes, read_type}
use Rattle.stream.proofs.TypeFiles.Laws.{type_length, read_type_sound}
use Rattle.stream.proofs.TypeFiles.Held.{Holds, type_before, type_width}
use Rattle.reading.specs.Sections.{end_of}

pub record Front (s : List ℕ) (end : ℕ) : Type 0 where
  pub type : Ty
  pub fits : end ≤ length s
  pub held : Holds (take end s) type
  pub reads : read_type s ≡ read type (drop end s)

pub front : (s : List ℕ) (end : ℕ) → Bytes s → Ok end ≡ end_of (length s) (read_type s) → Front s end
unfolding end_of
front s end b e = go (read_type s) refl
  where
    go : (g : Reading Ty) → read_type s ≡ g → Front s end
    go (fault x) is = let z : ◌≡◌ {A = Result ℕ Fault} (Ok end) (Err x) = rw (is, end_of) at e in absurd cc
    go (read t r) is =
        let f = read_type_sound s t r b is in
        let z : ◌≡◌ {A = Result ℕ Fault} (Ok end) (Ok (length s - length r)) = rw (is, end_of) at e in
        let w : end ≡ length s - length r = cc in
        let n = ap length f.bytes in
        let h : length (type_bytes t []) ≡ end = omega (arith, type_length t r, type_width t) in
        let d : drop end s ≡ r = rw (← f.bytes, ← h, type_before t r) (drop-append_seam (type_bytes t []) r) in
        record {
          type = t;
          fits = omega arith;
          held = record { bytes = rw (← f.bytes, type_before t r) (take_at (type_bytes t []) r end h); small = f.within };
          reads = is ∙ ap (read t) (sym d);
        }
