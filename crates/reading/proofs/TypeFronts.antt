-- What the bytes of a front say of its type, and where the bytes of its parts stand in them.
use Rattle.std.specs.Prelude.{◌≡◌, List, ℕ, ◌+◌, ◌-◌, ◌≤◌, ◌<◌, length, get_or, take, drop}
use Rattle.std.proofs.Common.{sym, ap, ◌∙◌, arith, length-drop, take_all, drop_of_length-le}
use Rattle.stream.specs.Types.{Ty, empty, size, kind, first_part, second_part, Small}
use Rattle.stream.specs.Types.Kinds.{Fork}
use Rattle.stream.specs.Reading.{found}
use Rattle.stream.specs.TypeFiles.{type_bytes, type_of}
use Rattle.stream.proofs.TypeFiles.Laws.{read_type_reads}
use Rattle.stream.proofs.TypeFiles.Held.{Holds}
use Rattle.reading.specs.TypeReads.{TypeAt, SomeTypeAt, TypeEnds}
use Rattle.reading.specs.TypeReads.Laws as types
use Rattle.reading.specs.declared.types.TypeView.{TypeView}
use Rattle.reading.specs.declared.fronts.TypeFront.{TypeFront}
use Rattle.reading.specs.Views.{tree}
use Rattle.reading.specs.Fronts.{front_tree}
use Rattle.reading.proofs.TypeViews.{size_is}

-- Bytes at which a type stands are a front, and its type is that one.
module _ {s : List ℕ} {t : Ty} (stands : TypeAt s 0 t) where
  pub has_type : type_of s ≡ t
  unfolding type_of
  has_type = rw stands.here (ap (found empty) (read_type_reads t stands.rest stands.small))

  pub begins : type_bytes (type_of s) (drop (size (type_of s)) s) ≡ s
  begins = rw (has_type, stands.here) (ap (type_bytes t) (types.type_drop t stands.rest))

  pub is_small : Small (type_of s)
  is_small = rw has_type stands.small

-- A type that stands anywhere stands at the front of the bytes from there on.
pub at_front : {bytes : List ℕ} {at : ℕ} {t : Ty} → TypeAt bytes at t → TypeAt (take (length bytes - at) (drop at bytes)) 0 t
at_front {bytes} {at} stands =
    record {
      rest = stands.rest;
      here = take_all (length bytes - at) (drop at bytes) (omega (arith, length-drop at bytes)) ∙ stands.here;
      small = stands.small;
    }

pub from_on : (at : ℕ) (bytes : List ℕ) → take (length bytes - at) (drop at bytes) ≡ drop at bytes
from_on at bytes = take_all (length bytes - at) (drop at bytes) (omega (arith, length-drop at bytes))

-- And a front's type stands at its bytes.
pub type_at : (f : TypeFront) → TypeAt f.bytes.now 0 (front_tree f)
type_at f = record { rest = drop (size (front_tree f)) f.bytes.now; here = sym f.begins; small = f.small }

pub some_at : (f : TypeFront) → SomeTypeAt f.bytes.now 0
some_at f = record { type = front_tree f; stands = type_at f }

pub all_begins : (v : TypeView) → type_bytes (tree v) (drop (size (tree v)) v.bytes.now) ≡ v.bytes.now
all_begins v = ap (type_bytes (tree v)) (drop_of_length-le v.bytes.now (omega (arith, size_is v))) ∙ v.whole

module _ (f : TypeFront) where
  pub not_empty : 0 < length f.bytes.now
  not_empty = types.starts_inside (type_at f)

  pub kind_is : get_or f.bytes.now 0 0 ≡ kind (front_tree f)
  kind_is = types.kind_at (type_at f)

  module _ (fork : Fork (front_tree f)) where
    pub first_at : TypeAt f.bytes.now 1 (first_part (front_tree f))
    first_at = types.first_at (type_at f) fork

    pub some_first : SomeTypeAt f.bytes.now 1
    some_first = record { type = first_part (front_tree f); stands = first_at }

    pub first_ends : {end : ℕ} → TypeEnds f.bytes.now 1 end → end ≡ 1 + size (first_part (front_tree f))
    first_ends ends = ends.each _ first_at

    module _ {end : ℕ} (ends : end ≡ 1 + size (first_part (front_tree f))) where
      pub second_at : TypeAt f.bytes.now end (second_part (front_tree f))
      second_at = rw ends (types.second_at (type_at f) fork)

      -- The bytes from there on begin with it.
      pub second_behind : {behind : List ℕ} → behind ≡ drop end f.bytes.now → TypeAt behind 0 (second_part (front_tree f))
      second_behind is = record { rest = second_at.rest; here = is ∙ second_at.here; small = second_at.small }

      pub second_inside : end ≤ length f.bytes.now
      second_inside = omega (arith, types.starts_inside second_at)

  pub sized : {end : ℕ} → TypeEnds f.bytes.now 0 end → end ≡ size (front_tree f)
  sized ends = omega (arith, ends.each _ (type_at f))

  pub whole_inside : size (front_tree f) ≤ length f.bytes.now
  whole_inside = omega (arith, types.ends_inside (type_at f))

  pub whole_held : {end : ℕ} → end ≡ size (front_tree f) → Holds (take end f.bytes.now) (front_tree f)
  whole_held is = record { bytes = rw is (types.bytes_at (type_at f)); small = f.small }
