-- The shape of a type by its kind bytes, and pieces of some bytes: the bytes of a tree that stands there, and two pieces one behind
-- the other.
use Rattle.std.specs.Prelude.{true, false, ◌≡◌, List, [], ◌++◌, ℕ, ◌+◌, ◌-◌, ◌≤◌, length, get_or, take, drop}
use Rattle.std.proofs.Common.{sym, ap, ◌∙◌, arith, length-drop, drop-drop, take-add, length-take-le, eq-eqb, ne_eqb}
use Rattle.stream.specs.Types.{Ty, size, kind, has_kind}
use Rattle.stream.specs.TypeFiles.{type_bytes}
use Rattle.stream.specs.Prefixes.{Prefix}
use Rattle.stream.specs.SliceFiles.{prefix_bytes}
use Rattle.stream.specs.Types.Kinds.{type_arity, Fork}
use Rattle.reading.specs.TypeReads.{TypeAt}
use Rattle.reading.specs.TypeReads.Laws.{ends_inside, kind_at, bytes_at}
use Rattle.reading.specs.SliceReads.{PrefixAt, prefix_width}
use Rattle.reading.specs.SliceReads.Laws.{prefix_inside, prefix_taken}
use Rattle.reading.specs.Nesting.{Piece}

-- Shapes

-- The kind byte tells whether a type has the shape that is asked.
module _ {types : List ℕ} {at : ℕ} {t : Ty} (stands : TypeAt types at t) {shape : ℕ} where
  pub other_shape : (get_or types at 0 ≡ shape → ⊥) → has_kind shape t ≡ false
  other_shape h = ne_eqb (kind t) shape (λ e. h (kind_at stands ∙ e))

  pub same_shape : get_or types at 0 ≡ shape → has_kind shape t ≡ true
  same_shape h = eq-eqb (kind t) shape (sym (kind_at stands) ∙ h)

  pub is_fork : get_or types at 0 ≡ shape → type_arity shape ≡ 2 → Fork t
  is_fork h two = ap type_arity (sym (kind_at stands) ∙ h) ∙ two

-- Pieces

pub type_piece : {bytes : List ℕ} {from to : ℕ} {t : Ty} → TypeAt bytes from t → to ≡ from + size t → Piece bytes from to (type_bytes t [])
type_piece {bytes} {from} {to} {t} stands ends =
    let long : to - from ≡ size t = omega arith in
    record { forward = omega arith; inside = omega (arith, ends_inside stands); taken = rw long (bytes_at stands) }

pub prefix_piece : {bytes : List ℕ} {from to : ℕ} {p : Prefix} → PrefixAt bytes from p → to ≡ from + prefix_width p
    → Piece bytes from to (prefix_bytes p [])
prefix_piece {bytes} {from} {to} {p} stands ends =
    record { forward = omega arith; inside = omega (arith, prefix_inside stands); taken = prefix_taken (to - from) stands (omega arith) }

pub no_piece : {bytes : List ℕ} {at : ℕ} → at ≤ length bytes → Piece bytes at at []
no_piece {bytes} {at} inside =
    let none : at - at ≡ 0 = omega arith in
    record { forward = omega arith; inside = inside; taken = rw none }

-- A piece has as many bytes as lie between its places.
pub piece_length : {bytes part : List ℕ} {from to : ℕ} → Piece bytes from to part → length part ≡ to - from
piece_length {bytes} {part} {from} {to} piece =
    let n : length (take (to - from) (drop from bytes)) ≡ to - from
    = length-take-le (to - from) (drop from bytes) (simp length-drop (omega (arith, piece.inside))) in
    omega (arith, ap length piece.taken)

pub joined : {bytes part more : List ℕ} {from middle to : ℕ} → Piece bytes from middle part → Piece bytes middle to more
    → Piece bytes from to (part ++ more)
joined {bytes} {part} {more} {from} {middle} {to} one two =
    record { forward = omega (arith, one.forward, two.forward); inside = two.inside; taken = taken }
  where
    long : to - from ≡ middle - from + (to - middle)
    long = omega (arith, one.forward, two.forward)

    behind : from + (middle - from) ≡ middle
    behind = omega (arith, one.forward)

    taken : take (to - from) (drop from bytes) ≡ part ++ more
    taken =
        rw (long, take-add (middle - from) (to - middle) (drop from bytes), drop-drop (middle - from) from bytes, behind, one.taken, two.taken)
