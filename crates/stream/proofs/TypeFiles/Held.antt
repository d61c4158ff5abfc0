-- Bytes that are one type and no more: which type they hold; and the bytes of a type by its root and its parts.
use Rattle.std.specs.Prelude.{◌≡◌, refl, List, [], ◌∷◌, ◌++◌, ℕ, length, get_or}
use Rattle.std.proofs.Common.{sym, ap, ◌∙◌, arith}
use Rattle.stream.specs.Types.{Ty, empty, cue, level, seq, par, either, size, kind, first_part, second_part, Small}
use Rattle.stream.specs.Types.Kinds.{type_parts, Fork}
use Rattle.stream.specs.Reading.{found}
use Rattle.stream.specs.TypeFiles.{type_bytes, type_of}
use Rattle.stream.proofs.TypeFiles.Laws.{type_length, read_type_reads}

-- The bytes of a type hold that type.
pub tree_of : (t : Ty) → Small t → type_of (type_bytes t []) ≡ t
unfolding type_of
tree_of t h = ap (found empty) (read_type_reads t [] h)

pub record Holds (s : List ℕ) (t : Ty) : Type 0 where
  pub bytes : s ≡ type_bytes t []
  pub small : Small t

module _ {s : List ℕ} {t : Ty} (h : Holds s t) where
  pub has_tree : type_of s ≡ t
  has_tree = rw h.bytes (tree_of t h.small)

  pub is_whole : type_bytes (type_of s) [] ≡ s
  is_whole = rw has_tree (sym h.bytes)

  pub is_small : Small (type_of s)
  is_small = rw has_tree h.small

-- The root, and what stands behind it

pub type_head : (t : Ty) (r : List ℕ) → get_or (type_bytes t r) 0 0 ≡ kind t
unfolding type_bytes
type_head empty r = refl
type_head cue r = refl
type_head level r = refl
type_head (seq s t) r = refl
type_head (par s t) r = refl
type_head (either s t) r = refl

-- A type with two parts is its kind byte and these.
pub forked : (t : Ty) (r : List ℕ) → Fork t → type_bytes t r ≡ kind t ∷ type_bytes (first_part t) (type_bytes (second_part t) r)
unfolding type_bytes
forked empty r two = absurd (omega arith)
forked cue r two = absurd (omega arith)
forked level r two = absurd (omega arith)
forked (seq s t) r two = refl
forked (par s t) r two = refl
forked (either s t) r two = refl

-- The bytes of several types, and then r.
abbrev pub several : List Ty → List ℕ → List ℕ
several [] r = r
several (t ∷ ts) r = type_bytes t (several ts r)

-- Any type is its kind byte and its parts.
pub apart : (t : Ty) (r : List ℕ) → type_bytes t r ≡ kind t ∷ several (type_parts t) r
unfolding type_bytes
apart empty r = refl
apart cue r = refl
apart level r = refl
apart (seq s t) r = refl
apart (par s t) r = refl
apart (either s t) r = refl

-- How long

pub type_width : (t : Ty) → length (type_bytes t []) ≡ size t
type_width t = omega (arith, type_length t [])

type_append : (t : Ty) (r s : List ℕ) → type_bytes t (r ++ s) ≡ type_bytes t r ++ s
unfolding type_bytes
type_append empty r s = refl
type_append cue r s = refl
type_append level r s = refl
type_append (seq t u) r s = ap (λ l. 3 ∷ l) (ap (type_bytes t) (type_append u r s) ∙ type_append t (type_bytes u r) s)
type_append (par t u) r s = ap (λ l. 4 ∷ l) (ap (type_bytes t) (type_append u r s) ∙ type_append t (type_bytes u r) s)
type_append (either t u) r s = ap (λ l. 5 ∷ l) (ap (type_bytes t) (type_append u r s) ∙ type_append t (type_bytes u r) s)

pub type_before : (t : Ty) (r : List ℕ) → type_bytes t r ≡ type_bytes t [] ++ r
type_before t r = type_append t [] r
