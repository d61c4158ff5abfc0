-- A type that stands at a place of some bytes: its kind byte, its parts, and where it ends.
use Rattle.std.specs.Prelude.{None, Ok, Option, Some, Bool, List, [], ◌∷◌, ◌++◌, ℕ, ◌+◌, ◌*◌, ◌/◌, ◌-◌, ◌≤◌, ◌<◌, length, get_or, take, drop}
use Rattle.std.proofs.Math.Bool.{true, false, cond}
use Rattle.std.proofs.Math.Path.{◌≡◌, refl}
use Rattle.std.proofs.Common.{sym, ap, ◌∙◌, arith, add-zero, length-drop, get_or-drop, drop-drop, take_at, length-take-le}
use Rattle.stream.specs.declared.Fault.TheVariants.{Unlisted, TypeTooLarge}
use Rattle.stream.specs.Types.{Ty, empty, cue, level, seq, par, either, nullable, size, kind, first_part, second_part, type_limit}
use Rattle.stream.proofs.Types.Laws.{size_positive}
use Rattle.stream.specs.Reading.{Bytes, read, fault}
use Rattle.stream.proofs.Reading.Laws.{bytes_drop, bytes_take, ◌&◌, past, every}
use Rattle.stream.specs.TypeFiles.{type_bytes, type_kinds, type_root, read_type, type_section}
use Rattle.stream.proofs.TypeFiles.Laws.{type_length, read_type_reads, read_type_sound}
use Rattle.stream.specs.Types.Kinds.{type_arity, Fork, fork-size}
use Rattle.reading.specs.Sections.{end_of}
use Rattle.reading.specs.Sections.Laws.{inside, section_ended, Within, tree_within}
use Rattle.reading.specs.Places.{TypePlace}
use Rattle.reading.specs.TypeReads.{TypeAt, TypeIn, TypeEnds, nullable_end, NullableEnds}

-- No kind has more than two parts, and parts come in pairs.
pub arity_small : (k : ℕ) → type_arity k ≤ 2
arity_small = every (λ k n. n ≤ 2) 2 _ (omega arith & omega arith & omega arith & omega arith & omega arith & omega arith & past (λ k h. omega arith))

pub arity_paired : (k : ℕ) → type_arity k ≡ 2 * (type_arity k / 2)
arity_paired = every (λ k n. n ≡ 2 * (n / 2)) 2 _ (omega arith & omega arith & omega arith & omega arith & omega arith & omega arith & past (λ k h. omega arith))

-- Behind a type stands what was put there.
pub type_drop : (t : Ty) (r : List ℕ) → drop (size t) (type_bytes t r) ≡ r
unfolding type_bytes size
type_drop empty r = refl
type_drop cue r = refl
type_drop level r = refl
type_drop (seq s t) r =
    rw (← drop-drop (size t) (size s) (type_bytes s (type_bytes t r)), type_drop s (type_bytes t r)) (type_drop t r)
type_drop (par s t) r =
    rw (← drop-drop (size t) (size s) (type_bytes s (type_bytes t r)), type_drop s (type_bytes t r)) (type_drop t r)
type_drop (either s t) r =
    rw (← drop-drop (size t) (size s) (type_bytes s (type_bytes t r)), type_drop s (type_bytes t r)) (type_drop t r)

type_append : (t : Ty) (r s : List ℕ) → type_bytes t (r ++ s) ≡ type_bytes t r ++ s
unfolding type_bytes
type_append empty r s = refl
type_append cue r s = refl
type_append level r s = refl
type_append (seq t u) r s = ap (λ l. 3 ∷ l) (ap (type_bytes t) (type_append u r s) ∙ type_append t (type_bytes u r) s)
type_append (par t u) r s = ap (λ l. 4 ∷ l) (ap (type_bytes t) (type_append u r s) ∙ type_append t (type_bytes u r) s)
type_append (either t u) r s = ap (λ l. 5 ∷ l) (ap (type_bytes t) (type_append u r s) ∙ type_append t (type_bytes u r) s)

pub type_before : (t : Ty) (r : List ℕ) → type_bytes t r ≡ type_bytes t [] ++ r
type_before t r = type_append t [] r

pub type_width : (t : Ty) → length (type_bytes t []) ≡ size t
type_width t = omega (arith, type_length t [])

type_head : (t : Ty) (r : List ℕ) → get_or (type_bytes t r) 0 0 ≡ kind t
unfolding type_bytes
type_head empty r = refl
type_head cue r = refl
type_head level r = refl
type_head (seq s t) r = refl
type_head (par s t) r = refl
type_head (either s t) r = refl

-- A type with two parts is its kind byte and these.
forked : (t : Ty) (r : List ℕ) → Fork t → type_bytes t r ≡ kind t ∷ type_bytes (first_part t) (type_bytes (second_part t) r)
unfolding type_bytes
forked empty r two = absurd (omega arith)
forked cue r two = absurd (omega arith)
forked level r two = absurd (omega arith)
forked (seq s t) r two = refl
forked (par s t) r two = refl
forked (either s t) r two = refl

module _ {bytes : List ℕ} {at : ℕ} {t : Ty} (stands : TypeAt bytes at t) where
  pub ends_inside : at + size t ≤ length bytes
  ends_inside =
      let n = simp length-drop at (ap length stands.here) in
      omega (arith, n, type_length t stands.rest, size_positive t)

  pub starts_inside : at < length bytes
  starts_inside = omega (arith, ends_inside, size_positive t)

  pub kind_at : get_or bytes at 0 ≡ kind t
  kind_at =
      let e : get_or (drop at bytes) 0 0 ≡ get_or bytes at 0 = rw add-zero at (get_or-drop at bytes 0 0) in
      rw (← e, stands.here) (type_head t stands.rest)

  -- The bytes of a type, as they stand there.
  pub bytes_at : take (size t) (drop at bytes) ≡ type_bytes t []
  bytes_at = rw (stands.here, type_before t stands.rest) (take_at (type_bytes t []) stands.rest (size t) (type_width t))

  module _ (fork : Fork t) where
    under_root : drop (at + 1) bytes ≡ type_bytes (first_part t) (type_bytes (second_part t) stands.rest)
    under_root = rw (← drop-drop 1 at bytes, stands.here, forked t stands.rest fork)

    pub first_at : TypeAt bytes (at + 1) (first_part t)
    first_at =
        record {
          rest = type_bytes (second_part t) stands.rest;
          here = under_root;
          small = omega (arith, stands.small, fork-size t fork);
        }

    pub second_at : TypeAt bytes (at + 1 + size (first_part t)) (second_part t)
    second_at =
        record {
          rest = stands.rest;
          here =
              rw (← drop-drop (size (first_part t)) (at + 1) bytes, under_root)
              (type_drop (first_part t) (type_bytes (second_part t) stands.rest));
          small = omega (arith, stands.small, fork-size t fork);
        }

    -- The second part stands where the first ends.
    pub second_behind : {second : ℕ} → TypeEnds bytes (at + 1) second → TypeAt bytes second (second_part t)
    second_behind ends = rw (ends.each (first_part t) first_at) second_at

-- Where the first part ends the second begins, and it ends where the whole does.
module _ {bytes : List ℕ} {place : TypePlace} {t : Ty} (here : TypeIn bytes place t) (fork : Fork t)
    {second : ℕ} (ends : TypeEnds bytes (place.start + 1) second) where
  pub first_in : TypeIn bytes (record { start = place.start + 1; end = second }) (first_part t)
  first_in = let first = first_at here.stands fork in record { stands = first; ends = ends.each (first_part t) first }

  pub second_in : TypeIn bytes (record { start = second; end = place.end }) (second_part t)
  second_in =
      record {
        stands = second_behind here.stands fork ends;
        ends = omega (arith, here.ends, first_in.ends, fork-size t fork);
      }

-- At most one type stands at a place.
pub same_type : {bytes : List ℕ} {at : ℕ} {s t : Ty} → TypeAt bytes at s → TypeAt bytes at t → s ≡ t
same_type {s = s} {t = t} h k =
    let e : read s h.rest ≡ read t k.rest
    = sym (read_type_reads s h.rest h.small) ∙ rw (← h.here) (rw k.here (read_type_reads t k.rest k.small)) in
    cc

-- What is told of where a nullable type ends says that it is one, or that it is not.

pub record EndsNullable (at end : ℕ) (t : Ty) : Type 0 where
  pub is_nullable : nullable t ≡ true
  pub ends : end ≡ at + size t

module _ {bytes : List ℕ} {at : ℕ} {answer : Option ℕ} (told : NullableEnds bytes at answer) {t : Ty} (stands : TypeAt bytes at t) where
  pub ends_nullable : {end : ℕ} → answer ≡ Some end → EndsNullable at end t
  unfolding nullable_end
  ends_nullable {end} is_end = go (nullable t) refl (sym is_end ∙ told.each t stands)
    where
      go : (b : Bool) → nullable t ≡ b → Some end ≡ cond b (Some (at + size t)) None → EndsNullable at end t
      go true is e = record { is_nullable = is; ends = cc }
      go false is e = let z : ◌≡◌ {A = ℕ} 0 1 = cc in absurd (omega arith)

  pub other_than_nullable : answer ≡ None → nullable t ≡ false
  unfolding nullable_end
  other_than_nullable is_other = go (nullable t) (sym is_other ∙ told.each t stands)
    where
      go : (b : Bool) → None ≡ cond b (Some (at + size t)) None → b ≡ false
      go true e = let z : ◌≡◌ {A = ℕ} 0 1 = cc in absurd (omega arith)
      go false e = refl

-- A type leaves no more bytes than there were.
root_within : (w : Unit {0}) (s : List ℕ) → Within s (type_root w s)
unfolding type_root
root_within w [] = tt
root_within w (k ∷ s) =
    every (λ j f. Within (j ∷ s) (f s)) (λ r. fault Unlisted) type_kinds
    (omega arith & omega arith & omega arith & omega arith & omega arith & omega arith & past (λ j h. tt)) k

pub read_type_within : (s : List ℕ) → Within s (read_type s)
unfolding read_type
read_type_within s = tree_within TypeTooLarge type_root root_within type_limit tt s

-- The section at the front of s ends at `end`, and a type fills it.
pub record TypeSectionEnds (s : List ℕ) (end : ℕ) : Type 0 where
  pub type : Ty
  pub place : end ≡ 2 + size type
  pub fits : end ≤ length s
  pub reads : type_section s ≡ read type (drop end s)

pub type_section_ended : (s : List ℕ) (end : ℕ) → Bytes s → end_of (length s) (type_section s) ≡ Ok end → TypeSectionEnds s end
unfolding type_section
type_section_ended s end bytes told =
    let e = section_ended read_type s end told in
    let f = read_type_sound (inside end s) e.tree [] (bytes_take (end - 2) (drop 2 s) (bytes_drop 2 s bytes)) e.fills in
    let h : end - 2 ≤ length (drop 2 s) = simp length-drop (omega (arith, e.fits)) in
    record {
      type = e.tree;
      place = omega (arith, e.place, type_length e.tree [], ap length f.bytes, length-take-le (end - 2) (drop 2 s) h);
      fits = e.fits;
      reads = e.reads;
    }
