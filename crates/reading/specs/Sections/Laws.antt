-- Sections by their counts: where one ends, and what it comes to by where the tree in it ends.
use Rattle.std.specs.Prelude.{Err, Ok, ◌≡◌, Bool, true, false, leb, take, drop}
use Rattle.std.proofs.Math.Path.{refl, ap}
use Rattle.std.proofs.Common.{sym, ◌∙◌, length-take-le, leb-true, leb-false, le-leb}
use mathlib.Core.List.{List, [], ◌∷◌, ◌++◌}
use Prim.Native.Nat.{ℕ, zero, suc, ◌+◌, ◌-◌, ◌*◌, ◌≤◌, ◌<◌}
use native.Mathlib.Omega.{arith}
use Rattle.std.proofs.Math.ListN.{length, length-drop}
use Rattle.std.proofs.lemmas.Bool.{lt-leb}
use Rattle.stream.specs.declared.Fault.{Fault}
use Rattle.stream.specs.declared.Fault.TheVariants.{CutShort, LeftOver}
use Rattle.stream.specs.Reading.{Reading, read, fault, accepted, refused, read_on, whole, section, Root, forest, only, tree}
use Rattle.stream.specs.Reading.Walking.{count, body}
use Rattle.stream.proofs.Reading.Walking.{no_count, body_short, body_whole}
use Rattle.reading.specs.Sections.{end_of, any_bytes, filled}

-- After something was read, a byte is left or none.
byte_left : {A : Type 0} (if_left : Fault) (a : A) (r : List ℕ) → 0 < length r → whole if_left (read a r) ≡ refused if_left
byte_left if_left a [] h = absurd (omega arith)
byte_left if_left a (b ∷ r) h = refl

none_left : {A : Type 0} (if_left : Fault) (a : A) (r : List ℕ) → length r ≤ 0 → whole if_left (read a r) ≡ accepted a
none_left if_left a [] h = refl
none_left if_left a (b ∷ r) h = absurd (omega arith)

-- The same where what is left is known by its place.
module _ {A : Type 0} (if_left : Fault) (a : A) (s : List ℕ) (end : ℕ) where
  pub byte_behind : end < length s → whole if_left (read a (drop end s)) ≡ refused if_left
  byte_behind h = byte_left if_left a (drop end s) (simp length-drop (omega arith))

  pub none_behind : length s ≤ end → whole if_left (read a (drop end s)) ≡ accepted a
  none_behind h = none_left if_left a (drop end s) (simp length-drop (omega arith))

-- A section that is there, by what its contents are read as.
pub body_length : (s : List ℕ) → 2 ≤ length s → count s ≤ length s - 2 → length (body s) ≡ count s
body_length s two fits = let h : count s ≤ length (drop 2 s) = simp length-drop fits in length-take-le (count s) (drop 2 s) h

module _ {A : Type 0} (if_short if_left : Fault) (contents : List ℕ → Reading A) (s : List ℕ)
    (two : 2 ≤ length s) (fits : count s ≤ length s - 2) where
  pub tree_failed : (e : Fault) → contents (body s) ≡ fault e → section if_short if_left contents s ≡ fault e
  tree_failed e h = rw (body_whole if_short if_left contents s two fits, h)

  module _ {a : A} {r : List ℕ} (reads : contents (body s) ≡ read a r) where
    pub left_inside : 0 < length r → section if_short if_left contents s ≡ fault if_left
    left_inside h = rw (body_whole if_short if_left contents s two fits, reads, byte_left if_left a r h)

    pub section_read : length r ≤ 0 → section if_short if_left contents s ≡ read a (drop (2 + count s) s)
    section_read h = rw (body_whole if_short if_left contents s two fits, reads, none_left if_left a r h)

-- A reading ends somewhere, or it failed.
never : {k : ℕ} {e : Fault} → Ok k ≡ Err e → ⊥
never h = let z : ◌≡◌ {A = ℕ} 0 1 = cc in omega arith

pub failed : {A : Type 0} (n : ℕ) (g : Reading A) (e : Fault) → end_of n g ≡ Err e → g ≡ fault e
unfolding end_of
failed n (read a r) e h = absurd (never h)
failed n (fault x) e h = cc

-- A section's count is missing, or too large, or it is there.
data Tried (s : List ℕ) : Type 0 where
  missing : length s < 2 → Tried s
  short : length s - 2 < count s → Tried s
  there : 2 ≤ length s → count s ≤ length s - 2 → Tried s

tried : (s : List ℕ) → Tried s
tried [] = missing (omega arith)
tried (a ∷ []) = missing (omega arith)
tried (a ∷ b ∷ s) = go (leb (a * 256 + b) (length s)) refl
  where
    go : (t : Bool) → leb (a * 256 + b) (length s) ≡ t → Tried (a ∷ b ∷ s)
    go true e = there (omega arith) (omega (arith, leb-true (a * 256 + b) (length s) e))
    go false e = short (omega (arith, leb-false (a * 256 + b) (length s) e))

-- The bytes of a section that ends at `end`.
abbrev pub inside : ℕ → List ℕ → List ℕ
inside end s = take (end - 2) (drop 2 s)

module _ {A : Type 0} (contents : List ℕ → Reading A) (s : List ℕ) where
  pub count_missing : length s < 2 → end_of (length s) (section CutShort LeftOver contents s) ≡ Err CutShort
  unfolding end_of
  count_missing h = ap (end_of (length s)) (no_count CutShort LeftOver contents s h)

  pub section_short : length s - 2 < count s → end_of (length s) (section CutShort LeftOver contents s) ≡ Err CutShort
  unfolding end_of
  section_short h = ap (end_of (length s)) (body_short CutShort LeftOver contents s h)

  -- The section at the front of s ends at `end`, and its tree fills it.
  pub record SectionEnds (end : ℕ) : Type 0 where
    pub place : end ≡ 2 + count s
    pub fits : end ≤ length s
    pub tree : A
    pub fills : contents (inside end s) ≡ read tree []
    pub reads : section CutShort LeftOver contents s ≡ read tree (drop end s)

  pub section_ended : (end : ℕ) → end_of (length s) (section CutShort LeftOver contents s) ≡ Ok end → SectionEnds end
  unfolding end_of
  section_ended end told = go (tried s)
    where
      go : Tried s → SectionEnds end
      go (missing h) = absurd (never (sym told ∙ count_missing h))
      go (short h) = absurd (never (sym told ∙ section_short h))
      go (there two fits) = on (contents (body s)) refl
        where
          on : (g : Reading A) → contents (body s) ≡ g → SectionEnds end
          on (fault e) h = absurd (never (sym told ∙ ap (end_of (length s)) (tree_failed CutShort LeftOver contents s two fits e h)))
          on (read a (b ∷ r)) h =
              absurd (never (sym told ∙ ap (end_of (length s)) (left_inside CutShort LeftOver contents s two fits h (omega arith))))
          on (read a []) h =
              let f = section_read CutShort LeftOver contents s two fits h (omega arith) in
              let z : end ≡ length s - length (drop (2 + count s) s) = cc in
              let place : end ≡ 2 + count s = omega (arith, length-drop (2 + count s) s) in
              let n : end - 2 ≡ count s = omega arith in
              record { place = place; fits = omega arith; tree = a; fills = rw (n, h); reads = rw (place, f) }

-- A tree fills its section or does not.
pub unfilled : (end k : ℕ) → k < end - 2 → filled end (Ok k) ≡ Err LeftOver
unfolding filled
unfilled end k h = rw (filled, lt-leb (end - 2) k h)

pub full : (end k : ℕ) → end - 2 ≤ k → filled end (Ok k) ≡ Ok end
unfolding filled
full end k h = rw (filled, le-leb (end - 2) k h)

-- No more bytes are left than there were.
abbrev pub Within : {A : Type 0} → List ℕ → Reading A → Type 0
Within s (read a r) = length r ≤ length s
Within s (fault e) = Unit

-- Where a section ends by its count alone.
pub section_there : (s : List ℕ) → 2 ≤ length s → count s ≤ length s - 2
    → end_of (length s) (section CutShort LeftOver any_bytes s) ≡ Ok (2 + count s)
unfolding end_of any_bytes
section_there s two fits =
    let place : length s - length (drop (2 + count s) s) ≡ 2 + count s = simp length-drop (omega arith) in
    ap (end_of (length s)) (section_read CutShort LeftOver any_bytes s two fits refl (omega arith)) ∙ ap Ok place

-- From where a section ends by its count alone follows what it comes to.
module _ {A : Type 0} (contents : List ℕ → Reading A) (s : List ℕ) where
  pub section_failed : (e : Fault) → end_of (length s) (section CutShort LeftOver any_bytes s) ≡ Err e
      → end_of (length s) (section CutShort LeftOver contents s) ≡ Err e
  section_failed e told = go (tried s)
    where
      go : Tried s → end_of (length s) (section CutShort LeftOver contents s) ≡ Err e
      go (missing h) = count_missing contents s h ∙ sym (count_missing any_bytes s h) ∙ told
      go (short h) = section_short contents s h ∙ sym (section_short any_bytes s h) ∙ told
      go (there two fits) = absurd (never (sym (section_there s two fits) ∙ told))

  pub section_filled : {end : ℕ} → SectionEnds any_bytes s end → Within (inside end s) (contents (inside end s))
      → end_of (length s) (section CutShort LeftOver contents s) ≡ filled end (end_of (length (inside end s)) (contents (inside end s)))
  unfolding end_of filled
  section_filled {end} counted within = rw n (go (contents (body s)) refl (rw n at within))
    where
      n : end - 2 ≡ count s
      n = omega (arith, counted.place)

      two : 2 ≤ length s
      two = omega (arith, counted.place, counted.fits)

      fits : count s ≤ length s - 2
      fits = omega (arith, counted.place, counted.fits)

      go : (g : Reading A) → contents (body s) ≡ g → Within (body s) g
          → end_of (length s) (section CutShort LeftOver contents s) ≡ filled end (end_of (length (body s)) g)
      go (fault e) h w = ap (end_of (length s)) (tree_failed CutShort LeftOver contents s two fits e h)
      go (read a (b ∷ r)) h w =
          ap (end_of (length s)) (left_inside CutShort LeftOver contents s two fits h (omega arith))
          ∙ sym (unfilled end _ (omega (arith, w, body_length s two fits, counted.place)))
      go (read a []) h w =
          let place : length s - length (drop (2 + count s) s) ≡ end = simp length-drop (omega (arith, counted.place, counted.fits)) in
          ap (end_of (length s)) (section_read CutShort LeftOver contents s two fits h (omega arith))
          ∙ ap Ok place
          ∙ sym (full end _ (omega (arith, body_length s two fits, counted.place)))

-- A tree leaves no more than there was, if its roots do.
module _ {W A : Type 0} (over : Fault) (root : W → List ℕ → Reading (Root W A)) (roots : (w : W) (s : List ℕ) → Within s (root w s)) where
  forest_within : (budget : ℕ) (owed : List W) (s : List ℕ) → Within s (forest over root budget owed s)
  unfolding forest
  forest_within zero [] s = omega arith
  forest_within (suc budget) [] s = omega arith
  forest_within zero (w ∷ owed) s = tt
  forest_within (suc budget) (w ∷ owed) s = go (root w s) (roots w s) (λ ws r. forest_within budget ws r)
    where
      on : (n : Root W A) (r : List ℕ) (g : Reading (List A)) → length r ≤ length s → Within r g → Within s (read_on g (λ ts x. read (n.build ts) x))
      on n r (read ts x) h k = omega arith
      on n r (fault e) h k = tt

      go : (g : Reading (Root W A)) → Within s g → ((ws : List W) (r : List ℕ) → Within r (forest over root budget ws r))
          → Within s (read_on g (λ n r. read_on (forest over root budget (n.parts ++ owed) r) (λ trees rest. read (n.build trees) rest)))
      go (read n r) h k = on n r (forest over root budget (n.parts ++ owed) r) h (k (n.parts ++ owed) r)
      go (fault e) h k = tt

  pub tree_within : (budget : ℕ) (w : W) (s : List ℕ) → Within s (tree over root budget w s)
  unfolding tree
  tree_within budget w s = go (forest over root budget (w ∷ []) s) (forest_within budget (w ∷ []) s)
    where
      go : (g : Reading (List A)) → Within s g → Within s (read_on g (only over))
      go (read [] r) h = tt
      go (read (t ∷ ts) r) h = h
      go (fault e) h = tt
