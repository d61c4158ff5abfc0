-- Reading undoes writing, and what was read is what was written: for any trees, and for sections.
use Rattle.std.proofs.Math.Path.{◌≡◌, refl, ap}
use Rattle.std.proofs.Common.{sym, ◌∙◌, suc-add, add-suc, add-zero, length-append, get_or-drop}
use Rattle.std.specs.Prelude.{Bool, get_or, drop}
use Rattle.std.proofs.Math.Bool.{true, false}
use mathlib.Core.List.{List, [], ◌∷◌, ◌++◌}
use Prim.Native.Nat.{ℕ, zero, suc, ◌+◌, ◌-◌, ◌*◌, ◌/◌, ◌%◌, ◌≤◌, ◌<◌}
use native.Mathlib.Omega.{arith}
use Rattle.std.proofs.Math.Dec.{leb}
use Rattle.std.proofs.Math.ListN.{length, take, take-append-drop}
use Rattle.std.proofs.Math.Seq.{length-take-le, take-append_seam, drop-append_seam}
use borrow.Author.Tests.{le-leb, leb-true}
use Rattle.stream.specs.declared.Fault.{Fault}
use Rattle.stream.specs.Reading.{Bytes, Reading, read, fault, Result, accepted, refused, read_on, go_on, require, whole, followed_by, read_number, section_bytes, counted, section, Root, forest, only, tree, leaf, one_part, two_parts, on_one, on_two}

-- A table of proofs is written `a & b & past c`.
infixr 5 ◌&◌
-- Bytes

pub bytes_tail : (b : ℕ) (s : List ℕ) → Bytes (b ∷ s) → Bytes s
bytes_tail b s h = λ i. h (suc i)

pub bytes_drop : (n : ℕ) (s : List ℕ) → Bytes s → Bytes (drop n s)
bytes_drop n s h = λ i. rw (get_or-drop n s i 0) (h (n + i))

pub bytes_nil : Bytes []
bytes_nil = λ i. omega arith

pub bytes_cons : (b : ℕ) (s : List ℕ) → b < 256 → Bytes s → Bytes (b ∷ s)
bytes_cons b s h k zero = h
bytes_cons b s h k (suc i) = k i

pub bytes_append : (s t : List ℕ) → Bytes s → Bytes t → Bytes (s ++ t)
bytes_append [] t h k = k
bytes_append (b ∷ s) t h k = bytes_cons b (s ++ t) (h 0) (bytes_append s t (bytes_tail b s h) k)

pub bytes_take : (n : ℕ) (s : List ℕ) → Bytes s → Bytes (take n s)
bytes_take zero [] h = bytes_nil
bytes_take zero (b ∷ s) h = bytes_nil
bytes_take (suc n) [] h = bytes_nil
bytes_take (suc n) (b ∷ s) h = bytes_cons b (take n s) (h 0) (bytes_take n s (bytes_tail b s h))

-- Forests

-- A tree put in front of what is read.
abbrev pub prepend : {A : Type 0} → A → Reading (List A) → Reading (List A)
prepend a g = read_on g (λ ts r. read (a ∷ ts) r)

module _ {W A : Type 0} (over : Fault) (root : W → List ℕ → Reading (Root W A)) where
  pub none_owed : (budget : ℕ) (s : List ℕ) → forest over root budget [] s ≡ read [] s
  unfolding forest
  none_owed zero s = refl
  none_owed (suc budget) s = refl

  -- `write` puts n nodes in front of some bytes, and they are read as the tree a for the entry w.
  pub record Reads (w : W) (a : A) (n : ℕ) (write : List ℕ → List ℕ) : Type 0 where
    pub reads : (budget : ℕ) (owed : List W) (s : List ℕ)
        → forest over root (n + budget) (w ∷ owed) (write s) ≡ prepend a (forest over root budget owed s)

  step : (budget : ℕ) (w : W) (owed : List W) (s r : List ℕ) (n : Root W A) → root w s ≡ read n r
      → forest over root (suc budget) (w ∷ owed) s
      ≡ read_on (forest over root budget (n.parts ++ owed) r) (λ ts rest. read (n.build ts) rest)
  unfolding forest
  step budget w owed s r n e = rw (forest, e)

  pub reads_leaf : {w : W} {a : A} (write : List ℕ → List ℕ) → ((s : List ℕ) → root w (write s) ≡ leaf a s) → Reads w a 1 write
  reads_leaf {w} {a} write h = record { reads = go }
    where
      go : (budget : ℕ) (owed : List W) (s : List ℕ)
          → forest over root (1 + budget) (w ∷ owed) (write s) ≡ prepend a (forest over root budget owed s)
      go budget owed s =
          let e : 1 + budget ≡ suc budget = omega arith in
          rw e (step budget w owed (write s) s _ (h s))

  one_taken : (f : A → A) (a : A) (g : Reading (List A)) → read_on (prepend a g) (λ ts r. read (on_one f ts) r) ≡ prepend (f a) g
  one_taken f a (read ts r) = refl
  one_taken f a (fault e) = refl

  pub reads_one : {v w : W} {a : A} {n : ℕ} {inner : List ℕ → List ℕ} (f : A → A) (write : List ℕ → List ℕ)
      → ((s : List ℕ) → root w (write s) ≡ one_part f v (inner s)) → Reads v a n inner → Reads w (f a) (suc n) write
  reads_one {v} {w} {a} {n} {inner} f write h k = record { reads = go }
    where
      go : (budget : ℕ) (owed : List W) (s : List ℕ)
          → forest over root (suc n + budget) (w ∷ owed) (write s) ≡ prepend (f a) (forest over root budget owed s)
      go budget owed s =
          let e : suc n + budget ≡ suc (n + budget) = omega arith in
          rw e (step (n + budget) w owed (write s) (inner s) _ (h s)
          ∙ ap (λ g. read_on g (λ ts r. read (on_one f ts) r)) (k.reads budget owed s)
          ∙ one_taken f a (forest over root budget owed s))

  two_taken : (f : A → A → A) (a b : A) (g : Reading (List A))
      → read_on (prepend a (prepend b g)) (λ ts r. read (on_two f ts) r) ≡ prepend (f a b) g
  two_taken f a b (read ts r) = refl
  two_taken f a b (fault e) = refl

  pub reads_two : {u v w : W} {a b : A} {n m : ℕ} {first second : List ℕ → List ℕ} (f : A → A → A) (write : List ℕ → List ℕ)
      → ((s : List ℕ) → root w (write s) ≡ two_parts f u v (first (second s)))
      → Reads u a n first → Reads v b m second → Reads w (f a b) (suc (n + m)) write
  reads_two {u} {v} {w} {a} {b} {n} {m} {first} {second} f write h j k = record { reads = go }
    where
      go : (budget : ℕ) (owed : List W) (s : List ℕ)
          → forest over root (suc (n + m) + budget) (w ∷ owed) (write s) ≡ prepend (f a b) (forest over root budget owed s)
      go budget owed s =
          let e : suc (n + m) + budget ≡ suc (n + (m + budget)) = omega arith in
          rw e (step (n + (m + budget)) w owed (write s) (first (second s)) _ (h s)
          ∙ ap (λ g. read_on g (λ ts r. read (on_two f ts) r))
          (j.reads (m + budget) (v ∷ owed) (second s) ∙ ap (prepend a) (k.reads budget owed s))
          ∙ two_taken f a b (forest over root budget owed s))

  -- Reading what was written: within the budget, the tree comes back and the bytes after it are left.
  pub tree_reads : {w : W} {a : A} {n : ℕ} {write : List ℕ → List ℕ} (budget : ℕ) (s : List ℕ) → Reads w a n write → n ≤ budget
      → tree over root budget w (write s) ≡ read a s
  unfolding tree
  tree_reads {w} {a} {n} {write} budget s k h =
      let e : n + (budget - n) ≡ budget = omega arith in
      let g : forest over root budget (w ∷ []) (write s) ≡ read (a ∷ []) s
      = rw e at (k.reads (budget - n) [] s ∙ ap (prepend a) (none_owed (budget - n) s)) in
      rw g

-- What a leaf carries, read at the front of the bytes s: it was written there, it is held to its limit, and r is left.
pub record FoundContents {C : Type 0} (put : C → List ℕ → List ℕ) (Held : C → Type 0) (s : List ℕ) (c : C) (r : List ℕ) : Type 0 where
  pub bytes : put c r ≡ s
  pub within : Held c
  pub rest : Bytes r

-- What was read is what was written. `Is w a` says that a is a tree for the entry w, `write` gives its bytes, `nodes` their number of roots.
module _ {W A : Type 0} (over : Fault) (root : W → List ℕ → Reading (Root W A))
    (Is : W → A → Type 0) (write : A → List ℕ → List ℕ) (nodes : A → ℕ) where
  pub data Each : List W → List A → Type 0 where
    none : Each [] []
    more : {w : W} {owed : List W} {a : A} {ts : List A} → Is w a → Each owed ts → Each (w ∷ owed) (a ∷ ts)

  abbrev pub writes : List A → List ℕ → List ℕ
  writes [] x = x
  writes (a ∷ ts) x = write a (writes ts x)

  abbrev pub total : List A → ℕ
  total [] = 0
  total (a ∷ ts) = nodes a + total ts

  -- The trees that a root makes of those that follow it.
  pub record Made (w : W) (owed : List W) (s : List ℕ) (count : ℕ) (ts : List A) (x : List ℕ) : Type 0 where
    pub each : Each (w ∷ owed) ts
    pub bytes : writes ts x ≡ s
    pub few : total ts ≡ suc count

  pub record RootSound (w : W) (s : List ℕ) (n : Root W A) (r : List ℕ) : Type 0 where
    pub rest : Bytes r
    pub makes : (owed : List W) (ts : List A) (x : List ℕ) → Each (n.parts ++ owed) ts → writes ts x ≡ r
        → Made w owed s (total ts) (n.build ts) x

  abbrev pub RootIs : W → List ℕ → Reading (Root W A) → Type 0
  RootIs w s (read n r) = RootSound w s n r
  RootIs w s (fault e) = Unit

  leaf_makes : {w : W} (a : A) (s r : List ℕ) → Is w a → nodes a ≡ 1 → write a r ≡ s
      → (owed : List W) (ts : List A) (x : List ℕ) → Each owed ts → writes ts x ≡ r → Made w owed s (total ts) (a ∷ ts) x
  leaf_makes a s r i n e owed ts x each h =
      record { each = more i each; bytes = ap (write a) h ∙ e; few = omega arith }

  pub leaf_is : {w : W} (a : A) (s r : List ℕ) → Bytes r → Is w a → nodes a ≡ 1 → write a r ≡ s → RootIs w s (leaf a r)
  leaf_is a s r b i n e = record { rest = b; makes = λ owed ts x each h. leaf_makes a s r i n e owed ts x each h }

  pub carried_is : {C : Type 0} {w : W} (contents : List ℕ → Reading C) (put : C → List ℕ → List ℕ) (Held : C → Type 0) (make : C → A) (k : ℕ)
      (s : List ℕ) → ((c : C) (r : List ℕ) → contents s ≡ read c r → FoundContents put Held s c r)
      → ((c : C) → Held c → Is w (make c)) → ((c : C) → nodes (make c) ≡ 1) → ((c : C) (x : List ℕ) → write (make c) x ≡ k ∷ put c x)
      → RootIs w (k ∷ s) (read_on (contents s) (λ c r. leaf (make c) r))
  carried_is {C} {w} contents put Held make k s sound i n e = go (contents s) refl
    where
      go : (g : Reading C) → contents s ≡ g → RootIs w (k ∷ s) (read_on g (λ c r. leaf (make c) r))
      go (fault x) h = tt
      go (read c r) h =
          let f = sound c r h in
          leaf_is (make c) (k ∷ s) r f.rest (i c f.within) (n c) (e c r ∙ ap (λ l. k ∷ l) f.bytes)

  one_makes : {v w : W} (f : A → A) (k : ℕ) (r : List ℕ) → ((a : A) → Is v a → Is w (f a))
      → ((a : A) → nodes (f a) ≡ suc (nodes a)) → ((a : A) (x : List ℕ) → write (f a) x ≡ k ∷ write a x)
      → (owed : List W) (ts : List A) (x : List ℕ) → Each (v ∷ owed) ts → writes ts x ≡ r
      → Made w owed (k ∷ r) (total ts) (on_one f ts) x
  one_makes f k r i n e owed ts x (more {a = a} {ts = us} j each) h =
      record { each = more (i a j) each; bytes = e a (writes us x) ∙ ap (λ l. k ∷ l) h; few = omega (arith, n a) }

  pub one_is : {v w : W} (f : A → A) (k : ℕ) (r : List ℕ) → Bytes r → ((a : A) → Is v a → Is w (f a))
      → ((a : A) → nodes (f a) ≡ suc (nodes a)) → ((a : A) (x : List ℕ) → write (f a) x ≡ k ∷ write a x)
      → RootIs w (k ∷ r) (one_part f v r)
  one_is f k r b i n e = record { rest = b; makes = λ owed ts x each h. one_makes f k r i n e owed ts x each h }

  two_makes : {u v w : W} (f : A → A → A) (k : ℕ) (r : List ℕ) → ((a b : A) → Is u a → Is v b → Is w (f a b))
      → ((a b : A) → nodes (f a b) ≡ suc (nodes a + nodes b)) → ((a b : A) (x : List ℕ) → write (f a b) x ≡ k ∷ write a (write b x))
      → (owed : List W) (ts : List A) (x : List ℕ) → Each (u ∷ v ∷ owed) ts → writes ts x ≡ r
      → Made w owed (k ∷ r) (total ts) (on_two f ts) x
  two_makes f k r i n e owed ts x (more {a = a} j (more {a = b} {ts = us} l each)) h =
      record { each = more (i a b j l) each; bytes = e a b (writes us x) ∙ ap (λ y. k ∷ y) h; few = omega (arith, n a b) }

  pub two_is : {u v w : W} (f : A → A → A) (k : ℕ) (r : List ℕ) → Bytes r → ((a b : A) → Is u a → Is v b → Is w (f a b))
      → ((a b : A) → nodes (f a b) ≡ suc (nodes a + nodes b)) → ((a b : A) (x : List ℕ) → write (f a b) x ≡ k ∷ write a (write b x))
      → RootIs w (k ∷ r) (two_parts f u v r)
  two_is f k r b i n e = record { rest = b; makes = λ owed ts x each h. two_makes f k r i n e owed ts x each h }

  pub record Found (budget : ℕ) (owed : List W) (s : List ℕ) (ts : List A) (r : List ℕ) : Type 0 where
    pub each : Each owed ts
    pub bytes : writes ts r ≡ s
    pub few : total ts ≤ budget
    pub rest : Bytes r

  abbrev pub Sound : ℕ → List W → List ℕ → Reading (List A) → Type 0
  Sound budget owed s (read ts r) = Found budget owed s ts r
  Sound budget owed s (fault e) = Unit

  rooted : (budget : ℕ) (w : W) (owed : List W) (s : List ℕ) (n : Root W A) (r : List ℕ) → RootSound w s n r
      → (g : Reading (List A)) → Sound budget (n.parts ++ owed) r g
      → Sound (suc budget) (w ∷ owed) s (read_on g (λ ts rest. read (n.build ts) rest))
  rooted budget w owed s n r h (read ts x) f =
      let m = h.makes owed ts x f.each f.bytes in
      record { each = m.each; bytes = m.bytes; few = omega (arith, m.few, f.few); rest = f.rest }
  rooted budget w owed s n r h (fault e) f = tt

  module _ (sound : (w : W) (s : List ℕ) → Bytes s → RootIs w s (root w s)) where
    pub forest_sound : (budget : ℕ) (owed : List W) (s : List ℕ) → Bytes s → Sound budget owed s (forest over root budget owed s)
    unfolding forest
    forest_sound zero [] s b = record { each = none; bytes = refl; few = omega arith; rest = b }
    forest_sound (suc budget) [] s b = record { each = none; bytes = refl; few = omega arith; rest = b }
    forest_sound zero (w ∷ owed) s b = tt
    forest_sound (suc budget) (w ∷ owed) s b = go (root w s) (sound w s b) (λ ws r c. forest_sound budget ws r c)
      where
        go : (g : Reading (Root W A)) → RootIs w s g → ((ws : List W) (r : List ℕ) → Bytes r → Sound budget ws r (forest over root budget ws r))
            → Sound (suc budget) (w ∷ owed) s
            (read_on g (λ n r. read_on (forest over root budget (n.parts ++ owed) r) (λ trees rest. read (n.build trees) rest)))
        go (read n r) h k = rooted budget w owed s n r h (forest over root budget (n.parts ++ owed) r) (k (n.parts ++ owed) r h.rest)
        go (fault e) h k = tt

    pub record FoundTree (budget : ℕ) (w : W) (s : List ℕ) (a : A) (r : List ℕ) : Type 0 where
      pub is : Is w a
      pub bytes : write a r ≡ s
      pub few : nodes a ≤ budget
      pub rest : Bytes r

    -- What a tree read is: one for its entry, of the bytes that were there, within the budget.
    pub tree_sound : (budget : ℕ) (w : W) (s : List ℕ) (a : A) (r : List ℕ) → Bytes s → tree over root budget w s ≡ read a r → FoundTree budget w s a r
    unfolding tree
    tree_sound budget w s a r b e = go (forest over root budget (w ∷ []) s) e (forest_sound budget (w ∷ []) s b)
      where
        one : (t : A) (ts : List A) → t ≡ a → Each (w ∷ []) (t ∷ ts) → writes (t ∷ ts) r ≡ s → total (t ∷ ts) ≤ budget → Bytes r → FoundTree budget w s a r
        one t ts h (more i none) e n c = rw (← h) (record { is = i; bytes = e; few = omega arith; rest = c })

        go : (g : Reading (List A)) → read_on g (only over) ≡ read a r → Sound budget (w ∷ []) s g → FoundTree budget w s a r
        go (fault x) e k = let z : ◌≡◌ {A = ℕ} 0 1 = cc in absurd (omega arith)
        go (read [] x) e k = let z : ◌≡◌ {A = ℕ} 0 1 = cc in absurd (omega arith)
        go (read (t ∷ ts) x) e k =
            let h : t ≡ a = cc in
            let j : x ≡ r = cc in
            one t ts h k.each (rw j at k.bytes) k.few (rw j at k.rest)

-- Sections

module _ {A : Type 0} (if_short if_left : Fault) (contents : List ℕ → Reading A) where
  pub section_reads : (body r : List ℕ) (a : A) → contents body ≡ read a []
      → section if_short if_left contents (section_bytes body r) ≡ read a r
  unfolding section section_bytes counted read_number
  section_reads body r a e =
      let n : (0 * 256 + length body / 256) * 256 + length body % 256 ≡ length body = omega arith in
      let m : length body ≤ length (body ++ r) = rw (length-append body r) (omega arith) in
      ap (λ k. counted if_short if_left contents k (body ++ r)) n
      ∙ rw (counted, le-leb _ _ m, take-append_seam body r, drop-append_seam body r, e)

  pub record FoundSection (s : List ℕ) (a : A) (r : List ℕ) : Type 0 where
    pub body : List ℕ
    pub inside : contents body ≡ read a []
    pub bytes : section_bytes body r ≡ s
    pub body_bytes : Bytes body
    pub rest : Bytes r

  whole_read : (g : Reading A) (a : A) (x r : List ℕ) → followed_by x (whole if_left g) ≡ read a r → (g ≡ read a []) × (x ≡ r)
  whole_read (read b []) a x r e = ((cc), (cc))
  whole_read (read b (c ∷ y)) a x r e = let z : ◌≡◌ {A = ℕ} 0 1 = cc in absurd (omega arith)
  whole_read (fault f) a x r e = let z : ◌≡◌ {A = ℕ} 0 1 = cc in absurd (omega arith)

  counted_sound : (n : ℕ) (s : List ℕ) (a : A) (r : List ℕ) → counted if_short if_left contents n s ≡ read a r
      → (n ≤ length s) × (contents (take n s) ≡ read a []) × (drop n s ≡ r)
  unfolding counted
  counted_sound n s a r e = go (leb n (length s)) refl e
    where
      go : (t : Bool) → leb n (length s) ≡ t
          → followed_by (drop n s) (require t if_short (whole if_left (contents (take n s)))) ≡ read a r
          → (n ≤ length s) × (contents (take n s) ≡ read a []) × (drop n s ≡ r)
      go false d e = let z : ◌≡◌ {A = ℕ} 0 1 = cc in absurd (omega arith)
      go true d e =
          let w = whole_read (contents (take n s)) a (drop n s) r e in
          (leb-true n (length s) d, w.0, w.1)

  pub section_sound : (s : List ℕ) (a : A) (r : List ℕ) → Bytes s → section if_short if_left contents s ≡ read a r → FoundSection s a r
  unfolding section section_bytes read_number
  section_sound [] a r b e = let z : ◌≡◌ {A = ℕ} 0 1 = cc in absurd (omega arith)
  section_sound (h ∷ []) a r b e = let z : ◌≡◌ {A = ℕ} 0 1 = cc in absurd (omega arith)
  section_sound (h ∷ l ∷ s) a r b e =
      let c : Bytes s = λ i. b (suc (suc i)) in
      let k : (0 * 256 + h) * 256 + l ≡ h * 256 + l = omega arith in
      let w = counted_sound (h * 256 + l) s a r (sym (ap (λ n. counted if_short if_left contents n s) k) ∙ e) in
      let n : length (take (h * 256 + l) s) ≡ h * 256 + l = length-take-le (h * 256 + l) s w.0 in
      let x : (h * 256 + l) / 256 ≡ h = omega (arith, b 0, b 1) in
      let y : (h * 256 + l) % 256 ≡ l = omega (arith, b 0, b 1) in
      record {
        body = take (h * 256 + l) s;
        inside = w.1;
        bytes = rw (n, x, y, ← w.2, take-append-drop (h * 256 + l) s);
        body_bytes = bytes_take (h * 256 + l) s c;
        rest = rw (← w.2) (bytes_drop (h * 256 + l) s c);
      }

pub section_length : (body r : List ℕ) → length (section_bytes body r) ≡ 2 + length body + length r
unfolding section_bytes
section_length body r = omega (arith, length-append body r)

-- A section of up to 65,535 bytes is bytes.
pub section_is_bytes : (body r : List ℕ) → length body < 65536 → Bytes body → Bytes r → Bytes (section_bytes body r)
unfolding section_bytes
section_is_bytes body r h b c =
    bytes_cons (length body / 256) (length body % 256 ∷ (body ++ r)) (omega arith)
    (bytes_cons (length body % 256) (body ++ r) (omega arith) (bytes_append body r b c))

-- What is read, or accepted, after something else was

pub read_on_read : {A B : Type 0} (g : Reading A) (f : A → List ℕ → Reading B) (b : B) (r : List ℕ) → read_on g f ≡ read b r
    → (a : A) × (x : List ℕ) × (g ≡ read a x) × (f a x ≡ read b r)
read_on_read (read a x) f b r e = (a, x, refl, e)
read_on_read (fault y) f b r e = let z : ◌≡◌ {A = ℕ} 0 1 = cc in absurd (omega arith)

pub go_on_accepted : {A B : Type 0} (g : Result A) (f : A → Result B) (b : B) → go_on g f ≡ accepted b → (a : A) × (g ≡ accepted a) × (f a ≡ accepted b)
go_on_accepted (accepted a) f b e = (a, refl, e)
go_on_accepted (refused x) f b e = let z : ◌≡◌ {A = ℕ} 0 1 = cc in absurd (omega arith)

pub require_accepted : {A : Type 0} (c : Bool) (x : Fault) (r : Result A) (a : A) → require c x r ≡ accepted a → (c ≡ true) × (r ≡ accepted a)
require_accepted true x r a e = (refl, e)
require_accepted false x r a e = let z : ◌≡◌ {A = ℕ} 0 1 = cc in absurd (omega arith)

-- A file: nothing may stand after it.

pub whole_sound : {A : Type 0} (if_left : Fault) (g : Reading A) (a : A) → whole if_left g ≡ accepted a → g ≡ read a []
whole_sound o (read b []) a e = cc
whole_sound o (read b (c ∷ y)) a e = let z : ◌≡◌ {A = ℕ} 0 1 = cc in absurd (omega arith)
whole_sound o (fault f) a e = let z : ◌≡◌ {A = ℕ} 0 1 = cc in absurd (omega arith)

-- Tables: a rule at every entry, counted from i, and past the end.

pub data All {K : Type 0} (P : ℕ → K → Type 0) (d : K) : ℕ → List K → Type 0 where
  past : {i : ℕ} → ((b : ℕ) → i ≤ b → P b d) → All P d i []
  ◌&◌ : {i : ℕ} {k : K} {ks : List K} → P i k → All P d (suc i) ks → All P d i (k ∷ ks)

all_at : {K : Type 0} {P : ℕ → K → Type 0} {d : K} {ks : List K} {i : ℕ} → All P d i ks → (b : ℕ) → P (i + b) (get_or ks b d)
all_at {i = i} (past h) b = h (i + b) (omega arith)
all_at (h & hs) zero = rw add-zero h
all_at (h & hs) (suc b) = rw (add-suc, ← suc-add) (all_at hs b)

pub every : {K : Type 0} (P : ℕ → K → Type 0) (d : K) (ks : List K) → All P d 0 ks → (b : ℕ) → P b (get_or ks b d)
every P d ks h b = let z : 0 + b ≡ b = omega arith in rw z at (all_at h b)
