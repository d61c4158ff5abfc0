-- The root of a node, by its kind byte: where it ends, how many parts it owes, and which bytes it leaves.
use mathlib.Core.Path.{◌≡◌, refl, sym, ap, ◌∙◌}
use mathlib.Core.List.{List, [], ◌∷◌}
use Prim.Native.Nat.{ℕ, ◌+◌, ◌-◌, ◌≤◌, ◌<◌}
use native.Mathlib.Omega.{arith}
use native.Mathlib.Numerals.{add-one}
use lib.ListN.{length, get_or, drop, length-drop, drop_of_length-le}
use lib.Seq.{drop-cons, drop-drop}
use Rattle.stream.specs.declared.Fault.{Fault}
use Rattle.stream.specs.declared.Fault.TheVariants.{CutShort, Unlisted}
use Rattle.stream.specs.Types.{Ty, size}
use Rattle.stream.specs.Levels.{value_width, read_value}
use Rattle.stream.proofs.Levels.Laws.{value_length, value_behind, value_sound, value_there, value_missing}
use Rattle.stream.specs.Reading.{Bytes, Reading, read, fault, read_on, Root, leaf, two_parts}
use Rattle.stream.proofs.Reading.Laws.{◌&◌, past, every, bytes_drop}
use Rattle.stream.specs.Reading.Walking.{Owes, MakesOne}
use Rattle.stream.proofs.Reading.Walking.{leaf_makes, two_makes}
use Rattle.stream.specs.TypeFiles.{read_type}
use Rattle.stream.proofs.TypeFiles.Laws.{type_length, read_type_sound}
use Rattle.reading.specs.Sections.{end_of}
use Rattle.reading.specs.Sections.Laws.{failed, Within}
use Rattle.reading.specs.TypeReads.Laws.{type_drop, read_type_within}
use Rattle.node.specs.Nodes.{Node, pass, silent, emit_cue, emit_level, both, left_side, right_side, first, second, then, chain, regroup_right, regroup_left, spread, front, choose, mark_first, mark_second}
use Rattle.node.specs.PatchFiles.{node_kinds, node_root}
use Rattle.node.specs.Nodes.Kinds.{node_arities, node_arity, listed_kinds, Contents, bare, a_type, a_value, no_kind, contents_by_kind, node_contents}
use Rattle.stream.specs.Tables.{beyond}
use Rattle.std.specs.Prelude.{Err, Ok, Result}

-- A tree ends within the bytes that it was read from.
pub ends_within : {A : Type 0} (n : ℕ) (g : Reading A) (k : ℕ) → end_of n g ≡ Ok k → k ≤ n
unfolding end_of
ends_within n (read a r) k h = let e : n - length r ≡ k = cc in omega arith
ends_within n (fault e) k h = let z : ◌≡◌ {A = ℕ} 0 1 = cc in absurd (omega arith)

-- What a kind byte may begin, by what stands behind it and by how many parts the root owes.
abbrev ReadsRoot : Type 0
ReadsRoot = List ℕ → Reading (Root (Unit {0}) Node)

abbrev carried : (Ty → Node) → ReadsRoot
carried make s = read_on (read_type s) (λ t r. leaf (make t) r)

abbrev valued : (ℕ → Node) → ReadsRoot
valued make s = read_on (read_value CutShort s) (λ v r. leaf (make v) r)

data Shape : Contents → ℕ → ReadsRoot → Type 0 where
  plain : (n : Node) → Shape bare 0 (leaf n)
  carries : (make : Ty → Node) → Shape a_type 0 (carried make)
  values : (make : ℕ → Node) → Shape a_value 0 (valued make)
  forks : (f : Node → Node → Node) → Shape bare 2 (two_parts f tt tt)
  unlisted : Shape no_kind 0 (λ s. fault Unlisted)

abbrev kind_root : ℕ → ReadsRoot
kind_root k = get_or node_kinds k (λ r. fault Unlisted)

shape : (k : ℕ) → Shape (node_contents k) (node_arity k) (kind_root k)
shape =
    every (λ k f. Shape (node_contents k) (node_arity k) f) (λ r. fault Unlisted) node_kinds
    (plain pass & carries silent & plain emit_cue & values emit_level & forks both
    & plain left_side & plain right_side & plain first & plain second & forks then & forks chain
    & plain regroup_right & plain regroup_left & plain spread & plain front & forks choose & carries mark_first & carries mark_second
    & past none)
  where
    none : (k : ℕ) → listed_kinds ≤ k → Shape (node_contents k) (node_arity k) (λ r. fault Unlisted)
    none k h = rw (← beyond contents_by_kind no_kind k h, ← beyond node_arities 0 k h) unlisted

arity_of : {c : Contents} {parts : ℕ} {f : ReadsRoot} → Shape c parts f → parts ≤ 2
arity_of (plain n) = omega arith
arity_of (carries make) = omega arith
arity_of (values make) = omega arith
arity_of (forks f) = omega arith
arity_of unlisted = omega arith

pub few_parts : (k : ℕ) → node_arity k ≤ 2
few_parts k = arity_of (shape k)

-- Each root makes one tree.

leaf-after : {A : Type 0} (g : Reading A) (make : A → Node) → MakesOne {W = Unit {0}} (read_on g (λ a r. leaf (make a) r))
leaf-after (read a r) make = leaf_makes {W = Unit {0}} tt (make a) r
leaf-after (fault e) make = tt

makes : {c : Contents} {parts : ℕ} {f : ReadsRoot} → Shape c parts f → (s : List ℕ) → MakesOne (f s)
makes (plain n) s = leaf_makes {W = Unit {0}} tt n s
makes (carries make) s = leaf-after (read_type s) make
makes (values make) s = leaf-after (read_value CutShort s) make
makes (forks f) s = two_makes {W = Unit {0}} f tt tt s
makes unlisted s = tt

pub makes_one : (w : Unit {0}) (s : List ℕ) → MakesOne (node_root w s)
unfolding node_root
makes_one w [] = tt
makes_one w (k ∷ s) = makes (shape k) s

-- Where the root ends, by what stands behind the kind byte: nothing, a type or a value. No kind is refused.

plain_ends : {parts : ℕ} {f : ReadsRoot} → Shape bare parts f → (m : ℕ) (s : List ℕ) → end_of m (f s) ≡ Ok (m - length s)
unfolding end_of
plain_ends (plain n) m s = refl
plain_ends (forks f) m s = refl

refuses : {parts : ℕ} {f : ReadsRoot} → Shape no_kind parts f → (m : ℕ) (s : List ℕ) → end_of m (f s) ≡ Err Unlisted
unfolding end_of
refuses unlisted m s = refl

carried-ends : {parts : ℕ} {f : ReadsRoot} → Shape a_type parts f → (m : ℕ) (s : List ℕ) → end_of m (f s) ≡ end_of m (read_type s)
unfolding end_of
carried-ends (carries make) m s = go (read_type s)
  where
    go : (g : Reading Ty) → end_of m (read_on g (λ t r. leaf {W = Unit {0}} (make t) r)) ≡ end_of m g
    go (read t r) = refl
    go (fault e) = refl

valued_fails : {parts : ℕ} {f : ReadsRoot} → Shape a_value parts f → (m : ℕ) (s : List ℕ) → length s < value_width
    → end_of m (f s) ≡ Err CutShort
unfolding end_of
valued_fails (values make) m s h = rw (value_missing CutShort s h)

valued-ends : {parts : ℕ} {f : ReadsRoot} → Shape a_value parts f → (m : ℕ) (s : List ℕ) → value_width ≤ length s → length s ≤ m
    → end_of m (f s) ≡ Ok (m - length s + value_width)
unfolding end_of
valued-ends (values make) m s h l = rw (value_there CutShort s h).1 (ap Ok (omega (arith, length-drop value_width s)))

-- Where a carried type ends, by where it ends in the bytes from its place on.

pub carried_failed : (s : List ℕ) (at : ℕ) (e : Fault) → end_of (length (drop at s)) (read_type (drop at s)) ≡ Err e
    → end_of (length s) (read_type (drop at s)) ≡ Err e
unfolding end_of
carried_failed s at e h = rw (failed (length (drop at s)) (read_type (drop at s)) e h)

pub carried_ended : (s : List ℕ) (at : ℕ) → at ≤ length s → (k : ℕ) → end_of (length (drop at s)) (read_type (drop at s)) ≡ Ok k
    → end_of (length s) (read_type (drop at s)) ≡ Ok (at + k)
unfolding end_of
carried_ended s at inside k told = go (read_type (drop at s)) (read_type_within (drop at s)) told
  where
    go : (g : Reading Ty) → Within (drop at s) g → end_of (length (drop at s)) g ≡ Ok k → end_of (length s) g ≡ Ok (at + k)
    go (read t r) w told = let e : length (drop at s) - length r ≡ k = cc in ap Ok (omega (arith, length-drop at s))
    go (fault e) w told = let z : ◌≡◌ {A = ℕ} 0 1 = cc in absurd (omega arith)

-- A root was read at the front of s, before which m - length s bytes stand: it ends at `end` and leaves what stands there.
record Leaves (parts m : ℕ) (s : List ℕ) (g : Reading (Root (Unit {0}) Node)) (end : ℕ) : Type 0 where
  width : ℕ
  inside : width ≤ length s
  place : end ≡ m - length s + width
  owes : Owes tt parts (drop width s) g

module _ (m : ℕ) (s : List ℕ) (l : length s ≤ m) (end : ℕ) where
  leaves_after : {A : Type 0} (g : Reading A) (make : A → Node)
      → ((a : A) (r : List ℕ) → g ≡ read a r → (w : ℕ) × (w ≤ length s) × (r ≡ drop w s))
      → end_of m (read_on g (λ a r. leaf {W = Unit {0}} (make a) r)) ≡ Ok end → Leaves 0 m s (read_on g (λ a r. leaf (make a) r)) end
  unfolding end_of
  leaves_after (fault e) make h k = let z : ◌≡◌ {A = ℕ} 0 1 = cc in absurd (omega arith)
  leaves_after (read a r) make h k =
      let (w, inside, e) = h a r refl in
      let n : m - length r ≡ end = cc in
      record { width = w; inside = inside; place = omega (arith, simp length-drop at (ap length e)); owes = (_, ap (leaf (make a)) e, refl) }

  leaves : {c : Contents} {parts : ℕ} {f : ReadsRoot} → Shape c parts f → Bytes s → end_of m (f s) ≡ Ok end → Leaves parts m s (f s) end
  unfolding end_of
  leaves (plain n) b h = let e : m - length s ≡ end = cc in record { width = 0; inside = omega arith; place = omega arith; owes = (_, refl, refl) }
  leaves (carries make) b h = leaves_after (read_type s) make behind h
    where
      behind : (t : Ty) (r : List ℕ) → read_type s ≡ read t r → (w : ℕ) × (w ≤ length s) × (r ≡ drop w s)
      behind t r e =
          let f = read_type_sound s t r b e in
          (size t, omega (arith, type_length t r, ap length f.bytes), rw (← f.bytes) (sym (type_drop t r)))
  leaves (values make) b h = leaves_after (read_value CutShort s) make behind h
    where
      behind : (v : ℕ) (r : List ℕ) → read_value CutShort s ≡ read v r → (w : ℕ) × (w ≤ length s) × (r ≡ drop w s)
      behind v r e =
          let f = value_sound CutShort s v r b e in
          (value_width, omega (arith, value_length v r, ap length f.bytes), rw (← f.bytes) (sym (value_behind v r)))
  leaves (forks f) b h = let e : m - length s ≡ end = cc in record { width = 0; inside = omega arith; place = omega arith; owes = (_, refl, refl) }
  leaves unlisted b h = let z : ◌≡◌ {A = ℕ} 0 1 = cc in absurd (omega arith)

-- The root at a place.
module _ (s : List ℕ) (at : ℕ) where
  abbrev pub root_end : Result ℕ Fault
  root_end = end_of (length s) (node_root tt (drop at s))

  pub cut_short : at ≡ length s → root_end ≡ Err CutShort
  unfolding end_of node_root
  cut_short e =
      let h : length s ≤ at = omega arith in
      let z : drop at s ≡ [] = drop_of_length-le s h in
      rw z

  module _ (inside : at < length s) where
    root_at : node_root tt (drop at s) ≡ kind_root (get_or s at 0) (drop (at + 1) s)
    unfolding node_root
    root_at = rw (drop-cons s at 0 inside, add-one)

    by_kind : root_end ≡ end_of (length s) (kind_root (get_or s at 0) (drop (at + 1) s))
    by_kind = ap (end_of (length s)) root_at

    behind_kind : length s - length (drop (at + 1) s) ≡ at + 1
    behind_kind = simp length-drop (omega arith)

    -- The shape of the kind that is there.
    shape_at : {c : Contents} → node_contents (get_or s at 0) ≡ c → Shape c (node_arity (get_or s at 0)) (kind_root (get_or s at 0))
    shape_at e = rw e at (shape (get_or s at 0))

    rest_inside : length (drop (at + 1) s) ≤ length s
    rest_inside = simp length-drop (omega arith)

    pub plain_end : node_contents (get_or s at 0) ≡ bare → root_end ≡ Ok (at + 1)
    plain_end e = by_kind ∙ plain_ends (shape_at e) (length s) (drop (at + 1) s) ∙ ap Ok behind_kind

    pub unlisted_end : listed_kinds ≤ get_or s at 0 → root_end ≡ Err Unlisted
    unlisted_end h = by_kind ∙ refuses (shape_at (sym (beyond contents_by_kind no_kind (get_or s at 0) h))) (length s) (drop (at + 1) s)

    pub type_end : node_contents (get_or s at 0) ≡ a_type → root_end ≡ end_of (length s) (read_type (drop (at + 1) s))
    type_end e = by_kind ∙ carried-ends (shape_at e) (length s) (drop (at + 1) s)

    module _ (has_value : node_contents (get_or s at 0) ≡ a_value) where
      pub value_failed : length s - (at + 1) < value_width → root_end ≡ Err CutShort
      value_failed h = by_kind ∙ valued_fails (shape_at has_value) (length s) (drop (at + 1) s) (simp length-drop h)

      pub value_ended : value_width ≤ length s - (at + 1) → root_end ≡ Ok (at + 1 + value_width)
      value_ended h =
          by_kind ∙ valued-ends (shape_at has_value) (length s) (drop (at + 1) s) (simp length-drop h) rest_inside
          ∙ ap (λ n. Ok (n + value_width)) behind_kind

  -- A root that ends at `end` was read.
  pub record RootRead (end : ℕ) : Type 0 where
    pub starts_inside : at < length s
    pub ends_inside : end ≤ length s
    pub owes : Owes tt (node_arity (get_or s at 0)) (drop end s) (node_root tt (drop at s))

  pub root_read : (end : ℕ) → Bytes s → root_end ≡ Ok end → RootRead end
  unfolding end_of node_root
  root_read end b h = go (drop at s) refl
    where
      go : (r : List ℕ) → drop at s ≡ r → RootRead end
      go [] e = let f = rw e at h in let z : ◌≡◌ {A = ℕ} 0 1 = cc in absurd (omega arith)
      go (k ∷ r) e =
          let inside : at < length s = omega (arith, simp length-drop at (ap length e)) in
          let l : length (drop (at + 1) s) ≤ length s = simp length-drop (omega arith) in
          let v = leaves (length s) (drop (at + 1) s) l end (shape (get_or s at 0)) (bytes_drop (at + 1) s b) (sym (by_kind inside) ∙ h) in
          let e : at + 1 + v.width ≡ end = omega (arith, v.place, behind_kind inside) in
          let there = drop-drop v.width (at + 1) s ∙ ap (λ n. drop n s) e in
          record {
            starts_inside = inside;
            ends_inside = omega (arith, v.place, v.inside, behind_kind inside, length-drop (at + 1) s);
            owes = rw (root_at inside, ← there) v.owes;
          }
