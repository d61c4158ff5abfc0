-- A node that stands at a place of some bytes: its kind byte, its parts, and where it ends.
use Rattle.std.specs.Prelude.{◌≡◌, refl, List, [], ◌∷◌, ◌++◌, ℕ, ◌+◌, ◌≤◌, ◌<◌, length, get_or, take, drop}
use Rattle.std.proofs.Common.{sym, ap, ◌∙◌, append_assoc, arith, add-zero, length-append, length-drop, get_or-drop, drop-drop, take_at, drop_at}
use Rattle.stream.specs.Types.{Ty, size, Small}
use Rattle.stream.proofs.Levels.Laws.{value_length, value_append}
use Rattle.stream.proofs.Reading.Laws.{◌&◌, past, every}
use Rattle.stream.specs.TypeFiles.{type_bytes}
use Rattle.reading.specs.TypeReads.{TypeAt}
use Rattle.reading.specs.TypeReads.Laws.{type_before, type_width}
use Rattle.node.specs.Nodes.{Node, pass, silent, emit_cue, emit_level, both, left_side, right_side, first, second, then, chain, regroup_right, regroup_left, spread, front, choose, mark_first, mark_second, count}
use Rattle.node.specs.Nodes.Functions.{Carries}
use Rattle.node.specs.Nodes.Kinds.{node_kind, node_arity, node_arities, kind_is_listed}
use Rattle.node.specs.PatchFiles.{node_bytes}
use Rattle.patch_reading.specs.PatchReads.{node_width, NodeAt}

root_first : (n : Node) (r : List ℕ) → node_bytes n r ≡ node_kind n ∷ drop 1 (node_bytes n r)
unfolding node_bytes
root_first pass r = refl
root_first (silent n) r = refl
root_first emit_cue r = refl
root_first (emit_level v) r = refl
root_first (both n m) r = refl
root_first left_side r = refl
root_first right_side r = refl
root_first first r = refl
root_first second r = refl
root_first (then n m) r = refl
root_first (chain n m) r = refl
root_first regroup_right r = refl
root_first regroup_left r = refl
root_first spread r = refl
root_first front r = refl
root_first (choose n m) r = refl
root_first (mark_first t) r = refl
root_first (mark_second t) r = refl

-- Behind a node stands what was put there.

node_append : (n : Node) (r s : List ℕ) → node_bytes n (r ++ s) ≡ node_bytes n r ++ s
unfolding node_bytes
node_append pass r s = refl
node_append (silent n) r s = rw (type_before n (r ++ s), type_before n r, append_assoc (type_bytes n []) r s)
node_append emit_cue r s = refl
node_append (emit_level v) r s = ap (λ l. 3 ∷ l) (value_append v r s)
node_append (both n m) r s = ap (λ l. 4 ∷ l) (ap (node_bytes n) (node_append m r s) ∙ node_append n (node_bytes m r) s)
node_append left_side r s = refl
node_append right_side r s = refl
node_append first r s = refl
node_append second r s = refl
node_append (then n m) r s = ap (λ l. 9 ∷ l) (ap (node_bytes n) (node_append m r s) ∙ node_append n (node_bytes m r) s)
node_append (chain n m) r s = ap (λ l. 10 ∷ l) (ap (node_bytes n) (node_append m r s) ∙ node_append n (node_bytes m r) s)
node_append regroup_right r s = refl
node_append regroup_left r s = refl
node_append spread r s = refl
node_append front r s = refl
node_append (choose n m) r s = ap (λ l. 15 ∷ l) (ap (node_bytes n) (node_append m r s) ∙ node_append n (node_bytes m r) s)
node_append (mark_first t) r s = rw (type_before t (r ++ s), type_before t r, append_assoc (type_bytes t []) r s)
node_append (mark_second t) r s = rw (type_before t (r ++ s), type_before t r, append_assoc (type_bytes t []) r s)

pub node_before : (n : Node) (r : List ℕ) → node_bytes n r ≡ node_bytes n [] ++ r
node_before n r = node_append n [] r

pub node_bytes_length : (n : Node) (r : List ℕ) → length (node_bytes n r) ≡ node_width n + length r
node_bytes_length n r = ap length (node_before n r) ∙ length-append (node_bytes n []) r

pub node_drop : (n : Node) (r : List ℕ) → drop (node_width n) (node_bytes n r) ≡ r
node_drop n r = ap (drop (node_width n)) (node_before n r) ∙ drop_at (node_bytes n []) r (node_width n) refl

-- Each node has a byte at least.
pub count_within : (n : Node) → count n ≤ node_width n
unfolding count node_bytes
count_within pass = omega arith
count_within (silent n) = omega arith
count_within emit_cue = omega arith
count_within (emit_level v) = omega (arith, value_length v [])
count_within (both n m) = omega (arith, count_within n, count_within m, node_bytes_length n (node_bytes m []))
count_within left_side = omega arith
count_within right_side = omega arith
count_within first = omega arith
count_within second = omega arith
count_within (then n m) = omega (arith, count_within n, count_within m, node_bytes_length n (node_bytes m []))
count_within (chain n m) = omega (arith, count_within n, count_within m, node_bytes_length n (node_bytes m []))
count_within regroup_right = omega arith
count_within regroup_left = omega arith
count_within spread = omega arith
count_within front = omega arith
count_within (choose n m) = omega (arith, count_within n, count_within m, node_bytes_length n (node_bytes m []))
count_within (mark_first t) = omega arith
count_within (mark_second t) = omega arith

pub width_positive : (n : Node) → 1 ≤ node_width n
width_positive n = omega (arith, ap length (root_first n []))

module _ {bytes : List ℕ} {at : ℕ} {n : Node} (stands : NodeAt bytes at n) where
  pub ends_inside : at + node_width n ≤ length bytes
  ends_inside =
      let n_long = simp length-drop at (ap length stands.here) in
      omega (arith, n_long, node_bytes_length n stands.rest, width_positive n)

  pub starts_inside : at < length bytes
  starts_inside = omega (arith, ends_inside, width_positive n)

  -- The bytes of a node, as they stand there.
  pub bytes_at : take (node_width n) (drop at bytes) ≡ node_bytes n []
  bytes_at = ap (take (node_width n)) (stands.here ∙ node_before n stands.rest) ∙ take_at (node_bytes n []) stands.rest (node_width n) refl

  pub kind_at : get_or bytes at 0 ≡ node_kind n
  kind_at =
      let e : get_or (drop at bytes) 0 0 ≡ get_or bytes at 0 = rw add-zero at (get_or-drop at bytes 0 0) in
      rw (← e, stands.here) (ap (λ l. get_or l 0 0) (root_first n stands.rest))

  pub kind_listed : get_or bytes at 0 < 18
  kind_listed = rw kind_at (kind_is_listed n)

-- What has to be shown for the kind k.
abbrev pub Case : (Node → Type 0) → ℕ → Type 0
Case P k =
    get_or
    (P pass
    ∷ ((n : Ty) → P (silent n))
    ∷ P emit_cue
    ∷ ((v : ℕ) → P (emit_level v))
    ∷ ((n m : Node) → P (both n m))
    ∷ P left_side
    ∷ P right_side
    ∷ P first
    ∷ P second
    ∷ ((n m : Node) → P (then n m))
    ∷ ((n m : Node) → P (chain n m))
    ∷ P regroup_right
    ∷ P regroup_left
    ∷ P spread
    ∷ P front
    ∷ ((n m : Node) → P (choose n m))
    ∷ ((t : Ty) → P (mark_first t))
    ∷ ((t : Ty) → P (mark_second t))
    ∷ [])
    k
    Unit

by_kind : (P : Node → Type 0) (n : Node) → Case P (node_kind n) → P n
by_kind P pass c = c
by_kind P (silent n) c = c n
by_kind P emit_cue c = c
by_kind P (emit_level v) c = c v
by_kind P (both n m) c = c n m
by_kind P left_side c = c
by_kind P right_side c = c
by_kind P first c = c
by_kind P second c = c
by_kind P (then n m) c = c n m
by_kind P (chain n m) c = c n m
by_kind P regroup_right c = c
by_kind P regroup_left c = c
by_kind P spread c = c
by_kind P front c = c
by_kind P (choose n m) c = c n m
by_kind P (mark_first t) c = c t
by_kind P (mark_second t) c = c t

-- By the byte that stands there.
pub by_byte : (P : Node → Type 0) {bytes : List ℕ} {at k : ℕ} {n : Node} → NodeAt bytes at n → get_or bytes at 0 ≡ k → Case P k → P n
by_byte P {n = n} stands e c = by_kind P n (rw (sym (kind_at stands) ∙ e) c)

-- Only 4, 9, 10 and 15 have parts.
pub leaf_arity : (k : ℕ) → (k ≡ 4 → ⊥) → (k ≡ 9 → ⊥) → (k ≡ 10 → ⊥) → (k ≡ 15 → ⊥) → node_arity k ≡ 0
leaf_arity =
    every (λ k arity. (k ≡ 4 → ⊥) → (k ≡ 9 → ⊥) → (k ≡ 10 → ⊥) → (k ≡ 15 → ⊥) → arity ≡ 0) 0 node_arities
    (leaf & leaf & leaf & leaf & (λ four nine ten fifteen. absurd (four refl)) & leaf & leaf & leaf & leaf
    & (λ four nine ten fifteen. absurd (nine refl)) & (λ four nine ten fifteen. absurd (ten refl)) & leaf & leaf & leaf & leaf
    & (λ four nine ten fifteen. absurd (fifteen refl)) & leaf & leaf
    & past (λ k h. leaf))
  where
    leaf : {k : ℕ} → (k ≡ 4 → ⊥) → (k ≡ 9 → ⊥) → (k ≡ 10 → ⊥) → (k ≡ 15 → ⊥) → ◌≡◌ {A = ℕ} 0 0
    leaf four nine ten fifteen = refl

-- The kinds that carry a type: the kind byte and then the type.
pub record CarriesType (k : ℕ) (make : Ty → Node) : Type 1 where
  pub bytes : (t : Ty) (r : List ℕ) → node_bytes (make t) r ≡ k ∷ type_bytes t r
  pub carries : (t : Ty) → Carries (make t) → Small t
  pub case : (P : Node → Type 0) → ((t : Ty) → P (make t)) → Case P k

pub silent_carries : CarriesType 1 silent
unfolding node_bytes
silent_carries = record { bytes = λ t r. refl; carries = λ t small. small; case = λ P f. f }

pub mark_first_carries : CarriesType 16 mark_first
unfolding node_bytes
mark_first_carries = record { bytes = λ t r. refl; carries = λ t small. small; case = λ P f. f }

pub mark_second_carries : CarriesType 17 mark_second
unfolding node_bytes
mark_second_carries = record { bytes = λ t r. refl; carries = λ t small. small; case = λ P f. f }

-- Where the type stands that a node carries.
pub record Carried (make : Ty → Node) (bytes : List ℕ) (at : ℕ) (n : Node) : Type 0 where
  pub type : Ty
  pub made : n ≡ make type
  pub type_at : TypeAt bytes (at + 1) type
  pub wide : node_width n ≡ 1 + size type

pub carried_at : {bytes : List ℕ} {at k : ℕ} {make : Ty → Node} {n : Node} → CarriesType k make → get_or bytes at 0 ≡ k
    → NodeAt bytes at n → Carried make bytes at n
carried_at {bytes} {at} {k} {make} carries_type e stands = by_byte Standing stands e (carries_type.case Standing go) stands
  where
    Standing : Node → Type 0
    Standing n = NodeAt bytes at n → Carried make bytes at n

    go : (t : Ty) → Standing (make t)
    go t stands =
        record {
          type = t;
          made = refl;
          type_at =
              record {
                rest = stands.rest;
                here = rw (← drop-drop 1 at bytes, stands.here, carries_type.bytes t stands.rest);
                small = carries_type.carries t stands.carries;
              };
          wide = omega (arith, ap length (carries_type.bytes t []), type_width t);
        }

-- The kinds with two parts: the kind byte and then both.
pub record Forks (k : ℕ) (make : Node → Node → Node) : Type 1 where
  pub bytes : (n m : Node) (r : List ℕ) → node_bytes (make n m) r ≡ k ∷ node_bytes n (node_bytes m r)
  pub carries : (n m : Node) → Carries (make n m) → Carries n × Carries m
  pub case : (P : Node → Type 0) → ((n m : Node) → P (make n m)) → Case P k

pub both_forks : Forks 4 both
unfolding node_bytes
both_forks = record { bytes = λ n m r. refl; carries = λ n m f. f; case = λ P f. f }

pub then_forks : Forks 9 then
unfolding node_bytes
then_forks = record { bytes = λ n m r. refl; carries = λ n m f. f; case = λ P f. f }

pub chain_forks : Forks 10 chain
unfolding node_bytes
chain_forks = record { bytes = λ n m r. refl; carries = λ n m f. f; case = λ P f. f }

pub choose_forks : Forks 15 choose
unfolding node_bytes
choose_forks = record { bytes = λ n m r. refl; carries = λ n m f. f; case = λ P f. f }

-- Where the parts stand.
pub record Parts (make : Node → Node → Node) (bytes : List ℕ) (at : ℕ) (n : Node) : Type 0 where
  pub first : Node
  pub second : Node
  pub made : n ≡ make first second
  pub first_at : NodeAt bytes (at + 1) first
  pub second_at : NodeAt bytes (at + 1 + node_width first) second
  pub wide : node_width n ≡ 1 + node_width first + node_width second

pub parts_at : {bytes : List ℕ} {at k : ℕ} {make : Node → Node → Node} {n : Node} → Forks k make → get_or bytes at 0 ≡ k
    → NodeAt bytes at n → Parts make bytes at n
parts_at {bytes} {at} {k} {make} forks e stands = by_byte Standing stands e (forks.case Standing go) stands
  where
    Standing : Node → Type 0
    Standing n = NodeAt bytes at n → Parts make bytes at n

    go : (n m : Node) → Standing (make n m)
    go n m stands =
        let root : drop (at + 1) bytes ≡ node_bytes n (node_bytes m stands.rest)
        = rw (← drop-drop 1 at bytes, stands.here, forks.bytes n m stands.rest) in
        record {
          first = n;
          second = m;
          made = refl;
          first_at = record { rest = node_bytes m stands.rest; here = root; carries = (forks.carries n m stands.carries).0 };
          second_at =
              record {
                rest = stands.rest;
                here = rw (← drop-drop (node_width n) (at + 1) bytes, root) (node_drop n (node_bytes m stands.rest));
                carries = (forks.carries n m stands.carries).1;
              };
          wide = omega (arith, ap length (forks.bytes n m []), node_bytes_length n (node_bytes m []));
        }
