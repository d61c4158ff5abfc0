-- A slice file is accepted exactly if it is the file of a prefix of the type.
use Rattle.std.specs.Prelude.{◌≡◌, Bool, true, false, ◌&&◌, ◌↔◌, ℕ, suc, ◌+◌, ◌*◌, ◌≤◌, ◌<◌, length, get_or}
use Rattle.std.proofs.Math.Path.{refl}
use Rattle.std.proofs.Common.{sym, ap, ◌∙◌, true≢false, arith}
use Rattle.std.proofs.Math.Bool.{not}
use Rattle.std.proofs.lemmas.Bool.{false≢true, not-true}
use mathlib.Core.List.{List, [], ◌∷◌, ◌++◌, append-nil}
use Rattle.stream.specs.declared.Fault.{Fault}
use Rattle.stream.specs.declared.Fault.TheVariants.{SliceCutShort, SliceUnlisted, SliceLeftOver, SliceMisplaced}
use Rattle.stream.specs.Types.{Ty, size, type_limit, first_part, second_part, has_kind, Small}
use Rattle.stream.proofs.Types.Laws.{and_left, and_right, made_of, parts_size, size_positive}
use Rattle.stream.specs.Levels.{level_limit, value_bytes, read_value, value_width}
use Rattle.stream.specs.Bounds.{slice_limit, slice_file_limit, arrivals_limit}
use Rattle.stream.specs.Faults.{slice_numbers, Listed}
use Rattle.stream.proofs.Levels.Laws.{value_length, value_append, value_is_bytes, value_reads, value_sound, value_faults}
use Rattle.stream.specs.Prefixes.{Prefix, nothing, cue_awaited, cue_come, level_awaited, level_come, in_first, crossed, beside, none_chosen, first_chosen, second_chosen, Complete, whole_nothing, whole_cue, whole_level, whole_crossed, whole_beside, whole_first_chosen, whole_second_chosen, IsPrefix, of_empty, of_cue_awaited, of_cue_come, of_level_awaited, of_level_come, of_first, of_crossed, of_beside, of_none_chosen, of_first_chosen, of_second_chosen, arrivals}
use Rattle.stream.specs.Prefixes.Kinds.{tally}
use Rattle.stream.proofs.Prefixes.Laws.{crossed_second, beside_first, beside_second, first_chosen-inside, second_chosen-inside}
use Rattle.stream.specs.Reading.{Bytes, Reading, read, fault, accepted, IsAccepted, read_on, section_bytes, section, Root, forest, leaf, one_part, two_parts}
use Rattle.stream.proofs.Reading.Laws.{Reads, reads_leaf, reads_one, reads_two, tree_reads, RootIs, leaf_is, carried_is, one_is, two_is, tree_sound, section_reads, section_sound, whole_sound, ◌&◌, past, every, bytes_tail, bytes_nil, bytes_cons, section_is_bytes}
use Rattle.stream.specs.Reading.Walking.{MakesOne}
use Rattle.stream.proofs.Reading.Walking.{leaf_makes, one_makes, two_makes}
use Rattle.stream.proofs.Reading.Parts.{weight, Lighter, same_forest, InFront, one_in_front, two_in_front}
use Rattle.stream.proofs.Reading.Budgets.{Spends, OneMore, leaf_one_more, one_one_more, two_one_more}
use Rattle.stream.proofs.Reading.Refusals.{Faults, Refusals, read_on_faults, section_faults, tree_faults, whole_refusals}
use Rattle.stream.specs.SliceFiles.{prefix_bytes, slice_file_bytes, SliceFile, Owed, owed, belongs, prefix_kinds, prefix_root, slice_over, read_prefix, slice_file}

-- Lengths

unfoldable pub nodes : Prefix → ℕ
nodes nothing = 1
nodes cue_awaited = 1
nodes cue_come = 1
nodes level_awaited = 1
nodes (level_come v) = 1
nodes (in_first p) = suc (nodes p)
nodes (crossed b q) = suc (nodes b + nodes q)
nodes (beside p q) = suc (nodes p + nodes q)
nodes none_chosen = 1
nodes (first_chosen p) = suc (nodes p)
nodes (second_chosen p) = suc (nodes p)

-- Each node counts for one.
pub nodes-tally : (p : Prefix) → nodes p ≡ tally (λ k. 1) p
unfolding nodes tally
nodes-tally nothing = refl
nodes-tally cue_awaited = refl
nodes-tally cue_come = refl
nodes-tally level_awaited = refl
nodes-tally (level_come v) = refl
nodes-tally (in_first p) = omega (arith, nodes-tally p)
nodes-tally (crossed b q) = omega (arith, nodes-tally b, nodes-tally q)
nodes-tally (beside p q) = omega (arith, nodes-tally p, nodes-tally q)
nodes-tally none_chosen = refl
nodes-tally (first_chosen p) = omega (arith, nodes-tally p)
nodes-tally (second_chosen p) = omega (arith, nodes-tally p)

pub nodes_within : {t : Ty} {p : Prefix} → IsPrefix t p → nodes p ≤ size t
unfolding nodes size
nodes_within of_empty = omega arith
nodes_within of_cue_awaited = omega arith
nodes_within of_cue_come = omega arith
nodes_within of_level_awaited = omega arith
nodes_within (of_level_come h) = omega arith
nodes_within (of_first h) = omega (arith, nodes_within h)
nodes_within (of_crossed h c k) = omega (arith, nodes_within h, nodes_within k)
nodes_within (of_beside h k) = omega (arith, nodes_within h, nodes_within k)
nodes_within of_none_chosen = omega arith
nodes_within (of_first_chosen h) = omega (arith, nodes_within h)
nodes_within (of_second_chosen h) = omega (arith, nodes_within h)

-- The laws of slice files ask for at most 255 nodes of the prefix, which a prefix of a small type has.
abbrev pub Short : Prefix → Type 0
Short p = nodes p ≤ type_limit

pub prefix_short : {t : Ty} {p : Prefix} → IsPrefix t p → Small t → Short p
prefix_short h w = omega (arith, nodes_within h)

-- Arrivals are leaves, of which n nodes have at most (n + 1) / 2; so 128 at the most.

pub arrivals_few : (p : Prefix) → 2 * arrivals p ≤ nodes p + 1
unfolding arrivals nodes
arrivals_few nothing = omega arith
arrivals_few cue_awaited = omega arith
arrivals_few cue_come = omega arith
arrivals_few level_awaited = omega arith
arrivals_few (level_come v) = omega arith
arrivals_few (in_first p) = omega (arith, arrivals_few p)
arrivals_few (crossed b q) = omega (arith, arrivals_few b, arrivals_few q)
arrivals_few (beside p q) = omega (arith, arrivals_few p, arrivals_few q)
arrivals_few none_chosen = omega arith
arrivals_few (first_chosen p) = omega (arith, arrivals_few p)
arrivals_few (second_chosen p) = omega (arith, arrivals_few p)

pub few_arrivals : {t : Ty} {p : Prefix} → IsPrefix t p → Small t → arrivals p ≤ arrivals_limit
unfolding type_limit
few_arrivals {p = p} h w = omega (arith, arrivals_few p, prefix_short h w)

-- What is behind a prefix is not looked at.

prefix_append : (p : Prefix) (r s : List ℕ) → prefix_bytes p (r ++ s) ≡ prefix_bytes p r ++ s
unfolding prefix_bytes
prefix_append nothing r s = refl
prefix_append cue_awaited r s = refl
prefix_append cue_come r s = refl
prefix_append level_awaited r s = refl
prefix_append (level_come v) r s = ap (λ l. 4 ∷ l) (value_append v r s)
prefix_append (in_first p) r s = ap (λ l. 5 ∷ l) (prefix_append p r s)
prefix_append (crossed b q) r s =
    ap (λ l. 6 ∷ l) (ap (prefix_bytes b) (prefix_append q r s) ∙ prefix_append b (prefix_bytes q r) s)
prefix_append (beside p q) r s =
    ap (λ l. 7 ∷ l) (ap (prefix_bytes p) (prefix_append q r s) ∙ prefix_append p (prefix_bytes q r) s)
prefix_append none_chosen r s = refl
prefix_append (first_chosen p) r s = ap (λ l. 9 ∷ l) (prefix_append p r s)
prefix_append (second_chosen p) r s = ap (λ l. 10 ∷ l) (prefix_append p r s)

pub prefix_before : (p : Prefix) (r : List ℕ) → prefix_bytes p r ≡ prefix_bytes p [] ++ r
prefix_before p r = prefix_append p [] r

-- A level takes three bytes, so a prefix takes at most one byte more than two for each of its nodes.
pub prefix_length : (p : Prefix) (r : List ℕ) → length (prefix_bytes p r) ≤ value_width * nodes p + 1 + length r
unfolding prefix_bytes nodes
prefix_length nothing r = omega arith
prefix_length cue_awaited r = omega arith
prefix_length cue_come r = omega arith
prefix_length level_awaited r = omega arith
prefix_length (level_come v) r = omega (arith, value_length v r)
prefix_length (in_first p) r = omega (arith, prefix_length p r)
prefix_length (crossed b q) r = omega (arith, prefix_length b (prefix_bytes q r), prefix_length q r)
prefix_length (beside p q) r = omega (arith, prefix_length p (prefix_bytes q r), prefix_length q r)
prefix_length none_chosen r = omega arith
prefix_length (first_chosen p) r = omega (arith, prefix_length p r)
prefix_length (second_chosen p) r = omega (arith, prefix_length p r)

pub slice_length : (p : Prefix) → Short p → length (prefix_bytes p []) ≤ slice_limit
unfolding type_limit
slice_length p w = omega (arith, prefix_length p [])

-- "So a slice file has at most 513 bytes."
pub slice_file_length : (p : Prefix) → Short p → length (slice_file_bytes p) ≤ slice_file_limit
unfolding slice_file_bytes section_bytes
slice_file_length p w = rw (append-nil (prefix_bytes p [])) (omega (arith, slice_length p w))

-- What is written are bytes

prefix_is_bytes : {t : Ty} {p : Prefix} (r : List ℕ) → IsPrefix t p → Bytes r → Bytes (prefix_bytes p r)
unfolding prefix_bytes
prefix_is_bytes r of_empty b = bytes_cons 0 r (omega arith) b
prefix_is_bytes r of_cue_awaited b = bytes_cons 1 r (omega arith) b
prefix_is_bytes r of_cue_come b = bytes_cons 2 r (omega arith) b
prefix_is_bytes r of_level_awaited b = bytes_cons 3 r (omega arith) b
prefix_is_bytes r (of_level_come {v = v} h) b = bytes_cons 4 (value_bytes v r) (omega arith) (value_is_bytes v r b)
prefix_is_bytes r (of_first {p = p} h) b = bytes_cons 5 (prefix_bytes p r) (omega arith) (prefix_is_bytes r h b)
prefix_is_bytes r (of_crossed {b = x} {q = q} h c k) b =
    bytes_cons 6 (prefix_bytes x (prefix_bytes q r)) (omega arith) (prefix_is_bytes (prefix_bytes q r) h (prefix_is_bytes r k b))
prefix_is_bytes r (of_beside {p = p} {q = q} h k) b =
    bytes_cons 7 (prefix_bytes p (prefix_bytes q r)) (omega arith) (prefix_is_bytes (prefix_bytes q r) h (prefix_is_bytes r k b))
prefix_is_bytes r of_none_chosen b = bytes_cons 8 r (omega arith) b
prefix_is_bytes r (of_first_chosen {p = p} h) b = bytes_cons 9 (prefix_bytes p r) (omega arith) (prefix_is_bytes r h b)
prefix_is_bytes r (of_second_chosen {p = p} h) b = bytes_cons 10 (prefix_bytes p r) (omega arith) (prefix_is_bytes r h b)

pub slice_file_is_bytes : {t : Ty} {p : Prefix} → IsPrefix t p → Short p → Bytes (slice_file_bytes p)
unfolding slice_file_bytes
slice_file_is_bytes {p = p} h w =
    section_is_bytes (prefix_bytes p []) [] (omega (arith, slice_length p w)) (prefix_is_bytes [] h bytes_nil) bytes_nil

-- Reading what was written

reads : {t : Ty} {p : Prefix} (c : Bool) → IsPrefix t p → (c ≡ true → Complete p)
    → Reads slice_over prefix_root (owed t c) p (nodes p) (prefix_bytes p)
unfolding prefix_bytes nodes prefix_root
reads c of_empty w = reads_leaf slice_over prefix_root _ (λ s. refl)
reads true of_cue_awaited w = elim (w refl) [ ]
reads false of_cue_awaited w = reads_leaf slice_over prefix_root _ (λ s. refl)
reads c of_cue_come w = reads_leaf slice_over prefix_root _ (λ s. refl)
reads true of_level_awaited w = elim (w refl) [ ]
reads false of_level_awaited w = reads_leaf slice_over prefix_root _ (λ s. refl)
reads c (of_level_come {v = v} h) w = reads_leaf slice_over prefix_root _ (λ s. rw (value_reads SliceCutShort v s h))
reads true (of_first h) w = elim (w refl) [ ]
reads false (of_first h) w = reads_one slice_over prefix_root in_first _ (λ s. refl) (reads false h (λ e. absurd (false≢true e)))
reads c (of_crossed h d k) w =
    reads_two slice_over prefix_root crossed _ (λ s. refl) (reads true h (λ e. d)) (reads c k (λ e. crossed_second (w e)))
reads c (of_beside h k) w =
    reads_two slice_over prefix_root beside _ (λ s. refl) (reads c h (λ e. beside_first (w e))) (reads c k (λ e. beside_second (w e)))
reads true of_none_chosen w = elim (w refl) [ ]
reads false of_none_chosen w = reads_leaf slice_over prefix_root _ (λ s. refl)
reads c (of_first_chosen h) w = reads_one slice_over prefix_root first_chosen _ (λ s. refl) (reads c h (λ e. first_chosen-inside (w e)))
reads c (of_second_chosen h) w = reads_one slice_over prefix_root second_chosen _ (λ s. refl) (reads c h (λ e. second_chosen-inside (w e)))

pub read_prefix_reads : {t : Ty} {p : Prefix} (r : List ℕ) → IsPrefix t p → Short p → read_prefix t (prefix_bytes p r) ≡ read p r
unfolding read_prefix
read_prefix_reads r h w = tree_reads slice_over prefix_root type_limit r (reads false h (λ e. absurd (false≢true e))) w

pub slice_file-complete : {t : Ty} {p : Prefix} → IsPrefix t p → Short p → slice_file t (slice_file_bytes p) ≡ accepted p
unfolding slice_file slice_file_bytes
slice_file-complete {t} {p} h w =
    rw (section_reads SliceCutShort SliceLeftOver (read_prefix t) (prefix_bytes p []) [] p (read_prefix_reads [] h w))

-- What was read was written

pub record Fills (o : Owed) (p : Prefix) : Type 0 where
  pub is : IsPrefix o.type p
  pub whole : o.must_complete ≡ true → Complete p

abbrev PrefixRootIs : Owed → List ℕ → Reading (Root Owed Prefix) → Type 0
PrefixRootIs o s g = RootIs slice_over prefix_root Fills prefix_bytes nodes o s g

belongs_is : (o : Owed) (s r : List ℕ) (b : Bool) (root : List ℕ → Reading (Root Owed Prefix))
    → (b ≡ true → PrefixRootIs o s (root r)) → PrefixRootIs o s (belongs b root r)
belongs_is o s r true root h = h refl
belongs_is o s r false root h = tt

-- A kind that keeps a prefix from being complete stands only where none has to be.
free : (b c : Bool) {p : Prefix} → b && not c ≡ true → c ≡ true → Complete p
free b c e d = absurd (true≢false (sym d ∙ not-true c (and_right b (not c) e)))

value_is : (t : Ty) (c : Bool) (s : List ℕ) → Bytes s → has_kind 2 t ≡ true
    → PrefixRootIs (owed t c) (4 ∷ s) (read_on (read_value SliceCutShort s) (λ v r. leaf (level_come v) r))
unfolding prefix_bytes nodes
value_is t c s b e =
    carried_is slice_over prefix_root Fills prefix_bytes nodes (read_value SliceCutShort) value_bytes (λ v. v < level_limit) level_come 4 s
    (λ v r h. value_sound SliceCutShort s v r b h)
    (λ v h. record { is = rw (made_of 2 t e) (of_level_come h); whole = λ d. whole_level }) (λ v. refl) (λ v x. refl)

kinds_sound : (t : Ty) (c : Bool) (s : List ℕ) → Bytes s → (k : ℕ)
    → PrefixRootIs (owed t c) (k ∷ s) (get_or prefix_kinds k (λ u d r. fault SliceUnlisted) t c s)
unfolding prefix_bytes nodes
kinds_sound t c s b =
    every (λ k f. PrefixRootIs (owed t c) (k ∷ s) (f t c s)) (λ u d r. fault SliceUnlisted) prefix_kinds
    (plain (has_kind 0 t) nothing (λ e. rw (made_of 0 t e) of_empty) (λ e d. whole_nothing) refl refl
    & plain (has_kind 1 t && not c) cue_awaited (λ e. rw (made_of 1 t (and_left (has_kind 1 t) (not c) e)) of_cue_awaited) (free (has_kind 1 t) c) refl refl
    & plain (has_kind 1 t) cue_come (λ e. rw (made_of 1 t e) of_cue_come) (λ e d. whole_cue) refl refl
    & plain (has_kind 2 t && not c) level_awaited (λ e. rw (made_of 2 t (and_left (has_kind 2 t) (not c) e)) of_level_awaited) (free (has_kind 2 t) c) refl refl
    & belongs_is (owed t c) _ s (has_kind 2 t) _ (λ e. value_is t c s b e)
    & belongs_is (owed t c) _ s (has_kind 3 t && not c) _
    (λ e. one_is slice_over prefix_root Fills prefix_bytes nodes in_first 5 s b (λ p i. first_fills p e i) (λ p. refl) (λ p x. refl))
    & belongs_is (owed t c) _ s (has_kind 3 t) _
    (λ e. two_is slice_over prefix_root Fills prefix_bytes nodes crossed 6 s b (λ p q i j. crossed_fills p q e i j) (λ p q. refl) (λ p q x. refl))
    & belongs_is (owed t c) _ s (has_kind 4 t) _
    (λ e. two_is slice_over prefix_root Fills prefix_bytes nodes beside 7 s b (λ p q i j. beside_fills p q e i j) (λ p q. refl) (λ p q x. refl))
    & plain (has_kind 5 t && not c) none_chosen (λ e. rw (made_of 5 t (and_left (has_kind 5 t) (not c) e)) of_none_chosen) (free (has_kind 5 t) c) refl refl
    & belongs_is (owed t c) _ s (has_kind 5 t) _
    (λ e. one_is slice_over prefix_root Fills prefix_bytes nodes first_chosen 9 s b (λ p i. first_chosen_fills p e i) (λ p. refl) (λ p x. refl))
    & belongs_is (owed t c) _ s (has_kind 5 t) _
    (λ e. one_is slice_over prefix_root Fills prefix_bytes nodes second_chosen 10 s b (λ p i. second_chosen_fills p e i) (λ p. refl) (λ p x. refl))
    & past (λ k h. tt))
  where
    plain : {k : ℕ} (b : Bool) (p : Prefix) → (b ≡ true → IsPrefix t p) → (b ≡ true → c ≡ true → Complete p) → nodes p ≡ 1
        → prefix_bytes p s ≡ k ∷ s → PrefixRootIs (owed t c) (k ∷ s) (belongs b (leaf p) s)
    plain b' p h w n e =
        belongs_is (owed t c) _ s b' (leaf p)
        (λ d. leaf_is slice_over prefix_root Fills prefix_bytes nodes p _ s b (record { is = h d; whole = λ x. w d x }) n e)

    first_fills : (p : Prefix) → has_kind 3 t && not c ≡ true → Fills (owed (first_part t) false) p → Fills (owed t c) (in_first p)
    first_fills p e i =
        record { is = rw (made_of 3 t (and_left (has_kind 3 t) (not c) e)) (of_first i.is); whole = λ d. free (has_kind 3 t) c e d }

    crossed_fills : (p q : Prefix) → has_kind 3 t ≡ true → Fills (owed (first_part t) true) p → Fills (owed (second_part t) c) q
        → Fills (owed t c) (crossed p q)
    crossed_fills p q e i j =
        record { is = rw (made_of 3 t e) (of_crossed i.is (i.whole refl) j.is); whole = λ d. whole_crossed (j.whole d) }

    beside_fills : (p q : Prefix) → has_kind 4 t ≡ true → Fills (owed (first_part t) c) p → Fills (owed (second_part t) c) q
        → Fills (owed t c) (beside p q)
    beside_fills p q e i j =
        record { is = rw (made_of 4 t e) (of_beside i.is j.is); whole = λ d. whole_beside (i.whole d) (j.whole d) }

    first_chosen_fills : (p : Prefix) → has_kind 5 t ≡ true → Fills (owed (first_part t) c) p → Fills (owed t c) (first_chosen p)
    first_chosen_fills p e i = record { is = rw (made_of 5 t e) (of_first_chosen i.is); whole = λ d. whole_first_chosen (i.whole d) }

    second_chosen_fills : (p : Prefix) → has_kind 5 t ≡ true → Fills (owed (second_part t) c) p → Fills (owed t c) (second_chosen p)
    second_chosen_fills p e i = record { is = rw (made_of 5 t e) (of_second_chosen i.is); whole = λ d. whole_second_chosen (i.whole d) }

pub root_sound : (o : Owed) (s : List ℕ) → Bytes s → PrefixRootIs o s (prefix_root o s)
unfolding prefix_root
root_sound o [] b = tt
root_sound o (k ∷ s) b = kinds_sound o.type o.must_complete s (bytes_tail k s b) k

pub slice_file_sound : (t : Ty) (s : List ℕ) (p : Prefix) → Bytes s → slice_file t s ≡ accepted p
    → (slice_file_bytes p ≡ s) × IsPrefix t p × Short p
unfolding slice_file slice_file_bytes read_prefix
slice_file_sound t s p b e =
    let w = whole_sound SliceLeftOver (section SliceCutShort SliceLeftOver (read_prefix t) s) p e in
    let f = section_sound SliceCutShort SliceLeftOver (read_prefix t) s p [] b w in
    let g = tree_sound slice_over prefix_root Fills prefix_bytes nodes root_sound type_limit (owed t false) f.body p [] f.body_bytes f.inside in
    (rw g.bytes f.bytes, g.is.is, g.few)

pub slice_file_accepted : (t : Ty) (s : List ℕ) → Small t → Bytes s → IsAccepted (slice_file t s) ↔ SliceFile t s
slice_file_accepted t s w b = (
  (λ a. let f = slice_file_sound t s a.0 b a.1 in record { prefix = a.0; is_prefix = f.1; bytes = f.0 }),
  (λ f. (f.prefix, rw (← f.bytes) (slice_file-complete f.is_prefix (prefix_short f.is_prefix w)))),
)

-- The limit of 255 is never met: each node read takes at least one from the sizes of the types owed.

abbrev pub owed_size : Owed → ℕ
owed_size o = size o.type

pub owed_positive : (o : Owed) → 1 ≤ owed_size o
owed_positive o = size_positive o.type

belongs_lighter : (o : Owed) (r : List ℕ) (b : Bool) (root : List ℕ → Reading (Root Owed Prefix))
    → (b ≡ true → Lighter owed_size o (root r)) → Lighter owed_size o (belongs b root r)
belongs_lighter o r true root h = h refl
belongs_lighter o r false root h = tt

value_lighter : (o : Owed) (g : Reading ℕ) → Lighter owed_size o (read_on g (λ v r. leaf (level_come v) r))
unfolding weight
value_lighter o (read v r) = omega (arith, owed_positive o)
value_lighter o (fault e) = tt

kinds_lighter : (t : Ty) (c : Bool) (s : List ℕ) (k : ℕ) → Lighter owed_size (owed t c) (get_or prefix_kinds k (λ u d r. fault SliceUnlisted) t c s)
unfolding weight
kinds_lighter t c s =
    every (λ k f. Lighter owed_size (owed t c) (f t c s)) (λ u d r. fault SliceUnlisted) prefix_kinds
    (leafy (has_kind 0 t) nothing
    & leafy (has_kind 1 t && not c) cue_awaited
    & leafy (has_kind 1 t) cue_come
    & leafy (has_kind 2 t && not c) level_awaited
    & belongs_lighter (owed t c) s (has_kind 2 t) _ (λ e. value_lighter (owed t c) (read_value SliceCutShort s))
    & belongs_lighter (owed t c) s (has_kind 3 t && not c) _
    (λ e. omega (arith, parts_size 3 t refl (and_left (has_kind 3 t) (not c) e), size_positive (second_part t)))
    & belongs_lighter (owed t c) s (has_kind 3 t) _ (λ e. omega (arith, parts_size 3 t refl e))
    & belongs_lighter (owed t c) s (has_kind 4 t) _ (λ e. omega (arith, parts_size 4 t refl e))
    & leafy (has_kind 5 t && not c) none_chosen
    & belongs_lighter (owed t c) s (has_kind 5 t) _ (λ e. omega (arith, parts_size 5 t refl e, size_positive (second_part t)))
    & belongs_lighter (owed t c) s (has_kind 5 t) _ (λ e. omega (arith, parts_size 5 t refl e, size_positive (first_part t)))
    & past (λ k h. tt))
  where
    leafy : (b : Bool) (p : Prefix) → Lighter owed_size (owed t c) (belongs b (leaf p) s)
    leafy b p = belongs_lighter (owed t c) s b (leaf p) (λ e. omega (arith, size_positive t))

pub root_lighter : (o : Owed) (s : List ℕ) → Lighter owed_size o (prefix_root o s)
unfolding prefix_root
root_lighter o [] = tt
root_lighter o (k ∷ s) = kinds_lighter o.type o.must_complete s k

-- Whatever the bytes, the reading of a slice never depends on the fault that a 256th node would give.
pub limit_not_met : (e d : Fault) (t : Ty) (s : List ℕ) → Small t
    → forest e prefix_root type_limit (owed t false ∷ []) s ≡ forest d prefix_root type_limit (owed t false ∷ []) s
unfolding weight
limit_not_met e d t s h =
    same_forest owed_size prefix_root owed_positive root_lighter e d type_limit type_limit (owed t false ∷ []) s (omega arith) (omega arith)

-- What holds of a leaf, of a root with one part or two and of a fault holds of every root; each has one node more than its parts.
module _ (P : Reading (Root Owed Prefix) → Type 0) (faults : (e : Fault) → P (fault e))
    (leaves : (p : Prefix) (s : List ℕ) → nodes p ≡ 1 → P (leaf p s))
    (ones : (f : Prefix → Prefix) (o : Owed) (s : List ℕ) → ((p : Prefix) → nodes (f p) ≡ suc (nodes p)) → P (one_part f o s))
    (twos : (f : Prefix → Prefix → Prefix) (o u : Owed) (s : List ℕ) → ((p q : Prefix) → nodes (f p q) ≡ suc (nodes p + nodes q))
    → P (two_parts f o u s)) where
  if_belongs : (b : Bool) (root : List ℕ → Reading (Root Owed Prefix)) (s : List ℕ) → P (root s) → P (belongs b root s)
  if_belongs true root s h = h
  if_belongs false root s h = faults SliceMisplaced

  of_value : (g : Reading ℕ) → P (read_on g (λ v r. leaf (level_come v) r))
  unfolding nodes
  of_value (read v r) = leaves (level_come v) r refl
  of_value (fault e) = faults e

  every_kind : (t : Ty) (c : Bool) (s : List ℕ) (k : ℕ) → P (get_or prefix_kinds k (λ u d r. fault SliceUnlisted) t c s)
  unfolding nodes
  every_kind t c s =
      every (λ k f. P (f t c s)) (λ u d r. fault SliceUnlisted) prefix_kinds
      (if_belongs (has_kind 0 t) (leaf nothing) s (leaves nothing s refl)
      & if_belongs (has_kind 1 t && not c) (leaf cue_awaited) s (leaves cue_awaited s refl)
      & if_belongs (has_kind 1 t) (leaf cue_come) s (leaves cue_come s refl)
      & if_belongs (has_kind 2 t && not c) (leaf level_awaited) s (leaves level_awaited s refl)
      & if_belongs (has_kind 2 t) _ s (of_value (read_value SliceCutShort s))
      & if_belongs (has_kind 3 t && not c) _ s (ones in_first (owed (first_part t) false) s (λ p. refl))
      & if_belongs (has_kind 3 t) _ s (twos crossed (owed (first_part t) true) (owed (second_part t) c) s (λ p q. refl))
      & if_belongs (has_kind 4 t) _ s (twos beside (owed (first_part t) c) (owed (second_part t) c) s (λ p q. refl))
      & if_belongs (has_kind 5 t && not c) (leaf none_chosen) s (leaves none_chosen s refl)
      & if_belongs (has_kind 5 t) _ s (ones first_chosen (owed (first_part t) c) s (λ p. refl))
      & if_belongs (has_kind 5 t) _ s (ones second_chosen (owed (second_part t) c) s (λ p. refl))
      & past (λ k h. faults SliceUnlisted))

  pub every_root : (o : Owed) (s : List ℕ) → P (prefix_root o s)
  unfolding prefix_root
  every_root o [] = faults SliceCutShort
  every_root o (k ∷ s) = every_kind o.type o.must_complete s k

-- So a slice is read part by part, each with what the earlier ones leave of the budget (Reading/Budgets).
pub prefix_spends : Spends nodes prefix_root
prefix_spends =
    record {
      makes_one = λ o. every_root MakesOne (λ e. tt) (λ p s e. leaf_makes o p s) (λ f u s e. one_makes f u s) (λ f u v s e. two_makes f u v s) o;
      in_front =
          every_root InFront (λ e. tt) (λ p s e ts us h. refl) (λ f u s e. one_in_front f u s) (λ f u v s e. two_in_front f u v s);
      one_more =
          λ o. every_root (OneMore nodes) (λ e. tt) (λ p s e. leaf_one_more nodes o p s e) (λ f u s e. one_one_more nodes f u s e)
          (λ f u v s e. two_one_more nodes f u v s e) o;
    }

-- The refusals of a slice file are 11 to 14.

abbrev SliceFault : Fault → Type 0
SliceFault = Listed slice_numbers

belongs_faults : (b : Bool) (root : List ℕ → Reading (Root Owed Prefix)) (s : List ℕ) → Faults SliceFault (root s) → Faults SliceFault (belongs b root s)
belongs_faults true root s h = h
belongs_faults false root s h = refl

kinds_faults : (t : Ty) (c : Bool) (s : List ℕ) (k : ℕ) → Faults SliceFault (get_or prefix_kinds k (λ u d r. fault SliceUnlisted) t c s)
kinds_faults t c s =
    every (λ k f. Faults SliceFault (f t c s)) (λ u d r. fault SliceUnlisted) prefix_kinds
    (belongs_faults (has_kind 0 t) _ s tt
    & belongs_faults (has_kind 1 t && not c) _ s tt
    & belongs_faults (has_kind 1 t) _ s tt
    & belongs_faults (has_kind 2 t && not c) _ s tt
    & belongs_faults (has_kind 2 t) _ s (read_on_faults SliceFault (read_value SliceCutShort s) _ (value_faults SliceFault SliceCutShort refl s) (λ v r. tt))
    & belongs_faults (has_kind 3 t && not c) _ s tt
    & belongs_faults (has_kind 3 t) _ s tt
    & belongs_faults (has_kind 4 t) _ s tt
    & belongs_faults (has_kind 5 t && not c) _ s tt
    & belongs_faults (has_kind 5 t) _ s tt
    & belongs_faults (has_kind 5 t) _ s tt
    & past (λ k h. refl))

root_faults : (o : Owed) (s : List ℕ) → Faults SliceFault (prefix_root o s)
unfolding prefix_root
root_faults o [] = refl
root_faults o (k ∷ s) = kinds_faults o.type o.must_complete s k

read_prefix_faults : (t : Ty) (s : List ℕ) → Faults SliceFault (read_prefix t s)
unfolding read_prefix
read_prefix_faults t s = tree_faults SliceFault slice_over prefix_root refl root_faults type_limit (owed t false) s

pub slice_file_refusals : (t : Ty) (s : List ℕ) → Refusals (Listed slice_numbers) (slice_file t s)
unfolding slice_file
slice_file_refusals t s =
    whole_refusals SliceFault SliceLeftOver (section SliceCutShort SliceLeftOver (read_prefix t) s) refl
    (section_faults SliceFault SliceCutShort SliceLeftOver (read_prefix t) refl refl (read_prefix_faults t) s)
