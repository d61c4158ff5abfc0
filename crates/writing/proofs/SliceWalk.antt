-- A prefix walked through beside its type: what each kind byte comes to, from how the walks through the parts ended.
use mathlib.Core.Path.{◌≡◌, refl, sym, ap, ◌∙◌}
use mathlib.Core.Bool.{Bool, true, false, not, cond, true≢false}
use mathlib.Core.Logic.{⊎_elim}
use mathlib.Core.List.{List, [], ◌∷◌}
use Prim.Native.Nat.{ℕ, zero, suc, ◌+◌, ◌-◌, ◌≤◌, ◌<◌}
use native.Mathlib.Omega.{arith}
use lib.Dec.{eqb}
use lib.ListN.{length, get_or, drop, length-drop, drop_of_length-le}
use lib.Seq.{drop-cons, drop-drop}
use borrow.Author.Tests.{le-leb, lt-leb, eqb-true}
use Rattle.stream.specs.declared.Fault.{Fault}
use Rattle.stream.specs.declared.Fault.TheVariants.{SliceCutShort, SliceUnlisted, SliceMisplaced}
use Rattle.reading.specs.declared.prefixes.Known.{Known}
use Rattle.stream.specs.Tables.{beyond}
use Rattle.stream.specs.Types.{Ty, size, type_limit, kind, first_part, second_part, Small}
use Rattle.stream.proofs.Types.Laws.{and_left, size_positive}
use Rattle.stream.specs.Types.Kinds.{type_arity, Fork, fork-size}
use Rattle.stream.proofs.Types.Laws.{leaf-alone}
use Rattle.stream.specs.Levels.{value_width}
use Rattle.stream.proofs.Levels.Laws.{value_there, value_missing}
use Rattle.stream.specs.Prefixes.{Prefix, nothing, cue_awaited, cue_come, level_awaited, level_come, in_first, crossed, beside, none_chosen, arrivals, derivative}
use Rattle.stream.specs.Prefixes.Functions.{complete}
use Rattle.stream.proofs.Prefixes.Laws.{derivative-size}
use Rattle.stream.specs.Prefixes.Kinds.{prefix_arities, prefix_arity, root_width, root_arrivals}
use Rattle.stream.specs.Reading.{Bytes, Reading, read, fault, read_on, Root, leaf}
use Rattle.stream.proofs.Reading.Laws.{bytes_drop, ◌&◌, past, every}
use Rattle.stream.proofs.Reading.Numbers.{long_or_short}
use Rattle.stream.specs.SliceFiles.{Owed, owed, belongs, prefix_root}
use Rattle.stream.proofs.SliceFiles.Laws.{nodes, nodes_within, arrivals_few}
use Rattle.reading.specs.SliceReads.{overlap, prefix_width, known, types_by_kind, type_kind_of, is_unfinished, belongs_at, first_complete, stood_on, leaf_walked, first_known, crossed_known, both_known, combined, SumsFit, read_owed, known_read, Walks}
use Rattle.reading.specs.SliceReads.Laws.{behind_prefix}
use Rattle.reading.specs.SliceReads.Descent.{kind_roots, kind_root, root_tested, root_unlisted, reads_fault, reads_leaf, reads_one, reads_two, read_owed_sound, overlap-size}

-- Leaves

module _ (t : Ty) (nodes k : ℕ) (s : List ℕ) where
  come : (p : Prefix) (r : List ℕ) → root_width k ≤ length s → drop (root_width k) s ≡ r
      → complete p ≡ not (is_unfinished k) → size (derivative t p) ≡ nodes → arrivals p ≡ root_arrivals k → overlap p ≡ 1
      → leaf_walked nodes k s ≡ known_read t (read p r)
  unfolding leaf_walked known_read known
  come p r l d e c a o = rw (le-leb (root_width k) (length s) l, d, e, c, a, o)

  missing : length s < root_width k → leaf_walked nodes k s ≡ fault SliceCutShort
  unfolding leaf_walked
  missing l = rw (lt-leb (root_width k) (length s) l)

-- A leaf that has come stands on a type without parts.
come-alone : (k : ℕ) → prefix_arity k ≡ 0 → is_unfinished k ≡ false → type_arity (type_kind_of k) ≡ 0
come-alone =
    every (λ k j. prefix_arity k ≡ 0 → is_unfinished k ≡ false → type_arity j ≡ 0) 4 types_by_kind
    ((λ n f. refl)
    & (λ n f. refl)
    & (λ n f. refl)
    & (λ n f. refl)
    & (λ n f. refl)
    & (λ n f. absurd (omega arith))
    & (λ n f. absurd (omega arith))
    & (λ n f. absurd (omega arith))
    & (λ n f. absurd (true≢false f))
    & (λ n f. absurd (omega arith))
    & (λ n f. absurd (omega arith))
    & past (λ k l n f. absurd (omega (arith, beyond prefix_arities 2 k l))))

abbrev pub level_root : Reading ℕ → Reading (Root Owed Prefix)
level_root g = read_on g (λ v r. leaf (level_come v) r)

-- What a leaf of each kind comes to: one that is awaited leaves its type, one that has come stands on one node.
module _ (t : Ty) (c : Bool) (budget : ℕ) (s : List ℕ) (more : 0 < length s) where
  abbrev r : List ℕ
  r = drop 1 s

  long : length s ≡ 1 + length r
  long = omega (arith, length-drop 1 s)

  level_read : prefix_root (owed t c) s ≡ kind_root 4 t c r → leaf_walked 1 4 s ≡ known_read t (read_owed (suc budget) (owed t c) s)
  unfolding complete derivative arrivals overlap size known_read
  level_read e = ⊎_elim there short (long_or_short value_width r)
    where
      there : value_width ≤ length r → leaf_walked 1 4 s ≡ known_read t (read_owed (suc budget) (owed t c) s)
      there h =
          let value = value_there SliceCutShort r h in
          let rest = drop value_width r in
          rw (reads_leaf t c budget s (level_come value.0) rest (e ∙ ap level_root value.1))
          (come t 1 4 s (level_come value.0) rest (omega (arith, long)) (sym (drop-drop value_width 1 s)) refl refl refl refl)

      short : length r < value_width → leaf_walked 1 4 s ≡ known_read t (read_owed (suc budget) (owed t c) s)
      short h =
          rw (reads_fault t c budget s SliceCutShort (e ∙ ap level_root (value_missing SliceCutShort r h)))
          (missing t 1 4 s (omega (arith, long)))

  leaf_read : (k : ℕ) → prefix_arity k ≡ 0 → prefix_root (owed t c) s ≡ kind_root k t c r
      → leaf_walked (stood_on k t) k s ≡ known_read t (read_owed (suc budget) (owed t c) s)
  unfolding complete derivative arrivals overlap size
  leaf_read =
      every
      (λ k root. prefix_arity k ≡ 0 → prefix_root (owed t c) s ≡ root r
      → leaf_walked (stood_on k t) k s ≡ known_read t (read_owed (suc budget) (owed t c) s))
      (λ x. fault SliceUnlisted) (kind_roots t c)
      ((λ none e. plain 0 1 nothing e refl refl refl refl refl)
      & (λ none e. plain 1 (size t) cue_awaited e refl refl refl refl refl)
      & (λ none e. plain 2 1 cue_come e refl refl refl refl refl)
      & (λ none e. plain 3 (size t) level_awaited e refl refl refl refl refl)
      & (λ none e. level_read e)
      & (λ none e. absurd (omega arith))
      & (λ none e. absurd (omega arith))
      & (λ none e. absurd (omega arith))
      & (λ none e. plain 8 (size t) none_chosen e refl refl refl refl refl)
      & (λ none e. absurd (omega arith))
      & (λ none e. absurd (omega arith))
      & past (λ k l none e. absurd (omega (arith, beyond prefix_arities 2 k l))))
    where
      plain : (k nodes : ℕ) (p : Prefix) → prefix_root (owed t c) s ≡ leaf p r → root_width k ≡ 1 → complete p ≡ not (is_unfinished k)
          → size (derivative t p) ≡ nodes → arrivals p ≡ root_arrivals k → overlap p ≡ 1
          → leaf_walked nodes k s ≡ known_read t (read_owed (suc budget) (owed t c) s)
      plain k nodes p e wide d l a o =
          rw (reads_leaf t c budget s p r e) (come t nodes k s p r (omega arith) (ap (λ n. drop n s) wide) d l a o)

-- What is known of a prefix by its parts

first_is : (t : Ty) (p : Prefix) → first_known (known (first_part t) p) (size (second_part t)) ≡ known t (in_first p)
unfolding known complete derivative arrivals overlap size
first_is t p =
    let l : 1 + size (derivative (first_part t) p) + size (second_part t) ≡ suc (size (derivative (first_part t) p) + size (second_part t)) = omega arith in
    let o : 1 + overlap p ≡ suc (overlap p) = omega arith in
    rw (l, o)

both_is : (t : Ty) (p q : Prefix) → both_known (known (first_part t) p) (known (second_part t) q) ≡ known t (beside p q)
unfolding known complete derivative arrivals overlap size
both_is t p q =
    let l : 1 + size (derivative (first_part t) p) + size (derivative (second_part t) q)
    ≡ suc (size (derivative (first_part t) p) + size (derivative (second_part t) q)) = omega arith in
    let o : 1 + overlap p + overlap q ≡ suc (overlap p + overlap q) = omega arith in
    rw (l, o)

crossed_is : (t : Ty) (p q : Prefix) → crossed_known (known (first_part t) p) (known (second_part t) q) ≡ known t (crossed p q)
unfolding known complete derivative arrivals overlap
crossed_is t p q = refl

-- What is read behind the first part, by the kind: nothing, or the second part with what is left of the budget.
abbrev pub second_reads : Ty → Bool → ℕ → (Prefix → Prefix → Prefix) → Prefix → List ℕ → Reading Prefix
second_reads t c budget f p s = read_on (read_owed (budget - nodes p) (owed (second_part t) c) s) (λ q r. read (f p q) r)

abbrev no_parts : Prefix → List ℕ → Reading Prefix
no_parts p s = fault SliceUnlisted

abbrev pub behind_first : Ty → Bool → ℕ → ℕ → Prefix → List ℕ → Reading Prefix
behind_first t c budget k =
    get_or
    (no_parts
    ∷ no_parts
    ∷ no_parts
    ∷ no_parts
    ∷ no_parts
    ∷ (λ p s. read (in_first p) s)
    ∷ second_reads t c budget crossed
    ∷ second_reads t c budget beside
    ∷ [])
    k no_parts

-- A walk that did not fail: what was read, and the bytes behind it.
pub record Came (budget : ℕ) (t : Ty) (slice : List ℕ) (c : Bool) (rest : List ℕ) (knowledge : Known) : Type 0 where
  pub prefix : Prefix
  pub reads : read_owed budget (owed t c) slice ≡ read prefix rest
  pub bytes_behind : Bytes rest
  pub inside : length rest ≤ length slice
  pub knows : knowledge ≡ known t prefix
  pub few : nodes prefix ≤ size t
  pub remains_within : knowledge.remains ≤ size t
  pub arrived_within : knowledge.arrived ≤ size t
  pub overlap_within : knowledge.overlap ≤ size t

module _ {t : Ty} (budget : ℕ) (enough : size t ≤ budget) {slice : List ℕ} {c : Bool} where
  pub failed : (e : Fault) → Walks t slice c (fault e) → read_owed budget (owed t c) slice ≡ fault e
  unfolding known_read
  failed e w = go (read_owed budget (owed t c) slice) (w.each budget enough)
    where
      go : (g : Reading Prefix) → fault e ≡ known_read t g → g ≡ fault e
      go (read p r) h = absurd cc
      go (fault x) h = cc

  pub came : Bytes slice → {rest : List ℕ} {knowledge : Known} → Walks t slice c (read knowledge rest) → Came budget t slice c rest knowledge
  unfolding known_read known
  came bytes {rest} {knowledge} w = go (read_owed budget (owed t c) slice) refl (w.each budget enough)
    where
      go : (g : Reading Prefix) → read_owed budget (owed t c) slice ≡ g → read knowledge rest ≡ known_read t g
          → Came budget t slice c rest knowledge
      go (fault x) e h = absurd cc
      go (read p r) e h =
          let same : rest ≡ r = cc in
          let k : knowledge ≡ known t p = cc in
          let f = read_owed_sound budget (owed t c) slice p r bytes e in
          let behind : drop (prefix_width p) slice ≡ rest = rw (same, ← f.bytes) (behind_prefix p r) in
          record {
            prefix = p;
            reads = rw same e;
            bytes_behind = rw behind at (bytes_drop (prefix_width p) slice bytes);
            inside = omega (arith, length-drop (prefix_width p) slice, ap length behind);
            knows = k;
            few = nodes_within f.is.is;
            remains_within = rw k (derivative-size f.is.is);
            arrived_within = rw k (omega (arith, arrivals_few p, nodes_within f.is.is, size_positive t));
            overlap_within = rw k (overlap-size f.is.is);
          }

module _ (t : Ty) (slice : List ℕ) (c : Bool) where
  -- The type has a node, so the budget is not spent.
  pub walks : (answer : Reading Known)
      → ((budget : ℕ) → size t ≤ suc budget → answer ≡ known_read t (read_owed (suc budget) (owed t c) slice))
      → Walks t slice c answer
  walks answer ends = record { each = go }
    where
      go : (budget : ℕ) → size t ≤ budget → answer ≡ known_read t (read_owed budget (owed t c) slice)
      go zero enough = absurd (omega (arith, size_positive t))
      go (suc budget) enough = ends budget enough

  -- The first byte

  stops : (e : Fault) → prefix_root (owed t c) slice ≡ fault e → Walks t slice c (fault e)
  unfolding known_read
  stops e h = walks (fault e) (λ budget enough. rw (reads_fault t c budget slice e h))

  pub cut_short : length slice ≡ 0 → Walks t slice c (fault SliceCutShort)
  unfolding prefix_root
  cut_short e = let none : slice ≡ [] = drop_of_length-le slice {i = 0} (omega arith) in stops SliceCutShort (rw none)

  module _ (more : 0 < length slice) where
    here : slice ≡ get_or slice 0 0 ∷ drop 1 slice
    here = drop-cons slice 0 0 more

    pub unlisted : 10 < get_or slice 0 0 → Walks t slice c (fault SliceUnlisted)
    unlisted h = stops SliceUnlisted (ap (prefix_root (owed t c)) here ∙ root_unlisted t c (drop 1 slice) (get_or slice 0 0) h)

    tested : get_or slice 0 0 ≤ 10 → (b : Bool) → b ≡ belongs_at (kind t) (get_or slice 0 0) c
        → prefix_root (owed t c) slice ≡ belongs b (kind_root (get_or slice 0 0) t c) (drop 1 slice)
    tested l b e =
        ap (prefix_root (owed t c)) here
        ∙ root_tested t c (drop 1 slice) (get_or slice 0 0) l
        ∙ ap (λ x. belongs x (kind_root (get_or slice 0 0) t c) (drop 1 slice)) (sym e)

    pub misplaced : get_or slice 0 0 ≤ 10 → false ≡ belongs_at (kind t) (get_or slice 0 0) c → Walks t slice c (fault SliceMisplaced)
    misplaced l e = stops SliceMisplaced (tested l false e)

-- A slice that is not empty has a byte.
pub some_bytes : (s : List ℕ) → eqb (length s) 0 ≡ false → 0 < length s
some_bytes [] e = absurd (true≢false e)
some_bytes (k ∷ s) e = omega arith

-- A kind byte that belongs there.
pub record Begins (t : Ty) (slice : List ℕ) (c : Bool) : Type 0 where
  pub small : Small t
  pub bytes : Bytes slice
  pub more : 0 < length slice
  pub listed : get_or slice 0 0 ≤ 10
  pub fits : true ≡ belongs_at (kind t) (get_or slice 0 0) c

module _ {t : Ty} {slice : List ℕ} {c : Bool} (begins : Begins t slice c) where
  pub begun : prefix_root (owed t c) slice ≡ kind_root (get_or slice 0 0) t c (drop 1 slice)
  begun = tested t slice c begins.more begins.listed true begins.fits

  pub type_kind_is : kind t ≡ type_kind_of (get_or slice 0 0)
  type_kind_is =
      eqb-true (kind t) (type_kind_of (get_or slice 0 0)) (and_left (eqb (kind t) (type_kind_of (get_or slice 0 0))) _ (sym begins.fits))

  module _ (none : prefix_arity (get_or slice 0 0) ≡ 0) where
    pub leaf_walks : (answer : Reading Known) → answer ≡ leaf_walked (stood_on (get_or slice 0 0) t) (get_or slice 0 0) slice → Walks t slice c answer
    leaf_walks answer is =
        walks t slice c answer (λ budget enough. is ∙ leaf_read t c budget slice begins.more (get_or slice 0 0) none begun)

    -- A leaf stands on the whole type.
    pub stands_on_all : stood_on (get_or slice 0 0) t ≡ size t
    stands_on_all = go (is_unfinished (get_or slice 0 0)) refl
      where
        go : (b : Bool) → is_unfinished (get_or slice 0 0) ≡ b → cond b (size t) 1 ≡ size t
        go true e = refl
        go false e = sym (leaf-alone t (ap type_arity type_kind_is ∙ come-alone (get_or slice 0 0) none e))

-- A kind byte with parts behind it, of which the first is walked through first, that belongs there; d says whether that part has to
-- be complete.
pub record Forks (t : Ty) (slice : List ℕ) (c d : Bool) : Type 0 where
  pub begins : Begins t slice c
  pub parts : prefix_arity (get_or slice 0 0) ≡ 0 → ⊥
  pub no_choice : get_or slice 0 0 ≤ 8
  pub handed : d ≡ first_complete (get_or slice 0 0) c

-- A prefix with parts belongs to a type with two.
forks_on : (k : ℕ) → (prefix_arity k ≡ 0 → ⊥) → type_arity (type_kind_of k) ≡ 2
forks_on =
    every (λ k j. (prefix_arity k ≡ 0 → ⊥) → type_arity j ≡ 2) 4 types_by_kind
    ((λ h. absurd (h refl))
    & (λ h. absurd (h refl))
    & (λ h. absurd (h refl))
    & (λ h. absurd (h refl))
    & (λ h. absurd (h refl))
    & (λ h. refl)
    & (λ h. refl)
    & (λ h. refl)
    & (λ h. absurd (h refl))
    & (λ h. refl)
    & (λ h. refl)
    & past (λ k l h. refl))

-- A kind with parts that is no choice is read as its first part and what is behind it.
parts_of : (t : Ty) (c d : Bool) (budget : ℕ) (s r : List ℕ) (k : ℕ) → (prefix_arity k ≡ 0 → ⊥) → k ≤ 8 → d ≡ first_complete k c
    → prefix_root (owed t c) s ≡ kind_root k t c r
    → read_owed (suc budget) (owed t c) s ≡ read_on (read_owed budget (owed (first_part t) d) r) (behind_first t c budget k)
parts_of t c d budget s r =
    every
    (λ k root. (prefix_arity k ≡ 0 → ⊥) → k ≤ 8 → d ≡ first_complete k c → prefix_root (owed t c) s ≡ root r
    → read_owed (suc budget) (owed t c) s ≡ read_on (read_owed budget (owed (first_part t) d) r) (behind_first t c budget k))
    (λ x. fault SliceUnlisted) (kind_roots t c)
    ((λ parts l h e. absurd (parts refl))
    & (λ parts l h e. absurd (parts refl))
    & (λ parts l h e. absurd (parts refl))
    & (λ parts l h e. absurd (parts refl))
    & (λ parts l h e. absurd (parts refl))
    & (λ parts l h e. rw h (reads_one t c budget s in_first _ r e))
    & (λ parts l h e. rw h (reads_two t c budget s crossed _ _ r e))
    & (λ parts l h e. rw h (reads_two t c budget s beside _ _ r e))
    & (λ parts l h e. absurd (parts refl))
    & (λ parts l h e. absurd (omega arith))
    & (λ parts l h e. absurd (omega arith))
    & past (λ k long parts l h e. absurd (omega arith)))

pub fork_under : {t : Ty} {slice : List ℕ} {c : Bool} → Begins t slice c → (prefix_arity (get_or slice 0 0) ≡ 0 → ⊥) → Fork t
fork_under {slice = slice} begins parts = ap type_arity (type_kind_is begins) ∙ forks_on (get_or slice 0 0) parts

module _ {t : Ty} {slice : List ℕ} {c d : Bool} (forks : Forks t slice c d) where
  fork : Fork t
  fork = fork_under forks.begins forks.parts

  whole_size : size t ≡ suc (size (first_part t) + size (second_part t))
  whole_size = fork-size t fork

  pub parts_read : (budget : ℕ)
      → read_owed (suc budget) (owed t c) slice
      ≡ read_on (read_owed budget (owed (first_part t) d) (drop 1 slice)) (behind_first t c budget (get_or slice 0 0))
  parts_read budget =
      parts_of t c d budget slice (drop 1 slice) (get_or slice 0 0) forks.parts forks.no_choice forks.handed (begun forks.begins)

  pub first_failed : (e : Fault) → Walks (first_part t) (drop 1 slice) d (fault e) → Walks t slice c (fault e)
  unfolding known_read
  first_failed e w =
      walks t slice c (fault e) (λ budget enough. rw (parts_read budget, failed budget (omega (arith, whole_size)) e w))

-- The walk through the first part has come to its end, and `rest` is behind it.
pub record Halfway (t : Ty) (slice : List ℕ) (c : Bool) (rest : List ℕ) (first : Known) : Type 0 where
  pub must_complete : Bool
  pub forks : Forks t slice c must_complete
  pub walked_first : Walks (first_part t) (drop 1 slice) must_complete (read first rest)

module _ {t : Ty} {slice : List ℕ} {c : Bool} {rest : List ℕ} {first : Known} (halfway : Halfway t slice c rest first) where
  small : Small t
  small = halfway.forks.begins.small

  pub split : size t ≡ suc (size (first_part t) + size (second_part t))
  split = whole_size halfway.forks

  pub first_within : (budget : ℕ) → size (first_part t) ≤ budget → Came budget (first_part t) (drop 1 slice) halfway.must_complete rest first
  first_within budget enough = came budget enough (bytes_drop 1 slice halfway.forks.begins.bytes) halfway.walked_first

  pub first_came : Came (size (first_part t)) (first_part t) (drop 1 slice) halfway.must_complete rest first
  first_came = first_within (size (first_part t)) (omega arith)

  -- The sums are of sizes of parts.
  pub first_sums : (first.remains + size (second_part t) < type_limit) × (first.overlap < type_limit)
  first_sums = omega (arith, first_came.remains_within, first_came.overlap_within, split, small)

  pub both_sums : {after : List ℕ} {second : Known} → Walks (second_part t) rest c (read second after) → SumsFit first second
  both_sums w =
      let s = came (size (second_part t)) (omega arith) first_came.bytes_behind w in
      omega (
        arith,
        first_came.remains_within,
        first_came.overlap_within,
        first_came.arrived_within,
        s.remains_within,
        s.overlap_within,
        s.arrived_within,
        split,
        small,
      )

  pub still_first : get_or slice 0 0 ≡ 5 → Walks t slice c (read (first_known first (size (second_part t))) rest)
  unfolding known_read
  still_first five =
      walks t slice c _
      (λ budget enough.
      let f = first_within budget (omega (arith, split)) in
      let k : first_known first (size (second_part t)) ≡ known t (in_first f.prefix)
      = ap (λ k. first_known k (size (second_part t))) f.knows ∙ first_is t f.prefix in
      ap (λ k. read k rest) k ∙ rw (parts_read halfway.forks budget, five, f.reads))

  -- Where the kind has two parts, the second is read behind the first; what is known of both makes what is known of the whole.
  module _ (f : Prefix → Prefix → Prefix) (both : Known → Known → Known)
      (is : (p q : Prefix) → both (known (first_part t) p) (known (second_part t) q) ≡ known t (f p q))
      (second_next : (budget : ℕ) → behind_first t c budget (get_or slice 0 0) ≡ second_reads t c budget f) where
    two_come : (answer : Reading Known) → Walks (second_part t) rest c answer → Walks t slice c (combined both first answer)
    unfolding known_read
    two_come answer second = walks t slice c (combined both first answer) go
      where
        on : (p : Prefix) → first ≡ known (first_part t) p → (g : Reading Prefix)
            → combined both first (known_read (second_part t) g) ≡ known_read t (read_on g (λ q r. read (f p q) r))
        on p knows (read q r) = ap (λ k. read k r) (ap (λ k. both k (known (second_part t) q)) knows ∙ is p q)
        on p knows (fault x) = refl

        go : (budget : ℕ) → size t ≤ suc budget → combined both first answer ≡ known_read t (read_owed (suc budget) (owed t c) slice)
        go budget enough =
            let h = first_within budget (omega (arith, split)) in
            let left = budget - nodes h.prefix in
            ap (combined both first) (second.each left (omega (arith, split, h.few)))
            ∙ on h.prefix h.knows (read_owed left (owed (second_part t) c) rest)
            ∙ rw (parts_read halfway.forks budget, h.reads, second_next budget)

  pub crossing : get_or slice 0 0 ≡ 6 → (answer : Reading Known) → Walks (second_part t) rest c answer → Walks t slice c (combined crossed_known first answer)
  crossing six = two_come crossed crossed_known (crossed_is t) (λ budget. ap (behind_first t c budget) six)

  pub both_come : get_or slice 0 0 ≡ 7 → (answer : Reading Known) → Walks (second_part t) rest c answer → Walks t slice c (combined both_known first answer)
  both_come seven = two_come beside both_known (both_is t) (λ budget. ap (behind_first t c budget) seven)
