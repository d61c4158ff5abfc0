-- A patch file is accepted exactly if it is the file of a patch that the rules and the limits allow.
use Rattle.std.specs.Prelude.{◌≡◌, refl, ◌↔◌, List, [], ◌∷◌, ℕ, suc, ◌+◌, ◌*◌, ◌≤◌, ◌<◌, length, get_or}
use Rattle.std.proofs.Common.{arith}
use Rattle.stream.specs.declared.Fault.{Fault}
use Rattle.stream.specs.declared.Fault.TheVariants.{CutShort, Unlisted, LeftOver, TooManyNodes}
use Rattle.stream.specs.Types.{Ty, type_limit, Small}
use Rattle.stream.specs.Bounds.{twice_node_bytes, node_bytes_limit, patch_file_limit}
use Rattle.stream.specs.Faults.{type_numbers, patch_numbers, Listed}
use Rattle.stream.specs.Levels.{level_limit, value_bytes, read_value}
use Rattle.stream.proofs.Levels.Laws.{value_length, value_is_bytes, value_reads, value_sound, value_faults}
use Rattle.stream.specs.Reading.{Bytes, Reading, read, fault, accepted, IsAccepted, read_on, section_bytes, Root, tree, leaf, two_parts}
use Rattle.stream.proofs.Reading.Laws.{Reads, reads_leaf, reads_two, tree_reads, RootIs, leaf_is, FoundContents, carried_is, two_is, tree_sound, section_reads, section_sound, section_length, whole_sound, ◌&◌, past, every, bytes_tail, bytes_nil, bytes_cons, section_is_bytes, read_on_read, go_on_accepted}
use Rattle.stream.proofs.Reading.Refusals.{Faults, Refusals, read_on_faults, go_on_refusals, section_faults, tree_faults, whole_refusals, faults_too, listed_first}
use Rattle.stream.specs.TypeFiles.{type_bytes, read_type, type_section}
use Rattle.stream.proofs.TypeFiles.Laws.{type_length, type_is_bytes, type_section_is_bytes, read_type_reads, read_type_sound, type_section_reads, type_section_sound, read_type_faults, type_section_faults}
use Rattle.node.specs.Totals.{Totals, Held, totals_bytes, totals_section}
use Rattle.node.proofs.Totals.Laws.{totals_length, totals_section_is_bytes, totals_section_reads, totals_section_sound, totals_section_faults}
use Rattle.node.specs.Nodes.{Node, pass, silent, emit_cue, emit_level, both, left_side, right_side, first, second, then, chain, regroup_right, regroup_left, spread, front, choose, mark_first, mark_second, count, node_limit, Allowed, Patch, patch_of, Few}
use Rattle.node.proofs.Nodes.Laws.{is_allowed, allowed_fits}
use Rattle.node.specs.Checking.{typing}
use Rattle.node.proofs.Checking.Laws.{types_carries, typing_sound, typing-complete, typing_refusals}
use Rattle.node.specs.Nodes.Functions.{Carries}
use Rattle.node.specs.PatchFiles.{node_bytes, patch_file_bytes, PatchFile, node_kinds, node_root, read_node, node_section, Checked, patch_sections, first_pass, second_pass, patch_file}

-- Lengths

-- A node that carries a type takes at most 256 bytes and every other at most three; of c nodes at most (c + 1) / 2 have no parts.
pub node_length : (n : Node) (r : List ℕ) → Carries n → 2 * length (node_bytes n r) ≤ twice_node_bytes (count n) + 2 * length r
unfolding node_bytes count type_limit
node_length pass r f = omega arith
node_length (silent n) r f = omega (arith, type_length n r)
node_length emit_cue r f = omega arith
node_length (emit_level v) r f = omega (arith, value_length v r)
node_length (both n m) r f = omega (arith, node_length n (node_bytes m r) f.0, node_length m r f.1)
node_length left_side r f = omega arith
node_length right_side r f = omega arith
node_length first r f = omega arith
node_length second r f = omega arith
node_length (then n m) r f = omega (arith, node_length n (node_bytes m r) f.0, node_length m r f.1)
node_length (chain n m) r f = omega (arith, node_length n (node_bytes m r) f.0, node_length m r f.1)
node_length regroup_right r f = omega arith
node_length regroup_left r f = omega arith
node_length spread r f = omega arith
node_length front r f = omega arith
node_length (choose n m) r f = omega (arith, node_length n (node_bytes m r) f.0, node_length m r f.1)
node_length (mark_first t) r f = omega (arith, type_length t r)
node_length (mark_second t) r f = omega (arith, type_length t r)

pub nodes_length : (n : Node) → Carries n → Few n → length (node_bytes n []) ≤ node_bytes_limit
unfolding node_limit
nodes_length n f h = omega (arith, node_length n [] f)

-- Three counts, the bytes of both trees, and eight of totals.
pub patch_file-size : (p : Patch) → length (patch_file_bytes p) ≡ 2 + length (type_bytes p.input []) + 2 + length (node_bytes p.node []) + 10
unfolding patch_file_bytes
patch_file-size p =
    let third = section_bytes (totals_bytes p.totals []) [] in
    omega (
      arith,
      section_length (type_bytes p.input []) (section_bytes (node_bytes p.node []) third),
      section_length (node_bytes p.node []) third,
      section_length (totals_bytes p.totals []) [],
      totals_length p.totals [],
    )

-- "A patch file may now have 8,492 bytes."
pub patch_file_length : {s t : Ty} {n : Node} (c : Totals) → Allowed s n t → length (patch_file_bytes (patch_of s n c)) ≤ patch_file_limit
unfolding type_limit
patch_file_length {s} {t} {n} c a =
    omega (arith, patch_file-size (patch_of s n c), type_length s [], nodes_length n (types_carries a.types (allowed_fits a)) a.few, a.input_small)

-- What is written are bytes

node_is_bytes : (n : Node) (r : List ℕ) → Carries n → Bytes r → Bytes (node_bytes n r)
unfolding node_bytes
node_is_bytes pass r f b = bytes_cons 0 r (omega arith) b
node_is_bytes (silent n) r f b = bytes_cons 1 (type_bytes n r) (omega arith) (type_is_bytes n r b)
node_is_bytes emit_cue r f b = bytes_cons 2 r (omega arith) b
node_is_bytes (emit_level v) r f b = bytes_cons 3 (value_bytes v r) (omega arith) (value_is_bytes v r b)
node_is_bytes (both n m) r f b = bytes_cons 4 (node_bytes n (node_bytes m r)) (omega arith) (node_is_bytes n (node_bytes m r) f.0 (node_is_bytes m r f.1 b))
node_is_bytes left_side r f b = bytes_cons 5 r (omega arith) b
node_is_bytes right_side r f b = bytes_cons 6 r (omega arith) b
node_is_bytes first r f b = bytes_cons 7 r (omega arith) b
node_is_bytes second r f b = bytes_cons 8 r (omega arith) b
node_is_bytes (then n m) r f b = bytes_cons 9 (node_bytes n (node_bytes m r)) (omega arith) (node_is_bytes n (node_bytes m r) f.0 (node_is_bytes m r f.1 b))
node_is_bytes (chain n m) r f b = bytes_cons 10 (node_bytes n (node_bytes m r)) (omega arith) (node_is_bytes n (node_bytes m r) f.0 (node_is_bytes m r f.1 b))
node_is_bytes regroup_right r f b = bytes_cons 11 r (omega arith) b
node_is_bytes regroup_left r f b = bytes_cons 12 r (omega arith) b
node_is_bytes spread r f b = bytes_cons 13 r (omega arith) b
node_is_bytes front r f b = bytes_cons 14 r (omega arith) b
node_is_bytes (choose n m) r f b = bytes_cons 15 (node_bytes n (node_bytes m r)) (omega arith) (node_is_bytes n (node_bytes m r) f.0 (node_is_bytes m r f.1 b))
node_is_bytes (mark_first t) r f b = bytes_cons 16 (type_bytes t r) (omega arith) (type_is_bytes t r b)
node_is_bytes (mark_second t) r f b = bytes_cons 17 (type_bytes t r) (omega arith) (type_is_bytes t r b)

pub patch_file_is_bytes : {s t : Ty} {n : Node} (c : Totals) → Allowed s n t → Bytes (patch_file_bytes (patch_of s n c))
unfolding patch_file_bytes
patch_file_is_bytes {s} {t} {n} c a =
    let f = types_carries a.types (allowed_fits a) in
    type_section_is_bytes s (section_bytes (node_bytes n []) (section_bytes (totals_bytes c []) [])) a.input_small
    (section_is_bytes (node_bytes n []) (section_bytes (totals_bytes c []) []) (omega (arith, nodes_length n f a.few))
    (node_is_bytes n [] f bytes_nil) (totals_section_is_bytes c [] bytes_nil))

-- Reading what was written

reads : (n : Node) → Carries n → Reads TooManyNodes node_root tt n (count n) (node_bytes n)
unfolding node_bytes count node_root
reads pass f = reads_leaf TooManyNodes node_root _ (λ s. refl)
reads (silent n) f = reads_leaf TooManyNodes node_root _ (λ s. rw (read_type_reads n s f))
reads emit_cue f = reads_leaf TooManyNodes node_root _ (λ s. refl)
reads (emit_level v) f = reads_leaf TooManyNodes node_root _ (λ s. rw (value_reads CutShort v s f))
reads (both n m) f = reads_two TooManyNodes node_root both _ (λ s. refl) (reads n f.0) (reads m f.1)
reads left_side f = reads_leaf TooManyNodes node_root _ (λ s. refl)
reads right_side f = reads_leaf TooManyNodes node_root _ (λ s. refl)
reads first f = reads_leaf TooManyNodes node_root _ (λ s. refl)
reads second f = reads_leaf TooManyNodes node_root _ (λ s. refl)
reads (then n m) f = reads_two TooManyNodes node_root then _ (λ s. refl) (reads n f.0) (reads m f.1)
reads (chain n m) f = reads_two TooManyNodes node_root chain _ (λ s. refl) (reads n f.0) (reads m f.1)
reads regroup_right f = reads_leaf TooManyNodes node_root _ (λ s. refl)
reads regroup_left f = reads_leaf TooManyNodes node_root _ (λ s. refl)
reads spread f = reads_leaf TooManyNodes node_root _ (λ s. refl)
reads front f = reads_leaf TooManyNodes node_root _ (λ s. refl)
reads (choose n m) f = reads_two TooManyNodes node_root choose _ (λ s. refl) (reads n f.0) (reads m f.1)
reads (mark_first t) f = reads_leaf TooManyNodes node_root _ (λ s. rw (read_type_reads t s f))
reads (mark_second t) f = reads_leaf TooManyNodes node_root _ (λ s. rw (read_type_reads t s f))

-- In any reading that allows as many nodes.
pub node_reads : (budget : ℕ) (n : Node) (r : List ℕ) → Carries n → count n ≤ budget
    → tree TooManyNodes node_root budget tt (node_bytes n r) ≡ read n r
node_reads budget n r f h = tree_reads TooManyNodes node_root budget r (reads n f) h

pub read_node_reads : (n : Node) (r : List ℕ) → Carries n → Few n → read_node (node_bytes n r) ≡ read n r
unfolding read_node
read_node_reads n r f h = node_reads node_limit n r f h

node_section_reads : (n : Node) (r : List ℕ) → Carries n → Few n → node_section (section_bytes (node_bytes n []) r) ≡ read n r
unfolding node_section
node_section_reads n r f h =
    section_reads CutShort LeftOver read_node (node_bytes n []) r n (read_node_reads n [] f h)

pub patch_file-complete : {s t : Ty} {n : Node} {c : Totals} → Allowed s n t → Held c
    → patch_file (patch_file_bytes (patch_of s n c)) ≡ accepted (record { patch = patch_of s n c; output = t })
unfolding patch_file first_pass patch_sections second_pass patch_file_bytes
patch_file-complete {s} {t} {n} {c} a h =
    rw (type_section_reads s (section_bytes (node_bytes n []) (section_bytes (totals_bytes c []) [])) a.input_small)
    (rw (node_section_reads n (section_bytes (totals_bytes c []) []) (types_carries a.types (allowed_fits a)) a.few)
    (rw (totals_section_reads c [] h) (rw (typing-complete a.types (allowed_fits a)))))

-- What was read was written

abbrev IsNode : Unit {0} → Node → Type 0
IsNode w n = Carries n

abbrev NodeRootIs : Unit {0} → List ℕ → Reading (Root (Unit {0}) Node) → Type 0
NodeRootIs w s g = RootIs TooManyNodes node_root IsNode node_bytes count w s g

kinds_sound : (w : Unit {0}) (s : List ℕ) → Bytes s → (k : ℕ) → NodeRootIs w (k ∷ s) (get_or node_kinds k (λ r. fault Unlisted) s)
unfolding node_bytes count
kinds_sound w s b =
    every (λ k f. NodeRootIs w (k ∷ s) (f s)) (λ r. fault Unlisted) node_kinds
    (plain pass tt refl refl
    & carrying_type silent 1 (λ t h. h) (λ t. refl) (λ t x. refl)
    & plain emit_cue tt refl refl
    & carrying (read_value CutShort) value_bytes (λ v. v < level_limit) (λ v r e. value_sound CutShort s v r b e) emit_level 3
    (λ v h. h) (λ v. refl) (λ v x. refl)
    & forked both 4 (λ n m i j. (i, j)) (λ n m. refl) (λ n m x. refl)
    & plain left_side tt refl refl
    & plain right_side tt refl refl
    & plain first tt refl refl
    & plain second tt refl refl
    & forked then 9 (λ n m i j. (i, j)) (λ n m. refl) (λ n m x. refl)
    & forked chain 10 (λ n m i j. (i, j)) (λ n m. refl) (λ n m x. refl)
    & plain regroup_right tt refl refl
    & plain regroup_left tt refl refl
    & plain spread tt refl refl
    & plain front tt refl refl
    & forked choose 15 (λ n m i j. (i, j)) (λ n m. refl) (λ n m x. refl)
    & carrying_type mark_first 16 (λ t h. h) (λ t. refl) (λ t x. refl)
    & carrying_type mark_second 17 (λ t h. h) (λ t. refl) (λ t x. refl)
    & past (λ k h. tt))
  where
    plain : {k : ℕ} (n : Node) → Carries n → count n ≡ 1 → node_bytes n s ≡ k ∷ s → NodeRootIs w (k ∷ s) (leaf n s)
    plain n f c e = leaf_is TooManyNodes node_root IsNode node_bytes count n _ s b f c e

    carrying : {C : Type 0} (contents : List ℕ → Reading C) (put : C → List ℕ → List ℕ) (Held : C → Type 0)
        → ((c : C) (r : List ℕ) → contents s ≡ read c r → FoundContents put Held s c r)
        → (make : C → Node) (k : ℕ) → ((c : C) → Held c → Carries (make c)) → ((c : C) → count (make c) ≡ 1)
        → ((c : C) (x : List ℕ) → node_bytes (make c) x ≡ k ∷ put c x) → NodeRootIs w (k ∷ s) (read_on (contents s) (λ c r. leaf (make c) r))
    carrying contents put Held sound make k i c e =
        carried_is TooManyNodes node_root IsNode node_bytes count contents put Held make k s sound i c e

    carrying_type : (make : Ty → Node) (k : ℕ) → ((t : Ty) → Small t → Carries (make t)) → ((t : Ty) → count (make t) ≡ 1)
        → ((t : Ty) (x : List ℕ) → node_bytes (make t) x ≡ k ∷ type_bytes t x) → NodeRootIs w (k ∷ s) (read_on (read_type s) (λ t r. leaf (make t) r))
    carrying_type make k i c e = carrying read_type type_bytes Small (λ t r h. read_type_sound s t r b h) make k i c e

    forked : (f : Node → Node → Node) (k : ℕ) → ((n m : Node) → IsNode tt n → IsNode tt m → IsNode w (f n m))
        → ((n m : Node) → count (f n m) ≡ suc (count n + count m)) → ((n m : Node) (x : List ℕ) → node_bytes (f n m) x ≡ k ∷ node_bytes n (node_bytes m x))
        → NodeRootIs w (k ∷ s) (two_parts f tt tt s)
    forked f k i c e = two_is TooManyNodes node_root IsNode node_bytes count f k s b i c e

root_sound : (w : Unit {0}) (s : List ℕ) → Bytes s → NodeRootIs w s (node_root w s)
unfolding node_root
root_sound w [] b = tt
root_sound w (k ∷ s) b = kinds_sound w s (bytes_tail k s b) k

pub record FoundNode (s : List ℕ) (n : Node) (r : List ℕ) : Type 0 where
  pub bytes : node_bytes n r ≡ s
  pub carries : Carries n
  pub few : Few n
  pub rest : Bytes r

pub read_node_sound : (s : List ℕ) (n : Node) (r : List ℕ) → Bytes s → read_node s ≡ read n r → FoundNode s n r
unfolding read_node
read_node_sound s n r b e =
    let f = tree_sound TooManyNodes node_root IsNode node_bytes count root_sound node_limit tt s n r b e in
    record { bytes = f.bytes; carries = f.is; few = f.few; rest = f.rest }

record FoundNodes (s : List ℕ) (n : Node) (r : List ℕ) : Type 0 where
  bytes : section_bytes (node_bytes n []) r ≡ s
  carries : Carries n
  few : Few n
  rest : Bytes r

node_section_sound : (s : List ℕ) (n : Node) (r : List ℕ) → Bytes s → node_section s ≡ read n r → FoundNodes s n r
unfolding node_section
node_section_sound s n r b e =
    let f = section_sound CutShort LeftOver read_node s n r b e in
    let g = read_node_sound f.body n [] f.body_bytes f.inside in
    record { bytes = rw g.bytes f.bytes; carries = g.carries; few = g.few; rest = f.rest }

pub record FoundPatch (s : List ℕ) (p : Patch) : Type 0 where
  pub bytes : patch_file_bytes p ≡ s
  pub input_small : Small p.input
  pub carries : Carries p.node
  pub few : Few p.node
  pub held : Held p.totals

pub first_pass_sound : (s : List ℕ) (p : Patch) → Bytes s → first_pass s ≡ accepted p → FoundPatch s p
unfolding first_pass patch_sections patch_file_bytes
first_pass_sound s p b e =
    let w = whole_sound LeftOver (patch_sections s) p e in
    let x = read_on_read (type_section s) (λ t r. read_on (node_section r) (λ n u. read_on (totals_section u) (λ c rest. read (patch_of t n c) rest))) p [] w in
    let y = read_on_read (node_section x.1) (λ n u. read_on (totals_section u) (λ c rest. read (patch_of x.0 n c) rest)) p [] x.3 in
    let z = read_on_read (totals_section y.1) (λ c rest. read (patch_of x.0 y.0 c) rest) p [] y.3 in
    let f = type_section_sound s x.0 x.1 b x.2 in
    let g = node_section_sound x.1 y.0 y.1 f.rest y.2 in
    let h = totals_section_sound y.1 z.0 z.1 g.rest z.2 in
    go x.0 y.0 z.0 z.1 (let d = z.3 in cc) (let d = z.3 in cc) (rw (h.bytes, g.bytes) f.bytes) f.within g.carries g.few h.held
  where
    go : (t : Ty) (n : Node) (c : Totals) (r : List ℕ) → patch_of t n c ≡ p → r ≡ []
        → section_bytes (type_bytes t []) (section_bytes (node_bytes n []) (section_bytes (totals_bytes c []) r)) ≡ s
        → Small t → Carries n → Few n → Held c → FoundPatch s p
    go t n c r h k e w v l m = rw (← h) (record { bytes = rw k at e; input_small = w; carries = v; few = l; held = m })

-- The trees of an accepted patch file, its bytes, and that they are allowed.
pub record Accepted (s : List ℕ) (c : Checked) : Type 0 where
  pub bytes : patch_file_bytes c.patch ≡ s
  pub allowed : Allowed c.patch.input c.patch.node c.output
  pub held : Held c.patch.totals

pub patch_file_sound : (s : List ℕ) (c : Checked) → Bytes s → patch_file s ≡ accepted c → Accepted s c
unfolding patch_file second_pass
patch_file_sound s c b e =
    let x = go_on_accepted (first_pass s) second_pass c e in
    let y = go_on_accepted (typing x.0.input x.0.node) (λ t. accepted (record { patch = x.0; output = t })) c x.2 in
    let f = first_pass_sound s x.0 b x.1 in
    let g = typing_sound x.0.input x.0.node y.0 f.carries y.1 in
    go x.0 y.0 (let d = y.2 in cc) f.bytes
    (is_allowed g.types f.input_small f.few g.fits) f.held
  where
    go : (p : Patch) (t : Ty) → ◌≡◌ {A = Checked} (record { patch = p; output = t }) c → patch_file_bytes p ≡ s
        → Allowed p.input p.node t → Held p.totals → Accepted s c
    go p t h e a l = rw (← h) (record { bytes = e; allowed = a; held = l })

pub patch_file_accepted : (s : List ℕ) → Bytes s → IsAccepted (patch_file s) ↔ PatchFile s
patch_file_accepted s b = (
  (λ a.
      let f = patch_file_sound s a.0 b a.1 in
      let c = a.0 in
      record { trees = c.patch; output = c.output; allowed = f.allowed; held = f.held; bytes = f.bytes }),
  (λ f. (_, rw f.bytes at (patch_file-complete f.allowed f.held))),
)

-- The refusals of a patch file are 1 to 7 and 30.

abbrev PatchFault : Fault → Type 0
PatchFault = Listed patch_numbers

-- A type's refusals are a patch's.
type_fault : (e : Fault) → Listed type_numbers e → PatchFault e
type_fault e h = listed_first type_numbers (5 ∷ 6 ∷ 7 ∷ 30 ∷ []) e h

carried_faults : (make : Ty → Node) (s : List ℕ) → Faults PatchFault (read_on (read_type s) (λ t r. leaf {W = Unit {0}} (make t) r))
carried_faults make s = read_on_faults PatchFault (read_type s) _ (faults_too type_fault (read_type s) (read_type_faults s)) (λ t r. tt)

kinds_faults : (s : List ℕ) (k : ℕ) → Faults PatchFault (get_or node_kinds k (λ r. fault Unlisted) s)
kinds_faults s =
    every (λ k f. Faults PatchFault (f s)) (λ r. fault Unlisted) node_kinds
    (tt
    & carried_faults silent s
    & tt
    & read_on_faults PatchFault (read_value CutShort s) _ (value_faults PatchFault CutShort refl s) (λ v r. tt)
    & tt & tt & tt & tt & tt & tt & tt & tt & tt & tt & tt & tt
    & carried_faults mark_first s
    & carried_faults mark_second s
    & past (λ k h. refl))

root_faults : (w : Unit {0}) (s : List ℕ) → Faults PatchFault (node_root w s)
unfolding node_root
root_faults w [] = refl
root_faults w (k ∷ s) = kinds_faults s k

read_node_faults : (s : List ℕ) → Faults PatchFault (read_node s)
unfolding read_node
read_node_faults s = tree_faults PatchFault TooManyNodes node_root refl root_faults node_limit tt s

sections_faults : (s : List ℕ) → Faults PatchFault (patch_sections s)
unfolding patch_sections node_section
sections_faults s =
    read_on_faults PatchFault (type_section s) _ (faults_too type_fault (type_section s) (type_section_faults s))
    (λ t r. read_on_faults PatchFault (node_section r) _ (section_faults PatchFault CutShort LeftOver read_node refl refl read_node_faults r)
    (λ n x. read_on_faults PatchFault (totals_section x) _ (totals_section_faults PatchFault refl refl x) (λ c rest. tt)))

first_pass_refusals : (s : List ℕ) → Refusals PatchFault (first_pass s)
unfolding first_pass
first_pass_refusals s = whole_refusals PatchFault LeftOver (patch_sections s) refl (sections_faults s)

pub patch_file_refusals : (s : List ℕ) → Refusals (Listed patch_numbers) (patch_file s)
unfolding patch_file second_pass
patch_file_refusals s =
    go_on_refusals PatchFault (first_pass s) _ (first_pass_refusals s)
    (λ p. go_on_refusals PatchFault (typing p.input p.node) _ (typing_refusals p.input p.node) (λ t. tt))
