-- A type file is accepted exactly if it is the file of a type within the limit.
use Rattle.std.specs.Prelude.{◌≡◌, refl, ◌↔◌, List, [], ◌∷◌, ℕ, ◌+◌, ◌≤◌, length}
use Rattle.std.proofs.Common.{append-nil, arith}
use Rattle.stream.specs.declared.Fault.{Fault}
use Rattle.stream.specs.declared.Fault.TheVariants.{CutShort, Unlisted, LeftOver, TypeTooLarge}
use Rattle.stream.specs.Types.{Ty, empty, cue, level, seq, par, either, size, type_limit, Small}
use Rattle.stream.specs.Bounds.{type_file_limit}
use Rattle.stream.specs.Faults.{type_numbers, Listed}
use Rattle.stream.specs.Reading.{Bytes, read, fault, accepted, IsAccepted, section_bytes}
use Rattle.stream.proofs.Reading.Laws.{Reads, reads_leaf, reads_two, tree_reads, RootIs, leaf_is, FoundContents, two_is, tree_sound, section_reads, section_sound, whole_sound, ◌&◌, past, every, bytes_tail, bytes_nil, bytes_cons, section_is_bytes}
use Rattle.stream.proofs.Reading.Refusals.{Faults, Refusals, section_faults, tree_faults, whole_refusals}
use Rattle.stream.specs.TypeFiles.{type_bytes, type_file_bytes, TypeFile, type_kinds, type_root, read_type, type_section, type_file}

pub type_length : (t : Ty) (r : List ℕ) → length (type_bytes t r) ≡ size t + length r
unfolding type_bytes size
type_length empty r = omega arith
type_length cue r = omega arith
type_length level r = omega arith
type_length (seq s t) r = omega (arith, type_length s (type_bytes t r), type_length t r)
type_length (par s t) r = omega (arith, type_length s (type_bytes t r), type_length t r)
type_length (either s t) r = omega (arith, type_length s (type_bytes t r), type_length t r)

pub type_file_length : (t : Ty) → Small t → length (type_file_bytes t) ≤ type_file_limit
unfolding type_file_bytes section_bytes type_limit
type_file_length t w = rw (append-nil (type_bytes t [])) (omega (arith, type_length t []))

-- What is written are bytes

pub type_is_bytes : (t : Ty) (r : List ℕ) → Bytes r → Bytes (type_bytes t r)
unfolding type_bytes
type_is_bytes empty r b = bytes_cons 0 r (omega arith) b
type_is_bytes cue r b = bytes_cons 1 r (omega arith) b
type_is_bytes level r b = bytes_cons 2 r (omega arith) b
type_is_bytes (seq s t) r b = bytes_cons 3 (type_bytes s (type_bytes t r)) (omega arith) (type_is_bytes s (type_bytes t r) (type_is_bytes t r b))
type_is_bytes (par s t) r b = bytes_cons 4 (type_bytes s (type_bytes t r)) (omega arith) (type_is_bytes s (type_bytes t r) (type_is_bytes t r b))
type_is_bytes (either s t) r b = bytes_cons 5 (type_bytes s (type_bytes t r)) (omega arith) (type_is_bytes s (type_bytes t r) (type_is_bytes t r b))

pub type_section_is_bytes : (t : Ty) (r : List ℕ) → Small t → Bytes r → Bytes (section_bytes (type_bytes t []) r)
unfolding type_limit
type_section_is_bytes t r h b =
    section_is_bytes (type_bytes t []) r (omega (arith, type_length t [])) (type_is_bytes t [] bytes_nil) b

-- Reading what was written

reads : (t : Ty) → Reads TypeTooLarge type_root tt t (size t) (type_bytes t)
unfolding type_bytes size type_root
reads empty = reads_leaf TypeTooLarge type_root _ (λ s. refl)
reads cue = reads_leaf TypeTooLarge type_root _ (λ s. refl)
reads level = reads_leaf TypeTooLarge type_root _ (λ s. refl)
reads (seq s t) = reads_two TypeTooLarge type_root seq _ (λ r. refl) (reads s) (reads t)
reads (par s t) = reads_two TypeTooLarge type_root par _ (λ r. refl) (reads s) (reads t)
reads (either s t) = reads_two TypeTooLarge type_root either _ (λ r. refl) (reads s) (reads t)

pub read_type_reads : (t : Ty) (r : List ℕ) → Small t → read_type (type_bytes t r) ≡ read t r
unfolding read_type
read_type_reads t r h = tree_reads TypeTooLarge type_root type_limit r (reads t) h

pub type_section_reads : (t : Ty) (r : List ℕ) → Small t → type_section (section_bytes (type_bytes t []) r) ≡ read t r
unfolding type_section
type_section_reads t r h =
    section_reads CutShort LeftOver read_type (type_bytes t []) r t (read_type_reads t [] h)

pub type_file-complete : (t : Ty) → Small t → type_file (type_file_bytes t) ≡ accepted t
unfolding type_file type_file_bytes
type_file-complete t h = rw (type_section_reads t [] h)

-- What was read was written

IsType : Unit {0} → Ty → Type 0
IsType w t = Unit

root_sound : (w : Unit {0}) (s : List ℕ) → Bytes s → RootIs TypeTooLarge type_root IsType type_bytes size w s (type_root w s)
unfolding type_root type_bytes size IsType
root_sound w [] b = tt
root_sound w (k ∷ s) b =
    every (λ j f. RootIs TypeTooLarge type_root IsType type_bytes size w (j ∷ s) (f s)) (λ r. fault Unlisted) type_kinds
    (leaf_is TypeTooLarge type_root IsType type_bytes size empty _ s c tt refl refl
    & leaf_is TypeTooLarge type_root IsType type_bytes size cue _ s c tt refl refl
    & leaf_is TypeTooLarge type_root IsType type_bytes size level _ s c tt refl refl
    & two_is TypeTooLarge type_root IsType type_bytes size seq 3 s c (λ t u i j. tt) (λ t u. refl) (λ t u x. refl)
    & two_is TypeTooLarge type_root IsType type_bytes size par 4 s c (λ t u i j. tt) (λ t u. refl) (λ t u x. refl)
    & two_is TypeTooLarge type_root IsType type_bytes size either 5 s c (λ t u i j. tt) (λ t u. refl) (λ t u x. refl)
    & past (λ j h. tt)) k
  where
    c : Bytes s
    c = bytes_tail k s b

pub read_type_sound : (s : List ℕ) (t : Ty) (r : List ℕ) → Bytes s → read_type s ≡ read t r → FoundContents type_bytes Small s t r
unfolding read_type
read_type_sound s t r b e =
    let f = tree_sound TypeTooLarge type_root IsType type_bytes size root_sound type_limit tt s t r b e in
    record { bytes = f.bytes; within = f.few; rest = f.rest }

pub record FoundTypeSection (s : List ℕ) (t : Ty) (r : List ℕ) : Type 0 where
  pub bytes : section_bytes (type_bytes t []) r ≡ s
  pub within : Small t
  pub rest : Bytes r

pub type_section_sound : (s : List ℕ) (t : Ty) (r : List ℕ) → Bytes s → type_section s ≡ read t r → FoundTypeSection s t r
unfolding type_section
type_section_sound s t r b e =
    let f = section_sound CutShort LeftOver read_type s t r b e in
    let g = read_type_sound f.body t [] f.body_bytes f.inside in
    record { bytes = rw g.bytes f.bytes; within = g.within; rest = f.rest }

pub type_file_sound : (s : List ℕ) (t : Ty) → Bytes s → type_file s ≡ accepted t → (type_file_bytes t ≡ s) × Small t
unfolding type_file type_file_bytes
type_file_sound s t b e =
    let f = type_section_sound s t [] b (whole_sound LeftOver (type_section s) t e) in
    (f.bytes, f.within)

pub type_file_accepted : (s : List ℕ) → Bytes s → IsAccepted (type_file s) ↔ TypeFile s
type_file_accepted s b = (
  (λ a. let f = type_file_sound s a.0 b a.1 in record { type = a.0; small = f.1; bytes = f.0 }),
  (λ f. (f.type, rw (← f.bytes) (type_file-complete f.type f.small))),
)

-- The refusals of a type are 1 to 4.

abbrev TypeFault : Fault → Type 0
TypeFault = Listed type_numbers

root_faults : (w : Unit {0}) (s : List ℕ) → Faults TypeFault (type_root w s)
unfolding type_root
root_faults w [] = refl
root_faults w (k ∷ s) =
    every (λ j f. Faults TypeFault (f s)) (λ r. fault Unlisted) type_kinds (tt & tt & tt & tt & tt & tt & past (λ j h. refl)) k

pub read_type_faults : (s : List ℕ) → Faults (Listed type_numbers) (read_type s)
unfolding read_type
read_type_faults s = tree_faults TypeFault TypeTooLarge type_root refl root_faults type_limit tt s

pub type_section_faults : (s : List ℕ) → Faults (Listed type_numbers) (type_section s)
unfolding type_section
type_section_faults s = section_faults TypeFault CutShort LeftOver read_type refl refl read_type_faults s

pub type_file_refusals : (s : List ℕ) → Refusals (Listed type_numbers) (type_file s)
unfolding type_file
type_file_refusals s = whole_refusals TypeFault LeftOver (type_section s) refl (type_section_faults s)
