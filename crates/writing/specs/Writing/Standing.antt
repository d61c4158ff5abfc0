-- Where the trees of accepted files stand, and what the readers' answers say of the files: what a caller of the readers
-- hands on to the writers.
use Rattle.std.proofs.Math.Path.{◌≡◌, refl, ap}
use Rattle.std.proofs.Common.{sym, ◌∙◌, append-nil, arith, le_trans, length-take-le}
use Rattle.std.specs.Prelude.{Err, Ok, Result, List, [], ℕ, ◌+◌, ◌-◌, ◌≤◌, length, take, drop}
use Rattle.stream.specs.declared.Fault.{Fault}
use Rattle.reading.specs.Places.{TypePlace}
use Rattle.reading.specs.declared.prefixes.Known.{Known}
use Rattle.stream.specs.Types.{Ty, size, Small}
use Rattle.stream.proofs.Types.Laws.{limit_is}
use Rattle.stream.specs.Prefixes.{Prefix, derivative}
use Rattle.stream.specs.Prefixes.Functions.{concat}
use Rattle.stream.proofs.Prefixes.Laws.{derivative-size, concat_is_prefix}
use Rattle.stream.specs.Reading.{Bytes, Result as Outcome, accepted, refused, section_bytes}
use Rattle.stream.specs.TypeFiles.{type_bytes, type_file_bytes, type_file}
use Rattle.stream.proofs.TypeFiles.Laws.{type_length, type_file_sound}
use Rattle.stream.specs.SliceFiles.{prefix_bytes, slice_file_bytes, slice_file}
use Rattle.stream.proofs.SliceFiles.Laws.{prefix_short, slice_length, slice_file_sound}
use Rattle.reading.specs.declared.types.TypeView.{TypeView}
use Rattle.reading.specs.Views.{tree}
use Rattle.reading.specs.Reads.{whole_seen}
use Rattle.reading.specs.TypeReads.{in_file, type_read, TypeAt, AcceptedType}
use Rattle.stream.proofs.TypeFiles.Held.{Holds as OnlyType}
use Rattle.reading.specs.TypeReads.Laws.{type_before, type_width, bytes_at, same_type}
use Rattle.reading.specs.SliceReads.{prefix_width, known, slice_read, ReadsSlice, AcceptedSlice}
use Rattle.reading.specs.SliceReads.Laws.{prefix_bytes_length, overlap_within, concat_width}
use Rattle.stream.specs.Buffers.{at_front}
use Rattle.writing.specs.Appending.{Holds}
use Rattle.writing.specs.Leaving.{SliceReadLeaving, ReadsSliceLeaving}
use Rattle.writing.specs.Writing.{JoinedFileDue}
use Rattle.stream.specs.Bounds.{slice_file_limit}

-- Behind the two bytes of the count stands the tree.

behind_count : (body : List ℕ) → drop 2 (section_bytes body []) ≡ body
unfolding section_bytes
behind_count body = append-nil body

type_stands : (file : List ℕ) (t : Ty) → Bytes file → type_file file ≡ accepted t → TypeAt file 2 t
unfolding type_file_bytes
type_stands file t b e =
    let f = type_file_sound file t b e in
    record { rest = []; here = rw (← f.0) (behind_count (type_bytes t [])); small = f.1 }

module _ (file : List ℕ) {answer : Result TypePlace Fault} (told : answer ≡ type_read (type_file file)) where
  pub type_accepted : Bytes file → (place : TypePlace) → answer ≡ Ok place → AcceptedType file place.start
  unfolding type_read
  type_accepted bytes place e = go (type_file file) refl (sym told ∙ e)
    where
      go : (g : Outcome Ty) → type_file file ≡ g → type_read g ≡ Ok place → AcceptedType file place.start
      go (accepted t) h w =
          let start : place.start ≡ 2 = cc in
          record { type = t; is_accepted = h; stands = rw start (type_stands file t bytes h) }
      go (refused x) h w = let z : ◌≡◌ {A = ℕ} 0 1 = cc in absurd (omega arith)

  pub type_refused : (e : Fault) → answer ≡ Err e → type_file file ≡ refused e
  unfolding type_read
  type_refused e h = go (type_file file) (sym told ∙ h)
    where
      go : (g : Outcome Ty) → type_read g ≡ Err e → g ≡ refused e
      go (accepted t) w = let z : ◌≡◌ {A = ℕ} 0 1 = cc in absurd (omega arith)
      go (refused x) w = let z : x ≡ e = cc in ap refused z

-- Both hold what the reader of type files answers, once its view's place is told in the view's stead.

abbrev pub as_place : Result TypeView Fault → Result TypePlace Fault
as_place (Ok v) = Ok (in_file (tree v))
as_place (Err e) = Err e

pub read_at_places : (file : List ℕ) (answer : Result TypeView Fault) → whole_seen answer ≡ type_file file → as_place answer ≡ type_read (type_file file)
unfolding type_read
read_at_places file (Ok v) told = ap type_read told
read_at_places file (Err e) told = ap type_read told

-- So the type that it accepts, the view's tree, stands in the file behind the count, and the fault that it tells is the file's.
module _ (file : List ℕ) {answer : Result TypeView Fault} (told : whole_seen answer ≡ type_file file) where
  pub view_accepted : Bytes file → (v : TypeView) → answer ≡ Ok v → (a : AcceptedType file 2) × (a.type ≡ tree v)
  view_accepted bytes v e =
      let a : AcceptedType file 2 = type_accepted file (read_at_places file answer told) bytes (in_file (tree v)) (ap as_place e) in
      let z : accepted a.type ≡ accepted (tree v) = sym a.is_accepted ∙ sym told ∙ ap whole_seen e in
      let same : a.type ≡ tree v = cc in
      (a, same)

  pub view_refused : (e : Fault) → answer ≡ Err e → type_file file ≡ refused e
  view_refused e h = type_refused file (read_at_places file answer told) e (ap as_place h)

-- How long the files are that Left and Join write.

pub type_file-size : (t : Ty) → length (type_file_bytes t) ≡ 2 + size t
unfolding type_file_bytes section_bytes
type_file-size t = rw (append-nil (type_bytes t [])) (omega (arith, type_length t []))

pub slice_file-size : (p : Prefix) → length (slice_file_bytes p) ≡ 2 + prefix_width p
unfolding slice_file_bytes section_bytes
slice_file-size p = rw (append-nil (prefix_bytes p [])) (omega (arith, prefix_bytes_length p []))

slice_stands : (t : Ty) (file : List ℕ) (about : Known) (p : Prefix) → Bytes file → slice_file t file ≡ accepted p → about ≡ known t p
    → AcceptedSlice t file about
unfolding slice_file_bytes known
slice_stands t file about p bytes e k =
    let f = slice_file_sound t file p bytes e in
    record {
      prefix = p;
      is_accepted = e;
      is_prefix = f.1;
      completeness = ap (λ a. a.complete) k;
      remains = ap (λ a. a.remains) k;
      arrived = ap (λ a. a.arrived) k;
      overlap = ap (λ a. a.overlap) k;
      stands = record { rest = []; here = rw (← f.0) (behind_count (prefix_bytes p [])) };
      fills = ap length (sym f.0) ∙ slice_file-size p;
    }

-- What the reader of slice files says of one.
module _ (t : Ty) (file : List ℕ) {answer : Result Known Fault} (told : answer ≡ slice_read t (slice_file t file)) where
  pub accepted_slice : Bytes file → (about : Known) → answer ≡ Ok about → AcceptedSlice t file about
  unfolding slice_read
  accepted_slice bytes about e = go (slice_file t file) refl (sym told ∙ e)
    where
      go : (g : Outcome Prefix) → slice_file t file ≡ g → slice_read t g ≡ Ok about → AcceptedSlice t file about
      go (accepted p) h w = let k : known t p ≡ about = cc in slice_stands t file about p bytes h (sym k)
      go (refused x) h w = let z : ◌≡◌ {A = ℕ} 0 1 = cc in absurd (omega arith)

  pub refused_slice : (e : Fault) → answer ≡ Err e → slice_file t file ≡ refused e
  unfolding slice_read
  refused_slice e h = go (slice_file t file) (sym told ∙ h)
    where
      go : (g : Outcome Prefix) → slice_read t g ≡ Err e → g ≡ refused e
      go (accepted p) w = let z : ◌≡◌ {A = ℕ} 0 1 = cc in absurd (omega arith)
      go (refused x) w = let z : x ≡ e = cc in ap refused z

-- The same where its type stands at a place.
module _ {types : List ℕ} {at : ℕ} {file : List ℕ} {answer : Result Known Fault} (told : ReadsSlice types at file answer)
    {t : Ty} (stands : TypeAt types at t) where
  pub slice_accepted : Bytes file → (about : Known) → answer ≡ Ok about → AcceptedSlice t file about
  slice_accepted = accepted_slice t file (told.each t stands)

  pub slice_refused : (e : Fault) → answer ≡ Err e → slice_file t file ≡ refused e
  slice_refused = refused_slice t file (told.each t stands)

-- A type written at the front of some bytes stands there.
pub written_stands : (t : Ty) (lent : List ℕ) {bytes : List ℕ} → bytes ≡ at_front (type_bytes t []) lent → Small t → TypeAt bytes 0 t
written_stands t lent e small = record { rest = drop (length (type_bytes t [])) lent; here = e ∙ sym (type_before t _); small = small }

-- A type of `many` nodes, at the front of work bytes.
pub record TypeHeld (t : Ty) (held : List ℕ) (many : ℕ) : Type 0 where
  pub sized : many ≡ size t
  pub small : many ≤ 255
  pub inside : many ≤ length held
  pub stands : TypeAt held 0 t
  pub bytes : take many held ≡ type_bytes t []

-- Work bytes of 255 have room for every type.
pub type_held : (t : Ty) → Small t → {lent held : List ℕ} → 255 ≤ length lent → Holds (type_bytes t []) lent held → (many : ℕ) → many ≡ size t
    → TypeHeld t held many
type_held t small {lent} room holds many sized =
    let stands = written_stands t lent (holds.in_front (omega (arith, type_width t, small, limit_is))) small in
    record {
      sized = sized;
      small = omega (arith, small, limit_is);
      inside = omega (arith, holds.long, small, limit_is);
      stands = stands;
      bytes = rw sized (bytes_at stands);
    }

-- The section of its bytes is its file.
module _ {t : Ty} {held : List ℕ} {many : ℕ} (type : TypeHeld t held many) where
  pub section_due : (out : List ℕ) → 2 + many ≤ length out → (length (take many held) ≤ 65535) × (2 + length (take many held) ≤ length out)
  section_due out room =
      let long : length (take many held) ≡ many = length-take-le many held type.inside in
      (omega (arith, long, type.small), omega (arith, long))

  pub section_written : (out : List ℕ) {out_after : List ℕ} → out_after ≡ at_front (section_bytes (take many held) []) out
      → out_after ≡ at_front (type_file_bytes t) out
  unfolding type_file_bytes
  section_written out e = e ∙ ap (λ body. at_front (section_bytes body []) out) type.bytes

-- They hold it, and nothing else.
pub only_type : {t : Ty} {held : List ℕ} {many : ℕ} → TypeHeld t held many → OnlyType (take many held) t
only_type type = record { bytes = type.bytes; small = type.stands.small }

-- What an accepted slice file leaves, on work bytes that its reader was lent.
pub left_held : {t : Ty} {file lent held : List ℕ} {answer : Result Known Fault} → SliceReadLeaving t file lent held answer → Small t
    → {about : Known} (p : AcceptedSlice t file about) → 255 ≤ length lent → TypeHeld (derivative t p.prefix) held about.remains
left_held {t} read small {about} p room =
    type_held (derivative t p.prefix) (le_trans (derivative-size p.is_prefix) small) room (read.left p.prefix p.is_accepted) about.remains p.remains

-- The same where its type stands at a place.

pub read_at : {types : List ℕ} {at : ℕ} {t : Ty} → TypeAt types at t → {file lent held : List ℕ} {answer : Result Known Fault}
    → SliceReadLeaving t file lent held answer → ReadsSliceLeaving types at file lent held answer
read_at {types} {at} {t} stands {file} {lent} {held} {answer} read =
    record {
      reads = record { each = λ u here. rw (same_type stands here) at read.reads };
      long = read.long;
      left = λ u here. (rw (same_type stands here) at read).left;
    }

pub left-held : {types : List ℕ} {at : ℕ} {file lent held : List ℕ} {answer : Result Known Fault} → ReadsSliceLeaving types at file lent held answer
    → {t : Ty} → TypeAt types at t → {about : Known} (p : AcceptedSlice t file about) → 255 ≤ length lent
    → TypeHeld (derivative t p.prefix) held about.remains
left-held read {t} stands {about} p room =
    type_held (derivative t p.prefix) (le_trans (derivative-size p.is_prefix) stands.small) room
    (read.left t stands p.prefix p.is_accepted) about.remains p.remains

-- An accepted slice file is no longer than any.
pub slice_short : {t : Ty} {file : List ℕ} {about : Known} → Small t → AcceptedSlice t file about → length file ≤ slice_file_limit
slice_short small p =
    omega (arith, p.fills, slice_length p.prefix (prefix_short p.is_prefix small), prefix_bytes_length p.prefix [])

-- What it overlaps with is behind the count.
pub overlap_less : {t : Ty} {file : List ℕ} {about : Known} → AcceptedSlice t file about → about.overlap ≤ length file - 2
overlap_less p = omega (arith, p.fills, p.overlap, overlap_within p.prefix)

-- What the writer of a join asks for, once the readers have accepted.
module _ {t : Ty} {first second : List ℕ} {one other : Known}
    (p : AcceptedSlice t first one) (q : AcceptedSlice (derivative t p.prefix) second other) where
  -- A join has as many bytes as the two without their overlap.
  pub joined_width : length first - 2 + (length second - 2) - one.overlap ≡ prefix_width (concat p.prefix q.prefix)
  joined_width = omega (arith, p.fills, q.fills, p.overlap, concat_width q.prefix p.is_prefix q.is_prefix)

  pub joined_countable : Small t → prefix_width (concat p.prefix q.prefix) ≤ 65535
  joined_countable small =
      let joined = concat p.prefix q.prefix in
      let is_joined = concat_is_prefix q.prefix p.is_prefix q.is_prefix in
      omega (arith, slice_length joined (prefix_short is_joined small), prefix_bytes_length joined [])

  abbrev pub joined_file_due : Small t → (joined : ℕ) (lent : List ℕ) → joined ≡ prefix_width (concat p.prefix q.prefix)
      → 2 + joined ≤ length lent → JoinedFileDue first second joined lent
  joined_file_due small joined lent measured room =
      record {
        type = t;
        one = p.prefix;
        other = q.prefix;
        follows = record { first_at = p.stands; second_at = q.stands; is_first = p.is_prefix; is_second = q.is_prefix };
        measured = measured;
        countable = rw measured (joined_countable small);
        room = room;
      }
