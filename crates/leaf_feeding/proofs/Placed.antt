-- What the code promises of views, said of places in longer bytes, of which these laws speak: types and prefixes that stand at a place, where
-- they lead the work bytes, and where they are copied from.
use Rattle.std.specs.Prelude.{◌≡◌, refl, [], List, ℕ, ◌-◌, ◌≤◌, length, take, drop}
use Rattle.std.proofs.Common.{sym, ap, ◌∙◌, arith, take_all}
use Rattle.stream.specs.Types.{Ty, size, Small}
use Rattle.stream.specs.Prefixes.{Prefix, empty_prefix}
use Rattle.stream.proofs.Prefixes.Laws.{empty_prefix_is_prefix}
use Rattle.stream.specs.Buffers.{at_front}
use Rattle.stream.specs.TypeFiles.{type_bytes}
use Rattle.stream.specs.SliceFiles.{prefix_bytes}
use Rattle.stream.proofs.SliceFiles.Laws.{prefix_before}
use Rattle.stream.proofs.TypeFiles.Held.{Holds as OnlyType}
use Rattle.reading.specs.declared.types.TypeView.{TypeView}
use Rattle.reading.specs.declared.fronts.TypeFront.{TypeFront}
use Rattle.reading.specs.declared.inputs.Input.{Input}
use Rattle.reading.specs.Views.{tree}
use Rattle.reading.specs.Fronts.{front_tree}
use Rattle.reading.specs.InputViews.{prefix}
use Rattle.reading.proofs.PlaceViews.{view_in, view_input_at}
use Rattle.reading.specs.Places.{TypePlace, PrefixPlace}
use Rattle.reading.specs.TypeReads.{TypeAt, TypeIn}
use Rattle.reading.specs.TypeReads.Laws.{type_before, type_width, bytes_at, same_type}
use Rattle.reading.specs.SliceReads.{PrefixIn, prefix_width}
use Rattle.reading.specs.SliceReads.Laws.{prefix_bytes_length, prefix_taken}
use Rattle.writing.specs.Writing.{EmptyDue, EmptyWritten}
use Rattle.leaf_feeding.specs.Steps.{Leads, Rooms}
use Rattle.leaf_feeding.specs.Steps.Laws.{front_leads, prefix_room}

-- A type and a prefix that lead stand there, up to where they end.

pub type_stands : {t : Ty} {lent now : List ℕ} → Leads (type_bytes t []) lent now → Small t → TypeIn now (record { start = 0; end = size t }) t
type_stands {t} leads small =
    record { stands = record { rest = leads.rest; here = leads.begins ∙ sym (type_before t leads.rest); small = small }; ends = omega arith }

pub prefix_stands : {p : Prefix} {lent now : List ℕ} → Leads (prefix_bytes p []) lent now → PrefixIn now (record { start = 0; end = prefix_width p }) p
prefix_stands {p} leads =
    record { stands = record { rest = leads.rest; here = leads.begins ∙ sym (prefix_before p leads.rest) }; ends = omega arith }

-- A type and a prefix that are copied lead, where they have room.

pub type_copied : {types : List ℕ} {place : TypePlace} {t : Ty} {lent now : List ℕ} → TypeIn types place t → size t ≤ length lent
    → now ≡ at_front (take (place.end - place.start) (drop place.start types)) lent → Leads (type_bytes t []) lent now
type_copied {types} {place} {t} {lent} type_in room copied =
    let long : place.end - place.start ≡ size t = omega (arith, type_in.ends) in
    front_leads (type_bytes t []) lent (rw (long, bytes_at type_in.stands) at copied) (omega (arith, type_width t))

pub prefix_copied : {slice : List ℕ} {place : PrefixPlace} {p : Prefix} {lent now : List ℕ} → PrefixIn slice place p → prefix_width p ≤ length lent
    → now ≡ at_front (take (place.end - place.start) (drop place.start slice)) lent → Leads (prefix_bytes p []) lent now
prefix_copied {slice} {place} {p} {lent} prefix_in room copied =
    let taken = prefix_taken (place.end - place.start) prefix_in.stands (omega (arith, prefix_in.ends)) in
    front_leads (prefix_bytes p []) lent (rw taken at copied) (omega (arith, prefix_bytes_length p []))

-- A view is copied from all of its bytes, which are such a place.

all_taken : (s : List ℕ) → take (length s - 0) (drop 0 s) ≡ s
all_taken s = take_all (length s - 0) s (omega arith)

pub view_copied : (v : TypeView) {lent now : List ℕ} → size (tree v) ≤ length lent → now ≡ at_front v.bytes.now lent
    → Leads (type_bytes (tree v) []) lent now
view_copied v {lent} room copied = type_copied (view_in v) room (copied ∙ ap (λ l. at_front l lent) (sym (all_taken v.bytes.now)))

pub slice_copied : (i : Input) {lent now : List ℕ} → length i.slice.now ≤ length lent → now ≡ at_front i.slice.now lent
    → Leads (prefix_bytes (prefix i) []) lent now
slice_copied i {lent} room copied =
    let here = (view_input_at i).prefix_in in
    prefix_copied here (omega (arith, room, here.ends)) (copied ∙ ap (λ l. at_front l lent) (sym (all_taken i.slice.now)))

-- What leads is a view's bytes, up to where it ends.

pub type_held : {t : Ty} {lent now : List ℕ} → Leads (type_bytes t []) lent now → Small t → OnlyType (take (size t) now) t
type_held leads small = record { bytes = bytes_at (type_stands leads small).stands; small = small }

pub prefix_held : (p : Prefix) {lent now : List ℕ} → Leads (prefix_bytes p []) lent now → take (prefix_width p) now ≡ prefix_bytes p []
prefix_held p leads = let placed = prefix_stands leads in prefix_taken (prefix_width p) placed.stands refl

-- The writer of the empty prefix of a front asks what is asked of a place where its type stands, and answers what is answered there.
module _ {types : List ℕ} {at : ℕ} (f : TypeFront) (there : f.bytes.now ≡ drop at types) where
  front_stands : TypeAt types at (front_tree f)
  front_stands = record { rest = drop (size (front_tree f)) f.bytes.now; here = sym there ∙ sym f.begins; small = f.small }

  pub empty_asked : {lent : List ℕ} (due : EmptyDue types at lent) → prefix_width (empty_prefix (front_tree f)) ≤ length lent
  empty_asked due = rw (same_type front_stands due.stands) due.room

  pub empty_answered : {lent lent_after : List ℕ} {written : ℕ} → written ≡ prefix_width (empty_prefix (front_tree f))
      → lent_after ≡ at_front (prefix_bytes (empty_prefix (front_tree f)) []) lent → EmptyWritten types at lent lent_after written
  empty_answered {lent} {lent_after} {written} wide begins =
      record { each = λ due. rw (sym (same_type front_stands due.stands)) (wide, begins) }

-- So the empty prefix of a type that has room can be written, and then leads.
module _ {types : List ℕ} {at : ℕ} {t : Ty} {out given : List ℕ} (stands : TypeAt types at t) (rooms : Rooms out given) (room : size t ≤ length given) where
  pub empty_due : EmptyDue types at out
  empty_due = record { type = t; stands = stands; room = prefix_room rooms (empty_prefix_is_prefix t) room }

  module _ {out_after : List ℕ} {sent : ℕ} (written : EmptyWritten types at out out_after sent) where
    pub empty_wide : sent ≡ prefix_width (empty_prefix t)
    unfolding empty_due
    empty_wide = (written.each empty_due).0

    pub empty_leads : Leads (prefix_bytes (empty_prefix t) []) out out_after
    unfolding empty_due
    empty_leads = front_leads _ out (written.each empty_due).1 (omega (arith, prefix_bytes_length (empty_prefix t) [], empty_due.room))
