-- `feed_slice` meets its contract: the work bytes have room for every answer, so Feed's number is the slice's own, and the
-- fields of the line are read where Feed wrote them (`TakingSlice`).
use Rattle.std.proofs.Common.{◌≡◌, ◌≤◌, sym, ◌∙◌, List, [], ℕ, ◌+◌, ◌-◌, length, take, drop, arith}
use Rattle.std.proofs.Math.Path.{ap}
use Rattle.std.proofs.Math.Seq.{length-take-le, take_at}
use Rattle.stream.specs.Reading.{Bytes}
use Rattle.stream.proofs.Reading.Laws.{bytes_take}
use Rattle.stream.specs.Buffers.{at_front}
use Rattle.meaning.specs.declared.Fed.{Fed}
use Rattle.meaning.specs.Answers.{feed, number_of, fed}
use Rattle.transcript.specs.Playing.{Inside}
use Rattle.transcript.proofs.Answered.{number_short, FedBy, fed_by}
use Rattle.transcript.proofs.TakingSlice.{FedInto, is_sent, body_stands, count_stands, slice_refused, slice_fed}
use Rattle.transcript.proofs.feed_slice.Goals.{Start, After-feed-fed, After-count_of-type_end}
use Rattle.transcript.proofs.feed_slice.Goals as goal

-- The patch stands inside its bytes.
inside : (c : Start) → c.args.size ≤ length c.args.patch.now
unfolding Inside
inside c = c.requires.0.inside

pub slice_bounds-feed-end : goal.slice_bounds-feed-end
slice_bounds-feed-end c = inside (goal.at.slice_bounds-feed-end c).Start

pub slice_bounds-feed-end-2 : goal.slice_bounds-feed-end-2
slice_bounds-feed-end-2 c = sym (length-take-le _ _ (slice_bounds-feed-end c))

-- The feed, 20 aside.
abbrev patch_of : After-feed-fed → List ℕ
patch_of c = take c.args.size c.args.patch.now

patch_bytes : (c : After-feed-fed) → Bytes (patch_of c)
patch_bytes c = bytes_take c.args.size c.args.patch.now (λ i. grind arith)

slice_bytes : (c : After-feed-fed) → Bytes c.args.file.now
slice_bytes c = λ i. omega (arith, c.type_inv.file i)

outcome : (c : After-feed-fed)
    → FedBy (feed (patch_of c) c.args.file.now) c.args.output.now c.args.next.now c.feed-fed.result c.feed-fed.new.out c.feed-fed.new.next
outcome c = fed_by _ _ _ _ (patch_bytes c) (slice_bytes c) c.requires.1 c.requires.2 c.feed-fed.ensures

number_is : (c : After-feed-fed) → c.feed-fed.result.number ≡ number_of (feed (patch_of c) c.args.file.now)
unfolding fed
number_is c = ap (λ (a : Fed). a.number) (outcome c).answers

pub put_number-requires : goal.put_number-requires
put_number-requires c = (
  omega (arith, number_is (goal.at.put_number-requires c).After-feed-fed, number_short (feed (take c.args.size c.args.patch.now) c.args.file.now)),
  omega (arith, c.requires.0.line_room),
)

pub returns-then-fed-ne0 : goal.returns-then-fed-ne0
returns-then-fed-ne0 c =
    let places = goal.at.returns-then-fed-ne0 c in
    let is = number_is places.After-feed-fed in
    slice_refused _ _ _ _ (λ z. omega (arith, is)) (inside places.Start) (rw is at c.put_number.ensures)

-- The slice is accepted: what was sent, and where the type ends that is left.
sent : (c : After-count_of-type_end)
    → FedInto (take c.args.size c.args.patch.now) c.args.file.now c.args.output.now c.args.next.now c.feed-fed.result c.feed-fed.new.out c.feed-fed.new.next
sent c =
    let fed = (goal.at.After-count_of-type_end c).After-feed-fed in
    is_sent _ _ _ _ (patch_bytes fed) (slice_bytes fed) c.requires.1 c.requires.2 (outcome fed) (omega arith)

type_counted : (c : After-count_of-type_end) → c.count_of-type_end.result ≡ length (sent c).sections.type
type_counted c = c.count_of-type_end.ensures.0 ∙ count_stands _ _ _ c.feed-fed.new.next (sent c).patch_stands

-- The fields of the line, and the patch left.
output_field : (c : After-count_of-type_end) → take (c.feed-fed.result.output - 2) (drop 2 c.feed-fed.new.out) ≡ (sent c).sections.output
output_field c = body_stands _ [] _ _ (sent c).output_stands {n = c.feed-fed.result.output - 2} (omega (arith, (sent c).sent))

type_field : (c : After-count_of-type_end) → take (2 + c.count_of-type_end.result - 2) (drop 2 c.feed-fed.new.next) ≡ (sent c).sections.type
type_field c = body_stands _ _ _ _ (sent c).patch_stands {n = 2 + c.count_of-type_end.result - 2} (omega (arith, type_counted c))

patch_field : (c : After-count_of-type_end) → take c.feed-fed.result.patch c.feed-fed.new.next ≡ (sent c).written.patch
patch_field c =
    let s = sent c in
    ap (take c.feed-fed.result.patch) (s.patch_stands ∙ ap (λ l. at_front l c.args.next.now) (sym s.sections.patch_is))
    ∙ take_at s.written.patch _ c.feed-fed.result.patch (sym s.kept)

pub slice_bounds-put_fed-count : goal.slice_bounds-put_fed-count
slice_bounds-put_fed-count c = omega (arith, (sent (goal.at.slice_bounds-put_fed-count c).After-count_of-type_end).sent)

pub slice_bounds-put_fed-start : goal.slice_bounds-put_fed-start
slice_bounds-put_fed-start c = slice_bounds-put_fed-count c

pub slice_bounds-put_fed-end : goal.slice_bounds-put_fed-end
slice_bounds-put_fed-end c =
    let s = sent (goal.at.slice_bounds-put_fed-end c).After-count_of-type_end in
    omega (arith, s.sent, s.sections.output_short, s.output_long, c.requires.1)

pub slice_bounds-put_fed-end-2 : goal.slice_bounds-put_fed-end-2
slice_bounds-put_fed-end-2 c =
    let counted = (goal.at.slice_bounds-put_fed-end-2 c).After-count_of-type_end in
    let s = sent counted in
    omega (arith, type_counted counted, s.sections.type_short, s.patch_long, c.requires.2)

pub put_fed-written-requires : goal.put_fed-written-requires
put_fed-written-requires c =
    let counted = (goal.at.put_fed-written-requires c).After-count_of-type_end in (
      omega (arith, ap length (output_field counted), (sent counted).sections.output_short),
      omega (arith, ap length (type_field counted), (sent counted).sections.type_short),
      c.requires.0.line_room,
    )

pub slice_bounds-copy-end : goal.slice_bounds-copy-end
slice_bounds-copy-end c =
    let s = sent (goal.at.slice_bounds-copy-end c).After-count_of-type_end in
    omega (arith, s.kept, s.sections.patch_short, s.patch_long, c.requires.2)

pub slice_bounds-copy-end-2 : goal.slice_bounds-copy-end-2
slice_bounds-copy-end-2 c = sym (length-take-le _ _ (slice_bounds-copy-end c))

pub copy-requires : goal.copy-requires
copy-requires c =
    let counted = (goal.at.copy-requires c).After-count_of-type_end in
    omega (arith, ap length (patch_field counted), (sent counted).sections.patch_short, c.requires.0.patch_room)

pub returns : goal.returns
returns c =
    let counted = (goal.at.returns c).After-count_of-type_end in
    let s = sent counted in
    slice_fed _ _ _ _ s.written s.sections s.is_fed c.requires.0.patch_room s.kept
    (c.copy.ensures ∙ ap (λ l. at_front l c.args.patch.now) (patch_field counted))
    (rw (output_field counted, type_field counted) at c.put_fed-written.ensures)
