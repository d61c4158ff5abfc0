-- A file after the first: what Feed writes are sections, and their contents are the fields of the line.
use mathlib.Core.Path.{◌≡◌, refl, sym, ap, ap₂, ◌∙◌}
use mathlib.Core.List.{List, [], ◌++◌, append_assoc, append-nil}
use Prim.Native.Nat.{ℕ, ◌+◌, ◌*◌, ◌≤◌}
use native.Mathlib.Omega.{arith}
use native.Mathlib.Nat.{le_trans}
use lib.ListN.{length, get_or, take, drop}
use lib.Seq.{take_at}
use Rattle.stream.specs.TypeFiles.{type_bytes, type_file_bytes}
use Rattle.stream.proofs.TypeFiles.Laws.{type_file_length}
use Rattle.stream.specs.SliceFiles.{prefix_bytes, slice_file_bytes}
use Rattle.stream.specs.Reading.{Bytes, Result, accepted, refused, section_bytes}
use Rattle.stream.proofs.Reading.Laws.{section_length}
use Rattle.stream.specs.Buffers.{at_front}
use Rattle.stream.specs.Types.{Ty, Small}
use Rattle.node.specs.Totals.{Held, totals_bytes}
use Rattle.node.specs.Nodes.{Allowed, Patch}
use Rattle.node.specs.Feeding.Functions.{sends, patch_left}
use Rattle.node.proofs.Feeding.Laws.{leaves_allowed}
use Rattle.node.specs.PatchFiles.{node_bytes, patch_file_bytes}
use Rattle.writing.specs.Writing.Laws.{front_length}
use Rattle.writing.specs.Writing.{Begun}
use Rattle.meaning.specs.declared.Fed.{Fed}
use Rattle.meaning.specs.Answers.{feed, FedFiles, number_of, fed, after}
use Rattle.meaning.proofs.Answers.Laws.{number_bounds, fed_piece, fed_patch, FedSized, feed_sized_of_bytes, first_section_of}
use Rattle.transcript.specs.declared.Stage.TheVariants.{Feeding}
use Rattle.transcript.specs.Transcripts.{number_line, contents, fed_line, line, feeding, patch_after, takes}
use Rattle.transcript.proofs.Transcripts.Laws.{number_line_length, fed_line_length}
use Rattle.transcript.specs.Playing.{state_of, Inside, TakesFile}
use Rattle.transcript.proofs.Answered.{FedBy}
use Rattle.stream.specs.Bounds.{slice_limit, slice_file_limit, patch_file_limit}

section-contents : (body r : List ℕ) → contents (section_bytes body r) ≡ body
unfolding section_bytes
section-contents body r = ap (drop 2) (first_section_of body r) ∙ append-nil body

-- What Feed writes when it accepts: the output is a section, and the patch left begins with one.
pub record FedSections (w : FedFiles) : Type 0 where
  pub output : List ℕ
  pub type : List ℕ
  pub behind : List ℕ
  pub output_is : w.output ≡ section_bytes output []
  pub patch_is : w.patch ≡ section_bytes type behind
  pub output_short : length output ≤ slice_limit
  pub type_short : length type ≤ 255
  pub patch_short : length w.patch ≤ patch_file_limit

pub fed-sections : (patch slice : List ℕ) (w : FedFiles) → Bytes patch → Bytes slice → feed patch slice ≡ accepted w → FedSections w
unfolding slice_file_bytes type_file_bytes patch_file_bytes
fed-sections patch slice w b c e =
    let f = fed_patch patch slice w b e in go f.trees f.output f.allowed f.held (rw (← f.bytes) at e)
  where
    sized : FedSized w
    sized = (feed_sized_of_bytes patch slice b c).sized w e

    small : (t : Ty) → Small t → length (type_bytes t []) ≤ 255
    small t h = omega (arith, type_file_length t h, section_length (type_bytes t []) [])

    go : (a : Patch) (t : Ty) → Allowed a.input a.node t → Held a.totals → feed (patch_file_bytes a) slice ≡ accepted w → FedSections w
    go a t allowed held h =
        let x = fed_piece a slice w allowed held c h in
        let left = patch_left a x.prefix in
        let output = prefix_bytes (sends a.input a.node x.prefix) [] in
        let output_is : w.output ≡ section_bytes output [] = ap (λ (v : FedFiles). v.output) (sym x.files) in
        record {
          output = output;
          type = type_bytes left.input [];
          behind = section_bytes (node_bytes left.node []) (section_bytes (totals_bytes left.totals []) []);
          output_is = output_is;
          patch_is = ap (λ (v : FedFiles). v.patch) (sym x.files);
          output_short = omega (arith, sized.output.short, ap length output_is, section_length output []);
          type_short = small left.input (leaves_allowed allowed x.taken.is_prefix).input_small;
          patch_short = sized.patch.short;
        }

-- The section as it is read back from the buffer at whose front the file stands.
module _ (body r lent now : List ℕ) (stands : now ≡ at_front (section_bytes body r) lent) where
  pub body_stands : {n : ℕ} → n ≡ length body → take n (drop 2 now) ≡ body
  unfolding section_bytes
  body_stands {n} long =
      let behind = drop (length (section_bytes body r)) lent in
      ap (λ l. take n (drop 2 l)) stands ∙ ap (take n) (append_assoc body r behind) ∙ take_at body (r ++ behind) n (sym long)

  pub count_stands : get_or now 0 0 * 256 + get_or now 1 0 ≡ length body
  unfolding section_bytes
  count_stands = ap (λ l. get_or l 0 0 * 256 + get_or l 1 0) stands ∙ omega arith

module _ (patch slice lent : List ℕ) (n : ℕ) where
  -- A refused slice leaves the patch.
  pub slice_refused : (number_of (feed (take n patch) slice) ≡ 0 → ⊥) → n ≤ length patch → {lent_after : List ℕ} {written : ℕ}
      → Begun (number_line (number_of (feed (take n patch) slice))) lent lent_after written
      → TakesFile (Feeding n) patch slice lent (record { stage = Feeding n; written = written }) patch lent_after
  unfolding state_of Inside takes line patch_after
  slice_refused some inside {lent_after} {written} begun = go (feed (take n patch) slice) refl some begun
    where
      go : (o : Result FedFiles) → feed (take n patch) slice ≡ o → (number_of o ≡ 0 → ⊥) → Begun (number_line (number_of o)) lent lent_after written
          → TakesFile (Feeding n) patch slice lent (record { stage = Feeding n; written = written }) patch lent_after
      go (accepted w) e s b = absurd (s refl)
      go (refused f) e s b = record { inside = inside; long = refl; stands = rw e refl; line = rw e b; short = omega (arith, b.long, number_line_length (number_of {A = FedFiles} (refused f))) }

  -- An accepted one leaves the patch that Feed wrote.
  pub slice_fed : (w : FedFiles) (f : FedSections w) → feed (take n patch) slice ≡ accepted w → patch_file_limit ≤ length patch
      → {patch_left lent_after : List ℕ} {kept written : ℕ} → kept ≡ length w.patch → patch_left ≡ at_front w.patch patch
      → Begun (fed_line f.output f.type) lent lent_after written
      → TakesFile (Feeding n) patch slice lent (record { stage = Feeding kept; written = written }) patch_left lent_after
  unfolding state_of Inside takes line patch_after
  slice_fed w f e room {patch_left} {lent_after} {kept} {written} long stands begun =
      let keeps = front_length w.patch patch (omega (arith, f.patch_short)) in
      let fields : line (accepted w) ≡ fed_line f.output f.type =
      ap₂ fed_line (ap contents f.output_is ∙ section-contents f.output []) (ap contents f.patch_is ∙ section-contents f.type f.behind) in
      record {
        inside = omega (arith, f.patch_short, ap length stands, keeps);
        long = ap length stands ∙ keeps;
        stands = rw e (ap feeding (ap (take kept) stands ∙ take_at w.patch (drop (length w.patch) patch) kept (sym long)));
        line = rw (e, fields) begun;
        short = omega (arith, begun.long, fed_line_length f.output f.type, f.output_short, f.type_short);
      }

-- What an accepted feed leaves in its two buffers.
pub record FedInto (patch slice output patch_lent : List ℕ) (answer : Fed) (output_after patch_after : List ℕ) : Type 0 where
  pub written : FedFiles
  pub is_fed : feed patch slice ≡ accepted written
  pub sections : FedSections written
  pub sent : answer.output ≡ 2 + length sections.output
  pub kept : answer.patch ≡ length written.patch
  pub output_stands : output_after ≡ at_front (section_bytes sections.output []) output
  pub patch_stands : patch_after ≡ at_front (section_bytes sections.type sections.behind) patch_lent
  pub output_long : length output_after ≡ length output
  pub patch_long : length patch_after ≡ length patch_lent

pub is_sent : (patch slice output patch_lent : List ℕ) {answer : Fed} {output_after patch_after : List ℕ} → Bytes patch → Bytes slice
    → slice_file_limit ≤ length output → patch_file_limit ≤ length patch_lent → FedBy (feed patch slice) output patch_lent answer output_after patch_after → answer.number ≡ 0
    → FedInto patch slice output patch_lent answer output_after patch_after
unfolding fed after
is_sent patch slice output patch_lent {answer} {output_after} {patch_after} b c h k by none =
    go (feed patch slice) refl (sym (ap (λ (a : Fed). a.number) by.answers) ∙ none)
  where
    go : (o : Result FedFiles) → feed patch slice ≡ o → number_of o ≡ 0 → FedInto patch slice output patch_lent answer output_after patch_after
    go (refused f) e n = absurd (omega (arith, (number_bounds f).0))
    go (accepted w) e n =
        let sections = fed-sections patch slice w b c e in
        let answers : answer ≡ fed (accepted w) = by.answers ∙ ap fed e in
        let sized = (feed_sized_of_bytes patch slice b c).sized w e in
        let output_stands : output_after ≡ at_front w.output output = by.output_buffer ∙ ap (λ o. after (λ (v : FedFiles). v.output) o output) e in
        let patch_stands : patch_after ≡ at_front w.patch patch_lent = by.patch_buffer ∙ ap (λ o. after (λ (v : FedFiles). v.patch) o patch_lent) e in
        record {
          written = w;
          is_fed = e;
          sections = sections;
          sent = ap (λ (a : Fed). a.output) answers ∙ ap length sections.output_is ∙ section_length sections.output [] ∙ omega arith;
          kept = ap (λ (a : Fed). a.patch) answers;
          output_stands = output_stands ∙ ap (λ l. at_front l output) sections.output_is;
          patch_stands = patch_stands ∙ ap (λ l. at_front l patch_lent) sections.patch_is;
          output_long = ap length output_stands ∙ front_length w.output output (le_trans sized.output.short h);
          patch_long = ap length patch_stands ∙ front_length w.patch patch_lent (le_trans sized.patch.short k);
        }
