-- Feed's answers, by the room that there is for both files.
use mathlib.Core.Path.{◌≡◌, ap, ◌∙◌}
use mathlib.Core.List.{List, []}
use Prim.Native.Nat.{ℕ, ◌+◌, ◌≤◌, ◌<◌}
use native.Mathlib.Omega.{arith}
use lib.ListN.{length}
use borrow.Author.Tests.{le-leb, lt-leb}
use Rattle.std.specs.Prelude.{Ok, Err}
use Rattle.stream.specs.declared.Fault.TheVariants.{NoRoom}
use Rattle.stream.specs.Reading.{accepted, section_bytes}
use Rattle.stream.proofs.Reading.Laws.{section_length}
use Rattle.stream.specs.Buffers.{at_front}
use Rattle.stream.specs.SliceFiles.{prefix_bytes, slice_file_bytes}
use Rattle.node.proofs.Totals.Laws.{totals_length}
use Rattle.node.specs.PatchFiles.{patch_file_bytes}
use Rattle.node.proofs.PatchFiles.Laws.{patch_file-size}
use Rattle.meaning.specs.Answers.{FedFiles, with_room, fed, after}
use Rattle.meaning.specs.Told.{told_delivered}
use Rattle.wosthile.specs.Delivering.{Delivers}
use Rattle.wosthile.specs.PatchWriting.{PatchWriteDue, BothDue}

module _ (files : FedFiles) (output patch_lent : List ℕ) where
  pub output_short : length output < length files.output → Delivers (accepted files) output patch_lent (told_delivered (Err NoRoom)) output patch_lent
  unfolding with_room fed after
  output_short s = record { answers = rw (lt-leb _ _ s); output_buffer = rw (lt-leb _ _ s); patch_buffer = rw (lt-leb _ _ s) }

  module _ (fits : length files.output ≤ length output) where
    pub patch_short : length patch_lent < length files.patch → Delivers (accepted files) output patch_lent (told_delivered (Err NoRoom)) output patch_lent
    unfolding with_room fed after
    patch_short s =
        record {
          answers = rw (le-leb _ _ fits, lt-leb _ _ s);
          output_buffer = rw (le-leb _ _ fits, lt-leb _ _ s);
          patch_buffer = rw (le-leb _ _ fits, lt-leb _ _ s);
        }

    pub files_fit : length files.patch ≤ length patch_lent → {sent kept : ℕ} → sent ≡ length files.output → kept ≡ length files.patch
        → {output_after patch_after : List ℕ} → output_after ≡ at_front files.output output → patch_after ≡ at_front files.patch patch_lent
        → Delivers (accepted files) output patch_lent
        (told_delivered (Ok (record { output = sent; patch = kept; arrived = files.arrived; sent = files.sent }))) output_after patch_after
    unfolding with_room fed after
    files_fit s n m o l =
        record {
          answers = rw (le-leb _ _ fits, le-leb _ _ s, n, m);
          output_buffer = rw (le-leb _ _ fits, le-leb _ _ s, o);
          patch_buffer = rw (le-leb _ _ fits, le-leb _ _ s, l);
        }

-- How long both files are, by the bytes that they are made from.
module _ {sent input nodes totals : List ℕ} (due : BothDue sent input nodes totals) where
  pub output_long : 2 + length sent ≡ length (slice_file_bytes due.output)
  unfolding slice_file_bytes
  output_long = omega (arith, section_length (prefix_bytes due.output []) [], ap length due.sent_is)

  pub patch_long : 2 + length input + 2 + length nodes + 2 + length totals ≡ length (patch_file_bytes due.patch)
  patch_long =
      let p = due.patch in
      let are = due.bytes in
      omega (
        arith,
        patch_file-size p,
        ap length are.input_is,
        ap length are.nodes_are,
        ap length are.totals_are,
        totals_length p.totals [],
      )

  -- The section of what is sent is the output's file.
  pub output_written : (out : List ℕ) {out_after : List ℕ} → out_after ≡ at_front (section_bytes sent []) out
      → out_after ≡ at_front (slice_file_bytes due.output) out
  unfolding slice_file_bytes
  output_written out e = e ∙ ap (λ body. at_front (section_bytes body []) out) due.sent_is

  abbrev pub patch_due : (lent : List ℕ) → 2 + length input + 2 + length nodes + 2 + length totals ≤ length lent → PatchWriteDue input nodes totals lent
  patch_due lent room = record { patch = due.patch; bytes = due.bytes; room = room }
