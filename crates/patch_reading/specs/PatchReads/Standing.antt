-- Where the trees of an accepted patch file stand, and what the reader's answer says of the file: what a caller of the reader
-- hands on to the second pass.
use Rattle.std.proofs.Math.Path.{◌≡◌, refl, sym, ap}
use Rattle.std.proofs.Common.{◌∙◌, arith, drop-drop}
use mathlib.Core.List.{List, [], append-nil}
use Rattle.std.specs.Prelude.{Err, Ok, Result, ℕ, ◌+◌, ◌-◌}
use Rattle.std.proofs.Math.ListN.{length, drop}
use Rattle.stream.specs.declared.Fault.{Fault}
use Rattle.stream.specs.Types.{size}
use Rattle.stream.specs.Reading.{Bytes, Result as Outcome, accepted, refused, section_bytes}
use Rattle.stream.specs.TypeFiles.{type_bytes}
use Rattle.reading.specs.TypeReads.Laws.{type_before, type_drop, type_width}
use Rattle.node.specs.Totals.{totals_bytes}
use Rattle.node.specs.Nodes.{Patch}
use Rattle.node.specs.PatchFiles.{node_bytes, patch_file_bytes, first_pass}
use Rattle.node.proofs.PatchFiles.Laws.{patch_file-size, first_pass_sound}
use Rattle.patch_reading.specs.declared.patches.PatchView.{PatchView}
use Rattle.patch_reading.specs.PatchViews.{patch, patch_seen}
use Rattle.patch_reading.specs.PatchReads.{PatchPlace, in_patch_file, patch_read, node_width, AcceptedPatch}
use Rattle.patch_reading.specs.PatchReads.Laws.{node_before, node_drop}

-- Behind the two bytes of its count stands the type, behind those of theirs stand the nodes, and behind those of theirs the totals.

module _ (p : Patch) where
  abbrev totals_there : List ℕ
  totals_there = section_bytes (totals_bytes p.totals []) []

  abbrev nodes_section : List ℕ
  nodes_section = section_bytes (node_bytes p.node []) totals_there

  abbrev nodes_place : ℕ
  nodes_place = 2 + size p.input + 2

  type_stands : drop 2 (patch_file_bytes p) ≡ type_bytes p.input nodes_section
  unfolding patch_file_bytes section_bytes
  type_stands = sym (type_before p.input nodes_section)

  nodes_stand : drop nodes_place (patch_file_bytes p) ≡ node_bytes p.node totals_there
  unfolding section_bytes
  nodes_stand =
      let s = p.input in
      sym (drop-drop 2 (2 + size s) (patch_file_bytes p))
      ∙ ap (drop 2) (sym (drop-drop (size s) 2 (patch_file_bytes p)) ∙ ap (drop (size s)) type_stands ∙ type_drop s nodes_section)
      ∙ sym (node_before p.node totals_there)

  file_length : length (patch_file_bytes p) ≡ nodes_place + node_width p.node + 10
  file_length = omega (arith, patch_file-size p, type_width p.input)

  totals_stand : drop (length (patch_file_bytes p) - 8) (patch_file_bytes p) ≡ totals_bytes p.totals []
  unfolding section_bytes
  totals_stand =
      let wide = node_width p.node in
      let place : length (patch_file_bytes p) - 8 ≡ nodes_place + wide + 2 = omega (arith, file_length) in
      ap (λ k. drop k (patch_file_bytes p)) place
      ∙ sym (drop-drop 2 (nodes_place + wide) (patch_file_bytes p))
      ∙ ap (drop 2) (sym (drop-drop wide nodes_place (patch_file_bytes p)) ∙ ap (drop wide) nodes_stand ∙ node_drop p.node totals_there)
      ∙ append-nil (totals_bytes p.totals [])

pub stands : (file : List ℕ) (p : Patch) → Bytes file → first_pass file ≡ accepted p → AcceptedPatch file (in_patch_file p)
stands file p bytes e =
    let f = first_pass_sound file p bytes e in
    record {
      patch = p;
      is_accepted = e;
      type_in =
          record { stands = record { rest = nodes_section p; here = rw (← f.bytes) (type_stands p); small = f.input_small }; ends = refl };
      node_at = record { rest = totals_there p; here = rw (← f.bytes) (nodes_stand p); carries = f.carries };
      few = f.few;
      long = rw (← f.bytes) (file_length p);
      totals_at = rw (← f.bytes) (totals_stand p);
      held = f.held;
    }

module _ (file : List ℕ) {answer : Result PatchPlace Fault} (told : answer ≡ patch_read (first_pass file)) where
  pub patch_accepted : Bytes file → (place : PatchPlace) → answer ≡ Ok place → AcceptedPatch file place
  unfolding patch_read
  patch_accepted bytes place e = go (first_pass file) refl (sym told ∙ e)
    where
      go : (g : Outcome Patch) → first_pass file ≡ g → patch_read g ≡ Ok place → AcceptedPatch file place
      go (accepted p) h w = let same : in_patch_file p ≡ place = cc in rw (← same) (stands file p bytes h)
      go (refused x) h w = let z : ◌≡◌ {A = ℕ} 0 1 = cc in absurd (omega arith)

  pub patch_refused : (e : Fault) → answer ≡ Err e → first_pass file ≡ refused e
  unfolding patch_read
  patch_refused e h = go (first_pass file) (sym told ∙ h)
    where
      go : (g : Outcome Patch) → patch_read g ≡ Err e → g ≡ refused e
      go (accepted p) w = let z : ◌≡◌ {A = ℕ} 0 1 = cc in absurd (omega arith)
      go (refused x) w = let z : x ≡ e = cc in ap refused z

-- The reader hands on a view: the place that the patch of a view has in the file that it was read from.
abbrev pub place_seen : Result PatchView Fault → Result PatchPlace Fault
place_seen (Ok v) = Ok (in_patch_file (patch v))
place_seen (Err e) = Err e

pub seen_at_place : (file : List ℕ) (answer : Result PatchView Fault) → patch_seen answer ≡ first_pass file
    → place_seen answer ≡ patch_read (first_pass file)
unfolding patch_read
seen_at_place file (Ok v) told = ap patch_read told
seen_at_place file (Err e) told = ap patch_read told

module _ (file : List ℕ) {answer : Result PatchView Fault} (told : patch_seen answer ≡ first_pass file) where
  pub view_accepted : Bytes file → (v : PatchView) → answer ≡ Ok v → AcceptedPatch file (in_patch_file (patch v))
  view_accepted bytes v e = patch_accepted file (seen_at_place file answer told) bytes (in_patch_file (patch v)) (ap place_seen e)

  pub view_refused : (e : Fault) → answer ≡ Err e → first_pass file ≡ refused e
  view_refused e h = patch_refused file (seen_at_place file answer told) e (ap place_seen h)
