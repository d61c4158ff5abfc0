-- The file of a patch: the section of its input type, behind it the section of its nodes, and behind both that of its totals.
use mathlib.Core.Path.{◌≡◌, sym, ap, ◌∙◌}
use mathlib.Core.List.{List, [], ◌++◌, append-nil, append_assoc}
use Prim.Native.Nat.{ℕ, ◌+◌, ◌≤◌}
use native.Mathlib.Omega.{arith}
use lib.ListN.{length}
use Rattle.stream.specs.Reading.{section_bytes}
use Rattle.stream.proofs.Reading.Laws.{section_length}
use Rattle.stream.specs.Buffers.{at_front}
use Rattle.writing.specs.Writing.{Begun}
use Rattle.writing.specs.Writing.Laws.{part, back, goes_on, room_left}
use Rattle.node.proofs.Totals.Laws.{totals_length}
use Rattle.node.specs.Nodes.{Patch}
use Rattle.node.specs.PatchFiles.{patch_file_bytes}
use Rattle.wosthile.specs.PatchWriting.{PatchBytes, PatchWriteDue, PatchWritten}

-- What is behind a section stands behind it.
section_before : (body r : List ℕ) → section_bytes body r ≡ section_bytes body [] ++ r
unfolding section_bytes
section_before body r = rw (append-nil body)

abbrev alone : List ℕ → List ℕ
alone body = section_bytes body []

patch_file_parts : {p : Patch} {input nodes totals : List ℕ} → PatchBytes p input nodes totals
    → (alone input ++ alone nodes) ++ alone totals ≡ patch_file_bytes p
unfolding patch_file_bytes
patch_file_parts {p} {input} {nodes} {totals} are =
    append_assoc (alone input) (alone nodes) (alone totals)
    ∙ ap (λ l. alone input ++ l) (sym (section_before nodes (alone totals)))
    ∙ sym (section_before input (section_bytes nodes (alone totals)))
    ∙ (λ i. section_bytes (are.input_is i) (section_bytes (are.nodes_are i) (alone (are.totals_are i))))

section-size : (body : List ℕ) → 2 + length body ≡ length (alone body)
section-size body = omega (arith, section_length body [])

-- Behind the first two sections there is room for the third.
pub totals_fit : {input nodes totals lent now second : List ℕ} → PatchWriteDue input nodes totals lent → now ≡ at_front (section_bytes input []) lent
    → second ≡ at_front (section_bytes nodes []) (part (2 + length input) now)
    → (length totals ≤ 65535) × (2 + length totals ≤ length (part (2 + length input + (2 + length nodes)) (back (2 + length input) now second)))
totals_fit {input} {nodes} {totals} {lent} {now} due first more =
    let begun : Begun (alone input) lent now (2 + length input) = record { long = section-size input; buffer = first } in
    let left = room_left (goes_on begun (alone nodes) more (section-size nodes)) in
    let eight = ap length due.bytes.totals_are ∙ totals_length due.patch.totals [] in
    (omega (arith, eight), omega (arith, left, due.room))

pub patch_written : (input nodes totals lent : List ℕ) {now second third : List ℕ} → now ≡ at_front (section_bytes input []) lent
    → second ≡ at_front (section_bytes nodes []) (part (2 + length input) now)
    → third ≡ at_front (section_bytes totals []) (part (2 + length input + (2 + length nodes)) (back (2 + length input) now second))
    → PatchWritten input nodes totals lent (back (2 + length input + (2 + length nodes)) (back (2 + length input) now second) third)
patch_written input nodes totals lent {now} {second} {third} first more last =
    let begun : Begun (alone input) lent now (2 + length input) = record { long = section-size input; buffer = first } in
    let two = goes_on begun (alone nodes) more (section-size nodes) in
    let three = goes_on two (alone totals) last (section-size totals) in
    record { each = λ due. three.buffer ∙ ap (λ l. at_front l lent) (patch_file_parts due.bytes) }
