-- Nodes that give a type of one node: they are fed if that has room. Cue waits, and once it is opened leaves silent.
use mathlib.Core.Path.{◌≡◌, refl, sym}
use mathlib.Core.Bool.{true, false}
use mathlib.Core.List.{List, []}
use Prim.Native.Nat.{ℕ, ◌<◌}
use native.Mathlib.Omega.{arith}
use lib.ListN.{length, set}
use Rattle.stream.specs.Types.{Ty, cue, size}
use Rattle.stream.proofs.Types.Laws.{size_positive, limit_is}
use Rattle.stream.specs.Prefixes.{Prefix}
use Rattle.stream.specs.Prefixes.Functions.{opens}
use Rattle.stream.specs.TypeFiles.{type_bytes}
use Rattle.stream.specs.SliceFiles.{prefix_bytes}
use Rattle.reading.specs.SliceReads.{prefix_width}
use Rattle.node.specs.Nodes.{Node, emit_cue, takes_cue}
use Rattle.node.specs.Checking.{WellTyped}
use Rattle.node.specs.Feeding.Functions.{sends, leaves}
use Rattle.node.specs.PatchFiles.{node_bytes}
use Rattle.patch_reading.specs.PatchReads.{node_width}
use Rattle.leaf_feeding.specs.declared.Step.{Step}
use Rattle.leaf_feeding.specs.Steps.{Leads, Answers, fed, failed, NodeAnswers, LeafRooms, LeavesSilent}
use Rattle.leaf_feeding.specs.Steps.Laws.{byte_leads}
use Rattle.std.specs.Prelude.{None, Option, Some}
use Rattle.std.specs.Bool.{◌==◌}
use Rattle.std.proofs.lemmas.Bool.{eqb-true, eqb-false}

-- There is room for one.
pub some_room : (n : ℕ) → (n == 0) ≡ false → 0 < n
some_room n e = let other = eqb-false n 0 e in omega arith

module _ {end : ℕ} {out remainder given out_after remainder_after given_after : List ℕ} where
  -- No type has room in nothing.
  pub none_given : {Gives : Ty → Type 0} {o : Prefix} {n : Node} → (length given == 0) ≡ true
      → Answers Gives end o n out remainder given out_after remainder_after given_after None
  none_given none = let empty = eqb-true (length given) 0 none in failed (λ t gives room. omega (arith, size_positive t))

  -- What such a node sends and leaves leads the work bytes.
  pub gives_one : {s t : Ty} {n : Node} (p : Prefix) {sent kept : ℕ} {answer : Option Step} → WellTyped s n t → size t ≡ 1
      → answer ≡ Some (record { end = end; sent = sent; kept = kept; size = 1 })
      → sent ≡ prefix_width (sends s n p) → kept ≡ node_width (leaves s n p) → Leads (prefix_bytes (sends s n p) []) out out_after
      → Leads (node_bytes (leaves s n p) []) remainder remainder_after → Leads (type_bytes t []) given given_after
      → NodeAnswers end s n p out remainder given out_after remainder_after given_after answer
  gives_one p typed one told wide long output node_left type_given =
      rw told
      (fed typed
      (record {
        ends = refl;
        sent = wide;
        kept = long;
        sized = sym one;
        output = output;
        node_left = node_left;
        type_given = type_given;
      }))

cue_typed : {s : Ty} → WellTyped s emit_cue cue
unfolding size
cue_typed = record { types = takes_cue; fits = omega (arith, limit_is) }

module _ {out remainder given : List ℕ} (room : LeafRooms out remainder given) (type_room : 0 < length given) (s : Ty) (p : Prefix) where
  pub cue_sent : {remainder_after : List ℕ} {answer : Option Step} → opens p ≡ true → LeavesSilent 1 1 remainder remainder_after answer
      → NodeAnswers 1 s emit_cue p out remainder given (set out 0 2) remainder_after (set given 0 1) answer
  unfolding sends leaves prefix_width prefix_bytes type_bytes node_bytes size
  cue_sent opened left =
      gives_one p cue_typed refl left.answers (rw opened refl) (rw opened refl) (rw opened (byte_leads 2 (omega (arith, room.rooms.for_output)))) (rw opened left.left)
      (byte_leads 1 type_room)

  pub cue_waits : opens p ≡ false
      → NodeAnswers 1 s emit_cue p out remainder given (set out 0 1) (set remainder 0 2) (set given 0 1)
      (Some (record { end = 1; sent = 1; kept = 1; size = 1 }))
  unfolding sends leaves prefix_width prefix_bytes type_bytes node_bytes size
  cue_waits closed =
      gives_one p cue_typed refl refl (rw closed refl) (rw closed refl) (rw closed (byte_leads 1 (omega (arith, room.rooms.for_output))))
      (rw closed (byte_leads 2 (omega (arith, room.left_room)))) (byte_leads 1 type_room)
