-- A level's value is sent behind the kind byte of a level that has come.
use Rattle.std.specs.Prelude.{◌≡◌, refl, true, false, List, [], ◌∷◌, ℕ, ◌+◌, ◌≤◌, ◌<◌, length, take, set, Option, Some}
use Rattle.std.proofs.Common.{arith, ap}
use Rattle.stream.specs.Types.{Ty, level, size}
use Rattle.stream.proofs.Types.Laws.{limit_is}
use Rattle.stream.specs.Buffers.{at_front}
use Rattle.stream.specs.Levels.{value_bytes, value_width}
use Rattle.stream.proofs.Levels.Laws.{value_length}
use Rattle.stream.specs.Prefixes.{Prefix, level_come, of_level_come}
use Rattle.stream.specs.Prefixes.Functions.{opens}
use Rattle.stream.specs.TypeFiles.{type_bytes}
use Rattle.stream.specs.SliceFiles.{prefix_bytes}
use Rattle.reading.specs.SliceReads.{prefix_width}
use Rattle.node.specs.Nodes.{emit_level, takes_level}
use Rattle.node.specs.Nodes.Kinds.{node_kind}
use Rattle.node.specs.Nodes.Functions.{Carries}
use Rattle.node.specs.Checking.{WellTyped}
use Rattle.node.specs.Feeding.Functions.{sends, leaves}
use Rattle.node.specs.PatchFiles.{node_bytes}
use Rattle.patch_reading.specs.declared.fronts.NodeFront.{NodeFront}
use Rattle.patch_reading.specs.Fronts.{node, carried_value}
use Rattle.patch_reading.specs.PatchReads.{node_width}
use Rattle.patch_reading.proofs.NodeParts.{made_of, value_node_width}
use Rattle.writing.specs.Writing.Laws.{part, back}
use Rattle.leaf_feeding.specs.declared.Step.{Step}
use Rattle.leaf_feeding.specs.Steps.{Leads, NodeAnswers, LeafRooms, LeavesSilent}
use Rattle.leaf_feeding.specs.Steps.Laws.{front_leads, byte_leads, leads_room, leads_on, prefix_room}
use Rattle.leaf_feeding.proofs.Emitted.{gives_one}
use Rattle.leaf_feeding.proofs.Handing.{node_leads}

level_typed : {s : Ty} {v : ℕ} → Carries (emit_level v) → WellTyped s (emit_level v) level
unfolding size
level_typed carries = record { types = takes_level carries; fits = omega (arith, limit_is) }

module _ (v : NodeFront) (is_level : node_kind (node v) ≡ 3) {out remainder given : List ℕ} (room : LeafRooms out remainder given) (type_room : 0 < length given) where
  -- The value that it carries.
  abbrev pub value : ℕ
  value = carried_value (node v)

  pub made : node v ≡ emit_level value
  made = made_of (node v) is_level

  carries : Carries (emit_level value)
  carries = rw made at v.front.carries

  pub level_ends : 1 + value_width ≡ node_width (node v)
  level_ends = omega (arith, value_node_width (node v) is_level)

  -- Where there is room for the type, there is for the kind byte and the value.

  level_room : 1 + value_width ≤ length out
  unfolding prefix_width size
  level_room = prefix_room room.rooms (of_level_come carries) type_room

  kind_leads : Leads (4 ∷ []) out (set out 0 4)
  kind_leads = byte_leads 4 (omega (arith, level_room))

  pub value_room : {copied : List ℕ} → copied ≡ value_bytes value [] → length copied ≤ length (part 1 (set out 0 4))
  value_room taken = omega (arith, ap length taken, leads_room kind_leads 1, value_length value [], level_room)

  -- Both make a level that has come.
  level_sent : {copied z : List ℕ} → copied ≡ value_bytes value [] → z ≡ at_front copied (part 1 (set out 0 4))
      → Leads (prefix_bytes (level_come value) []) out (back 1 (set out 0 4) z)
  unfolding prefix_bytes
  level_sent {copied} taken h =
      leads_on kind_leads refl (rw taken at (front_leads copied (part 1 (set out 0 4)) h (value_room taken)))

  module _ (s : Ty) (p : Prefix) where
    pub level_fed : {copied z remainder_after : List ℕ} {answer : Option Step} → opens p ≡ true → copied ≡ value_bytes value []
        → z ≡ at_front copied (part 1 (set out 0 4)) → LeavesSilent (1 + value_width) (1 + value_width) remainder remainder_after answer
        → NodeAnswers (1 + value_width) s (node v) p out remainder given (back 1 (set out 0 4) z) remainder_after (set given 0 2) answer
    unfolding sends leaves prefix_width type_bytes node_bytes size
    level_fed opened taken h left =
        rw made
        (gives_one p (level_typed carries) refl left.answers (rw opened refl) (rw opened refl) (rw opened (level_sent taken h)) (rw opened left.left)
        (byte_leads 2 type_room))

    -- Until it is opened it stays, with the value.
    pub level_waits : {remainder_after : List ℕ} → opens p ≡ false → remainder_after ≡ at_front (take (1 + value_width) v.bytes.now) remainder
        → NodeAnswers (1 + value_width) s (node v) p out remainder given (set out 0 3) remainder_after (set given 0 2)
        (Some (record { end = 1 + value_width; sent = 1; kept = 1 + value_width; size = 1 }))
    unfolding sends leaves prefix_width prefix_bytes type_bytes size
    level_waits closed copied =
        let kept = node_leads v level_ends (omega (arith, limit_is, room.left_room)) copied in
        rw made
        (gives_one p (level_typed carries) refl refl (rw closed refl) (rw closed (rw made at level_ends))
        (rw closed (byte_leads 3 (omega (arith, level_room)))) (rw closed (rw made at kept)) (byte_leads 2 type_room))
