-- The algebra of work bytes: what stands in front of them, and parts of them that are lent on and come back.
use Rattle.std.specs.Prelude.{None, Option, Some, ◌≡◌, refl, ℕ, ◌*◌, ◌-◌, ◌≤◌, ◌<◌, length, take, drop, set}
use Rattle.std.proofs.Common.{sym, ap, ◌∙◌, arith, length-append, take_at}
use mathlib.Core.List.{List, [], ◌∷◌, ◌++◌, append_assoc}
use Rattle.stream.specs.Types.{Ty, size, Small}
use Rattle.stream.specs.Prefixes.{Prefix, IsPrefix}
use Rattle.stream.specs.Buffers.{at_front}
use Rattle.reading.specs.TypeReads.Laws.{type_width}
use Rattle.reading.specs.SliceReads.{prefix_width}
use Rattle.reading.specs.Inputs.Laws.{width_within}
use Rattle.writing.specs.Writing.Laws.{part, back, byte, front_length}
use Rattle.writing.specs.Appending.Laws.{part_length, back_length}
use Rattle.node.specs.Nodes.{Node, Takes, count}
use Rattle.node.specs.Nodes.Functions.{Fits}
use Rattle.node.proofs.Nodes.Laws.{output_type_is}
use Rattle.node.specs.Checking.{WellTyped}
use Rattle.node.proofs.Checking.Laws.{types_carries}
use Rattle.node.specs.Feeding.Functions.{sends, leaves}
use Rattle.node.proofs.Feeding.Laws.{preserved, leaves-count, leaves_fits}
use Rattle.node.proofs.PatchFiles.Laws.{node_length}
use Rattle.patch_reading.specs.PatchReads.{node_width}
use Rattle.leaf_feeding.specs.declared.Step.{Step}
use Rattle.leaf_feeding.specs.Steps.{Leads, Steps, Answers, fed, failed, NodeAnswers, Rooms}
use Rattle.stream.specs.Bounds.{twice_node_bytes}

pub front_leads : (bytes lent : List ℕ) {now : List ℕ} → now ≡ at_front bytes lent → length bytes ≤ length lent → Leads bytes lent now
front_leads bytes lent e room = record { rest = drop (length bytes) lent; begins = e; long = ap length e ∙ front_length bytes lent room }

-- Nothing, and one byte, in front. Where nothing leads, all may be lent on.

pub nothing_leads : {lent now : List ℕ} → length now ≡ length lent → Leads [] lent now
nothing_leads {now = now} kept = record { rest = now; begins = refl; long = kept }

pub byte_leads : {lent : List ℕ} (k : ℕ) → 0 < length lent → Leads (k ∷ []) lent (set lent 0 k)
byte_leads {lent} k h = front_leads (k ∷ []) lent (byte lent k h) h

module _ {e lent now : List ℕ} (leads : Leads e lent now) where
  -- What leads has room.
  pub leads_inside : length e ≤ length lent
  leads_inside = omega (arith, leads.long, ap length leads.begins, length-append e leads.rest)

  -- As many bytes as lead, taken from the front.
  pub leads_taken : {n : ℕ} → n ≡ length e → take n now ≡ e
  leads_taken {n} long = ap (take n) leads.begins ∙ take_at e leads.rest n (sym long)

  -- The room behind the first a bytes.
  pub leads_room : (a : ℕ) → length (part a now) ≡ length lent - a
  leads_room a = part_length a now ∙ ap (λ n. n - a) leads.long

  -- More leads the part behind it, which was lent on and has come back.
  pub leads_on : {f y : List ℕ} {a : ℕ} → a ≡ length e → Leads f (part a now) y → Leads (e ++ f) lent (back a now y)
  leads_on {f} {y} {a} long more =
      let behind : List ℕ = drop (length now - a) (drop a now) in
      record {
        rest = more.rest ++ behind;
        begins =
            ap (λ l. l ++ (y ++ behind)) (leads_taken long)
            ∙ ap (λ l. e ++ l) (ap (λ l. l ++ behind) more.begins ∙ append_assoc f more.rest behind)
            ∙ sym (append_assoc e f (more.rest ++ behind));
        long = back_length a now y (omega (arith, leads_inside, leads.long)) more.long ∙ leads.long;
      }

-- How many bytes the node left takes.
pub left_width : {s t : Ty} {n : Node} {p : Prefix} → WellTyped s n t → IsPrefix s p → 2 * node_width (leaves s n p) ≤ twice_node_bytes (count n)
left_width {s} {n = n} {p = p} typed h =
    let carries = types_carries (preserved typed.types h).types (leaves_fits typed.types h typed.fits) in
    omega (arith, node_length (leaves s n p) [] carries, leaves-count typed.types h)

-- Where a type has room, each prefix of it has.
pub prefix_room : {t : Ty} {p : Prefix} {out given : List ℕ} → Rooms out given → IsPrefix t p → size t ≤ length given → prefix_width p ≤ length out
prefix_room rooms h room = omega (arith, rooms.for_output, width_within h)

-- What an answer says.

pub record Gave (Gives : Ty → Type 0) (end : ℕ) (o : Prefix) (n : Node) (out remainder given out_after remainder_after given_after : List ℕ) (step : Step) : Type 0 where
  pub type : Ty
  pub gives : Gives type
  pub steps : Steps end o n type out remainder given out_after remainder_after given_after step

module _ {end : ℕ} {o : Prefix} {n : Node} {out remainder given out_after remainder_after given_after : List ℕ} where
  -- There is room for the type given.
  pub type_inside : {t : Ty} {step : Step} → Steps end o n t out remainder given out_after remainder_after given_after step → size t ≤ length given
  type_inside {t} steps = omega (arith, leads_inside steps.type_given, type_width t)

  module _ {Gives : Ty → Type 0} where
    pub was_fed : {step : Step} → Answers Gives end o n out remainder given out_after remainder_after given_after (Some step)
        → Gave Gives end o n out remainder given out_after remainder_after given_after step
    was_fed (fed gives steps) = record { type = _; gives = gives; steps = steps }

    pub has_failed : Answers Gives end o n out remainder given out_after remainder_after given_after None
        → (t : Ty) → Gives t → size t ≤ length given → ⊥
    has_failed (failed none) = none

    -- The same answer where other words say which types may be given, and what is sent and left.
    pub answers_as : {Others : Ty → Type 0} {u : Prefix} {m : Node} {answer : Option Step} → o ≡ u → n ≡ m
        → ((t : Ty) → Gives t → size t ≤ length given → Others t) → ((t : Ty) → Others t → Gives t)
        → Answers Gives end o n out remainder given out_after remainder_after given_after answer
        → Answers Others end u m out remainder given out_after remainder_after given_after answer
    answers_as sent left there back (fed gives steps) = rw (← sent, ← left) (fed (there _ gives (type_inside steps)) steps)
    answers_as sent left there back (failed none) = failed (λ t other room. none t (back t other) room)

  -- A node without parts gives one type alone, if it takes s at all, and fits where that is small. What it is fed is told by its parts.
  pub answers_alone : {s u t : Ty} {p q : Prefix} {m : Node} {answer : Option Step} → s ≡ u → p ≡ q → Takes u m t → (Small t → Fits u m)
      → Rooms out given → o ≡ sends u m q → n ≡ leaves u m q
      → Answers (λ r. r ≡ t) end o n out remainder given out_after remainder_after given_after answer
      → NodeAnswers end s m p out remainder given out_after remainder_after given_after answer
  answers_alone type_is prefix_is takes fits rooms sent left answers =
      rw (type_is, prefix_is)
      (answers_as sent left
      (λ r same room. rw same (record { types = takes; fits = fits (omega (arith, ap size same, rooms.for_type)) }))
      (λ r typed. sym (output_type_is typed.types) ∙ output_type_is takes) answers)
