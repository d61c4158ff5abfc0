-- First after a crossing: its part has been handed on, and is complete. So silent is left, with the type that the part leaves, which is
-- written behind the kind byte of silent.
use Rattle.std.specs.Prelude.{◌≡◌, refl, List, [], ◌∷◌, ℕ, ◌+◌, ◌<◌, ◌≤◌, length, set, None, Option, Some}
use Rattle.std.proofs.Common.{◌∙◌, arith}
use Rattle.stream.specs.Types.{Ty, size, Small, type_limit}
use Rattle.stream.specs.Prefixes.{Prefix, derivative}
use Rattle.stream.proofs.Prefixes.Laws.{derivative-size, complete_sound}
use Rattle.stream.specs.TypeFiles.{type_bytes}
use Rattle.stream.specs.Buffers.{at_front}
use Rattle.reading.specs.TypeReads.Laws.{type_width}
use Rattle.reading.specs.declared.inputs.Input.{Input}
use Rattle.reading.specs.declared.inputs.Parts.TheVariants.{Crossed}
use Rattle.reading.specs.InputViews.{type, prefix, MakeUp}
use Rattle.reading.proofs.InputViews.{is_prefix, prefix_in}
use Rattle.writing.specs.Writing.{SpentDue}
use Rattle.writing.specs.Writing.Laws.{part, back}
use Rattle.node.specs.Nodes.{first, takes_first}
use Rattle.node.specs.Nodes.Functions.{output_type}
use Rattle.node.specs.Feeding.Functions.{sends, leaves}
use Rattle.node.specs.PatchFiles.{node_bytes}
use Rattle.leaf_feeding.specs.declared.Step.{Step}
use Rattle.leaf_feeding.specs.Steps.{Leads, Answers, fed, failed, NodeAnswers, LeafRooms, HandsOn}
use Rattle.leaf_feeding.specs.Steps.Laws.{front_leads, byte_leads, leads_room, leads_on, Gave, was_fed, has_failed, answers_alone}

module _ (a b : Input) {t : Ty} {p : Prefix} (made : MakeUp (Crossed a b) t p) {out remainder given : List ℕ} (rooms : LeafRooms out remainder given) where
  -- The type that the part leaves.

  abbrev left_over : Ty
  left_over = derivative (type a) (prefix a)

  left_small : Small left_over
  left_small = omega (arith, derivative-size (is_prefix a), a.ty.small)

  module _ {out_after remainder_now given_after : List ℕ} {answer : Option Step}
      (handed : HandsOn 7 (type a) (prefix a) out remainder given out_after remainder_now given_after answer) where
    answers : Answers (λ u. u ≡ type a) 1 (prefix a) first out remainder given out_after remainder_now given_after answer
    unfolding node_bytes
    answers = handed first refl

    pub first_failed : {remainder_after : List ℕ} → answer ≡ None
        → NodeAnswers 1 t first p out remainder given out_after remainder_after given_after None
    unfolding output_type
    first_failed told =
        answers_alone made.0 made.1 takes_first (λ small. small) rooms.rooms refl refl (failed (has_failed (rw told at answers)))

    module _ {step : Step} (told : answer ≡ Some step) where
      gave : Gave (λ u. u ≡ type a) 1 (prefix a) first out remainder given out_after remainder_now given_after step
      gave = was_fed (rw told at answers)

      -- There is room for the kind byte of silent, and behind it for the type.

      byte_room : 0 < length remainder_now
      byte_room = omega (arith, gave.steps.node_left.long, rooms.left_room)

      begun : Leads (1 ∷ []) remainder (set remainder_now 0 1)
      begun =
          let leads : Leads (1 ∷ []) remainder_now (set remainder_now 0 1) = byte_leads 1 byte_room in
          record { rest = leads.rest; begins = leads.begins; long = leads.long ∙ gave.steps.node_left.long }

      pub spent_room : size left_over ≤ length (part 1 (set remainder_now 0 1))
      spent_room = omega (arith, leads_room begun 1, left_small, rooms.left_room)

      abbrev pub spent_due : SpentDue a.slice.now (part 1 (set remainder_now 0 1))
      spent_due =
          record {
            type = type a;
            prefix = prefix a;
            stands = (prefix_in a).stands;
            is_complete = complete_sound (prefix a) made.2;
            room = spent_room;
          }

      module _ {many : ℕ} (sized : many ≡ size left_over) where
        pub spent_small : many ≤ type_limit
        spent_small = omega (arith, sized, left_small)

        -- So silent with that type is left.
        module _ {z : List ℕ} (written : z ≡ at_front (type_bytes left_over []) (part 1 (set remainder_now 0 1))) where
          spent_leads : Leads (1 ∷ type_bytes left_over []) remainder (back 1 (set remainder_now 0 1) z)
          spent_leads = leads_on begun refl (front_leads (type_bytes left_over []) _ written (omega (arith, type_width left_over, spent_room)))

          abbrev spent_step : Step
          spent_step = record { end = step.end; sent = step.sent; kept = 1 + many; size = step.size }

          pub spent_answers :
              NodeAnswers 1 t first p out remainder given out_after (back 1 (set remainder_now 0 1) z) given_after (Some spent_step)
          unfolding sends leaves output_type node_bytes
          spent_answers =
              answers_alone made.0 made.1 takes_first (λ small. small) rooms.rooms refl refl
              (fed {step = spent_step} gave.gives
              (record {
                ends = gave.steps.ends;
                sent = gave.steps.sent;
                kept = omega (arith, type_width left_over, sized);
                sized = gave.steps.sized;
                output = gave.steps.output;
                node_left = spent_leads;
                type_given = gave.steps.type_given;
              }))
