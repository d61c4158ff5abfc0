-- Feeding choose once its second part is chosen: its first node is typed, at the end of the room for what is left, and that finds where
-- the second begins, which is fed with the room in front and is left alone. Both nodes leave no more than they may have, so there is room
-- for a whole type and for what the second leaves. If the first has no type, the second fails, or gives another type, choose fails too, and
-- rightly.
use Rattle.std.specs.Prelude.{None, Ok, Option, Result, Some, ◌≡◌, Bool, true, false, List, [], ◌++◌, ℕ, suc, ◌+◌, ◌-◌, ◌≤◌, length, take, drop}
use Rattle.std.specs.Result.{result_ok}
use Rattle.std.specs.Cmp.Lexicographic.{pointwise}
use Rattle.std.proofs.Common.{nat_eq, sym, ap, ◌∙◌, arith, append_assoc, length-append, length-drop, length-take-le, drop_at}
use Rattle.std.proofs.Math.Bool.{not}
use Rattle.stream.specs.declared.Fault.{Fault}
use Rattle.stream.specs.Types.{Ty, either, Small}
use Rattle.stream.proofs.Types.Laws.{limit_is}
use Rattle.stream.specs.Prefixes.{Prefix, second_chosen, IsPrefix}
use Rattle.stream.specs.TypeFiles.{type_bytes}
use Rattle.stream.proofs.TypeFiles.Held.{type_width}
use Rattle.writing.specs.Writing.Laws.{part, back}
use Rattle.writing.specs.Appending.Laws.{part_length, back_length}
use Rattle.node.specs.Nodes.{Node, count}
use Rattle.node.specs.Nodes.Kinds.{node_kind, node_arity, count_by_parts}
use Rattle.node.proofs.Nodes.Laws.{output_small}
use Rattle.node.specs.Checking.{typing, WellTyped}
use Rattle.node.proofs.Checking.Laws.{typing_sound}
use Rattle.node.specs.Feeding.Functions.{sends, leaves}
use Rattle.node.specs.PatchFiles.{node_bytes}
use Rattle.patch_reading.specs.declared.fronts.NodeFront.{NodeFront}
use Rattle.patch_reading.specs.Fronts.{node, first_node, second_node}
use Rattle.patch_reading.specs.PatchReads.{node_width}
use Rattle.patch_reading.proofs.NodeParts.{forked, fork_width}
use Rattle.typing.specs.declared.Typed.{Typed}
use Rattle.typing.specs.Typing.{NodeTyped}
use Rattle.typing.specs.Typing.Laws.{IsGiven, is_given}
use Rattle.leaf_feeding.specs.declared.Step.{Step}
use Rattle.leaf_feeding.specs.Steps.{Leads, Steps, NodeAnswers, fed, failed}
use Rattle.leaf_feeding.specs.Steps.Laws.{front_leads, leads_inside, leads_taken, Gave, was_fed, has_failed}
use Rattle.feeding.specs.Feeds.{NodeRooms}
use Rattle.feeding.proofs.Typings.{only_type, no_type, ChooseTyped}
use Rattle.feeding.proofs.FeedingChoose.{made, in_choose, of_choose, types_agree, types_differ, behind_taken}

module _ (front : NodeFront) (fifteen : node_kind (node front) ≡ 15) (s : Ty) {r : Ty} {p : Prefix} (fits : IsPrefix r p)
    {out remainder given : List ℕ} (rooms : NodeRooms (node front) out remainder given) where
  abbrev n : Node
  n = node front

  abbrev l : Node
  l = first_node n

  abbrev m : Node
  m = second_node n

  two : node_arity (node_kind n) ≡ 2
  two = ap node_arity fifteen

  counted : count n ≡ suc (count l + count m)
  counted = (forked n two).count

  -- What the second node sends and leaves is what choose does.

  abbrev sent : Prefix
  sent = sends r m p

  abbrev left : Node
  left = leaves r m p

  chosen_sends : sent ≡ sends (either s r) n (second_chosen p)
  unfolding sends
  chosen_sends = sym (ap (λ k. sends (either s r) k (second_chosen p)) (made n fifteen))

  chosen_leaves : left ≡ leaves (either s r) n (second_chosen p)
  unfolding leaves
  chosen_leaves = sym (ap (λ k. leaves (either s r) k (second_chosen p)) (made n fifteen))

  abbrev Answer : (out_end remainder_end given_end : List ℕ) → Option Step → Type 0
  Answer = NodeAnswers (node_width n) (either s r) n (second_chosen p) out remainder given

  -- There is room for a whole type at the end.
  pub room_at_end : 255 ≤ length remainder
  room_at_end = omega (arith, rooms.left_room, count_by_parts n)

  abbrev spare : ℕ
  spare = length remainder - 255

  -- The first node was typed there.

  abbrev FirstTyped : List ℕ → Result Typed Fault → Type 0
  FirstTyped = NodeTyped s l (part spare remainder)

  -- If it has no type, choose has none.
  pub first_untyped : {left_part : List ℕ} {answer : Result Typed Fault} → FirstTyped left_part answer → None ≡ result_ok answer
      → {out_end remainder_end given_end : List ℕ} → Answer out_end remainder_end given_end None
  first_untyped answered none = failed (λ t typed room. no_type answered none (in_choose n fifteen typed).first_typed)

  module _ {left_part : List ℕ} {told : Typed} (answered : FirstTyped left_part (Ok told)) where
    pub first_given : IsGiven (node_width l) told.end told.size (typing s l)
    first_given = is_given _ _ answered.answers

    first_typed : WellTyped s l first_given.type
    first_typed = typing_sound _ _ _ ((forked n two).carries front.front.carries).0 first_given.given

    first_small : Small first_given.type
    first_small = output_small first_typed.types first_typed.fits

    first_leads : Leads (type_bytes first_given.type []) (part spare remainder) left_part
    first_leads =
        let room : length (type_bytes first_given.type []) ≤ length (part spare remainder)
        = omega (arith, type_width first_given.type, first_small, limit_is, part_length spare remainder, room_at_end) in
        front_leads _ _ ((answered.writes _ first_given.given).in_front room) room

    abbrev left_now : List ℕ
    left_now = back spare remainder left_part

    left_kept : length left_now ≡ length remainder
    left_kept = back_length spare remainder left_part (omega arith) answered.long

    pub spare_inside : spare ≤ length left_now
    spare_inside = omega (arith, left_kept)

    pub front_long : spare ≡ length (take spare left_now)
    front_long = sym (length-take-le spare left_now spare_inside)

    -- The second node is fed in front of it.

    pub second_rooms : NodeRooms m out (take spare left_now) given
    second_rooms =
        record {
          few = omega (arith, rooms.few, counted);
          rooms = rooms.rooms;
          left_room = omega (arith, rooms.left_room, counted, count_by_parts l, front_long, room_at_end);
        }

    abbrev SecondAnswer : (out_now left_front given_now : List ℕ) → Option Step → Type 0
    SecondAnswer = NodeAnswers (node_width m) r m p out (take spare left_now) given

    module _ {out_now left_front given_now : List ℕ} where
      pub second_fails : SecondAnswer out_now left_front given_now None → {out_end remainder_end given_end : List ℕ}
          → Answer out_end remainder_end given_end None
      second_fails second = failed (λ t typed room. has_failed second t (in_choose n fifteen typed).second_typed room)

      module _ {step : Step} (second : SecondAnswer out_now left_front given_now (Some step)) where
        pub gave : Gave (WellTyped r m) (node_width m) sent left out (take spare left_now) given out_now left_front given_now step
        gave = was_fed second

        second_small : Small gave.type
        second_small = output_small gave.gives.types gave.gives.fits

        pub type_inside : step.size ≤ length given_now
        type_inside = omega (arith, gave.steps.sized, leads_inside gave.steps.type_given, gave.steps.type_given.long, type_width gave.type)

        pub type_long : step.size ≡ length (take step.size given_now)
        type_long = sym (length-take-le step.size given_now type_inside)

        abbrev left_then : List ℕ
        left_then = left_front ++ drop spare left_now

        pub left_leads : Leads (node_bytes left []) remainder left_then
        left_leads =
            let leads = gave.steps.node_left in
            let behind = drop spare left_now in
            record {
              rest = leads.rest ++ behind;
              begins = ap (λ b. b ++ behind) leads.begins ∙ append_assoc (node_bytes left []) leads.rest behind;
              long =
                  omega (
                    arith,
                    length-append left_front (drop spare left_now),
                    length-drop spare left_now,
                    leads.long,
                    front_long,
                    spare_inside,
                    left_kept,
                  );
            }

        pub stop_inside : spare + told.size ≤ length left_then
        stop_inside = omega (arith, left_leads.long, first_given.sized, first_small, limit_is, room_at_end)

        -- Both types stand whole.

        second_taken : take step.size given_now ≡ type_bytes gave.type []
        second_taken = leads_taken gave.steps.type_given (gave.steps.sized ∙ sym (type_width gave.type))

        first_taken : take (spare + told.size - spare) (drop spare left_then) ≡ type_bytes first_given.type []
        first_taken =
            let long : spare + told.size - spare ≡ length (type_bytes first_given.type [])
            = omega (arith, first_given.sized, type_width first_given.type) in
            let whole : length left_front ≡ spare = omega (arith, gave.steps.node_left.long, front_long) in
            ap (take (spare + told.size - spare)) (drop_at left_front (drop spare left_now) spare whole)
            ∙ behind_taken spare remainder (omega arith) first_leads long

        pub end_both : 1 + told.end + step.end ≡ node_width n
        end_both = omega (arith, gave.steps.ends, first_given.ends, fork_width n two)

        module _ {unlike : Bool}
            (compared : unlike ≡ not (pointwise nat_eq (take step.size given_now) (take (spare + told.size - spare) (drop spare left_then)))) where
          -- If the types differ, choose has none.
          pub differ : unlike ≡ true → {out_end remainder_end given_end : List ℕ} → Answer out_end remainder_end given_end None
          differ apart =
              failed
              (λ t typed room.
              let both = in_choose n fifteen typed in
              types_differ _ _ second_small first_small second_taken first_taken compared apart (only_type gave.gives both.second_typed)
              (only_type first_typed both.first_typed))

          pub chosen_fed : unlike ≡ false → Answer out_now left_then given_now
              (Some (record { end = 1 + told.end + step.end; sent = step.sent; kept = step.kept; size = step.size }))
          chosen_fed alike =
              let agree = types_agree _ _ second_small first_small second_taken first_taken compared alike in
              let both : ChooseTyped s r l m gave.type = record { first_typed = rw agree first_typed; second_typed = gave.gives } in
              let steps : Steps (node_width n) sent left gave.type out remainder given out_now left_then given_now
              (record { end = 1 + told.end + step.end; sent = step.sent; kept = step.kept; size = step.size })
              = record {
                ends = end_both;
                sent = gave.steps.sent;
                kept = gave.steps.kept;
                sized = gave.steps.sized;
                output = gave.steps.output;
                node_left = left_leads;
                type_given = gave.steps.type_given;
              } in
              rw (← chosen_sends, ← chosen_leaves) (fed (of_choose n fifteen both) steps)
