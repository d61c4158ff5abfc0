-- Feeding choose once its first part is chosen: its first node is fed, with all the room that choose has, and is left alone. The type of its
-- second node is written behind what is left of the first: no node leaves more than it may have, so there is room for a whole type. If the
-- first fails, or the second has no type or another one, choose fails too, and rightly.
use Rattle.std.specs.Prelude.{None, Ok, Option, Result, Some, ◌≡◌, Bool, true, false, List, [], ℕ, suc, ◌+◌, ◌-◌, ◌≤◌, length, take, drop}
use Rattle.std.specs.Result.{result_ok}
use Rattle.std.specs.Cmp.Lexicographic.{pointwise}
use Rattle.std.proofs.Common.{nat_eq, sym, ap, ◌∙◌, arith, append-nil, length-take-le}
use Rattle.std.proofs.Math.Bool.{not}
use Rattle.stream.specs.declared.Fault.{Fault}
use Rattle.stream.specs.Types.{Ty, either, Small}
use Rattle.stream.proofs.Types.Laws.{limit_is}
use Rattle.stream.specs.Prefixes.{Prefix, first_chosen, IsPrefix}
use Rattle.stream.specs.TypeFiles.{type_bytes}
use Rattle.stream.proofs.TypeFiles.Held.{type_width}
use Rattle.writing.specs.Writing.Laws.{part, back}
use Rattle.writing.specs.Appending.Laws.{part_length}
use Rattle.node.specs.Nodes.{Node, count}
use Rattle.node.specs.Nodes.Kinds.{node_kind, node_arity, count_by_parts}
use Rattle.node.proofs.Nodes.Laws.{output_small}
use Rattle.node.specs.Checking.{typing, WellTyped}
use Rattle.node.proofs.Checking.Laws.{typing_sound}
use Rattle.node.specs.Feeding.Functions.{sends, leaves}
use Rattle.node.specs.PatchFiles.{node_bytes}
use Rattle.patch_reading.specs.declared.fronts.NodeFront.{NodeFront}
use Rattle.patch_reading.specs.Fronts.{node, first_node, second_node}
use Rattle.patch_reading.specs.PatchReads.{node_width}
use Rattle.patch_reading.proofs.NodeParts.{forked, fork_width}
use Rattle.typing.specs.declared.Typed.{Typed}
use Rattle.typing.specs.Typing.{NodeTyped}
use Rattle.typing.specs.Typing.Laws.{IsGiven, is_given}
use Rattle.leaf_feeding.specs.declared.Step.{Step}
use Rattle.leaf_feeding.specs.Steps.{Leads, Steps, NodeAnswers, fed, failed}
use Rattle.leaf_feeding.specs.Steps.Laws.{nothing_leads, front_leads, leads_inside, leads_taken, leads_on, left_width, Gave, was_fed, has_failed}
use Rattle.feeding.specs.Feeds.{NodeRooms}
use Rattle.feeding.proofs.Typings.{only_type, no_type, ChooseTyped}
use Rattle.feeding.proofs.FeedingChoose.{made, in_choose, of_choose, types_agree, types_differ, behind_taken}

module _ (front : NodeFront) (fifteen : node_kind (node front) ≡ 15) {s : Ty} (r : Ty) {p : Prefix} (fits : IsPrefix s p)
    {out remainder given : List ℕ} (rooms : NodeRooms (node front) out remainder given) where
  abbrev n : Node
  n = node front

  abbrev l : Node
  l = first_node n

  abbrev m : Node
  m = second_node n

  two : node_arity (node_kind n) ≡ 2
  two = ap node_arity fifteen

  counted : count n ≡ suc (count l + count m)
  counted = (forked n two).count

  -- What the first node sends and leaves is what choose does.

  abbrev sent : Prefix
  sent = sends s l p

  abbrev left : Node
  left = leaves s l p

  chosen_sends : sent ≡ sends (either s r) n (first_chosen p)
  unfolding sends
  chosen_sends = sym (ap (λ k. sends (either s r) k (first_chosen p)) (made n fifteen))

  chosen_leaves : left ≡ leaves (either s r) n (first_chosen p)
  unfolding leaves
  chosen_leaves = sym (ap (λ k. leaves (either s r) k (first_chosen p)) (made n fifteen))

  abbrev Answer : (out_end remainder_end given_end : List ℕ) → Option Step → Type 0
  Answer = NodeAnswers (node_width n) (either s r) n (first_chosen p) out remainder given

  pub first_rooms : NodeRooms l out remainder given
  first_rooms = record { few = omega (arith, rooms.few, counted); rooms = rooms.rooms; left_room = omega (arith, rooms.left_room, counted) }

  -- The first node was fed.

  abbrev FirstAnswer : (out_now left_now given_now : List ℕ) → Option Step → Type 0
  FirstAnswer = NodeAnswers (node_width l) s l p out remainder given

  module _ {out_now left_now given_now : List ℕ} where
    pub first_fails : FirstAnswer out_now left_now given_now None → {out_end remainder_end given_end : List ℕ} → Answer out_end remainder_end given_end None
    first_fails first = failed (λ t typed room. has_failed first t (in_choose n fifteen typed).first_typed room)

    -- It has answered with a step.
    module _ {step : Step} (first : FirstAnswer out_now left_now given_now (Some step)) where
      pub gave : Gave (WellTyped s l) (node_width l) sent left out remainder given out_now left_now given_now step
      gave = was_fed first

      pub left_inside : step.kept ≤ length left_now
      left_inside = omega (arith, gave.steps.kept, leads_inside gave.steps.node_left, gave.steps.node_left.long)

      pub type_inside : step.size ≤ length given_now
      type_inside =
          omega (arith, gave.steps.sized, leads_inside gave.steps.type_given, gave.steps.type_given.long, type_width gave.type)

      pub type_long : step.size ≡ length (take step.size given_now)
      type_long = sym (length-take-le step.size given_now type_inside)

      -- A whole type has room behind what is left.
      spare : 255 ≤ length (part step.kept left_now)
      spare =
          omega (
            arith,
            rooms.left_room,
            counted,
            count_by_parts m,
            gave.steps.kept,
            left_width gave.gives fits,
            part_length step.kept left_now,
            gave.steps.node_left.long,
          )

      -- The second node was typed there.

      abbrev SecondTyped : List ℕ → Result Typed Fault → Type 0
      SecondTyped = NodeTyped r m (part step.kept left_now)

      -- If it has no type, choose has none.
      pub second_untyped : {left_part : List ℕ} {answer : Result Typed Fault} → SecondTyped left_part answer → None ≡ result_ok answer
          → {out_end remainder_end given_end : List ℕ} → Answer out_end remainder_end given_end None
      second_untyped answered none = failed (λ t typed room. no_type answered none (in_choose n fifteen typed).second_typed)

      module _ {left_part : List ℕ} {told : Typed} (answered : SecondTyped left_part (Ok told)) where
        pub second_given : IsGiven (node_width m) told.end told.size (typing r m)
        second_given = is_given _ _ answered.answers

        second_typed : WellTyped r m second_given.type
        second_typed = typing_sound _ _ _ ((forked n two).carries front.front.carries).1 second_given.given

        abbrev left_then : List ℕ
        left_then = back step.kept left_now left_part

        pub left_leads : Leads (node_bytes left []) remainder left_then
        left_leads = rw (← append-nil (node_bytes left [])) (leads_on gave.steps.node_left {y = left_part} gave.steps.kept (nothing_leads answered.long))

        first_small : Small gave.type
        first_small = output_small gave.gives.types gave.gives.fits

        second_small : Small second_given.type
        second_small = output_small second_typed.types second_typed.fits

        pub stop_inside : step.kept + told.size ≤ length left_then
        stop_inside =
            omega (
              arith,
              left_leads.long,
              second_given.sized,
              second_small,
              limit_is,
              spare,
              part_length step.kept left_now,
              gave.steps.node_left.long,
            )

        -- Both types stand whole.

        first_taken : take step.size given_now ≡ type_bytes gave.type []
        first_taken = leads_taken gave.steps.type_given (gave.steps.sized ∙ sym (type_width gave.type))

        second_taken : take (step.kept + told.size - step.kept) (drop step.kept left_then) ≡ type_bytes second_given.type []
        second_taken =
            let long : step.kept + told.size - step.kept ≡ length (type_bytes second_given.type [])
            = omega (arith, second_given.sized, type_width second_given.type) in
            let room : length (type_bytes second_given.type []) ≤ length (part step.kept left_now)
            = omega (arith, type_width second_given.type, second_small, limit_is, spare) in
            behind_taken step.kept left_now left_inside (front_leads _ _ ((answered.writes _ second_given.given).in_front room) room) long

        pub end_both : 1 + step.end + told.end ≡ node_width n
        end_both = omega (arith, second_given.ends, gave.steps.ends, fork_width n two)

        module _ {unlike : Bool}
            (compared : unlike ≡ not (pointwise nat_eq (take step.size given_now) (take (step.kept + told.size - step.kept) (drop step.kept left_then)))) where
          -- If the types differ, choose has none.
          pub differ : unlike ≡ true → {out_end remainder_end given_end : List ℕ} → Answer out_end remainder_end given_end None
          differ apart =
              failed
              (λ t typed room.
              let both = in_choose n fifteen typed in
              types_differ _ _ first_small second_small first_taken second_taken compared apart (only_type gave.gives both.first_typed)
              (only_type second_typed both.second_typed))

          pub chosen_fed : unlike ≡ false → Answer out_now left_then given_now
              (Some (record { end = 1 + step.end + told.end; sent = step.sent; kept = step.kept; size = step.size }))
          chosen_fed alike =
              let agree = types_agree _ _ first_small second_small first_taken second_taken compared alike in
              let both : ChooseTyped s r l m gave.type = record { first_typed = gave.gives; second_typed = rw agree second_typed } in
              let steps : Steps (node_width n) sent left gave.type out remainder given out_now left_then given_now
              (record { end = 1 + step.end + told.end; sent = step.sent; kept = step.kept; size = step.size })
              = record {
                ends = end_both;
                sent = gave.steps.sent;
                kept = gave.steps.kept;
                sized = gave.steps.sized;
                output = gave.steps.output;
                node_left = left_leads;
                type_given = gave.steps.type_given;
              } in
              rw (← chosen_sends, ← chosen_leaves) (fed (of_choose n fifteen both) steps)
