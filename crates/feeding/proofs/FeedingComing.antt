-- Feeding then while the first part is coming: behind three kind bytes its first node is fed; its second node is only typed, and copied as it
-- is behind what is left of the first. If the first fails, or the second has no type, or there is no room for both types, then fails too,
-- and rightly. Otherwise the bytes are those of then with the first node's remainder, of a prefix in the first part, and of the sequence of
-- both types.
use Rattle.std.specs.Prelude.{None, Ok, Option, Result, Some, ◌≡◌, refl, List, [], ◌∷◌, ℕ, suc, ◌+◌, ◌-◌, ◌≤◌, ◌<◌, length, take, set}
use Rattle.std.specs.Result.{result_ok}
use Rattle.std.proofs.Common.{sym, ap, ◌∙◌, arith}
use Rattle.stream.specs.declared.Fault.{Fault}
use Rattle.stream.specs.Types.{Ty, seq, size}
use Rattle.stream.specs.Buffers.{at_front}
use Rattle.stream.specs.Prefixes.{Prefix, in_first, IsPrefix}
use Rattle.stream.specs.TypeFiles.{type_bytes}
use Rattle.stream.specs.SliceFiles.{prefix_bytes}
use Rattle.stream.proofs.TypeFiles.Held.{type_before, type_width}
use Rattle.reading.specs.SliceReads.{prefix_width}
use Rattle.writing.specs.Writing.Laws.{part, back}
use Rattle.writing.specs.Appending.Laws.{back_length}
use Rattle.node.specs.Nodes.{Node, then, count}
use Rattle.node.specs.Nodes.Kinds.{node_kind, node_arity}
use Rattle.node.specs.Checking.{typing, WellTyped}
use Rattle.node.proofs.Checking.Laws.{typing_sound}
use Rattle.node.specs.Feeding.Functions.{sends, leaves}
use Rattle.node.specs.PatchFiles.{node_bytes}
use Rattle.node.proofs.PatchFiles.Laws.{node_length}
use Rattle.patch_reading.specs.declared.fronts.NodeFront.{NodeFront}
use Rattle.patch_reading.specs.Fronts.{node, first_node, second_node}
use Rattle.patch_reading.specs.PatchReads.{node_width}
use Rattle.patch_reading.specs.PatchReads.Laws.{node_before}
use Rattle.patch_reading.proofs.NodeParts.{forked, fork_width, made_of}
use Rattle.patch_reading.proofs.NodeFronts.{inside, bytes_are}
use Rattle.typing.specs.declared.Typed.{Typed}
use Rattle.typing.specs.Typing.{NodeTyped}
use Rattle.typing.specs.Typing.Laws.{IsGiven, is_given}
use Rattle.leaf_feeding.specs.declared.Step.{Step}
use Rattle.leaf_feeding.specs.Steps.{Leads, Steps, NodeAnswers, fed, failed}
use Rattle.leaf_feeding.specs.Steps.Laws.{front_leads, byte_leads, leads_room, left_width, Gave, was_fed, has_failed}
use Rattle.feeding.specs.declared.Pair.TheVariants.{Crossed}
use Rattle.feeding.specs.Feeds.{NodeRooms, PairTyped}
use Rattle.feeding.proofs.Typings.{no_type, one_size}
use Rattle.feeding.proofs.FeedingParts.{width_is, LeadsBy, written_on, Taken, taken as bytes_taken}
use Rattle.feeding.proofs.FeedingThen.{whole_typed, parts_typed}

-- The type of a sequence has a byte, and behind it its parts.
sequence_size : {s r : Ty} {n m : Node} {t : Ty} (typed : PairTyped Crossed s r n m t) → size t ≡ 1 + size typed.first + size typed.second
unfolding size
sequence_size typed = omega (arith, ap size typed.made)

module _ (front : NodeFront) (nine : node_kind (node front) ≡ 9) {s : Ty} (r : Ty) {p : Prefix} (fits : IsPrefix s p)
    {out remainder given : List ℕ} (rooms : NodeRooms (node front) out remainder given) where
  abbrev n : Node
  n = node front

  abbrev l : Node
  l = first_node n

  abbrev m : Node
  m = second_node n

  two : node_arity (node_kind n) ≡ 2
  two = ap node_arity nine

  counted : count n ≡ suc (count l + count m)
  counted = (forked n two).count

  abbrev Answer : (out_end remainder_end given_end : List ℕ) → Option Step → Type 0
  Answer = NodeAnswers (node_width n) (seq s r) n (in_first p) out remainder given

  -- What the first node sends and leaves is in what then does.

  abbrev sent : Prefix
  sent = sends s l p

  abbrev left : Node
  left = leaves s l p

  coming_sends : in_first sent ≡ sends (seq s r) n (in_first p)
  unfolding sends
  coming_sends = sym (ap (λ k. sends (seq s r) k (in_first p)) (made_of n nine))

  coming_leaves : then left m ≡ leaves (seq s r) n (in_first p)
  unfolding leaves
  coming_leaves = sym (ap (λ k. leaves (seq s r) k (in_first p)) (made_of n nine))

  -- There is room for one byte in front of each, unless there is none for a type.

  pub byte_out : 0 < length given → 0 < length out
  byte_out some = omega (arith, rooms.rooms.for_output)

  pub byte_remainder : 0 < length remainder
  byte_remainder = omega (arith, rooms.left_room)

  pub no_room : length given ≡ 0 → {out_end remainder_end given_end : List ℕ} → Answer out_end remainder_end given_end None
  no_room none = failed (λ t typed room. omega (arith, none, room, sequence_size (parts_typed n nine typed)))

  -- The kind bytes are set, and lead.
  module _ (some : 0 < length given) where
    abbrev out_begun : List ℕ
    out_begun = set out 0 5

    abbrev left_begun : List ℕ
    left_begun = set remainder 0 9

    abbrev given_begun : List ℕ
    given_begun = set given 0 3

    out_kind : Leads (5 ∷ []) out out_begun
    out_kind = byte_leads 5 (byte_out some)

    left_kind : Leads (9 ∷ []) remainder left_begun
    left_kind = byte_leads 9 byte_remainder

    given_kind : Leads (3 ∷ []) given given_begun
    given_kind = byte_leads 3 some

    pub first_rooms : NodeRooms l (part 1 out_begun) (part 1 left_begun) (part 1 given_begun)
    first_rooms =
        record {
          few = omega (arith, rooms.few, counted);
          rooms =
              record {
                for_type = omega (arith, rooms.rooms.for_type, leads_room given_kind 1);
                for_output = omega (arith, some, rooms.rooms.for_output, leads_room given_kind 1, leads_room out_kind 1);
              };
          left_room = omega (arith, rooms.left_room, counted, leads_room left_kind 1);
        }

    -- The first node was fed behind them.

    abbrev FirstAnswer : (one_out one_left one_given : List ℕ) → Option Step → Type 0
    FirstAnswer = NodeAnswers (node_width l) s l p (part 1 out_begun) (part 1 left_begun) (part 1 given_begun)

    module _ {one_out one_left one_given : List ℕ} where
      pub first_fails : FirstAnswer one_out one_left one_given None → {out_end remainder_end given_end : List ℕ}
          → Answer out_end remainder_end given_end None
      first_fails first =
          failed
          (λ t typed room.
          let pair = parts_typed n nine typed in
          has_failed first pair.first pair.first_typed (omega (arith, room, sequence_size pair, leads_room given_kind 1)))

      -- It has answered with a step.
      module _ {step : Step} (first : FirstAnswer one_out one_left one_given (Some step)) where
        pub gave : Gave (WellTyped s l) (node_width l) sent left (part 1 out_begun) (part 1 left_begun) (part 1 given_begun) one_out one_left one_given step
        gave = was_fed first

        abbrev out_now : List ℕ
        out_now = back 1 out_begun one_out

        abbrev left_now : List ℕ
        left_now = back 1 left_begun one_left

        abbrev given_now : List ℕ
        given_now = back 1 given_begun one_given

        -- What it sent, left and gave leads, behind the kind bytes.

        output : LeadsBy (5 ∷ prefix_bytes sent []) out out_now (1 + step.sent)
        output = written_on out_kind refl gave.steps.output (gave.steps.sent ∙ width_is sent) refl

        node_left : LeadsBy (9 ∷ node_bytes left []) remainder left_now (1 + step.kept)
        node_left = written_on left_kind refl gave.steps.node_left gave.steps.kept refl

        type_given : LeadsBy (3 ∷ type_bytes gave.type []) given given_now (1 + step.size)
        type_given = written_on given_kind refl gave.steps.type_given (gave.steps.sized ∙ sym (type_width gave.type)) refl

        pub out_taken : Taken out out_now (1 + step.sent)
        out_taken = bytes_taken output

        pub left_taken : Taken remainder left_now (1 + step.kept)
        left_taken = bytes_taken node_left

        pub given_taken : Taken given given_now (1 + step.size)
        given_taken = bytes_taken type_given

        -- The second node was typed behind that.

        abbrev SecondTyped : List ℕ → Result Typed Fault → Type 0
        SecondTyped = NodeTyped r m (part (1 + step.size) given_now)

        abbrev given_then : List ℕ → List ℕ
        given_then = back (1 + step.size) given_now

        -- If it has no type, then has none.
        pub second_untyped : {two_given : List ℕ} {answer : Result Typed Fault} → SecondTyped two_given answer → None ≡ result_ok answer
            → {out_end remainder_end given_end : List ℕ} → Answer out_end remainder_end given_end None
        second_untyped answered none = failed (λ t typed room. no_type answered none (parts_typed n nine typed).second_typed)

        module _ {two_given : List ℕ} {told : Typed} (answered : SecondTyped two_given (Ok told)) where
          pub second_given : IsGiven (node_width m) told.end told.size (typing r m)
          second_given = is_given _ _ answered.answers

          second_typed : WellTyped r m second_given.type
          second_typed = typing_sound _ _ _ ((forked n two).carries front.front.carries).1 second_given.given

          given_kept : length (given_then two_given) ≡ length given
          given_kept = back_length (1 + step.size) given_now two_given given_taken.has_room answered.long ∙ type_given.leads.long

          pub given_inside : 1 + step.size ≤ length (given_then two_given)
          given_inside = omega (arith, given_taken, given_kept)

          -- If there is no room for it behind the first's, there is none for both.
          pub second_no_room : length (given_then two_given) - (1 + step.size) < told.size → {out_end remainder_end given_end : List ℕ}
              → Answer out_end remainder_end given_end None
          second_no_room short =
              failed
              (λ t typed room.
              let pair = parts_typed n nine typed in
              omega (
                arith,
                short,
                room,
                given_kept,
                sequence_size pair,
                one_size gave.gives pair.first_typed,
                one_size second_typed pair.second_typed,
                gave.steps.sized,
                second_given.sized,
              ))

          -- There is room for its bytes behind what is left of the first.
          node_room : 1 + step.kept + node_width m ≤ length remainder
          node_room =
              omega (
                arith,
                rooms.left_room,
                counted,
                gave.steps.kept,
                left_width gave.gives fits,
                node_length m [] ((forked n two).carries front.front.carries).1,
              )

          pub end_both : 1 + step.end + told.end ≡ node_width n
          end_both = omega (arith, gave.steps.ends, second_given.ends, fork_width n two)

          pub kept_inside : 1 + step.kept + told.end ≤ length remainder
          kept_inside = omega (arith, second_given.ends, node_room)

          module _ (waiting : NodeFront) (stands : node waiting ≡ m) where
            taken : take told.end waiting.bytes.now ≡ node_bytes m []
            taken = rw (second_given.ends, ← stands) (bytes_are waiting)

            pub node_inside : told.end ≤ length waiting.bytes.now
            node_inside = omega (arith, second_given.ends, ap node_width stands, inside waiting)

            pub copy_room : length (take told.end waiting.bytes.now) ≤ length (part (1 + step.kept) left_now)
            copy_room = omega (arith, ap length taken, node_room, leads_room node_left.leads (1 + step.kept))

            -- There is room for its type, and its bytes are copied.
            module _ (roomy : told.size ≤ length (given_then two_given) - (1 + step.size)) {two_left : List ℕ}
                (copied : two_left ≡ at_front (take told.end waiting.bytes.now) (part (1 + step.kept) left_now)) where
              type_room : length (type_bytes second_given.type []) ≤ length (part (1 + step.size) given_now)
              type_room =
                  omega (
                    arith,
                    roomy,
                    given_kept,
                    second_given.sized,
                    type_width second_given.type,
                    leads_room type_given.leads (1 + step.size),
                  )

              type_leads : Leads (type_bytes second_given.type []) (part (1 + step.size) given_now) two_given
              type_leads = front_leads _ _ ((answered.writes _ second_given.given).in_front type_room) type_room

              node_leads : Leads (node_bytes m []) (part (1 + step.kept) left_now) two_left
              node_leads = rw (← taken) (front_leads _ _ copied copy_room)

              -- With the second behind the first.

              abbrev sequence : Ty
              sequence = seq gave.type second_given.type

              sequence_leads : LeadsBy (type_bytes sequence []) given (given_then two_given) (1 + step.size + told.size)
              unfolding type_bytes
              sequence_leads =
                  written_on type_given.leads type_given.long type_leads (second_given.sized ∙ sym (type_width second_given.type))
                  (ap (λ b. 3 ∷ b) (sym (type_before gave.type (type_bytes second_given.type []))))

              pub given_full : 1 + step.size + told.size ≤ length given
              given_full = (bytes_taken sequence_leads).had_room

              abbrev left_then : List ℕ
              left_then = back (1 + step.kept) left_now two_left

              then_leads : LeadsBy (node_bytes (then left m) []) remainder left_then (1 + step.kept + told.end)
              unfolding node_bytes
              then_leads =
                  written_on node_left.leads node_left.long node_leads second_given.ends
                  (ap (λ b. 9 ∷ b) (sym (node_before left (node_bytes m []))))

              -- All together is what then has to do.

              abbrev after : Step
              after = record { end = 1 + step.end + told.end; sent = 1 + step.sent; kept = 1 + step.kept + told.end; size = 1 + step.size + told.size }

              steps : Steps (node_width n) (in_first sent) (then left m) sequence out remainder given out_now left_then (given_then two_given) after
              unfolding prefix_bytes prefix_width
              steps =
                  record {
                    ends = end_both;
                    sent = omega (arith, gave.steps.sent);
                    kept = then_leads.long;
                    sized = sequence_leads.long ∙ type_width sequence;
                    output = output.leads;
                    node_left = then_leads.leads;
                    type_given = sequence_leads.leads;
                  }

              pub coming_fed : Answer out_now left_then (given_then two_given) (Some after)
              coming_fed =
                  let pair : PairTyped Crossed s r l m sequence
                  = record { first = gave.type; second = second_given.type; first_typed = gave.gives; second_typed = second_typed; made = refl } in
                  let small : size sequence ≤ length given = omega (arith, given_full, sequence_leads.long, type_width sequence) in
                  let is_typed = whole_typed n nine pair (omega (arith, small, rooms.rooms.for_type)) in
                  rw (← coming_sends, ← coming_leaves) (fed is_typed steps)
