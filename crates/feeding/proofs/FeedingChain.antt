-- Feeding chain: behind a kind byte the first node is fed. It sends and gives on work arrays, and what stands there is what the second node is
-- fed. There is room for every type between them. If one of them fails, chain fails too, and rightly. Otherwise chain sends and gives
-- what the second does, and what is left of both stands one behind the other behind the kind byte.
use Rattle.std.specs.Prelude.{None, Option, Some, true, ◌≡◌, refl, List, [], ◌∷◌, ℕ, suc, ◌+◌, ◌≤◌, ◌<◌, length, take, set}
use Rattle.std.proofs.Common.{sym, ap, ◌∙◌, arith}
use Rattle.stream.specs.Types.{Ty, Small}
use Rattle.stream.specs.Bounds.{slice_file_limit}
use Rattle.stream.proofs.Types.Laws.{limit_is}
use Rattle.stream.specs.Prefixes.{Prefix, IsPrefix}
use Rattle.stream.specs.Prefixes.Functions.{fits}
use Rattle.stream.specs.TypeFiles.{type_bytes, type_of}
use Rattle.stream.specs.SliceFiles.{prefix_bytes, prefix_of}
use Rattle.stream.proofs.TypeFiles.Held as types
use Rattle.stream.proofs.SliceFiles.Held as slices
use Rattle.writing.specs.Writing.Laws.{part, back}
use Rattle.node.specs.Nodes.{Node, chain, count}
use Rattle.node.specs.Nodes.Kinds.{node_kind, node_arity}
use Rattle.node.proofs.Nodes.Laws.{output_type_is, output_small}
use Rattle.node.specs.Checking.{WellTyped}
use Rattle.node.specs.Feeding.Functions.{sends, leaves}
use Rattle.node.proofs.Feeding.Laws.{preserved}
use Rattle.node.specs.PatchFiles.{node_bytes}
use Rattle.patch_reading.specs.Fronts.{first_node, second_node}
use Rattle.patch_reading.specs.PatchReads.{node_width}
use Rattle.patch_reading.specs.PatchReads.Laws.{node_before}
use Rattle.patch_reading.proofs.NodeParts.{forked, fork_width, made_of}
use Rattle.leaf_feeding.specs.declared.Step.{Step}
use Rattle.leaf_feeding.specs.Steps.{Leads, Steps, NodeAnswers, fed, failed}
use Rattle.leaf_feeding.specs.Steps.Laws.{byte_leads, leads_inside, leads_taken, leads_room, left_width, Gave, was_fed, has_failed}
use Rattle.feeding.specs.Feeds.{NodeRooms}
use Rattle.feeding.proofs.Typings.{only_type, ChainTyped, chain_parts, chain_whole}
use Rattle.feeding.proofs.FeedingParts.{width_is, LeadsBy, written_on, Taken, taken}

-- What a chain sends and leaves, by what is between its nodes.
module _ {s t : Ty} {n l m : Node} (node : n ≡ chain l m) (typed : WellTyped s l t) (p : Prefix) where
  chain_sends : sends t m (sends s l p) ≡ sends s n p
  unfolding sends
  chain_sends = rw (node, output_type_is typed.types)

  chain_leaves : chain (leaves s l p) (leaves t m (sends s l p)) ≡ leaves s n p
  unfolding leaves
  chain_leaves = rw (node, output_type_is typed.types)

chain_typed : {s t : Ty} {n l m : Node} → n ≡ chain l m → ChainTyped s l m t → WellTyped s n t
chain_typed node typed = rw node (chain_whole typed)

module _ (n : Node) (ten : node_kind n ≡ 10) {s : Ty} {p : Prefix} (is_prefix : IsPrefix s p)
    {out remainder given : List ℕ} (rooms : NodeRooms n out remainder given) where
  abbrev l : Node
  l = first_node n

  abbrev m : Node
  m = second_node n

  abbrev made : n ≡ chain l m
  made = made_of n ten

  two : node_arity (node_kind n) ≡ 2
  two = ap node_arity ten

  counted : count n ≡ suc (count l + count m)
  counted = (forked n two).count

  abbrev sent : Prefix
  sent = sends s l p

  abbrev left : Node
  left = leaves s l p

  abbrev Answer : (out_end remainder_end given_end : List ℕ) → Option Step → Type 0
  Answer = NodeAnswers (node_width n) s n p out remainder given

  in_chain : {t : Ty} → WellTyped s n t → ChainTyped s l m t
  in_chain typed = chain_parts (rw made at typed)

  -- The kind byte leads.

  pub byte_remainder : 0 < length remainder
  byte_remainder = omega (arith, rooms.left_room)

  abbrev left_begun : List ℕ
  left_begun = set remainder 0 10

  left_kind : Leads (10 ∷ []) remainder left_begun
  left_kind = byte_leads 10 byte_remainder

  abbrev FirstAnswer : (between middle sent_part one_left type_part : List ℕ) → Option Step → Type 0
  FirstAnswer between middle = NodeAnswers (node_width l) s l p between (part 1 left_begun) middle

  -- The first node is fed on work arrays that have room for every type and every slice.
  module _ {between middle : List ℕ} (between_long : length between ≡ slice_file_limit) (middle_long : length middle ≡ 255) where
    pub first_rooms : NodeRooms l between (part 1 left_begun) middle
    first_rooms =
        record {
          few = omega (arith, rooms.few, counted);
          rooms = record { for_type = omega (arith, middle_long, limit_is); for_output = omega (arith, middle_long, between_long) };
          left_room = omega (arith, rooms.left_room, counted, leads_room left_kind 1);
        }

    module _ {sent_part one_left type_part : List ℕ} where
      -- So if it fails, it is not typed, nor is the chain.
      pub first_fails : FirstAnswer between middle sent_part one_left type_part None → {out_end remainder_end given_end : List ℕ}
          → Answer out_end remainder_end given_end None
      first_fails first =
          failed
          (λ t typed room.
          let first_typed = (in_chain typed).first_typed in
          has_failed first (in_chain typed).middle first_typed
          (omega (arith, middle_long, limit_is, output_small first_typed.types first_typed.fits)))

      -- It has answered with a step.
      module _ {step : Step} (first : FirstAnswer between middle sent_part one_left type_part (Some step)) where
        pub gave : Gave (WellTyped s l) (node_width l) sent left between (part 1 left_begun) middle sent_part one_left type_part step
        gave = was_fed first

        abbrev left_now : List ℕ
        left_now = back 1 left_begun one_left

        -- What is left of the first leads behind the kind byte.
        node_left : LeadsBy (10 ∷ node_bytes left []) remainder left_now (1 + step.kept)
        node_left = written_on left_kind refl gave.steps.node_left gave.steps.kept refl

        pub left_taken : Taken remainder left_now (1 + step.kept)
        left_taken = taken node_left

        pub size_inside : step.size ≤ length type_part
        size_inside =
            omega (arith, gave.steps.sized, leads_inside gave.steps.type_given, gave.steps.type_given.long, types.type_width gave.type)

        pub sent_inside : step.sent ≤ length sent_part
        sent_inside = omega (arith, gave.steps.sent, leads_inside gave.steps.output, gave.steps.output.long, width_is sent)

        -- What was sent and given stands at the front of both arrays, and the second node is fed it.

        type_held : types.Holds (take step.size type_part) gave.type
        type_held =
            record {
              bytes = leads_taken gave.steps.type_given (gave.steps.sized ∙ sym (types.type_width gave.type));
              small = output_small gave.gives.types gave.gives.fits;
            }

        prefix_held : slices.Holds gave.type (take step.sent sent_part) sent
        prefix_held =
            record {
              bytes = leads_taken gave.steps.output (gave.steps.sent ∙ width_is sent);
              is = (preserved gave.gives.types is_prefix).sent;
              small = type_held.small;
            }

        pub type_seen : type_of (take step.size type_part) ≡ gave.type
        type_seen = types.has_tree type_held

        pub prefix_seen : prefix_of gave.type (take step.sent sent_part) ≡ sent
        prefix_seen = slices.has_prefix prefix_held

        -- As the input that is made of them has to hold.

        pub type_whole : type_bytes (type_of (take step.size type_part)) [] ≡ take step.size type_part
        type_whole = types.is_whole type_held

        pub type_small : Small (type_of (take step.size type_part))
        type_small = types.is_small type_held

        pub prefix_whole : prefix_bytes (prefix_of (type_of (take step.size type_part)) (take step.sent sent_part)) [] ≡ take step.sent sent_part
        prefix_whole = rw type_seen (slices.is_whole prefix_held)

        pub prefix_fits : fits (type_of (take step.size type_part)) (prefix_of (type_of (take step.size type_part)) (take step.sent sent_part)) ≡ true
        prefix_fits = rw type_seen (slices.is_fit prefix_held)

        pub second_rooms : NodeRooms m out (part (1 + step.kept) left_now) given
        second_rooms =
            record {
              few = omega (arith, rooms.few, counted);
              rooms = rooms.rooms;
              left_room =
                  omega (
                    arith,
                    rooms.left_room,
                    counted,
                    gave.steps.kept,
                    left_width gave.gives is_prefix,
                    leads_room node_left.leads (1 + step.kept),
                  );
            }

        abbrev SecondAnswer : (out_end two_left given_end : List ℕ) → Option Step → Type 0
        SecondAnswer = NodeAnswers (node_width m) gave.type m sent out (part (1 + step.kept) left_now) given

        module _ {out_end two_left given_end : List ℕ} where
          pub second_fails : SecondAnswer out_end two_left given_end None → {remainder_end : List ℕ} → Answer out_end remainder_end given_end None
          second_fails second =
              failed
              (λ t typed room.
              let whole = in_chain typed in
              has_failed second t (rw (only_type whole.first_typed gave.gives) at whole.second_typed) room)

          -- Both have answered with a step.
          module _ {rest : Step} (second : SecondAnswer out_end two_left given_end (Some rest)) where
            abbrev second_left : Node
            second_left = leaves gave.type m sent

            pub gave_rest : Gave (WellTyped gave.type m) (node_width m) (sends gave.type m sent) second_left out (part (1 + step.kept) left_now) given
                out_end two_left given_end rest
            gave_rest = was_fed second

            -- What is left of the second leads behind it: the bytes of a chain.
            chain_leads : LeadsBy (node_bytes (chain left second_left) []) remainder (back (1 + step.kept) left_now two_left) (1 + step.kept + rest.kept)
            unfolding node_bytes
            chain_leads =
                written_on node_left.leads node_left.long gave_rest.steps.node_left gave_rest.steps.kept
                (ap (λ b. 10 ∷ b) (sym (node_before left (node_bytes second_left []))))

            pub left_full : 1 + step.kept + rest.kept ≤ length remainder
            left_full = (taken chain_leads).had_room

            pub end_both : 1 + step.end + rest.end ≡ node_width n
            end_both = omega (arith, gave.steps.ends, gave_rest.steps.ends, fork_width n two)

            -- All together is what chain has to do.

            abbrev after : Step
            after = record { end = 1 + step.end + rest.end; sent = rest.sent; kept = 1 + step.kept + rest.kept; size = rest.size }

            steps : Steps (node_width n) (sends gave.type m sent) (chain left second_left) gave_rest.type
                out remainder given out_end (back (1 + step.kept) left_now two_left) given_end after
            steps =
                record {
                  ends = end_both;
                  sent = gave_rest.steps.sent;
                  kept = chain_leads.long;
                  sized = gave_rest.steps.sized;
                  output = gave_rest.steps.output;
                  node_left = chain_leads.leads;
                  type_given = gave_rest.steps.type_given;
                }

            pub chain_fed : Answer out_end (back (1 + step.kept) left_now two_left) given_end (Some after)
            chain_fed =
                let typed = chain_typed made (record { middle = gave.type; first_typed = gave.gives; second_typed = gave_rest.gives }) in
                rw (← chain_sends {m = m} made gave.gives p, ← chain_leaves {m = m} made gave.gives p) (fed typed steps)
