-- Feeding two nodes in turn. Behind three kind bytes the first node is fed, and behind what it takes the second. If one of them fails, its
-- node has no type, or no room for it, and neither have both. Otherwise what they send, leave and give stands one behind the other behind the
-- kind bytes, and that is what the pair sends, leaves and gives; after a crossing the second node's remainder goes over the first one's.
use Rattle.std.specs.Prelude.{None, Option, Some, Bool, true, false, ◌==◌, ◌≡◌, refl, List, [], ◌∷◌, ◌++◌, ℕ, suc, ◌+◌, ◌*◌, ◌≤◌, ◌<◌, length, set}
use Rattle.std.proofs.Common.{sym, ap, ◌∙◌, arith, length-append, eqb-true}
use Rattle.std.proofs.lemmas.Bool.{eqb-false}
use Rattle.stream.specs.Types.{Ty, size}
use Rattle.stream.specs.Prefixes.{Prefix, IsPrefix}
use Rattle.stream.specs.TypeFiles.{type_bytes}
use Rattle.stream.specs.SliceFiles.{prefix_bytes}
use Rattle.stream.proofs.SliceFiles.Laws.{prefix_before}
use Rattle.stream.proofs.TypeFiles.Held.{type_before, type_width}
use Rattle.reading.specs.SliceReads.{prefix_width}
use Rattle.reading.specs.SliceReads.Laws.{prefix_bytes_length}
use Rattle.reading.specs.Inputs.Laws.{width_within}
use Rattle.writing.specs.Writing.Laws.{part, back}
use Rattle.node.specs.Nodes.{Node, count}
use Rattle.node.specs.Nodes.Kinds.{node_kind, node_arity}
use Rattle.node.specs.Checking.{WellTyped}
use Rattle.node.specs.Feeding.Functions.{sends, leaves}
use Rattle.node.proofs.Feeding.Laws.{preserved}
use Rattle.node.specs.PatchFiles.{node_bytes}
use Rattle.patch_reading.specs.Fronts.{first_node, second_node}
use Rattle.patch_reading.specs.PatchReads.{node_width}
use Rattle.patch_reading.specs.PatchReads.Laws.{node_before}
use Rattle.patch_reading.proofs.NodeParts.{forked, fork_width}
use Rattle.leaf_feeding.specs.declared.Step.{Step}
use Rattle.leaf_feeding.specs.Steps.{Leads, Steps, NodeAnswers, fed, failed}
use Rattle.leaf_feeding.specs.Steps.Laws.{nothing_leads, byte_leads, leads_inside, leads_room, leads_on, left_width, Gave, was_fed, has_failed}
use Rattle.feeding.specs.declared.Pair.{Pair}
use Rattle.feeding.specs.declared.Pair.TheVariants.{Beside, Crossed}
use Rattle.feeding.specs.Feeds.{sent_kind, given_kind, kept_before, pair_sent, pair_left, pair_given, NodeRooms, PairTyped, IsPair, PairAnswers}
use Rattle.feeding.proofs.Typings.{one_size}

-- How many bytes a prefix takes, by their list.
pub width_is : (o : Prefix) → prefix_width o ≡ length (prefix_bytes o [])
width_is o = omega (arith, prefix_bytes_length o [])

-- What a node sends has at most two bytes for each node of the type that it gives, and one.
pub sent_within : {s t : Ty} {n : Node} {p : Prefix} → WellTyped s n t → IsPrefix s p → prefix_width (sends s n p) ≤ 2 * size t + 1
sent_within typed h = width_within (preserved typed.types h).sent

-- Bytes and more behind them lead, `written` many in all.
pub record LeadsBy (bytes lent now : List ℕ) (written : ℕ) : Type 0 where
  pub long : written ≡ length bytes
  pub leads : Leads bytes lent now

pub written_on : {e f whole lent now y : List ℕ} {a n : ℕ} → Leads e lent now → a ≡ length e → Leads f (part a now) y → n ≡ length f
    → e ++ f ≡ whole → LeadsBy whole lent (back a now y) (a + n)
written_on {e} {f} leads first more second all =
    record { long = omega (arith, first, second, length-append e f, ap length all); leads = rw (← all) (leads_on leads first more) }

-- So they have room, then and now.
pub record Taken (lent now : List ℕ) (written : ℕ) : Type 0 where
  pub had_room : written ≤ length lent
  pub has_room : written ≤ length now

pub taken : {bytes lent now : List ℕ} {written : ℕ} → LeadsBy bytes lent now written → Taken lent now written
taken by =
    let room = leads_inside by.leads in
    record { had_room = omega (arith, by.long, room); has_room = omega (arith, by.long, room, by.leads.long) }

-- Whether there is room for any byte.

pub none_left : (s : List ℕ) {b : Bool} → b ≡ (length s == 0) → b ≡ true → length s ≡ 0
none_left s told e = eqb-true (length s) 0 (sym told ∙ e)

pub some_left : (s : List ℕ) {b : Bool} → b ≡ (length s == 0) → b ≡ false → 0 < length s
some_left s told e = let other = eqb-false (length s) 0 (sym told ∙ e) in omega arith

-- What is sent and given for both: a kind byte, and behind it the two.
record Pairs (pair : Pair) : Type 0 where
  sent : (o u : Prefix) → (sent_kind pair ∷ prefix_bytes o []) ++ prefix_bytes u [] ≡ prefix_bytes (pair_sent pair o u) []
  given : (t r : Ty) → (given_kind pair ∷ type_bytes t []) ++ type_bytes r [] ≡ type_bytes (pair_given pair t r) []
  sized : (t r : Ty) → size (pair_given pair t r) ≡ 1 + size t + size r

pairs : (pair : Pair) → Pairs pair
unfolding prefix_bytes type_bytes size
pairs Beside =
    record {
      sent = λ o u. ap (λ l. 7 ∷ l) (sym (prefix_before o (prefix_bytes u [])));
      given = λ t r. ap (λ l. 4 ∷ l) (sym (type_before t (type_bytes r [])));
      sized = λ t r. omega arith;
    }
pairs Crossed =
    record {
      sent = λ o u. ap (λ l. 6 ∷ l) (sym (prefix_before o (prefix_bytes u [])));
      given = λ t r. ap (λ l. 3 ∷ l) (sym (type_before t (type_bytes r [])));
      sized = λ t r. omega arith;
    }

-- What stays of the remainder in front of the second node's.
record Stays (pair : Pair) (n : Node) (left : ℕ) (remainder now : List ℕ) : Type 0 where
  bytes : List ℕ
  written : LeadsBy bytes remainder now left
  short : left ≤ 1 + node_width n
  whole : (m : Node) → bytes ++ node_bytes m [] ≡ node_bytes (pair_left pair n m) []

stays : (pair : Pair) (many : ℕ) {n : Node} {remainder now : List ℕ}
    → LeadsBy (4 ∷ node_bytes n []) remainder now (1 + many) → Stays pair n (kept_before pair many) remainder now
unfolding node_bytes
stays Beside many {n = n} first =
    record {
      bytes = 4 ∷ node_bytes n [];
      written = first;
      short = omega (arith, first.long);
      whole = λ m. ap (λ l. 4 ∷ l) (sym (node_before n (node_bytes m [])));
    }
stays Crossed many first =
    record {
      bytes = [];
      written = record { long = refl; leads = nothing_leads first.leads.long };
      short = omega arith;
      whole = λ m. refl;
    }

pub two_parts : (pair : Pair) (n : Node) → IsPair pair n → node_arity (node_kind n) ≡ 2
two_parts Beside n four = ap node_arity four
two_parts Crossed n nine = ap node_arity nine

-- The three kind bytes are set, k, 4 and j.
pub record Begun (pair : Pair) (n : Node) (s r : Ty) (p q : Prefix) (out remainder given : List ℕ) (k j : ℕ) : Type 0 where
  pub is_pair : IsPair pair n
  pub first_fits : IsPrefix s p
  pub second_fits : IsPrefix r q
  pub rooms : NodeRooms n out remainder given
  pub sends_kind : k ≡ sent_kind pair
  pub gives_kind : j ≡ given_kind pair
  pub some : 0 < length given

-- Before that there may be no room for a type.
pub no_room : (pair : Pair) (n : Node) {s r : Ty} (p q : Prefix) {out remainder given out_end remainder_end given_end : List ℕ} → length given ≡ 0
    → PairAnswers pair n s r p q out remainder given out_end remainder_end given_end None
no_room pair n p q none = failed (λ t typed room. omega (arith, none, room, ap size typed.made, (pairs pair).sized typed.first typed.second))

module _ {pair : Pair} {n : Node} {s r : Ty} {p q : Prefix} {out remainder given : List ℕ} {k j : ℕ} (begun : Begun pair n s r p q out remainder given k j) where
  abbrev l : Node
  l = first_node n

  abbrev m : Node
  m = second_node n

  counted : count n ≡ suc (count l + count m)
  counted = (forked n (two_parts pair n begun.is_pair)).count

  wide : node_width n ≡ suc (node_width l + node_width m)
  wide = fork_width n (two_parts pair n begun.is_pair)

  -- What each sends and leaves.

  abbrev first_sent : Prefix
  first_sent = sends s l p

  abbrev second_sent : Prefix
  second_sent = sends r m q

  abbrev first_left : Node
  first_left = leaves s l p

  abbrev second_left : Node
  second_left = leaves r m q

  abbrev Answer : (out_end remainder_end given_end : List ℕ) → Option Step → Type 0
  Answer = PairAnswers pair n s r p q out remainder given

  abbrev out_now : List ℕ
  out_now = set out 0 k

  abbrev left_now : List ℕ
  left_now = set remainder 0 4

  abbrev given_now : List ℕ
  given_now = set given 0 j

  out_begun : Leads (sent_kind pair ∷ []) out out_now
  out_begun = rw begun.sends_kind (byte_leads (sent_kind pair) (omega (arith, begun.some, begun.rooms.rooms.for_output)))

  remainder_begun : Leads (4 ∷ []) remainder left_now
  remainder_begun = byte_leads 4 (omega (arith, begun.rooms.left_room))

  given_begun : Leads (given_kind pair ∷ []) given given_now
  given_begun = rw begun.gives_kind (byte_leads (given_kind pair) begun.some)

  pub first_rooms : NodeRooms l (part 1 out_now) (part 1 left_now) (part 1 given_now)
  first_rooms =
      record {
        few = omega (arith, begun.rooms.few, counted);
        rooms =
            record {
              for_type = omega (arith, begun.rooms.rooms.for_type, leads_room given_begun 1);
              for_output = omega (arith, begun.some, begun.rooms.rooms.for_output, leads_room given_begun 1, leads_room out_begun 1);
            };
        left_room = omega (arith, begun.rooms.left_room, counted, leads_room remainder_begun 1);
      }

  -- The first node was fed, and the parts have come back.

  abbrev FirstAnswer : (one_out one_left one_given : List ℕ) → Option Step → Type 0
  FirstAnswer = NodeAnswers (node_width l) s l p (part 1 out_now) (part 1 left_now) (part 1 given_now)

  module _ {one_out one_left one_given : List ℕ} where
    -- If it fails, both fail.
    pub first_fails : FirstAnswer one_out one_left one_given None → {out_end remainder_end given_end : List ℕ} → Answer out_end remainder_end given_end None
    first_fails first =
        failed
        (λ t typed fits.
        has_failed first typed.first typed.first_typed
        (omega (arith, fits, ap size typed.made, (pairs pair).sized typed.first typed.second, leads_room given_begun 1)))

    -- It has answered with a step.
    module _ {step : Step} (first : FirstAnswer one_out one_left one_given (Some step)) where
      pub gave : Gave (WellTyped s l) (node_width l) first_sent first_left (part 1 out_now) (part 1 left_now) (part 1 given_now) one_out one_left one_given step
      gave = was_fed first

      abbrev out_then : List ℕ
      out_then = back 1 out_now one_out

      abbrev left_then : List ℕ
      left_then = back 1 left_now one_left

      abbrev given_then : List ℕ
      given_then = back 1 given_now one_given

      -- What stands in the work bytes once the first node is fed.

      output : LeadsBy (sent_kind pair ∷ prefix_bytes first_sent []) out out_then (1 + step.sent)
      output = written_on out_begun refl gave.steps.output (gave.steps.sent ∙ width_is first_sent) refl

      node_left : LeadsBy (4 ∷ node_bytes first_left []) remainder left_then (1 + step.kept)
      node_left = written_on remainder_begun refl gave.steps.node_left gave.steps.kept refl

      type_given : LeadsBy (given_kind pair ∷ type_bytes gave.type []) given given_then (1 + step.size)
      type_given = written_on given_begun refl gave.steps.type_given (gave.steps.sized ∙ sym (type_width gave.type)) refl

      pub out_taken : Taken out out_then (1 + step.sent)
      out_taken = taken output

      pub left_taken : Taken remainder left_then (1 + step.kept)
      left_taken = taken node_left

      pub given_taken : Taken given given_then (1 + step.size)
      given_taken = taken type_given

      -- It is known where the second node's remainder starts.
      module _ {left : ℕ} (restarts : left ≡ kept_before pair step.kept) where
        kept : Stays pair first_left left remainder left_then
        kept = rw restarts (stays pair step.kept node_left)

        pub left_inside : left ≤ length left_then
        left_inside = (taken kept.written).has_room

        pub second_rooms : NodeRooms m (part (1 + step.sent) out_then) (part left left_then) (part (1 + step.size) given_then)
        second_rooms =
            record {
              few = omega (arith, begun.rooms.few, counted);
              rooms =
                  record {
                    for_type = omega (arith, begun.rooms.rooms.for_type, leads_room type_given.leads (1 + step.size));
                    for_output =
                        omega (
                          arith,
                          begun.rooms.rooms.for_output,
                          given_taken,
                          gave.steps.sent,
                          gave.steps.sized,
                          sent_within gave.gives begun.first_fits,
                          leads_room output.leads (1 + step.sent),
                          leads_room type_given.leads (1 + step.size),
                        );
                  };
              left_room =
                  omega (arith, begun.rooms.left_room, counted, kept.short, left_width gave.gives begun.first_fits, leads_room kept.written.leads left);
            }

        -- The second node was fed, on the parts behind.

        abbrev SecondAnswer : (two_out two_left two_given : List ℕ) → Option Step → Type 0
        SecondAnswer =
            NodeAnswers (node_width m) r m q (part (1 + step.sent) out_then) (part left left_then) (part (1 + step.size) given_then)

        module _ {two_out two_left two_given : List ℕ} where
          pub second_fails : SecondAnswer two_out two_left two_given None → {out_end remainder_end given_end : List ℕ} → Answer out_end remainder_end given_end None
          second_fails second =
              failed
              (λ t typed fits.
              has_failed second typed.second typed.second_typed
              (omega (
                arith,
                fits,
                ap size typed.made,
                (pairs pair).sized typed.first typed.second,
                one_size gave.gives typed.first_typed,
                gave.steps.sized,
                leads_room type_given.leads (1 + step.size),
              )))

          -- Both have answered with a step.
          module _ {rest : Step} (second : SecondAnswer two_out two_left two_given (Some rest)) where
            pub gave_rest : Gave (WellTyped r m) (node_width m) second_sent second_left (part (1 + step.sent) out_then) (part left left_then)
                (part (1 + step.size) given_then) two_out two_left two_given rest
            gave_rest = was_fed second

            sent_both : LeadsBy (prefix_bytes (pair_sent pair first_sent second_sent) []) out (back (1 + step.sent) out_then two_out) (1 + step.sent + rest.sent)
            sent_both =
                written_on output.leads output.long gave_rest.steps.output (gave_rest.steps.sent ∙ width_is second_sent)
                ((pairs pair).sent first_sent second_sent)

            node_both : LeadsBy (node_bytes (pair_left pair first_left second_left) []) remainder (back left left_then two_left) (left + rest.kept)
            node_both =
                written_on kept.written.leads kept.written.long gave_rest.steps.node_left gave_rest.steps.kept (kept.whole second_left)

            abbrev both_given : Ty
            both_given = pair_given pair gave.type gave_rest.type

            type_both : LeadsBy (type_bytes both_given []) given (back (1 + step.size) given_then two_given) (1 + step.size + rest.size)
            type_both =
                written_on type_given.leads type_given.long gave_rest.steps.type_given
                (gave_rest.steps.sized ∙ sym (type_width gave_rest.type)) ((pairs pair).given gave.type gave_rest.type)

            pub out_full : 1 + step.sent + rest.sent ≤ length out
            out_full = (taken sent_both).had_room

            pub left_full : left + rest.kept ≤ length remainder
            left_full = (taken node_both).had_room

            pub given_full : 1 + step.size + rest.size ≤ length given
            given_full = (taken type_both).had_room

            pub end_both : 1 + step.end + rest.end ≡ node_width n
            end_both = omega (arith, gave.steps.ends, gave_rest.steps.ends, wide)

            abbrev after : Step
            after =
                record {
                  end = 1 + step.end + rest.end;
                  sent = 1 + step.sent + rest.sent;
                  kept = left + rest.kept;
                  size = 1 + step.size + rest.size;
                }

            pub both_fed : Answer (back (1 + step.sent) out_then two_out) (back left left_then two_left) (back (1 + step.size) given_then two_given) (Some after)
            both_fed =
                let typed : PairTyped pair s r l m both_given
                = record { first = gave.type; second = gave_rest.type; first_typed = gave.gives; second_typed = gave_rest.gives; made = refl } in
                let steps : Steps (node_width n) (pair_sent pair first_sent second_sent) (pair_left pair first_left second_left) both_given
                out remainder given (back (1 + step.sent) out_then two_out) (back left left_then two_left) (back (1 + step.size) given_then two_given) after
                = record {
                  ends = end_both;
                  sent = sent_both.long ∙ sym (width_is (pair_sent pair first_sent second_sent));
                  kept = node_both.long;
                  sized = type_both.long ∙ type_width both_given;
                  output = sent_both.leads;
                  node_left = node_both.leads;
                  type_given = type_both.leads;
                } in
                fed typed steps
