-- What Feed comes to, by its readers, and what it has to write.
use mathlib.Core.Path.{◌≡◌, refl, sym, ap, ◌∙◌}
use mathlib.Core.Bool.{Bool, true, false}
use mathlib.Core.List.{List, []}
use Prim.Native.Nat.{ℕ, ◌*◌, ◌≤◌, ◌<◌}
use native.Mathlib.Omega.{arith}
use lib.ListN.{length, take}
use lib.Seq.{length-take-le}
use Rattle.std.specs.Prelude.{None, Option, Some, Result, Ok, Err}
use Rattle.std.proofs.Common.{subst}
use Rattle.stream.specs.declared.Fault.{Fault}
use Rattle.stream.specs.declared.Fault.TheVariants.{TotalTooLarge}
use Rattle.stream.specs.Types.{Ty}
use Rattle.stream.proofs.Types.Laws.{limit_is}
use Rattle.stream.specs.Prefixes.{Prefix, IsPrefix, arrivals, derivative}
use Rattle.stream.proofs.Prefixes.Laws.{derivative-size}
use Rattle.stream.specs.Reading.{Result as Outcome, accepted, refused, go_on, require}
use Rattle.stream.proofs.TypeFiles.Held.{Holds, has_tree}
use Rattle.stream.specs.SliceFiles.{prefix_bytes, slice_file, slice_file_bytes}
use Rattle.stream.proofs.SliceFiles.Held.{Holds as HoldsPrefix}
use Rattle.stream.specs.Bounds.{slice_file_limit, twice_node_bytes, node_bytes_limit}
use Rattle.reading.specs.TypeReads.Laws.{type_width}
use Rattle.reading.specs.SliceReads.Laws.{prefix_bytes_length}
use Rattle.stream.specs.TypeFiles.{type_bytes, type_of}
use Rattle.reading.specs.InputViews.{type, prefix}
use Rattle.reading.proofs.InputViews.{is_prefix}
use Rattle.node.specs.Totals.{held}
use Rattle.node.specs.Nodes.{Patch, count, node_limit}
use Rattle.node.proofs.Nodes.Laws.{output_small}
use Rattle.node.specs.Feeding.Functions.{sends, leaves, patch_left}
use Rattle.node.proofs.Feeding.Laws.{preserved}
use Rattle.node.specs.Checking.{typing, WellTyped}
use Rattle.node.proofs.Checking.Laws.{typing_sound, typing-complete}
use Rattle.node.specs.PatchFiles.{Checked, node_bytes, patch_file_bytes, first_pass, second_pass, patch_file}
use Rattle.patch_reading.specs.PatchReads.Laws.{count_within}
use Rattle.patch_reading.specs.PatchReads.{node_width}
use Rattle.patch_reading.specs.Found.{totals_of}
use Rattle.patch_reading.specs.PatchViews.{patch}
use Rattle.patch_reading.proofs.PatchFacts.{few, node_wide}
use Rattle.leaf_feeding.specs.declared.Step.{Step}
use Rattle.leaf_feeding.specs.Steps.{NodeAnswers}
use Rattle.leaf_feeding.specs.Steps.Laws.{leads_inside, leads_taken, left_width, was_fed, has_failed}
use Rattle.feeding.specs.Feeds.{NodeRooms}
use Rattle.meaning.specs.declared.Fed.{Fed}
use Rattle.meaning.specs.declared.Delivered.{Delivered}
use Rattle.meaning.specs.Answers.{FedFiles, takes_slice, feed, with_room, fed, after, fed_files}
use Rattle.meaning.specs.Told.{told_delivered}
use Rattle.meaning.specs.Promises.{FeedPromise}
use Rattle.wosthile.specs.declared.Feeding.{Feeding}
use Rattle.wosthile.specs.Delivering.{first_fault, fed_by, Delivers}
use Rattle.wosthile.specs.PatchWriting.{BothDue, BothWritten}
use Rattle.wosthile.specs.TotalsLeft.{counted, Sums}
use Rattle.wosthile.proofs.Keeping.{InFront, in_front}
use Rattle.wosthile.proofs.TotalsAdded.{is_held, has_passed}

pub refusal_delivers : {outcome : Outcome FedFiles} (output patch_lent : List ℕ) (e : Fault) {answer : Result Delivered Fault} → answer ≡ Err e
    → outcome ≡ refused e → Delivers outcome output patch_lent (told_delivered answer) output patch_lent
unfolding with_room fed after
refusal_delivers output patch_lent e told_is h = rw told_is (record { answers = rw h; output_buffer = rw h; patch_buffer = rw h })

-- What both readers find is what Feed comes to.

pub as_promised : {file slice : List ℕ} {outcome : Outcome FedFiles} {output patch_lent output_after patch_after : List ℕ} {answer : Fed}
    → feed file slice ≡ outcome → Delivers outcome output patch_lent answer output_after patch_after
    → FeedPromise file slice output patch_lent answer output_after patch_after
as_promised h told = record { answers = rw h told.answers; output_buffer = rw h told.output_buffer; patch_buffer = rw h told.patch_buffer }

pub patch_unread : (file slice : List ℕ) {e : Fault} → refused e ≡ first_pass file → feed file slice ≡ refused e
unfolding feed patch_file
patch_unread file slice h = rw (← h)

-- The patch is typed.
abbrev typed_as : Patch → Outcome Ty → Outcome Checked
typed_as a g = go_on g (λ t. accepted (record { patch = a; output = t }))

module _ (file slice : List ℕ) {a : Patch} (read : accepted a ≡ first_pass file) where
  pub slice_unread : {e : Fault} → slice_file a.input slice ≡ refused e → feed file slice ≡ refused (first_fault (typing a.input a.node) e)
  unfolding feed patch_file second_pass takes_slice
  slice_unread {e} h = rw (← read) (go (typing a.input a.node))
    where
      go : (g : Outcome Ty)
          → go_on (typed_as a g) (λ c. go_on (takes_slice c.patch slice) (λ p. accepted (fed_files c.patch p))) ≡ refused (first_fault g e)
      go (accepted t) = rw h
      go (refused first) = refl

  pub both_read : {p : Prefix} → slice_file a.input slice ≡ accepted p → feed file slice ≡ fed_by a p
  unfolding feed patch_file second_pass takes_slice fed_by
  both_read {p} h = rw (← read) (go (typing a.input a.node))
    where
      within : (b : Bool) → go_on (require b TotalTooLarge (accepted p)) (λ q. accepted (fed_files a q)) ≡ require b TotalTooLarge (accepted (fed_files a p))
      within true = refl
      within false = refl

      go : (g : Outcome Ty)
          → go_on (typed_as a g) (λ c. go_on (takes_slice c.patch slice) (λ q. accepted (fed_files c.patch q)))
          ≡ go_on g (λ t. require (held (patch_left a p).totals) TotalTooLarge (accepted (fed_files a p)))
      go (accepted t) = rw h (within (held (patch_left a p).totals))
      go (refused first) = refl

-- The counts told are those of the files.
counts_are : {sent input nodes totals output patch_lent output_after patch_after : List ℕ} {came went arrived gone : ℕ} {answer : Fed}
    → came ≡ arrived → went ≡ gone → (due : BothDue sent input nodes totals)
    → BothWritten sent input nodes totals came went output patch_lent answer output_after patch_after
    → Delivers (accepted (record { output = slice_file_bytes due.output; patch = patch_file_bytes due.patch; arrived = arrived; sent = gone }))
    output patch_lent answer output_after patch_after
counts_are a b due wrote = rw (a, b) at (wrote.each due)

module _ (read : Feeding) where
  abbrev a : Patch
  a = patch read.patch

  abbrev p : Prefix
  p = prefix read.slice

  same_type : type read.slice ≡ a.input
  same_type = ap type_of read.of_type

  of_input : IsPrefix a.input p
  of_input = subst (λ (t : Ty). IsPrefix t p) same_type (is_prefix read.slice)

  few_nodes : count a.node ≤ 63
  unfolding node_limit
  few_nodes = few read.patch

  -- Up to 15 nodes leave at most 2,055 bytes, and all of them 8,223.

  pub few_room : length read.patch.node.bytes.now < 16 → twice_node_bytes (count a.node) ≤ 2 * 2055
  few_room short = omega (arith, node_wide read.patch, count_within a.node)

  pub nodes_room : twice_node_bytes (count a.node) ≤ 2 * node_bytes_limit
  nodes_room = omega (arith, few_nodes)

  -- The work arrays have room for every type and every prefix.
  pub step_rooms : {sent nodes given : List ℕ} → slice_file_limit ≡ length sent → twice_node_bytes (count a.node) ≤ 2 * length nodes
      → 255 ≡ length given → NodeRooms a.node sent nodes given
  step_rooms s n g =
      record { few = few read.patch; rooms = record { for_type = omega (arith, g, limit_is); for_output = omega (arith, s, g) }; left_room = n }

  pub left_small : length read.left.now ≤ 255
  left_small =
      let long = ap length read.left_is ∙ type_width (derivative a.input p) in
      omega (arith, long, derivative-size of_input, read.patch.input.small, limit_is)

  -- What the step answers, on the type that the patch takes.
  on_input : {sent nodes given sent_after nodes_after given_after : List ℕ} {answer : Option Step}
      → NodeAnswers (node_width a.node) (type read.slice) a.node p sent nodes given sent_after nodes_after given_after answer
      → NodeAnswers (node_width a.node) a.input a.node p sent nodes given sent_after nodes_after given_after answer
  on_input {sent} {nodes} {given} {sent_after} {nodes_after} {given_after} {answer} answers =
      subst (λ (t : Ty). NodeAnswers (node_width a.node) t a.node p sent nodes given sent_after nodes_after given_after answer) same_type answers

  module _ {sent nodes given sent_after nodes_after given_after : List ℕ} {answer : Option Step} (long : 255 ≡ length given)
      (answers : NodeAnswers (node_width a.node) (type read.slice) a.node p sent nodes given sent_after nodes_after given_after answer) where
    -- It has failed: then Check's second pass refuses the patch, for there was room for every type.
    pub step_failed : (fault : Fault) → answer ≡ None → fed_by a p ≡ refused (first_fault (typing a.input a.node) fault)
    unfolding fed_by
    step_failed fault failed = go (typing a.input a.node) refl
      where
        go : (g : Outcome Ty) → typing a.input a.node ≡ g
            → go_on g (λ t. require (held (patch_left a p).totals) TotalTooLarge (accepted (fed_files a p))) ≡ refused (first_fault g fault)
        go (accepted t) e =
            let well = typing_sound a.input a.node t read.patch.node.front.carries e in
            absurd (has_failed (rw failed at (on_input answers)) t well (omega (arith, long, output_small well.types well.fits, limit_is)))
        go (refused first) e = refl

  -- It is done: what is sent, the node left and the type given stand in front of the work arrays.

  abbrev next : Patch
  next = patch_left a p

  abbrev pub output : Prefix
  output = sends a.input a.node p

  pub record Done (sent nodes given : List ℕ) (step : Step) : Type 0 where
    pub type : Ty
    pub typed : WellTyped a.input a.node type
    pub type_here : InFront type given step.size
    pub sent_inside : step.sent ≤ length sent
    pub sent_small : step.sent ≤ slice_file_limit
    pub sent_held : HoldsPrefix (type_of (take step.size given)) (take step.sent sent) output
    pub nodes_inside : step.kept ≤ length nodes
    pub nodes_small : step.kept ≤ node_bytes_limit
    pub nodes_taken : take step.kept nodes ≡ node_bytes (leaves a.input a.node p) []

  pub done : {sent nodes given sent_after nodes_after given_after : List ℕ} {answer : Option Step} {step : Step} → slice_file_limit ≡ length sent
      → NodeAnswers (node_width a.node) (type read.slice) a.node p sent nodes given sent_after nodes_after given_after answer
      → answer ≡ Some step → Done sent_after nodes_after given_after step
  done {sent} {nodes} {given} {sent_after} {nodes_after} {given_after} {answer} {step} long answers some =
      let gave = was_fed (rw some at (on_input answers)) in
      let steps = gave.steps in
      let typed = gave.gives in
      let sent_long : step.sent ≡ length (prefix_bytes output [])
      = omega (arith, steps.sent, prefix_bytes_length output []) in
      let sized : step.size ≡ length (type_bytes gave.type []) = omega (arith, steps.sized, type_width gave.type) in
      let holds : Holds (take step.size given_after) gave.type
      = record { bytes = leads_taken steps.type_given sized; small = output_small typed.types typed.fits } in
      record {
        type = gave.type;
        typed = typed;
        type_here = in_front (omega (arith, sized, leads_inside steps.type_given, steps.type_given.long)) holds;
        sent_inside = omega (arith, sent_long, leads_inside steps.output, steps.output.long);
        sent_small = omega (arith, long, sent_long, leads_inside steps.output);
        sent_held =
            rw (has_tree holds)
            (record { bytes = leads_taken steps.output sent_long; is = (preserved typed.types of_input).sent; small = holds.small });
        nodes_inside = omega (arith, steps.kept, leads_inside steps.node_left, steps.node_left.long);
        nodes_small = omega (arith, steps.kept, left_width typed of_input, few_nodes);
        nodes_taken = leads_taken steps.node_left steps.kept;
      }

  module _ {sent nodes given : List ℕ} {step : Step} (is_done : Done sent nodes given step) where
    -- Feed is accepted where the totals left are held, and refused with 31 where they are not.

    fed_is : held next.totals ≡ true → fed_by a p ≡ accepted (fed_files a p)
    unfolding fed_by
    fed_is h = let typed = is_done.typed in rw (typing-complete typed.types typed.fits, h)

    passes : held next.totals ≡ false → fed_by a p ≡ refused TotalTooLarge
    unfolding fed_by
    passes h = let typed = is_done.typed in rw (typing-complete typed.types typed.fits, h)

    module _ {went : ℕ} {totals : List ℕ} {answer : Result (Unit {0}) Fault} (went_is : went ≡ arrivals output)
        (sums : Sums (counted (totals_of read.patch.totals.now) read.arrived went) totals answer) where
      -- The totals that were added up are those of the patch left.
      pub totals_left : Sums next.totals totals answer
      totals_left = rw (read.arrived_is, went_is) at sums

      -- What is sent and the parts of the patch left, on the work bytes.
      abbrev pub both_due : answer ≡ Ok tt → BothDue (take step.sent sent) read.left.now (take step.kept nodes) totals
      both_due fit =
          let sent_long : length (take step.sent sent) ≡ step.sent = length-take-le step.sent sent is_done.sent_inside in
          let nodes_long : length (take step.kept nodes) ≡ step.kept = length-take-le step.kept nodes is_done.nodes_inside in
          record {
            output = output;
            patch = next;
            sent_is = is_done.sent_held.bytes;
            short = omega (arith, sent_long, is_done.sent_small);
            bytes =
                record {
                  input_is = read.left_is;
                  nodes_are = is_done.nodes_taken;
                  totals_are = totals_left.bytes fit;
                  small = left_small;
                  countable = omega (arith, nodes_long, is_done.nodes_small);
                };
          }

      pub both_told : {out lent out_after lent_after : List ℕ} {told : Fed} → answer ≡ Ok tt
          → BothWritten (take step.sent sent) read.left.now (take step.kept nodes) totals read.arrived went out lent told out_after lent_after
          → Delivers (fed_by a p) out lent told out_after lent_after
      both_told fit wrote =
          rw (fed_is (is_held next.totals totals_left.told fit)) (counts_are read.arrived_is went_is (both_due fit) wrote)

      pub passed_told : (out lent : List ℕ) (e : Fault) {told : Result Delivered Fault} → told ≡ Err e → answer ≡ Err e
          → Delivers (fed_by a p) out lent (told_delivered told) out lent
      passed_told out lent e told_is over =
          let passed = has_passed next.totals totals_left.told over in
          refusal_delivers out lent e told_is (passes passed.0 ∙ ap refused (sym passed.1))
