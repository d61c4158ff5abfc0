-- `send` meets its contract: the step writes what is sent and the node left on work bytes that have room for every answer. What is sent is
-- counted, both counts are added to the totals, and if these are held all goes on to `write_both`; if the step fails, Check's second pass
-- has a fault (`FeedOutcome`).
use Rattle.std.proofs.Common.{◌≡◌, refl, sym, ◌∙◌, ap, arith, rules}
use Rattle.std.proofs.Math.Seq.{length-take-le}
use Rattle.stream.proofs.TypeFiles.Held.{is_whole, is_small}
use Rattle.stream.proofs.SliceFiles.Held.{is_whole as slice_whole, is_fit, has_prefix}
use Rattle.stream.specs.Prefixes.{arrivals}
use Rattle.stream.specs.Reading.{refused}
use Rattle.wosthile.proofs.FeedOutcome.{refusal_delivers, step_rooms, step_failed, Done, done, output, both_due, both_told, passed_told}
use Rattle.wosthile.proofs.TotalsAdded.{totals_eight, of_all}
use Rattle.wosthile.proofs.send.Goals.{In-Some, After-arrivals-went}
use Rattle.wosthile.proofs.send.Goals as goal

-- What the step has done, once it has answered, and how much was sent.

is_done : (c : In-Some) → Done c.args.read c.feed_node.new.out c.feed_node.new.remainder c.feed_node.new.given c.in-Some.step
is_done c = done c.args.read (omega arith) c.feed_node.ensures c.in-Some.is

went_is : (c : After-arrivals-went) → Done c.args.read c.feed_node.new.out c.feed_node.new.remainder c.feed_node.new.given c.in-Some.step
    → c.arrivals-went.result ≡ arrivals (output c.args.read)
went_is c made = c.arrivals-went.ensures ∙ ap arrivals (has_prefix made.sent_held)

pub feed_node-requires : goal.feed_node-requires
feed_node-requires c = step_rooms c.args.read (omega arith) c.requires (omega arith)

pub slice_bounds-given-end : goal.slice_bounds-given-end
slice_bounds-given-end c = (is_done (goal.at.slice_bounds-given-end c).In-Some).type_here.inside

pub slice_bounds-output-end : goal.slice_bounds-output-end
slice_bounds-output-end c = (is_done (goal.at.slice_bounds-output-end c).In-Some).type_here.long

pub slice_bounds-output-end-2 : goal.slice_bounds-output-end-2
slice_bounds-output-end-2 c = sym (length-take-le _ _ (is_done (goal.at.slice_bounds-output-end-2 c).In-Some).sent_inside)

pub slice_bounds-sent-end : goal.slice_bounds-sent-end
slice_bounds-sent-end c = (is_done (goal.at.slice_bounds-sent-end c).In-Some).sent_inside

pub invariant_of-output : goal.invariant_of-output
invariant_of-output c =
    let h = (is_done (goal.at.invariant_of-output c).In-Some).type_here.holds in
    record { whole = is_whole h; small = is_small h }

pub invariant_of-output-2 : goal.invariant_of-output-2
invariant_of-output-2 c =
    let h = (is_done (goal.at.invariant_of-output-2 c).In-Some).sent_held in
    record { whole = slice_whole h; is_prefix = is_fit h }

pub slice_bounds-write_both-end : goal.slice_bounds-write_both-end
slice_bounds-write_both-end c = (is_done (goal.at.slice_bounds-write_both-end c).In-Some).nodes_inside

pub slice_bounds-write_both-end-2 : goal.slice_bounds-write_both-end-2
slice_bounds-write_both-end-2 c = sym (length-take-le _ _ (is_done (goal.at.slice_bounds-write_both-end-2 c).In-Some).nodes_inside)

-- Of the totals the last eight bytes are all.
pub add_counts-requires-clause-has_totals : goal.add_counts-requires-clause-has_totals
add_counts-requires-clause-has_totals c = omega (arith, totals_eight c.args.read.patch.are_totals)

pub write_both-requires : goal.write_both-requires
write_both-requires c =
    let at = goal.at.write_both-requires c in
    let made = is_done at.In-Some in
    both_due c.args.read made (went_is at.After-arrivals-went made) (of_all c.args.read.patch.are_totals _ _ c.add_counts.ensures) c.in_ok-add_counts.was

pub returns-in_default : goal.returns-in_default
returns-in_default c =
    refusal_delivers _ _ _ refl (step_failed c.args.read (omega arith) c.feed_node.ensures _ c.in_default.is ∙ ap refused (sym c.first_fault.ensures))

pub returns-in_err-add_counts : goal.returns-in_err-add_counts
returns-in_err-add_counts c =
    let at = goal.at.returns-in_err-add_counts c in
    let made = is_done at.In-Some in
    passed_told c.args.read made (went_is at.After-arrivals-went made) (of_all c.args.read.patch.are_totals _ _ c.add_counts.ensures) _ _
    c.in_err-add_counts.field-0.0 (search rules) c.in_err-add_counts.was

pub returns : goal.returns
returns c =
    let at = goal.at.returns c in
    let made = is_done at.In-Some in
    both_told c.args.read made (went_is at.After-arrivals-went made) (of_all c.args.read.patch.are_totals _ _ c.add_counts.ensures) c.in_ok-add_counts.was c.write_both.ensures
