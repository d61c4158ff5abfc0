-- Behind the kinds stand the first parts, and behind these the second.
use Rattle.stream.proofs.SliceFiles.Held.{has_prefix, is_whole, is_fit}
use Rattle.reading.proofs.InputViews.{first_held, second_held}
use Rattle.reading.proofs.inputs.Input.halves.Goals as goal

pub invariant_of-result : goal.invariant_of-result
invariant_of-result c =
    rw c.parts.ensures.first (let h = first_held c.args.self c.requires c.first_stop-stop.ensures in record { whole = is_whole h; is_prefix = is_fit h })

pub invariant_of-result-2 : goal.invariant_of-result-2
invariant_of-result-2 c =
    rw c.parts.ensures.second (let h = second_held c.args.self c.requires c.first_stop-stop.ensures in record { whole = is_whole h; is_prefix = is_fit h })

pub returns-clause-first : goal.returns-clause-first
returns-clause-first c = rw c.parts.ensures.first (has_prefix (first_held c.args.self c.requires c.first_stop-stop.ensures))

pub returns-clause-second : goal.returns-clause-second
returns-clause-second c = rw c.parts.ensures.second (has_prefix (second_held c.args.self c.requires c.first_stop-stop.ensures))
