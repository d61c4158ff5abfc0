-- What stands behind the kind byte is the first part, and behind that the second.
use Rattle.stream.proofs.TypeFiles.Held.{has_tree, is_whole, is_small}
use Rattle.reading.proofs.TypeViews.{first_held, second_held}
use Rattle.reading.proofs.types.TypeView.parts.Goals as goal

pub invariant_of-result : goal.invariant_of-result
invariant_of-result c = let h = first_held c.args.self c.requires c.first_end-end.ensures in record { whole = is_whole h; small = is_small h }

pub invariant_of-result-2 : goal.invariant_of-result-2
invariant_of-result-2 c = let h = second_held c.args.self c.requires c.first_end-end.ensures in record { whole = is_whole h; small = is_small h }

pub returns-clause-first : goal.returns-clause-first
returns-clause-first c = has_tree (first_held c.args.self c.requires c.first_end-end.ensures)

pub returns-clause-second : goal.returns-clause-second
returns-clause-second c = has_tree (second_held c.args.self c.requires c.first_end-end.ensures)
