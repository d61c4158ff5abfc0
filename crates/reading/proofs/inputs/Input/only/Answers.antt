-- Behind its kind the prefix has the bytes of its part.
use Rattle.stream.proofs.SliceFiles.Held.{has_prefix, is_whole, is_fit}
use Rattle.reading.proofs.InputViews.{only_held}
use Rattle.reading.proofs.inputs.Input.only.Goals as goal

pub invariant_of-result : goal.invariant_of-result
invariant_of-result c = let h = only_held c.args.self c.requires.one c.requires.of_part c.args.ty.small in record { whole = is_whole h; is_prefix = is_fit h }

pub returns-clause-of_prefix : goal.returns-clause-of_prefix
returns-clause-of_prefix c = has_prefix (only_held c.args.self c.requires.one c.requires.of_part c.args.ty.small)
