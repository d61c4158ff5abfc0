-- The type says where a crossed part ends, unless a choice decides, and `skip_prefix` where any does.
use Rattle.std.proofs.Common.{sym, ◌∙◌}
use Rattle.reading.proofs.InputViews.{kind_is, first_there, stops, crossed_there, crossed_stops}
use Rattle.reading.proofs.inputs.Input.first_stop.Goals as goal

pub skip_complete-requires : goal.skip_complete-requires
skip_complete-requires c = crossed_there c.args.self c.requires.two c.args.first c.requires.first (sym (kind_is c.args.self) ∙ c.if-self-eq6.true)

pub returns-then-self-eq6 : goal.returns-then-self-eq6
returns-then-self-eq6 c =
    crossed_stops c.args.self c.requires.two c.args.first c.requires.first (sym (kind_is c.args.self) ∙ c.if-self-eq6.true) c.skip_complete.ensures

pub skip_prefix-requires : goal.skip_prefix-requires
skip_prefix-requires c = first_there c.args.self c.requires.two

pub returns : goal.returns
returns c = stops c.args.self c.requires.two c.skip_prefix.ensures
