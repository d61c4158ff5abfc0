-- Each kind says how the type and the prefix are made of their parts.
use Rattle.std.proofs.Common.{sym, ◌∙◌}
use Rattle.reading.proofs.PrefixCuts.{coming_is, crossing_is, sides_is, unchosen_is, first_is, second_is}
use Rattle.reading.proofs.InputViews.{by_kind}
use Rattle.reading.proofs.inputs.Input.parts.Goals as goal

pub parts-requires : goal.parts-requires
parts-requires c = (coming_is (by_kind c.args.self (sym c.kind.ensures ∙ c.in-5.is))).0.0

pub only-requires-clause-of_part : goal.only-requires-clause-of_part
only-requires-clause-of_part c = rw c.parts.ensures.first (coming_is (by_kind c.args.self (sym c.kind.ensures ∙ c.in-5.is))).1

pub returns-in-5 : goal.returns-in-5
returns-in-5 c = let h = coming_is (by_kind c.args.self (sym c.kind.ensures ∙ c.in-5.is)) in (cc, cc)

pub returns-in-6 : goal.returns-in-6
returns-in-6 c = let h = crossing_is (by_kind c.args.self (sym c.kind.ensures ∙ c.in-6.is)) in (cc, cc, cc)

pub returns-in-7 : goal.returns-in-7
returns-in-7 c = let h = sides_is (by_kind c.args.self (sym c.kind.ensures ∙ c.in-7.is)) in (cc, cc)

pub parts-requires-in-8 : goal.parts-requires-in-8
parts-requires-in-8 c = (unchosen_is (by_kind c.args.self (sym c.kind.ensures ∙ c.in-8.is))).0.0

pub returns-in-8 : goal.returns-in-8
returns-in-8 c = let h = unchosen_is (by_kind c.args.self (sym c.kind.ensures ∙ c.in-8.is)) in (cc, cc)

pub parts-requires-in-9 : goal.parts-requires-in-9
parts-requires-in-9 c = (first_is (by_kind c.args.self (sym c.kind.ensures ∙ c.in-9.is))).0.0

pub only-requires-in-9-clause-of_part : goal.only-requires-in-9-clause-of_part
only-requires-in-9-clause-of_part c = rw c.parts-in-9.ensures.first (first_is (by_kind c.args.self (sym c.kind.ensures ∙ c.in-9.is))).1

pub returns-in-9 : goal.returns-in-9
returns-in-9 c = let h = first_is (by_kind c.args.self (sym c.kind.ensures ∙ c.in-9.is)) in (cc, cc)

pub parts-requires-in-10 : goal.parts-requires-in-10
parts-requires-in-10 c = (second_is (by_kind c.args.self (sym c.kind.ensures ∙ c.in-10.is))).0.0

pub only-requires-in-10-clause-of_part : goal.only-requires-in-10-clause-of_part
only-requires-in-10-clause-of_part c = rw c.parts-in-10.ensures.second (second_is (by_kind c.args.self (sym c.kind.ensures ∙ c.in-10.is))).1

pub returns-in-10 : goal.returns-in-10
returns-in-10 c = let h = second_is (by_kind c.args.self (sym c.kind.ensures ∙ c.in-10.is)) in (cc, cc)
