-- Two kind bytes tell the shape; s stands behind them, t where s ends, and r from where t ends to the end of the whole.
use Rattle.std.proofs.Common.{arith}
use Rattle.stream.proofs.TypeFiles.Held.{has_tree, is_whole, is_small}
use Rattle.reading.proofs.NestedTypes.{kind_inside, not_nested, is_nested, some_s, some_t, second_is, third_is, r_is, s_held, t_held, r_held}
use Rattle.reading.proofs.types.TypeView.nested_in_first.Goals as goal

pub bounds-self-1 : goal.bounds-self-1
bounds-self-1 c = kind_inside c.args.self (omega arith)

pub returns-then-self-ne3 : goal.returns-then-self-ne3
returns-then-self-ne3 c = not_nested c.args.self (omega arith) c.if-self-ne3.true

pub skip_type-second-requires : goal.skip_type-second-requires
skip_type-second-requires c = some_s c.args.self (omega arith) c.if-self-ne3.false

pub skip_type-third-requires : goal.skip_type-third-requires
skip_type-third-requires c = some_t c.args.self (omega arith) c.if-self-ne3.false c.skip_type-second.ensures

pub slice_bounds-result-count : goal.slice_bounds-result-count
slice_bounds-result-count c = omega (arith, second_is c.args.self (omega arith) c.if-self-ne3.false c.skip_type-second.ensures)

pub slice_bounds-result-start : goal.slice_bounds-result-start
slice_bounds-result-start c = omega (arith, second_is c.args.self (omega arith) c.if-self-ne3.false c.skip_type-second.ensures)

pub slice_bounds-result-end : goal.slice_bounds-result-end
slice_bounds-result-end c =
    let s = second_is c.args.self (omega arith) c.if-self-ne3.false c.skip_type-second.ensures in
    let t = third_is c.args.self (omega arith) c.if-self-ne3.false c.skip_type-second.ensures c.skip_type-third.ensures in
    omega (arith, s, t, r_is c.args.self (omega arith) c.if-self-ne3.false c.skip_type-second.ensures c.skip_type-third.ensures)

pub slice_bounds-result-count-2 : goal.slice_bounds-result-count-2
slice_bounds-result-count-2 c = omega (arith, third_is c.args.self (omega arith) c.if-self-ne3.false c.skip_type-second.ensures c.skip_type-third.ensures)

pub slice_bounds-result-start-2 : goal.slice_bounds-result-start-2
slice_bounds-result-start-2 c = omega (arith, third_is c.args.self (omega arith) c.if-self-ne3.false c.skip_type-second.ensures c.skip_type-third.ensures)

pub slice_bounds-result-end-2 : goal.slice_bounds-result-end-2
slice_bounds-result-end-2 c = omega (arith, r_is c.args.self (omega arith) c.if-self-ne3.false c.skip_type-second.ensures c.skip_type-third.ensures)

pub invariant_of-result : goal.invariant_of-result
invariant_of-result c =
    let h = s_held c.args.self (omega arith) c.if-self-ne3.false c.skip_type-second.ensures in
    record { whole = is_whole h; small = is_small h }

pub invariant_of-result-2 : goal.invariant_of-result-2
invariant_of-result-2 c =
    let h = t_held c.args.self (omega arith) c.if-self-ne3.false c.skip_type-second.ensures c.skip_type-third.ensures in
    record { whole = is_whole h; small = is_small h }

pub invariant_of-result-3 : goal.invariant_of-result-3
invariant_of-result-3 c =
    let h = r_held c.args.self (omega arith) c.if-self-ne3.false c.skip_type-second.ensures c.skip_type-third.ensures in
    record { whole = is_whole h; small = is_small h }

pub returns : goal.returns
returns c =
    let nested = c.if-self-ne3.false in
    let s = c.skip_type-second.ensures in
    let t = c.skip_type-third.ensures in
    (is_nested c.args.self (omega arith) nested, has_tree (s_held c.args.self (omega arith) nested s), has_tree (t_held c.args.self (omega arith) nested s t), has_tree (r_held c.args.self (omega arith) nested s t))
