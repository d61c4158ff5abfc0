-- `plan_longest` meets its contract: a type without parts is planned by one byte, and one with two parts by the plans of its parts behind
-- its root's byte (`PlannedParts`), each on the part of what was lent that is behind the plans before it.
use Rattle.std.proofs.Common.{◌+◌, ◌≤◌, ℕ, set, sym, ap, ◌∙◌, arith, length-set}
use Rattle.stream.proofs.Types.Laws.{limit_is}
use Rattle.stream.specs.Types.{size, first_part, second_part}
use Rattle.stream.specs.Types.Kinds.{type_arity}
use Rattle.reading.specs.Fronts.{front_tree}
use Rattle.writing.specs.Writing.Laws.{part, back}
use Rattle.measuring.specs.Planning.{longest_kind, PlansFront}
use Rattle.measuring.proofs.PlannedParts.{some, forked, leaf_planned, Forks, total, first_room, behind_within, second_room, first_few, second_few, ends_both, choice_due, both_planned, choice_planned}
use Rattle.measuring.proofs.+plan_longest.Goals.{Else-type_arity-eq0, After-plan_longest-first, After-plan_longest-second}
use Rattle.measuring.proofs.+plan_longest.Goals as goal

pub bounds-plan-0 : goal.bounds-plan-0
bounds-plan-0 t c = some _ _ c.requires

pub returns-then-type_arity-eq0 : goal.returns-then-type_arity-eq0
returns-then-type_arity-eq0 t c =
    leaf_planned (front_tree c.args.ty) _ c.requires (ap type_arity (sym c.kind-kind.ensures) ∙ sym c.type_arity.ensures ∙ c.if-type_arity-eq0.true)
    (c.longest_kind-written.ensures ∙ ap longest_kind c.kind-kind.ensures) c.root_width-width.ensures

-- A type with parts.

forks : (t : ℕ) (c : Else-type_arity-eq0 t) → Forks (front_tree c.args.ty) c.args.plan.now
forks t c =
    record {
      fork = forked (front_tree c.args.ty) (λ none. c.if-type_arity-eq0.false (c.type_arity.ensures ∙ ap type_arity c.kind-kind.ensures ∙ none));
      room = c.requires;
    }

pub slice_bounds-plan_longest-count : goal.slice_bounds-plan_longest-count
slice_bounds-plan_longest-count t c = simp length-set (omega (arith, some (front_tree c.args.ty) _ c.requires))

pub slice_bounds-plan_longest-start : goal.slice_bounds-plan_longest-start
slice_bounds-plan_longest-start t c = slice_bounds-plan_longest-count t c

pub plan_longest-first-requires : goal.plan_longest-first-requires
plan_longest-first-requires t c =
    let f = forks t (goal.at.plan_longest-first-requires t c).Else-type_arity-eq0 in
    (omega (arith, total c.longest_kind-written.result f, ap size c.first.ensures.part), rw c.first.ensures.part (first_room c.longest_kind-written.result f))

pub overflow_add-behind : goal.overflow_add-behind
overflow_add-behind t c =
    omega (
      arith,
      c.plan_longest-first.ensures.ends,
      total c.longest_kind-written.result (forks t (goal.at.overflow_add-behind t c).Else-type_arity-eq0),
      ap size c.first.ensures.part,
      c.args.ty.small,
      limit_is,
    )

first_done : (t : ℕ) (c : After-plan_longest-first t)
    → PlansFront (first_part (front_tree c.args.ty)) (part 1 (set c.args.plan.now 0 c.longest_kind-written.result)) c.plan_longest-first.new.plan
    c.plan_longest-first.result
first_done t c = rw c.first.ensures.part at c.plan_longest-first.ensures

second_done : (t : ℕ) (c : After-plan_longest-second t)
    → PlansFront (second_part (front_tree c.args.ty))
    (part (1 + c.plan_longest-first.result.end) (back 1 (set c.args.plan.now 0 c.longest_kind-written.result) c.plan_longest-first.new.plan))
    c.plan_longest-second.new.plan c.plan_longest-second.result
second_done t c = rw c.second.ensures.part at c.plan_longest-second.ensures

pub slice_bounds-plan_longest-count-2 : goal.slice_bounds-plan_longest-count-2
slice_bounds-plan_longest-count-2 t c =
    let at = goal.at.slice_bounds-plan_longest-count-2 t c in
    behind_within c.longest_kind-written.result (forks t at.Else-type_arity-eq0) (first_done t at.After-plan_longest-first)

pub slice_bounds-plan_longest-start-2 : goal.slice_bounds-plan_longest-start-2
slice_bounds-plan_longest-start-2 t c = slice_bounds-plan_longest-count-2 t c

pub plan_longest-second-requires : goal.plan_longest-second-requires
plan_longest-second-requires t c =
    let at = goal.at.plan_longest-second-requires t c in
    let f = forks t at.Else-type_arity-eq0 in (
      omega (arith, total c.longest_kind-written.result f, ap size c.second.ensures.part),
      rw c.second.ensures.part (second_room c.longest_kind-written.result f (first_done t at.After-plan_longest-first)),
    )

pub overflow_add-end : goal.overflow_add-end
overflow_add-end t c =
    let at = goal.at.overflow_add-end t c in
    omega (
      arith,
      ends_both c.longest_kind-written.result (forks t at.Else-type_arity-eq0) (first_done t at.After-plan_longest-first)
          (second_done t at.After-plan_longest-second),
      c.args.ty.small,
      limit_is,
    )

pub choose_longer-width-requires : goal.choose_longer-width-requires
choose_longer-width-requires t c =
    let at = goal.at.choose_longer-width-requires t c in
    choice_due c.longest_kind-written.result (forks t at.Else-type_arity-eq0) (first_done t at.After-plan_longest-first)
    (second_done t at.After-plan_longest-second) c.args.ty.small

pub returns-then-kind-eq5 : goal.returns-then-kind-eq5
returns-then-kind-eq5 t c =
    let at = goal.at.returns-then-kind-eq5 t c in
    choice_planned c.longest_kind-written.result (forks t at.Else-type_arity-eq0) (first_done t at.After-plan_longest-first)
    (second_done t at.After-plan_longest-second) (c.longest_kind-written.ensures ∙ ap longest_kind c.kind-kind.ensures)
    (sym c.kind-kind.ensures ∙ c.if-kind-eq5.true) c.choose_longer-width.ensures

widths : (t : ℕ) (c : After-plan_longest-second t) → c.plan_longest-first.result.width + c.plan_longest-second.result.width ≤ 1022
widths t c =
    let at = goal.at.After-plan_longest-second t c in
    let written = c.longest_kind-written.result in
    let f = forks t at.Else-type_arity-eq0 in
    let one = first_done t at.After-plan_longest-first in
    omega (arith, first_few written f one (second_done t c) c.args.ty.small, second_few written f one (second_done t c) c.args.ty.small)

pub overflow_add-result : goal.overflow_add-result
overflow_add-result t c = omega (arith, widths t (goal.at.overflow_add-result t c).After-plan_longest-second)

pub overflow_add-result-2 : goal.overflow_add-result-2
overflow_add-result-2 t c = omega (arith, widths t (goal.at.overflow_add-result-2 t c).After-plan_longest-second)

pub returns : goal.returns
returns t c =
    let at = goal.at.returns t c in
    both_planned c.longest_kind-written.result (forks t at.Else-type_arity-eq0) (first_done t at.After-plan_longest-first)
    (second_done t at.After-plan_longest-second) (c.longest_kind-written.ensures ∙ ap longest_kind c.kind-kind.ensures)
    (λ five. c.if-kind-eq5.false (c.kind-kind.ensures ∙ five))
