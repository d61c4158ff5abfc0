-- `try_longest` meets its contract: the reader says what the type file is, the planner how long its longest prefix is, which is written only
-- where there is room for its file.
use Rattle.std.proofs.Common.{◌≡◌, ◌+◌, List, ℕ, sym, ap, ◌∙◌, length, arith, rules}
use Rattle.stream.proofs.Types.Laws.{limit_is}
use Rattle.stream.specs.Reading.{accepted}
use Rattle.stream.specs.SliceFiles.{slice_file_bytes}
use Rattle.stream.specs.Longest.{byte_count, longest_prefix}
use Rattle.stream.proofs.Longest.Laws.{slice_file-count}
use Rattle.reading.specs.Views.{tree}
use Rattle.measuring.specs.Planning.Laws.{longest_short, is_plan}
use Rattle.meaning.specs.Answers.{longest}
use Rattle.wosthile.proofs.Keeping.{refusal_keeps, shortage_keeps, file_keeps}
use Rattle.wosthile.proofs.try_longest.Goals.{After-plan_longest-planned}
use Rattle.wosthile.proofs.try_longest.Goals as goal

-- The type has been planned: what has to be written, and how long it is.

abbrev longest_file : After-plan_longest-planned → List ℕ
longest_file c = slice_file_bytes (longest_prefix (tree c.in_ok-ty.ty))

measured : (c : After-plan_longest-planned) → c.plan_longest-planned.result.width ≡ byte_count (longest_prefix (tree c.in_ok-ty.ty))
measured c = rw c.of.ensures at c.plan_longest-planned.ensures.plans.wide

file_length : (c : After-plan_longest-planned) → length (longest_file c) ≡ 2 + c.plan_longest-planned.result.width
file_length c = slice_file-count (longest_prefix (tree c.in_ok-ty.ty)) ∙ ap (λ n. 2 + n) (sym (measured c))

longest_is : (c : After-plan_longest-planned) → longest c.args.ty.now ≡ accepted (longest_file c)
unfolding longest
longest_is c = rw (← c.in_ok-ty.ensures)

pub plan_longest-planned-requires : goal.plan_longest-planned-requires
plan_longest-planned-requires c = rw c.of.ensures (omega (arith, c.in_ok-ty.ty.small, limit_is))

pub overflow_add-length : goal.overflow_add-length
overflow_add-length c =
    let w = (goal.at.overflow_add-length c).After-plan_longest-planned in
    omega (arith, measured w, longest_short (tree c.in_ok-ty.ty) c.in_ok-ty.ty.small)

pub returns-then-out-length : goal.returns-then-out-length
returns-then-out-length c =
    let w = (goal.at.returns-then-out-length c).After-plan_longest-planned in
    shortage_keeps _ (longest_file w) (longest_is w) (omega (arith, file_length w))

pub write_longest_file-requires : goal.write_longest_file-requires
write_longest_file-requires c =
    let w = (goal.at.write_longest_file-requires c).After-plan_longest-planned in
    record {
      planned = rw c.of-2.ensures (is_plan (tree c.in_ok-ty.ty) _ (rw c.of.ensures at c.plan_longest-planned.ensures.plans.buffer));
      measured = rw c.of-2.ensures (measured w);
      room = omega arith;
    }

pub returns-in_err-ty : goal.returns-in_err-ty
unfolding longest
returns-in_err-ty c = refusal_keeps _ c.in_err-ty.field-0.0 (search rules) (rw (← c.in_err-ty.ensures))

pub returns : goal.returns
returns c =
    let w = (goal.at.returns c).After-plan_longest-planned in
    file_keeps _ (longest_file w) (longest_is w) (omega (arith, file_length w)) (omega (arith, file_length w))
    (rw c.of-2.ensures at c.write_longest_file.ensures)
