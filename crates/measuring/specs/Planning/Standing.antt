-- What the code promises of fronts, said of types at places, of which the laws speak.
use Rattle.std.specs.Prelude.{◌≡◌, List, [], ℕ, ◌+◌, ◌≤◌, length, drop}
use Rattle.std.proofs.Common.{sym, ap, ◌∙◌, arith}
use Rattle.stream.specs.Types.{Ty, size}
use Rattle.stream.specs.Longest.{byte_count, longest_prefix}
use Rattle.stream.specs.Buffers.{at_front}
use Rattle.reading.specs.declared.fronts.TypeFront.{TypeFront}
use Rattle.reading.specs.Fronts.{front_tree}
use Rattle.reading.specs.TypeReads.{TypeAt}
use Rattle.reading.proofs.TypeFronts.{has_type}
use Rattle.measuring.specs.declared.Planned.{Planned}
use Rattle.measuring.specs.Planning.{plan, IsPlan, PlansFront, PlanDue, Plans, AsPlanned}
use Rattle.measuring.specs.Planning.Laws.{plan_drop}

-- What plan_longest is asked and promises, of the front that begins at a place.
same : (f : TypeFront) {types : List ℕ} {at : ℕ} {t : Ty} → f.bytes.now ≡ drop at types → TypeAt types at t → front_tree f ≡ t
same f {types} {at} {t} cut stands =
    let there : TypeAt (drop at types) 0 t = record { rest = stands.rest; here = stands.here; small = stands.small } in
    rw cut (has_type there)

module _ (f : TypeFront) {types lent : List ℕ} {at : ℕ} (cut : f.bytes.now ≡ drop at types) where
  pub plan_asked : (due : PlanDue types at lent) → size (front_tree f) ≤ length lent
  plan_asked due = omega (arith, due.room, ap size (same f cut due.stands))

  pub plans_there : {after : List ℕ} {p : Planned} → PlansFront (front_tree f) lent after p
      → Plans types at lent after (record { end = at + p.end; width = p.width })
  plans_there plans =
      record {
        each = λ due.
            let is = same f cut due.stands in
            record {
              ends = omega (arith, plans.ends, ap size is);
              wide = plans.plans.wide ∙ ap (λ t. byte_count (longest_prefix t)) is;
              buffer = plans.plans.buffer ∙ ap (λ t. at_front (plan t []) lent) is;
            };
      }

-- And what write_longest_file is asked.
module _ (f : TypeFront) {planned : List ℕ} {width : ℕ} (asked : AsPlanned f.bytes.now planned width) where
  pub longest_asked : IsPlan (front_tree f) planned × (width ≡ byte_count (longest_prefix (front_tree f)))
  longest_asked =
      let is : front_tree f ≡ asked.type = has_type asked.stands in
      let rest : drop (size asked.type) planned ≡ asked.behind = ap (drop (size asked.type)) asked.is_planned ∙ plan_drop asked.type asked.behind in
      (rw (is, rest) asked.is_planned, asked.measured ∙ ap (λ t. byte_count (longest_prefix t)) (sym is))
