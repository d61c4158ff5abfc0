-- `walk_prefix`, `walk_one` and `walk_two` meet their contract: the first byte says whether a prefix can begin there (`Begins`) and whether it has
-- parts (`Parted`), and the walks through the parts say how it ends and what it leaves (`PartLeft`, and `HalfLeft` where it is no choice).
use Rattle.std.proofs.Common.{◌≡◌, Bool, Err, refl, sym, ◌∙◌, ap, ℕ, ◌-◌, ◌≤◌, List, length, get_or, take, drop, arith, rules}
use borrow.Author.Tests.{eqb-true}
use Rattle.stream.specs.Types.{Ty, size, second_part}
use Rattle.stream.specs.Reading.{Reading}
use Rattle.reading.specs.declared.prefixes.Known.{Known}
use Rattle.reading.specs.declared.fronts.TypeFront.{TypeFront}
use Rattle.reading.specs.Views.{tree}
use Rattle.reading.specs.Fronts.{front_tree}
use Rattle.reading.specs.SliceReads.{belongs_at}
use Rattle.reading.proofs.TypeFronts.{from_on}
use Rattle.stream.specs.Prefixes.Kinds.{prefix_arity}
use Rattle.writing.specs.Leaving.{Leaves, PartsDue}
use Rattle.writing.proofs.SliceWalk.{some_bytes, cut_short, unlisted, misplaced, Begins, first_sums, both_sums, split}
use Rattle.writing.proofs.SliceLeft.{stopped, leaf_leaving, first_long, HalfLeft, second_due, still_first_leaving, crossing_leaving, both_leaving}
use Rattle.writing.proofs.SliceChoice.{arity_most, two_parts, one_part_only, fork, Parted, smaller, part_failed, PartLeft, half_left, second_behind, whole_behind, first_chosen_leaving, second_chosen_leaving}
use Rattle.writing.proofs.slices.+walk_each_part.Goals.{walk_prefix-Else-not-belongs, walk_one-After-part_under-part, walk_one-In_ok-prefix, walk_one-Else-kind-eq9, walk_two-After-first, walk_two-In_ok-prefix, walk_two-After-second_from-other, walk_two-Else-kind-eq6}
use Rattle.writing.proofs.slices.+walk_each_part.Goals as goal

-- The byte's kind belongs there.
begins : (t : ℕ) (c : walk_prefix-Else-not-belongs t) → Begins (front_tree c.args.ty) c.args.slice.now c.args.complete
begins t c =
    record {
      small = c.args.ty.small;
      bytes = λ i. omega (arith, c.type_inv.slice i);
      more = some_bytes c.args.slice.now (sym c.if-is_empty.ensures);
      listed = omega arith;
      fits = sym c.if-not-belongs.false ∙ c.belongs.ensures ∙ ap (λ k. belongs_at k (get_or c.args.slice.now 0 0) c.args.complete) c.kind.ensures;
    }

-- What a walk through the part's slice says.
on_rest : {u : Ty} (slice : List ℕ) {c : Bool} {lent now : List ℕ} {answer : Reading Known} → Leaves u (take (length slice - 1) (drop 1 slice)) c lent now answer
    → Leaves u (drop 1 slice) c lent now answer
on_rest slice w = rw (from_on 1 slice) at w

-- It has one part behind it.
one_parted : (t : ℕ) (c : walk_one-After-part_under-part t)
    → Parted (front_tree c.args.ty) c.args.ty.bytes.now c.args.slice.now c.args.complete c.first_complete-first.result (front_tree c.part_under-part.result)
    c.part_under-part.result.bytes.now
one_parted t c =
    record {
      begins =
          record {
            small = c.args.ty.small;
            bytes = λ i. omega (arith, c.type_inv.slice i);
            more = c.requires.more;
            listed = c.requires.listed;
            fits = sym c.requires.fits;
          };
      parts = λ none. omega (arith, c.requires.parts);
      handed = c.first_complete-first.ensures;
      under = c.part_under-part.ensures;
    }

-- The walk through the part came to its end.
one_part : (t : ℕ) (c : walk_one-In_ok-prefix t)
    → PartLeft (front_tree c.args.ty) c.args.ty.bytes.now c.args.slice.now c.args.complete c.args.left.now c.first_start-start.new.left c.walk_prefix.new.left
    c.first_start-start.result (front_tree c.part_under-part.result) c.part_under-part.result.bytes.now c.in_ok-prefix.prefix.behind.now c.in_ok-prefix.prefix.rest.now
    c.in_ok-prefix.prefix.known
one_part t c =
    record {
      must_complete = c.first_complete-first.result;
      parted = one_parted t (goal.at.walk_one-In_ok-prefix t c).After-part_under-part;
      written_from = rw c.kind.ensures at c.first_start-start.ensures;
      left = on_rest c.args.slice.now c.in_ok-prefix.ensures.walk;
      ends = c.in_ok-prefix.ensures.behind;
    }

-- It has two parts behind it.
two_parted : (t : ℕ) (c : walk_two-After-first t)
    → Parted (front_tree c.args.ty) c.args.ty.bytes.now c.args.slice.now c.args.complete c.first_complete-first.result (front_tree c.first.result)
    c.first.result.bytes.now
two_parted t c =
    record {
      begins =
          record {
            small = c.args.ty.small;
            bytes = λ i. omega (arith, c.type_inv.slice i);
            more = c.requires.more;
            listed = c.requires.listed;
            fits = sym c.requires.fits;
          };
      parts = λ none. omega (arith, c.requires.parts);
      handed = c.first_complete-first.ensures;
      under =
          record {
            first = λ no_second. (c.first.ensures.part, c.first.ensures.place);
            second = λ ten. absurd (omega (arith, two_parts (get_or c.args.slice.now 0 0) c.requires.listed c.requires.parts));
          };
    }

-- The walk through the part came to its end.
two_part : (t : ℕ) (c : walk_two-In_ok-prefix t)
    → PartLeft (front_tree c.args.ty) c.args.ty.bytes.now c.args.slice.now c.args.complete c.args.left.now c.first_start-start.new.left c.walk_prefix.new.left
    c.first_start-start.result (front_tree c.first.result) c.first.result.bytes.now c.in_ok-prefix.prefix.behind.now c.in_ok-prefix.prefix.rest.now
    c.in_ok-prefix.prefix.known
two_part t c =
    record {
      must_complete = c.first_complete-first.result;
      parted = two_parted t (goal.at.walk_two-In_ok-prefix t c).After-first;
      written_from = rw c.kind.ensures at c.first_start-start.ensures;
      left = on_rest c.args.slice.now c.in_ok-prefix.ensures.walk;
      ends = c.in_ok-prefix.ensures.behind;
    }

pub walk_prefix-returns-then-is_empty : goal.walk_prefix-returns-then-is_empty
walk_prefix-returns-then-is_empty t c =
    record { walk = stopped (cut_short _ _ _ (eqb-true (length c.args.slice.now) 0 (sym c.if-is_empty.ensures))) refl; behind = tt }

pub walk_prefix-returns-then-kind-gt10 : goal.walk_prefix-returns-then-kind-gt10
walk_prefix-returns-then-kind-gt10 t c =
    record { walk = stopped (unlisted _ _ _ (some_bytes c.args.slice.now (sym c.if-is_empty.ensures)) (omega arith)) refl; behind = tt }

pub walk_prefix-returns-then-not-belongs : goal.walk_prefix-returns-then-not-belongs
walk_prefix-returns-then-not-belongs t c =
    record {
      walk =
          stopped
          (misplaced _ _ _ (some_bytes c.args.slice.now (sym c.if-is_empty.ensures)) (omega arith)
          (sym c.if-not-belongs.true ∙ c.belongs.ensures ∙ ap (λ k. belongs_at k (get_or c.args.slice.now 0 0) c.args.complete) c.kind.ensures)) refl;
      behind = tt;
    }

pub walk_prefix-returns-then-parts-eq0 : goal.walk_prefix-returns-then-parts-eq0
walk_prefix-returns-then-parts-eq0 t c =
    leaf_leaving (begins t (goal.at.walk_prefix-returns-then-parts-eq0 t c).Else-not-belongs) (sym c.prefix_arity-parts.ensures ∙ c.if-parts-eq0.true) _
    c.walk_leaf.ensures

due : (t : ℕ) (c : walk_prefix-Else-not-belongs t) (many : ℕ) → prefix_arity (get_or c.args.slice.now 0 0) ≡ many
    → PartsDue many (front_tree c.args.ty) c.args.slice.now c.args.complete
due t c many is =
    let begun = begins t c in
    record { more = begun.more; listed = begun.listed; parts = is; fits = sym begun.fits }

pub walk_prefix-walk_one-requires : goal.walk_prefix-walk_one-requires
walk_prefix-walk_one-requires t c = (
  omega (arith, c.decreases),
  due t (goal.at.walk_prefix-walk_one-requires t c).Else-not-belongs 1 (sym c.prefix_arity-parts.ensures ∙ c.if-parts-eq1.true),
)

pub walk_prefix-walk_two-requires : goal.walk_prefix-walk_two-requires
walk_prefix-walk_two-requires t c = (
  omega (arith, c.decreases),
  due t (goal.at.walk_prefix-walk_two-requires t c).Else-not-belongs 2 (omega (arith, arity_most (get_or c.args.slice.now 0 0), c.prefix_arity-parts.ensures)),
)

-- One part.

pub walk_one-walk_prefix-requires : goal.walk_one-walk_prefix-requires
walk_one-walk_prefix-requires t c = omega (arith, smaller (one_parted t (goal.at.walk_one-walk_prefix-requires t c).After-part_under-part))

pub walk_one-returns-in_err-prefix : goal.walk_one-returns-in_err-prefix
walk_one-returns-in_err-prefix t c =
    let refused : c.from_residual.result ≡ Err c.in_err-prefix.field-0.0 = search rules in
    rw refused
    (record {
      walk =
          stopped
          (part_failed (one_parted t (goal.at.walk_one-returns-in_err-prefix t c).After-part_under-part)
          (on_rest c.args.slice.now c.in_err-prefix.ensures.walk))
          (first_long c.first_start-start.ensures c.walk_prefix.ensures.walk);
      behind = tt;
    })

pub walk_one-returns-then-kind-eq10 : goal.walk_one-returns-then-kind-eq10
walk_one-returns-then-kind-eq10 t c =
    let both = second_chosen_leaving (one_part t (goal.at.walk_one-returns-then-kind-eq10 t c).In_ok-prefix) c.if-kind-eq10.true in
    record { walk = both.0; behind = both.1 }

pub walk_one-second_from-requires-clause-place : goal.walk_one-second_from-requires-clause-place
walk_one-second_from-requires-clause-place t c =
    second_behind (one_part t (goal.at.walk_one-second_from-requires-clause-place t c).In_ok-prefix) c.if-kind-eq10.false

-- What is behind the second part is behind the whole.
one_behind : (t : ℕ) (c : walk_one-In_ok-prefix t) → (get_or c.args.slice.now 0 0 ≡ 10 → ⊥) → (second : TypeFront)
    → front_tree second ≡ second_part (front_tree c.args.ty) → second.bytes.now ≡ c.in_ok-prefix.prefix.behind.now
    → drop (size (front_tree second)) second.bytes.now ≡ drop (size (front_tree c.args.ty)) c.args.ty.bytes.now
one_behind t c no_second second is place =
    let p = one_part t c in whole_behind p (place ∙ second_behind p no_second) (ap (λ u. drop (size u) second.bytes.now) is)

pub walk_one-returns-then-kind-eq9 : goal.walk_one-returns-then-kind-eq9
walk_one-returns-then-kind-eq9 t c =
    let p = (goal.at.walk_one-returns-then-kind-eq9 t c).In_ok-prefix in
    record {
      walk = first_chosen_leaving (one_part t p) c.if-kind-eq9.true;
      behind =
          c.split.ensures.behind ∙ one_behind t p c.if-kind-eq10.false c.second_from.result c.second_from.ensures.part c.second_from.ensures.place;
    }

-- Of a kind that is no mark the first part is still coming.

coming : (t : ℕ) (c : walk_one-Else-kind-eq9 t) → get_or c.args.slice.now 0 0 ≡ 5
coming t c = one_part_only (get_or c.args.slice.now 0 0) c.requires.listed c.requires.parts c.if-kind-eq9.false c.if-kind-eq10.false

one_half : (t : ℕ) (c : walk_one-Else-kind-eq9 t)
    → HalfLeft (front_tree c.args.ty) c.args.slice.now c.args.complete c.args.left.now c.first_start-start.new.left c.walk_prefix.new.left
    c.first_start-start.result c.in_ok-prefix.prefix.rest.now c.in_ok-prefix.prefix.known
one_half t c = half_left (one_part t (goal.at.walk_one-Else-kind-eq9 t c).In_ok-prefix) (omega (arith, coming t c))

pub walk_one-overflow_add-prefix : goal.walk_one-overflow_add-prefix
walk_one-overflow_add-prefix t c = omega (arith, second_due (one_half t (goal.at.walk_one-overflow_add-prefix t c).Else-kind-eq9))

pub walk_one-append_type-requires : goal.walk_one-append_type-requires
walk_one-append_type-requires t c =
    omega (
      arith,
      second_due (one_half t (goal.at.walk_one-append_type-requires t c).Else-kind-eq9),
      ap size (c.split.ensures.whole ∙ c.second_from.ensures.part),
    )

pub walk_one-in_first-requires-clause-second_bound : goal.walk_one-in_first-requires-clause-second_bound
walk_one-in_first-requires-clause-second_bound t c =
    omega (
      arith,
      (first_sums (one_half t (goal.at.walk_one-in_first-requires-clause-second_bound t c).Else-kind-eq9).halfway).0,
      c.size.ensures,
      ap size (c.split.ensures.whole ∙ c.second_from.ensures.part),
    )

pub walk_one-in_first-requires-clause-overlap_lt_type_limit : goal.walk_one-in_first-requires-clause-overlap_lt_type_limit
walk_one-in_first-requires-clause-overlap_lt_type_limit t c =
    (first_sums (one_half t (goal.at.walk_one-in_first-requires-clause-overlap_lt_type_limit t c).Else-kind-eq9).halfway).1

pub walk_one-returns : goal.walk_one-returns
walk_one-returns t c =
    let at = (goal.at.walk_one-returns t c).Else-kind-eq9 in
    let is : tree c.split.result.0 ≡ second_part (front_tree c.args.ty) = c.split.ensures.whole ∙ c.second_from.ensures.part in
    record {
      walk =
          rw (c.in_first.ensures, c.size.ensures ∙ ap size is)
          (still_first_leaving (one_half t at) (coming t at) (rw is at c.append_type.ensures));
      behind =
          c.split.ensures.behind
          ∙ one_behind t (goal.at.walk_one-Else-kind-eq9 t at).In_ok-prefix c.if-kind-eq10.false c.second_from.result c.second_from.ensures.part
          c.second_from.ensures.place;
    }

-- Two parts.

pub walk_two-walk_prefix-requires : goal.walk_two-walk_prefix-requires
walk_two-walk_prefix-requires t c = omega (arith, smaller (two_parted t (goal.at.walk_two-walk_prefix-requires t c).After-first))

pub walk_two-returns-in_err-prefix : goal.walk_two-returns-in_err-prefix
walk_two-returns-in_err-prefix t c =
    let refused : c.from_residual.result ≡ Err c.in_err-prefix.field-0.0 = search rules in
    rw refused
    (record {
      walk =
          stopped
          (part_failed (two_parted t (goal.at.walk_two-returns-in_err-prefix t c).After-first) (on_rest c.args.slice.now c.in_err-prefix.ensures.walk))
          (first_long c.first_start-start.ensures c.walk_prefix.ensures.walk);
      behind = tt;
    })

two_kinds : (t : ℕ) (c : walk_two-In_ok-prefix t) → (6 ≤ get_or c.args.slice.now 0 0) × (get_or c.args.slice.now 0 0 ≤ 7)
two_kinds t c = two_parts (get_or c.args.slice.now 0 0) c.requires.listed c.requires.parts

two_half : (t : ℕ) (c : walk_two-In_ok-prefix t)
    → HalfLeft (front_tree c.args.ty) c.args.slice.now c.args.complete c.args.left.now c.first_start-start.new.left c.walk_prefix.new.left
    c.first_start-start.result c.in_ok-prefix.prefix.rest.now c.in_ok-prefix.prefix.known
two_half t c = half_left (two_part t c) (omega (arith, two_kinds t c))

pub walk_two-second_from-other-requires-clause-fork : goal.walk_two-second_from-other-requires-clause-fork
walk_two-second_from-other-requires-clause-fork t c =
    fork (two_part t (goal.at.walk_two-second_from-other-requires-clause-fork t c).In_ok-prefix).parted

pub walk_two-second_from-other-requires-clause-place : goal.walk_two-second_from-other-requires-clause-place
walk_two-second_from-other-requires-clause-place t c =
    let p = (goal.at.walk_two-second_from-other-requires-clause-place t c).In_ok-prefix in
    second_behind (two_part t p) (λ ten. omega (arith, two_kinds t p))

two_behind : (t : ℕ) (c : walk_two-After-second_from-other t)
    → drop (size (front_tree c.second_from-other.result)) c.second_from-other.result.bytes.now ≡ drop (size (front_tree c.args.ty)) c.args.ty.bytes.now
two_behind t c =
    let at = (goal.at.walk_two-After-second_from-other t c).In_ok-prefix in
    let p = two_part t at in
    whole_behind p (c.second_from-other.ensures.place ∙ second_behind p (λ ten. omega (arith, two_kinds t at)))
    (ap (λ u. drop (size u) c.second_from-other.result.bytes.now) c.second_from-other.ensures.part)

-- A first part that was crossed.

pub walk_two-walk_prefix-requires-then-kind-eq6 : goal.walk_two-walk_prefix-requires-then-kind-eq6
walk_two-walk_prefix-requires-then-kind-eq6 t c =
    omega (
      arith,
      split (two_half t (goal.at.walk_two-walk_prefix-requires-then-kind-eq6 t c).In_ok-prefix).halfway,
      ap size c.second_from-other.ensures.part,
    )

pub walk_two-returns-in_err-second : goal.walk_two-returns-in_err-second
walk_two-returns-in_err-second t c =
    let refused : c.from_residual-in_err-second.result ≡ Err c.in_err-second.field-0.0 = search rules in
    let second = rw c.second_from-other.ensures.part at c.in_err-second.ensures.walk in
    rw refused
    (record {
      walk = crossing_leaving (two_half t (goal.at.walk_two-returns-in_err-second t c).In_ok-prefix) c.if-kind-eq6.true _ second;
      behind = tt;
    })

pub walk_two-crossed_known-second-requires : goal.walk_two-crossed_known-second-requires
walk_two-crossed_known-second-requires t c =
    both_sums (two_half t (goal.at.walk_two-crossed_known-second-requires t c).In_ok-prefix).halfway
    (rw c.second_from-other.ensures.part at c.in_ok-second.ensures.walk).walks

pub walk_two-returns-then-kind-eq6 : goal.walk_two-returns-then-kind-eq6
walk_two-returns-then-kind-eq6 t c =
    let at = goal.at.walk_two-returns-then-kind-eq6 t c in
    let second = rw c.second_from-other.ensures.part at c.in_ok-second.ensures.walk in
    record {
      walk = rw c.crossed_known-second.ensures (crossing_leaving (two_half t at.In_ok-prefix) c.if-kind-eq6.true _ second);
      behind = c.in_ok-second.ensures.behind ∙ two_behind t at.After-second_from-other;
    }

-- Two prefixes side by side.

pub walk_two-overflow_add-prefix : goal.walk_two-overflow_add-prefix
walk_two-overflow_add-prefix t c = omega (arith, second_due (two_half t (goal.at.walk_two-overflow_add-prefix t c).In_ok-prefix))

pub walk_two-walk_prefix-requires-2 : goal.walk_two-walk_prefix-requires-2
walk_two-walk_prefix-requires-2 t c =
    omega (
      arith,
      split (two_half t (goal.at.walk_two-walk_prefix-requires-2 t c).In_ok-prefix).halfway,
      ap size c.second_from-other.ensures.part,
    )

beside_kind : (t : ℕ) (c : walk_two-Else-kind-eq6 t) → get_or c.args.slice.now 0 0 ≡ 7
beside_kind t c = omega (arith, two_kinds t (goal.at.walk_two-Else-kind-eq6 t c).In_ok-prefix, c.if-kind-eq6.false)

pub walk_two-returns-in_err-second-2 : goal.walk_two-returns-in_err-second-2
walk_two-returns-in_err-second-2 t c =
    let at = goal.at.walk_two-returns-in_err-second-2 t c in
    let refused : c.from_residual-in_err-second-2.result ≡ Err c.in_err-second-2.field-0.0 = search rules in
    let second = rw c.second_from-other.ensures.part at c.in_err-second-2.ensures.walk in
    rw refused
    (record {
      walk = both_leaving (two_half t at.In_ok-prefix) (beside_kind t at.Else-kind-eq6) c.within-from.ensures _ second;
      behind = tt;
    })

pub walk_two-both_known-second-requires : goal.walk_two-both_known-second-requires
walk_two-both_known-second-requires t c =
    both_sums (two_half t (goal.at.walk_two-both_known-second-requires t c).In_ok-prefix).halfway
    (rw c.second_from-other.ensures.part at c.in_ok-second-2.ensures.walk).walks

pub walk_two-returns : goal.walk_two-returns
walk_two-returns t c =
    let at = goal.at.walk_two-returns t c in
    let second = rw c.second_from-other.ensures.part at c.in_ok-second-2.ensures.walk in
    record {
      walk = rw c.both_known-second.ensures (both_leaving (two_half t at.In_ok-prefix) (beside_kind t at.Else-kind-eq6) c.within-from.ensures _ second);
      behind = c.in_ok-second-2.ensures.behind ∙ two_behind t at.After-second_from-other;
    }
