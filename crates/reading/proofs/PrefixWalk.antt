-- A prefix gone through node by node: the kinds of the nodes passed, and the prefixes that are still ahead. The kind byte come to
-- gives way to its parts. For any number by kind, the nodes passed and the prefixes ahead add up to the tally of the whole, so
-- whatever is summed on the way comes to that tally at the end; the place come to is such a sum.
use mathlib.Core.Path.{◌≡◌, refl, sym, ap}
use mathlib.Core.List.{List, [], ◌∷◌, ◌++◌}
use Prim.Native.Nat.{ℕ, suc, ◌+◌, ◌≤◌, ◌<◌}
use native.Mathlib.Omega.{arith}
use lib.ListN.{length, get_or, drop, length-append}
use lib.Seq.{drop-drop}
use Rattle.stream.specs.Levels.{value_width}
use Rattle.stream.specs.Prefixes.{Prefix, nothing, cue_awaited, cue_come, level_awaited, level_come, in_first, crossed, beside, none_chosen, first_chosen, second_chosen}
use Rattle.stream.proofs.Reading.Laws.{◌&◌, past, every}
use Rattle.stream.specs.Prefixes.Kinds.{prefix_kind, prefix_arity, root_widths, root_width, prefix_parts, prefix_parts_many, tally, tallies, totals, tallies_append, tally_by_parts}
use Rattle.stream.specs.SliceFiles.{prefix_bytes}
use Rattle.reading.specs.SliceReads.{prefix_width, PrefixAt}
use Rattle.reading.specs.SliceReads.Laws.{width_positive, width_tally, behind_prefix, prefix_inside, kind_at}

-- The bytes of several prefixes, and then r.
abbrev several : List Prefix → List ℕ → List ℕ
several [] r = r
several (p ∷ ps) r = prefix_bytes p (several ps r)

several_append : (ps qs : List Prefix) (r : List ℕ) → several (ps ++ qs) r ≡ several ps (several qs r)
several_append [] qs r = refl
several_append (p ∷ ps) qs r = ap (prefix_bytes p) (several_append ps qs r)

-- Each prefix takes a byte at least.
widths_many : (ps : List Prefix) → length ps ≤ tallies root_width ps
widths_many [] = omega arith
widths_many (p ∷ ps) = omega (arith, width_positive p, width_tally p, widths_many ps)

-- Behind a prefix's root stand its parts.
behind_root : (p : Prefix) (r : List ℕ) → drop (root_width (prefix_kind p)) (prefix_bytes p r) ≡ several (prefix_parts p) r
unfolding prefix_bytes prefix_width
behind_root nothing r = refl
behind_root cue_awaited r = refl
behind_root cue_come r = refl
behind_root level_awaited r = refl
behind_root (level_come v) r = behind_prefix (level_come v) r
behind_root (in_first p) r = refl
behind_root (crossed b q) r = refl
behind_root (beside p q) r = refl
behind_root none_chosen r = refl
behind_root (first_chosen p) r = refl
behind_root (second_chosen p) r = refl

-- On the way through the prefix p at `place`: the nodes of the kinds `passed` have been passed, and `owed` prefixes are ahead, the
-- first of them at `end`.
pub record Run (slice : List ℕ) (place : ℕ) (p : Prefix) (passed : List ℕ) (owed end : ℕ) : Type 0 where
  pub ahead : List Prefix
  pub rest : List ℕ
  pub here : drop end slice ≡ several ahead rest
  pub many : length ahead ≡ owed
  pub sums : (weight : ℕ → ℕ) → totals weight passed + tallies weight ahead ≡ tally weight p
  pub come : end ≡ place + totals root_width passed

pub starts : {slice : List ℕ} {place : ℕ} (p : Prefix) → PrefixAt slice place p → Run slice place p [] 1 place
starts p s =
    record {
      ahead = p ∷ [];
      rest = s.rest;
      here = s.here;
      many = refl;
      sums = λ weight. omega arith;
      come = omega arith;
    }

module _ {slice : List ℕ} {place : ℕ} {p : Prefix} {passed : List ℕ} {owed end : ℕ} (run : Run slice place p passed owed end) where
  pub within : end + owed ≤ place + prefix_width p
  within = omega (arith, run.come, run.sums root_width, run.many, widths_many run.ahead, width_tally p)

  pub room : PrefixAt slice place p → end + owed ≤ length slice
  room stands = omega (arith, within, prefix_inside stands)

  -- At the end whatever was summed is the tally of the whole.
  pub summed : owed ≡ 0 → (weight : ℕ → ℕ) → totals weight passed ≡ tally weight p
  summed none weight = go run.ahead run.many (run.sums weight)
    where
      go : (ps : List Prefix) → length ps ≡ owed → totals weight passed + tallies weight ps ≡ tally weight p → totals weight passed ≡ tally weight p
      go [] many sum = omega arith
      go (q ∷ ps) many sum = absurd (omega arith)

  pub finished : owed ≡ 0 → end ≡ place + prefix_width p
  finished none = omega (arith, run.come, summed none root_width, width_tally p)

  -- The kind at `end` gives way to its parts.
  pub turned : 0 < owed → (next behind : ℕ) → next + 1 ≡ owed + prefix_arity (get_or slice end 0) → behind ≡ end + root_width (get_or slice end 0)
      → Run slice place p (get_or slice end 0 ∷ passed) next behind
  turned wanted next behind more is_behind = go run.ahead run.here run.many run.sums
    where
      go : (ps : List Prefix) → drop end slice ≡ several ps run.rest → length ps ≡ owed
          → ((weight : ℕ → ℕ) → totals weight passed + tallies weight ps ≡ tally weight p)
          → Run slice place p (get_or slice end 0 ∷ passed) next behind
      go [] here many sums = absurd (omega arith)
      go (q ∷ ps) here many sums =
          let stands : PrefixAt slice end q = record { rest = several ps run.rest; here = here } in
          let kind : get_or slice end 0 ≡ prefix_kind q = kind_at stands in
          record {
            ahead = prefix_parts q ++ ps;
            rest = run.rest;
            here =
                rw (is_behind, kind, ← drop-drop (root_width (prefix_kind q)) end slice, here, behind_root q (several ps run.rest))
                (sym (several_append (prefix_parts q) ps run.rest));
            many = omega (arith, length-append (prefix_parts q) ps, prefix_parts_many q, ap prefix_arity kind);
            sums = λ weight. omega (arith, sums weight, tallies_append weight (prefix_parts q) ps, tally_by_parts weight q, ap weight kind);
            come = omega (arith, run.come);
          }

-- A level that has come has its value behind it; no other kind has, and so none with parts.

pub level_wide : (k : ℕ) → k ≡ 4 → root_width k ≡ suc value_width
level_wide k e = rw e

pub other_wide : (k : ℕ) → (k ≡ 4 → ⊥) → root_width k ≡ 1
other_wide =
    every (λ k w. (k ≡ 4 → ⊥) → w ≡ 1) 1 root_widths
    ((λ h. refl)
    & (λ h. refl)
    & (λ h. refl)
    & (λ h. refl)
    & (λ h. absurd (h refl))
    & (λ h. refl)
    & (λ h. refl)
    & (λ h. refl)
    & (λ h. refl)
    & (λ h. refl)
    & (λ h. refl)
    & past (λ k l h. refl))

pub parts_wide : (k : ℕ) → (prefix_arity k ≡ 0 → ⊥) → root_width k ≡ 1
parts_wide k h = other_wide k (λ e. h (ap prefix_arity e))
