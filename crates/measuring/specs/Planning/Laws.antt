-- Plans, and the bytes of longest prefixes: how long they are, and what stands behind them.
use Rattle.std.specs.Prelude.{◌≡◌, refl, Bool, true, false, List, [], ◌∷◌, ◌++◌, ℕ, zero, suc, ◌+◌, ◌≤◌, ◌<◌, leb, length, drop}
use Rattle.std.proofs.Common.{sym, ap, ◌∙◌, arith, drop_at}
use Rattle.stream.specs.Types.{Ty, empty, cue, level, seq, par, either, size, Small}
use Rattle.stream.proofs.Types.Laws.{size_positive}
use Rattle.stream.specs.Longest.{byte_count, longest_prefix}
use Rattle.stream.proofs.Longest.Laws.{longest_prefix_is_prefix}
use Rattle.stream.proofs.SliceFiles.Laws.{prefix_short, slice_length}
use Rattle.writing.specs.Writing.Laws.{part, part_is}
use Rattle.measuring.specs.declared.Planned.{Planned}
use Rattle.measuring.specs.Planning.{passed_over, plan_choice, plan, IsPlan, PlanDue, Plans, AsPlanned}
use Rattle.stream.specs.Buffers.{at_front}

pub passed_over_length : (l : List ℕ) → length (passed_over l) ≡ length l
passed_over_length [] = refl
passed_over_length (k ∷ r) = refl

choice_length : (b : Bool) (first second : List ℕ → List ℕ) (m n : ℕ) → ((l : List ℕ) → length (first l) ≡ m + length l)
    → ((l : List ℕ) → length (second l) ≡ n + length l) → (r : List ℕ) → length (plan_choice b first second r) ≡ suc (m + n) + length r
choice_length true first second m n h k r = omega (arith, h (passed_over (second r)), passed_over_length (second r), k r)
choice_length false first second m n h k r = omega (arith, passed_over_length (first (second r)), h (second r), k r)

-- A plan has a byte for each node.
pub plan_length : (t : Ty) (r : List ℕ) → length (plan t r) ≡ size t + length r
unfolding plan size
plan_length empty r = omega arith
plan_length cue r = omega arith
plan_length level r = omega arith
plan_length (seq s t) r = omega (arith, plan_length s (plan t r), plan_length t r)
plan_length (par s t) r = omega (arith, plan_length s (plan t r), plan_length t r)
plan_length (either s t) r =
    choice_length (leb (byte_count (longest_prefix t)) (byte_count (longest_prefix s))) (plan s) (plan t) (size s) (size t)
    (λ l. plan_length s l) (λ l. plan_length t l) r

plan_some : (t : Ty) (r : List ℕ) → 0 < length (plan t r)
plan_some t r = omega (arith, plan_length t r, size_positive t)

-- What stands behind a plan is not looked at.

passed_over_append : (l s : List ℕ) → 0 < length l → passed_over (l ++ s) ≡ passed_over l ++ s
passed_over_append [] s h = absurd (omega arith)
passed_over_append (k ∷ r) s h = refl

choice_append : (b : Bool) (t u : Ty) → ((r s : List ℕ) → plan t (r ++ s) ≡ plan t r ++ s) → ((r s : List ℕ) → plan u (r ++ s) ≡ plan u r ++ s)
    → (r s : List ℕ) → plan_choice b (plan t) (plan u) (r ++ s) ≡ plan_choice b (plan t) (plan u) r ++ s
choice_append true t u h k r s =
    ap (λ l. 9 ∷ plan t l) (ap passed_over (k r s) ∙ passed_over_append (plan u r) s (plan_some u r))
    ∙ ap (λ l. 9 ∷ l) (h (passed_over (plan u r)) s)
choice_append false t u h k r s =
    ap (λ l. 10 ∷ passed_over l) (ap (plan t) (k r s) ∙ h (plan u r) s)
    ∙ ap (λ l. 10 ∷ l) (passed_over_append (plan t (plan u r)) s (plan_some t (plan u r)))

plan_append : (t : Ty) (r s : List ℕ) → plan t (r ++ s) ≡ plan t r ++ s
unfolding plan
plan_append empty r s = refl
plan_append cue r s = refl
plan_append level r s = refl
plan_append (seq t u) r s = ap (λ l. 6 ∷ l) (ap (plan t) (plan_append u r s) ∙ plan_append t (plan u r) s)
plan_append (par t u) r s = ap (λ l. 7 ∷ l) (ap (plan t) (plan_append u r s) ∙ plan_append t (plan u r) s)
plan_append (either t u) r s =
    choice_append (leb (byte_count (longest_prefix u)) (byte_count (longest_prefix t))) t u (λ l m. plan_append t l m) (λ l m. plan_append u l m) r s

pub plan_before : (t : Ty) (r : List ℕ) → plan t r ≡ plan t [] ++ r
plan_before t r = plan_append t [] r

pub plan_drop : (t : Ty) (r : List ℕ) → drop (size t) (plan t r) ≡ r
plan_drop t r =
    ap (drop (size t)) (plan_before t r) ∙ drop_at (plan t []) r (size t) (omega (arith, plan_length t []))

pub passed_over_drop : (n : ℕ) (l : List ℕ) → 0 < n → drop n (passed_over l) ≡ drop n l
passed_over_drop zero l h = absurd (omega arith)
passed_over_drop (suc n) [] h = refl
passed_over_drop (suc n) (k ∷ l) h = refl

-- The longest prefix of a type of at most 255 nodes can be counted in a section.
pub longest_short : (t : Ty) → Small t → byte_count (longest_prefix t) ≤ 511
longest_short t small = slice_length (longest_prefix t) (prefix_short (longest_prefix_is_prefix t) small)

-- What was planned is the plan that the writer asks for.
pub is_plan : (t : Ty) (lent : List ℕ) {after : List ℕ} → after ≡ at_front (plan t []) lent → IsPlan t after
is_plan t lent {after} planned =
    let rest = drop (length (plan t [])) lent in
    let behind : after ≡ plan t rest = planned ∙ sym (plan_before t rest) in
    behind ∙ ap (plan t) (sym (ap (drop (size t)) behind ∙ plan_drop t rest))

-- The same of types at places: of the types from `at` on.
module _ {types lent after : List ℕ} {at : ℕ} {planned : Planned} (plans : Plans types at lent after planned) (due : PlanDue types at lent) where
  unfoldable pub as_planned : AsPlanned (part at types) after planned.width
  as_planned =
      record {
        type = due.type;
        stands = record { rest = due.stands.rest; here = part_is at types ∙ due.stands.here; small = due.stands.small };
        behind = drop (length (plan due.type [])) lent;
        is_planned = (plans.each due).buffer ∙ sym (plan_before due.type (drop (length (plan due.type [])) lent));
        measured = (plans.each due).wide;
      }
