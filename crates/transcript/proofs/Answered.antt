-- What Check and Feed answer where they are lent enough for every answer: 20 does not come.
use mathlib.Core.Path.{◌≡◌, refl, ap, ◌∙◌}
use mathlib.Core.Bool.{Bool, true}
use mathlib.Core.List.{List}
use Prim.Native.Nat.{ℕ, ◌≤◌}
use native.Mathlib.Nat.{le_trans}
use native.Mathlib.Omega.{arith}
use lib.ListN.{length}
use borrow.Author.Tests.{le-leb}
use Rattle.stream.specs.Reading.{Bytes, Result, accepted, refused}
use Rattle.meaning.specs.declared.Written.{Written}
use Rattle.meaning.specs.declared.Fed.{Fed}
use Rattle.meaning.specs.Answers.{check, feed, FedFiles, with_room, fits_one, fits_both, number_of, written, fed, after}
use Rattle.meaning.proofs.Answers.Laws.{number_bounds, enough_room, both_fit, check_sized, feed_sized_of_bytes}
use Rattle.meaning.specs.Promises.{CheckPromise, FeedPromise}
use Rattle.stream.specs.Bounds.{type_file_limit, slice_file_limit, patch_file_limit}

-- No number has more than two digits.
pub number_short : {A : Type 0} (r : Result A) → number_of r ≤ 99
number_short (accepted a) = omega arith
number_short (refused e) = (number_bounds e).1

-- With room for every answer, room changes nothing.
roomy : {A : Type 0} (fits : A → Bool) (r : Result A) → ((a : A) → r ≡ accepted a → fits a ≡ true) → with_room fits r ≡ r
unfolding with_room
roomy fits (accepted a) h = enough_room fits (accepted a) refl (h a refl)
roomy fits (refused e) h = refl

pub checked : (file lent : List ℕ) {answer : Written} {lent_after : List ℕ} → Bytes file → type_file_limit ≤ length lent
    → CheckPromise file lent answer lent_after → answer.number ≡ number_of (check file)
unfolding written
checked file lent b room promise =
    ap (λ (a : Written). a.number) promise.answers
    ∙ ap number_of
    (roomy (fits_one (length lent)) (check file) (λ type e. le-leb (length type) (length lent) (le_trans ((check_sized file b).sized type e).short room)))

-- A feed with its outcome, 20 aside.
pub record FedBy (outcome : Result FedFiles) (output patch_lent : List ℕ) (answer : Fed) (output_after patch_after : List ℕ) : Type 0 where
  pub answers : answer ≡ fed outcome
  pub output_buffer : output_after ≡ after (λ w. w.output) outcome output
  pub patch_buffer : patch_after ≡ after (λ w. w.patch) outcome patch_lent

pub fed_by : (patch slice output patch_lent : List ℕ) {answer : Fed} {output_after patch_after : List ℕ} → Bytes patch → Bytes slice
    → slice_file_limit ≤ length output → patch_file_limit ≤ length patch_lent → FeedPromise patch slice output patch_lent answer output_after patch_after
    → FedBy (feed patch slice) output patch_lent answer output_after patch_after
fed_by patch slice output patch_lent b c h k promise =
    let e =
    roomy (fits_both (length output) (length patch_lent)) (feed patch slice)
    (λ w e. let s = (feed_sized_of_bytes patch slice b c).sized w e in both_fit w (le_trans s.output.short h) (le_trans s.patch.short k)) in
    record { answers = rw e at promise.answers; output_buffer = rw e at promise.output_buffer; patch_buffer = rw e at promise.patch_buffer }
