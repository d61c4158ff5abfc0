-- The promises of the six operations: each is the text of an `ensures`, and what the demands take of a call (crates/demands).
use Rattle.std.specs.Prelude.{◌≡◌, List, ℕ}
use Rattle.stream.specs.Prefixes.{Prefix}
use Rattle.stream.specs.Reading.{Result}
use Rattle.meaning.specs.declared.Written.{Written}
use Rattle.meaning.specs.declared.Admitted.{Admitted}
use Rattle.meaning.specs.declared.Fed.{Fed}
use Rattle.meaning.specs.Answers.{check, admit, left, join, feed, longest, into_one, into_both, written, admitted, fed, after}

-- What an operation with one lent buffer promises: `outcome` is what it has to write, 20 aside.
pub record Writes (outcome : Result (List ℕ)) (lent : List ℕ) (answer : Written) (lent_after : List ℕ) : Type 0 where
  pub answers : answer ≡ written (into_one lent outcome)
  pub buffer : lent_after ≡ after (λ file. file) (into_one lent outcome) lent

-- What an operation that writes nothing promises.
pub record Admits (outcome : Result Prefix) (answer : Admitted) : Type 0 where
  pub answers : answer ≡ admitted outcome

abbrev pub CheckPromise : (patch lent : List ℕ) → Written → List ℕ → Type 0
CheckPromise patch lent answer lent_after = Writes (check patch) lent answer lent_after

abbrev pub AdmitPromise : (type slice : List ℕ) → Admitted → Type 0
AdmitPromise type slice answer = Admits (admit type slice) answer

abbrev pub LeftPromise : (type slice lent : List ℕ) → Written → List ℕ → Type 0
LeftPromise type slice lent answer lent_after = Writes (left type slice) lent answer lent_after

abbrev pub JoinPromise : (type first second lent : List ℕ) → Written → List ℕ → Type 0
JoinPromise type first second lent answer lent_after = Writes (join type first second) lent answer lent_after

pub record FeedPromise (patch slice output_lent patch_lent : List ℕ) (answer : Fed) (output_after patch_after : List ℕ) : Type 0 where
  pub answers : answer ≡ fed (into_both output_lent patch_lent (feed patch slice))
  pub output_buffer : output_after ≡ after (λ w. w.output) (into_both output_lent patch_lent (feed patch slice)) output_lent
  pub patch_buffer : patch_after ≡ after (λ w. w.patch) (into_both output_lent patch_lent (feed patch slice)) patch_lent

abbrev pub LongestPromise : (type lent : List ℕ) → Written → List ℕ → Type 0
LongestPromise type lent answer lent_after = Writes (longest type) lent answer lent_after
