-- What Feed comes to, of what it has read, and how it is told: contracts inside the library, which no demand rests on.
use Rattle.std.specs.Prelude.{◌≡◌, List, ℕ}
use Rattle.stream.specs.declared.Fault.{Fault}
use Rattle.stream.specs.declared.Fault.TheVariants.{TotalTooLarge}
use Rattle.stream.specs.Types.{Ty}
use Rattle.stream.specs.Prefixes.{Prefix}
use Rattle.stream.specs.Reading.{Result, accepted, refused, go_on, require}
use Rattle.node.specs.Totals.{held}
use Rattle.node.specs.Nodes.{Patch}
use Rattle.node.specs.Checking.{typing}
use Rattle.node.specs.Feeding.Functions.{patch_left}
use Rattle.meaning.specs.declared.Fed.{Fed}
use Rattle.meaning.specs.Answers.{FedFiles, fed_files, into_both, fed, after}

-- The first fault of the second pass, if it has one, or else another.
abbrev pub first_fault : Result Ty → Fault → Fault
first_fault (accepted t) fault = fault
first_fault (refused first) fault = first

-- What Feed comes to, of a patch and a prefix of its input type. Whether the patch is typed is for the step to find.
unfoldable pub fed_by : Patch → Prefix → Result FedFiles
fed_by a p = go_on (typing a.input a.node) (λ t. require (held (patch_left a p).totals) TotalTooLarge (accepted (fed_files a p)))

-- What a call answers and writes that comes to `outcome`, 20 aside: what FeedPromise says of what Feed comes to.
pub record Delivers (outcome : Result FedFiles) (output_lent patch_lent : List ℕ) (answer : Fed) (output_after patch_after : List ℕ) : Type 0 where
  pub answers : answer ≡ fed (into_both output_lent patch_lent outcome)
  pub output_buffer : output_after ≡ after (λ w. w.output) (into_both output_lent patch_lent outcome) output_lent
  pub patch_buffer : patch_after ≡ after (λ w. w.patch) (into_both output_lent patch_lent outcome) patch_lent
