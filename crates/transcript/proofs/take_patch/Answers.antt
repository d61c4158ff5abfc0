-- `take_patch` meets its contract: the array has room for every type, so Check's number is the patch's own (`TakingPatch`).
use Rattle.std.proofs.Common.{◌≡◌, ◌≤◌, ◌∙◌, sym, length, arith}
use Rattle.stream.specs.Reading.{Bytes}
use Rattle.meaning.specs.Answers.{check, number_of}
use Rattle.transcript.proofs.Answered.{number_short, checked}
use Rattle.transcript.proofs.TakingPatch.{patch_short, patch_kept, patch_refused}
use Rattle.transcript.proofs.take_patch.Goals.{After-check-checked}
use Rattle.transcript.proofs.take_patch.Goals as goal

file_bytes : (c : After-check-checked) → Bytes c.args.file.now
file_bytes c = λ i. omega (arith, c.type_inv.file i)

-- The number is the patch's own.
number_is : (c : After-check-checked) → c.check-checked.result.number ≡ number_of (check c.args.file.now)
number_is c = checked c.args.file.now _ (file_bytes c) (omega arith) c.check-checked.ensures

pub put_number-requires : goal.put_number-requires
put_number-requires c = (
  omega (arith, number_is (goal.at.put_number-requires c).After-check-checked, number_short (check c.args.file.now)),
  omega (arith, c.requires.line_room),
)

pub returns-then-checked-ne0 : goal.returns-then-checked-ne0
returns-then-checked-ne0 c =
    let is = number_is (goal.at.returns-then-checked-ne0 c).After-check-checked in
    patch_refused _ _ _ (λ z. omega (arith, is)) (rw is at c.put_number.ensures)

accepted : (c : After-check-checked) → c.check-checked.result.number ≡ 0 → number_of (check c.args.file.now) ≡ 0
accepted c none = sym (number_is c) ∙ none

fits : (c : After-check-checked) → c.check-checked.result.number ≡ 0 → length c.args.file.now ≤ length c.args.patch.now
fits c none = omega (arith, c.requires.patch_room, patch_short c.args.file.now (file_bytes c) (accepted c none))

pub copy-requires : goal.copy-requires
copy-requires c = fits (goal.at.copy-requires c).After-check-checked (omega arith)

pub returns : goal.returns
returns c =
    let checked = (goal.at.returns c).After-check-checked in
    patch_kept _ _ _ (accepted checked (omega arith)) (fits checked (omega arith)) c.copy.ensures
