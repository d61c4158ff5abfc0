-- `give_either` meets its contract: the bytes of an either are 5 and those of its parts.
use Rattle.std.proofs.Common.{ap, ap₂, sym, ◌∙◌, [], ◌∷◌, ◌++◌}
use Rattle.stream.specs.Types.{either}
use Rattle.stream.specs.TypeFiles.{type_bytes}
use Rattle.stream.proofs.TypeFiles.Held.{type_before}
use Rattle.reading.specs.Views.{tree}
use Rattle.writing.specs.Appending.Laws.{nothing_written, written_on}
use Rattle.typing.proofs.Giving.{type_given}
use Rattle.typing.proofs.give_either.Goals as goal

pub returns : goal.returns
unfolding type_bytes
returns c =
    let s = tree c.args.first in
    let t = tree c.args.second in
    let kind = written_on (nothing_written _) c.append_kind-written.ensures in
    rw c.limit.ensures
    (type_given (either s t) (written_on (written_on kind c.append-written.ensures) c.append.ensures)
    (ap (λ l. 5 ∷ l) (ap₂ (λ a b. a ++ b) (sym c.args.first.whole) (sym c.args.second.whole) ∙ sym (type_before s (type_bytes t [])))))
