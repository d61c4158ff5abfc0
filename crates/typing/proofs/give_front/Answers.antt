-- `give_front` meets its contract: the bytes of empty in sequence with a type are 3, 0 and those of the type.
use Rattle.std.proofs.Common.{ap, sym, ◌∷◌}
use Rattle.stream.specs.Types.{empty, seq}
use Rattle.stream.specs.TypeFiles.{type_bytes}
use Rattle.reading.specs.Views.{tree}
use Rattle.node.specs.Checking.{typing}
use Rattle.writing.specs.Appending.Laws.{nothing_written, written_on}
use Rattle.typing.proofs.Giving.{type_given}
use Rattle.typing.proofs.give_front.Goals as goal

pub returns : goal.returns
unfolding typing type_bytes
returns c =
    let kinds = written_on (written_on (nothing_written _) c.append_kind-written.ensures) c.append_kind-written-2.ensures in
    rw c.limit.ensures (type_given (seq empty (tree c.args.ty)) (written_on kinds c.append.ensures) (ap (λ l. 3 ∷ 0 ∷ l) (sym c.args.ty.whole)))
