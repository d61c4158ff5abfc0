-- What is left of the number, written in front of the digits that are there, is the number; behind them nothing has changed.
use Rattle.std.specs.Prelude.{◌≡◌, [], ◌-◌, ◌≤◌, take, drop}
use Rattle.stream.specs.Reading.{number_bytes}
use Rattle.writing.proofs.numbers.put_number.Given as goal

abbrev pub invariant-loop-at : goal.invariant-loop-at
invariant-loop-at g l =
    record {
      at_most : l.at ≤ g.row.W;
      behind : drop g.row.W l.out ≡ drop g.row.W l.fn.out;
      digits : number_bytes l.at l.rest (take (g.row.W - l.at) (drop l.at l.out)) ≡ number_bytes g.row.W l.fn.number [];
    }

abbrev pub decreases-loop-at : goal.decreases-loop-at
decreases-loop-at g l = l.at
