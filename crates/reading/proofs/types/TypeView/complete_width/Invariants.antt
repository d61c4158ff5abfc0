-- What is counted and what is still to be counted make up the whole, and no more is counted than bytes were passed.
use Rattle.std.specs.Prelude.{◌≡◌, ◌+◌, ◌≤◌, drop}
use Rattle.reading.proofs.CompleteWidth.{kind_bytes}
use Rattle.reading.proofs.types.TypeView.complete_width.Given as goal

abbrev pub invariant-loop-kind : goal.invariant-loop-kind
invariant-loop-kind l = record {
  levels : l.levels + kind_bytes 2 (drop l.kind-index l.self.bytes.now) ≡ kind_bytes 2 l.self.bytes.now;
  choices : l.choices + kind_bytes 5 (drop l.kind-index l.self.bytes.now) ≡ kind_bytes 5 l.self.bytes.now;
  few_levels : l.levels ≤ l.kind-index;
  few_choices : l.choices ≤ l.kind-index;
}
