-- All that is behind s is t, or t ends where `skip_prefix` says.
use Rattle.std.proofs.Common.{refl, ◌∙◌}
use Rattle.reading.proofs.PieceViews.{Ends, two_found}
use Rattle.reading.proofs.nested.pieces_behind.Goals as goal
use Rattle.reading.proofs.nested.pieces_behind.Goals.{Joined-kind-eq5, then-kind-eq5, else-kind-eq5}

ends : (c : Joined-kind-eq5) → Ends c.args.kind c.args.behind.now c.if-kind-eq5.end
ends c = elim c.if-kind-eq5.branch [
  | then-kind-eq5 w ↦ record { alone = λ five. w.end-is; before = λ other. absurd (other w.if-kind-eq5.true) }
  | else-kind-eq5 w ↦ record { alone = λ five. absurd (w.if-kind-eq5.false five); before = λ other. rw w.end-is w.skip_prefix-end.ensures }
]

pub split_at-requires : goal.split_at-requires
split_at-requires c = (two_found (ends (goal.at.split_at-requires c).Joined-kind-eq5) c.requires.both).inside

pub returns : goal.returns
returns c = record {
  kind = refl;
  first = refl;
  each = λ both.
      let two = two_found (ends (goal.at.returns c).Joined-kind-eq5) both in
      (c.split_at.ensures.front ∙ two.second, c.split_at.ensures.back ∙ two.third);
}
