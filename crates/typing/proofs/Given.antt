-- What a node gives, where it gives a type.
use Rattle.std.specs.Prelude.{◌≡◌, List, [], ℕ, ◌+◌, ◌≤◌, length, take, Ok, Err}
use Rattle.std.proofs.Common.{refl, sym, ap, ◌∙◌, arith}
use Rattle.stream.specs.declared.Fault.{Fault}
use Rattle.stream.specs.Types.{Ty, size, Small}
use Rattle.stream.proofs.Types.Laws.{limit_is}
use Rattle.stream.specs.Reading.{Result as Outcome, accepted, refused}
use Rattle.stream.specs.TypeFiles.{type_bytes}
use Rattle.stream.proofs.TypeFiles.Held as types
use Rattle.reading.specs.declared.types.TypeView.{TypeView}
use Rattle.reading.specs.Views.{tree}
use Rattle.reading.specs.TypeReads.Laws.{bytes_at}
use Rattle.reading.proofs.PlaceViews.{all_of, view_in}
use Rattle.writing.specs.Appending.{Holds}
use Rattle.writing.specs.Writing.Standing.{TypeHeld, type_held}
use Rattle.node.specs.Nodes.{Node}
use Rattle.node.specs.Nodes.Kinds.{node_kind, node_arity}
use Rattle.node.specs.Checking.{typing}
use Rattle.patch_reading.specs.declared.fronts.NodeFront.{NodeFront}
use Rattle.patch_reading.specs.PatchReads.{node_width}
use Rattle.patch_reading.specs.Fronts.{node, first_node, second_node}
use Rattle.patch_reading.proofs.NodeParts.{fork_width}
use Rattle.patch_reading.proofs.NodeFronts.{node_at, inside}
use Rattle.typing.specs.declared.Typed.{Typed}
use Rattle.typing.specs.Typing.{typed_at, typed, Answers, NodeTyped, TypingDue}
use Rattle.typing.specs.Typing.Laws.{typing_small, is_given, is_refused, answers_refused, GivenType, given_type, held_in}
use Rattle.typing.specs.Typing.Standing.{node_given}

pub record Gave (t : Ty) (n : Node) (lent now : List ℕ) (g : Typed) : Type 0 where
  pub type : Ty
  pub outcome : typing t n ≡ accepted type
  pub ends : g.end ≡ node_width n
  pub sized : g.size ≡ size type
  pub small : Small type
  pub few : g.size ≤ 255
  pub long : length now ≡ length lent
  pub writes : Holds (type_bytes type []) lent now

-- What is known where it is refused.
pub record Refused (t : Ty) (n : Node) (lent now : List ℕ) (fault : Fault) : Type 0 where
  pub outcome : typing t n ≡ refused fault
  pub long : length now ≡ length lent

-- By the answer at the front of the node.
module _ (part : NodeFront) {n : Node} (is : node part ≡ n) {t : Ty} {lent now : List ℕ} where
  pub gave : {g : Typed} → NodeTyped t (node part) lent now (Ok g) → Gave t n lent now g
  gave answered =
      let g = is_given (node_width (node part)) (typing t (node part)) answered.answers in
      let small = typing_small t (node part) part.front.carries g.given in
      rw (← is)
      (record {
        type = g.type;
        outcome = g.given;
        ends = g.ends;
        sized = g.sized;
        small = small;
        few = omega (arith, g.sized, small, limit_is);
        long = answered.long;
        writes = answered.writes g.type g.given;
      })

  pub was_refused : {fault : Fault} → NodeTyped t (node part) lent now (Err fault) → Refused t n lent now fault
  was_refused answered = record { outcome = rw (← is) (is_refused _ _ answered.answers); long = answered.long }

-- On work bytes that have room for every type, these are all of its bytes.
module _ {t : Ty} {n : Node} {lent now : List ℕ} {g : Typed} (a : Gave t n lent now g) (room : length lent ≡ 255) where
  held : TypeHeld a.type now g.size
  held = type_held a.type a.small (omega (arith, room)) a.writes g.size a.sized

  pub size_inside : g.size ≤ length now
  size_inside = held.inside

  pub given_held : types.Holds (take g.size now) a.type
  given_held = record { bytes = held.bytes; small = a.small }

-- The same by the laws of places: all of the view's bytes are one, and all of the front's.
module _ (v : TypeView) (part : NodeFront) {lent now : List ℕ} {g : Typed} (room : length lent ≡ 255)
    (answered : NodeTyped (tree v) (node part) lent now (Ok g)) where
  abbrev due : TypingDue v.bytes.now (all_of v.bytes.now) part.bytes.now 0
  due = record { type = tree v; node = node part; type_in = view_in v; node_at = node_at part }

  pub type_given_there : GivenType due now (0 + g.end) g.size
  type_given_there = given_type (node_given v part due.type_in due.node_at room answered) due

  pub given_there : types.Holds (take g.size now) type_given_there.type
  given_there =
      let here = held_in {lies = record { start = 0; end = g.size }} type_given_there.holds refl in
      let wide : g.size ≡ size type_given_there.type = omega (arith, here.ends) in
      record { bytes = ap (λ k. take k now) wide ∙ bytes_at here.stands; small = type_given_there.small }

-- What is told of a node that gives the same and ends at `end`, as a chain gives what its second part does.

told : {end n : ℕ} {outcome : Outcome Ty} {t : Ty} → outcome ≡ accepted t → n ≡ size t → Ok (typed_at end n) ≡ typed end outcome
unfolding typed
told e sized = rw (e, sized) refl

pub given_at : {end : ℕ} {t : Ty} {n : Node} {lent now : List ℕ} {g : Typed} → Gave t n lent now g
    → Answers end (typing t n) lent now (Ok (typed_at end g.size))
given_at a =
    record {
      answers = told a.outcome a.sized;
      long = a.long;
      writes = λ u e.
          let both : accepted a.type ≡ accepted u = sym a.outcome ∙ e in
          let same : a.type ≡ u = cc in
          rw (← same) a.writes;
    }

pub refused_at : {end : ℕ} {t : Ty} {n : Node} {fault : Fault} {lent now : List ℕ} → Refused t n lent now fault
    → Answers end (typing t n) lent now (Err fault)
refused_at r = rw r.outcome (answers_refused r.long)

-- Where the parts of a node end.
module _ (front : NodeFront) (two : node_arity (node_kind (node front)) ≡ 2) {one : ℕ}
    (first_ends : one ≡ node_width (first_node (node front))) where
  pub first_inside : 1 + one ≤ length front.bytes.now
  first_inside = omega (arith, fork_width (node front) two, inside front)

  module _ {other : ℕ} (second_ends : other ≡ node_width (second_node (node front))) where
    pub fork_ends : node_width (node front) ≡ 1 + one + other
    fork_ends = omega (arith, fork_width (node front) two)

    pub second_inside : 1 + one + other ≤ length front.bytes.now
    second_inside = omega (arith, fork_ends, inside front)
