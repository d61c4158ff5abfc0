-- The second pass at choose: each part is typed on its part of an either, and what they give is compared.
use Rattle.std.specs.Prelude.{◌≡◌, refl, Bool, true, false, List, ℕ, ◌+◌, length, take, Some, Ok, Err}
use Rattle.std.specs.Cmp.Lexicographic.{pointwise}
use Rattle.std.proofs.Common.{nat_eq, sym, ap, ◌∙◌}
use Rattle.std.proofs.Math.Bool.{not, not-not}
use Rattle.stream.specs.declared.Fault.{Fault}
use Rattle.stream.specs.declared.Fault.TheVariants.{WrongShape, OutputsDiffer}
use Rattle.stream.specs.Types.{Ty, first_part, second_part, has_kind, same_type}
use Rattle.stream.specs.Reading.{Result as Outcome, require, go_on}
use Rattle.reading.specs.declared.types.TypeView.{TypeView}
use Rattle.reading.specs.Views.{tree, PartsOf}
use Rattle.writing.specs.Appending.{Appends}
use Rattle.writing.specs.Appending.Laws.{nothing_written, written_on}
use Rattle.writing.specs.Comparing.{compared}
use Rattle.node.specs.Nodes.{Node}
use Rattle.node.specs.Nodes.Kinds.{node_kind, node_arity}
use Rattle.node.specs.Checking.{gives, typing}
use Rattle.patch_reading.specs.declared.fronts.NodeFront.{NodeFront}
use Rattle.patch_reading.specs.Fronts.{node, first_node, second_node}
use Rattle.patch_reading.proofs.NodeParts.{made_of}
use Rattle.typing.specs.declared.Typed.{Typed}
use Rattle.typing.specs.Typing.{typed_at, NodeTyped}
use Rattle.typing.specs.Typing.Laws.{answers_refused, answers_small, requires_fails, requires_holds}
use Rattle.typing.proofs.Given.{Gave, Refused, given_held, fork_ends}

-- What the parts give, if it is the same.
abbrev same_outputs : Ty → Ty → Node → Node → Outcome Ty
same_outputs s t n m = go_on (typing s n) (λ u. go_on (typing t m) (λ r. require (same_type u r) OutputsDiffer (gives u)))

module _ (front : NodeFront) (ty : TypeView) (is : node_kind (node front) ≡ 15) where
  abbrev n : Node
  n = node front

  pub two : node_arity (node_kind n) ≡ 2
  two = ap node_arity is

  choose_is : typing (tree ty) n
      ≡ require (has_kind 5 (tree ty)) WrongShape (same_outputs (first_part (tree ty)) (second_part (tree ty)) (first_node n) (second_node n))
  unfolding typing
  choose_is = ap (typing (tree ty)) (made_of n is)

  pub choose_shapeless : {lent : List ℕ} → has_kind 5 (tree ty) ≡ false → NodeTyped (tree ty) n lent lent (Err WrongShape)
  choose_shapeless other = rw choose_is (requires_fails _ other refl)

  module _ (s t : TypeView) (parts : PartsOf 5 (tree ty) (Some (s, t))) where
    by_parts : typing (tree ty) n ≡ same_outputs (tree s) (tree t) (first_node n) (second_node n)
    by_parts = rw (choose_is, parts.0, ← parts.1, ← parts.2)

    pub first_refused : {room held lent : List ℕ} {fault : Fault} → Refused (tree s) (first_node n) room held fault
        → NodeTyped (tree ty) n lent lent (Err fault)
    first_refused one = rw (by_parts, one.outcome) (answers_refused refl)

    module _ {room held : List ℕ} {g : Typed} (one : Gave (tree s) (first_node n) room held g) where
      pub second_refused : {other_room other_held lent : List ℕ} {fault : Fault} → Refused (tree t) (second_node n) other_room other_held fault
          → NodeTyped (tree ty) n lent lent (Err fault)
      second_refused other = rw (by_parts, one.outcome, other.outcome) (answers_refused refl)

      module _ {other_room other_held : List ℕ} {h : Typed} (other : Gave (tree t) (second_node n) other_room other_held h)
          (wide : length room ≡ 255) (other_wide : length other_room ≡ 255) {unlike : Bool}
          (told : unlike ≡ not (pointwise nat_eq (take g.size held) (take h.size other_held))) where
        same_is : same_type one.type other.type ≡ not unlike
        same_is =
            let c = compared (not unlike) (ap not told ∙ not-not _) in
            sym (c.each one.type other.type one.small other.small (given_held one wide).bytes (given_held other other_wide).bytes)

        pub outputs_differ : {lent : List ℕ} → unlike ≡ true → NodeTyped (tree ty) n lent lent (Err OutputsDiffer)
        outputs_differ differ = rw (by_parts, one.outcome, other.outcome) (requires_fails (gives one.type) (same_is ∙ ap not differ) refl)

        pub outputs_same : {lent now : List ℕ} {many : ℕ} → unlike ≡ false → Appends (take g.size held) 0 lent now many
            → NodeTyped (tree ty) n lent now (Ok (typed_at (1 + g.end + h.end) many))
        outputs_same {lent} agree appended =
            let written = written_on (nothing_written lent) appended in
            rw (by_parts, one.outcome, other.outcome, fork_ends front two one.ends other.ends)
            (requires_holds OutputsDiffer (same_is ∙ ap not agree) (answers_small one.type one.small written (given_held one wide).bytes))
