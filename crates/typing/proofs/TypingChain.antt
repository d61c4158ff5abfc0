-- The second pass at chain: what the first part gives stands in the middle, and the second part takes it.
use Rattle.std.specs.Prelude.{◌≡◌, refl, List, ℕ, ◌+◌, length, take, Ok, Err}
use Rattle.std.proofs.Common.{sym, ap, ◌∙◌}
use Rattle.stream.specs.declared.Fault.{Fault}
use Rattle.stream.specs.Types.{Ty}
use Rattle.stream.specs.Reading.{Result as Outcome, accepted, refused, go_on}
use Rattle.stream.specs.TypeFiles.{type_of}
use Rattle.stream.proofs.TypeFiles.Held.{has_tree}
use Rattle.node.specs.Nodes.{Node}
use Rattle.node.specs.Nodes.Kinds.{node_kind, node_arity}
use Rattle.node.specs.Nodes.Functions.{Carries}
use Rattle.node.specs.Checking.{gives, typing}
use Rattle.node.proofs.Checking.Laws.{gives_small}
use Rattle.patch_reading.specs.declared.fronts.NodeFront.{NodeFront}
use Rattle.patch_reading.specs.Fronts.{node, first_node, second_node}
use Rattle.patch_reading.proofs.NodeParts.{made_of, forked}
use Rattle.typing.specs.declared.Typed.{Typed}
use Rattle.typing.specs.Typing.{typed_at, NodeTyped}
use Rattle.typing.specs.Typing.Laws.{typing_small, answers_refused}
use Rattle.typing.proofs.Given.{Gave, Refused, given_held, given_at, refused_at, fork_ends}

given_again : (t : Ty) (n : Node) → Carries n → go_on (typing t n) (λ r. gives r) ≡ typing t n
given_again t n carries = go (typing t n) refl
  where
    go : (g : Outcome Ty) → typing t n ≡ g → go_on g (λ r. gives r) ≡ g
    go (accepted r) e = gives_small (typing_small t n carries e)
    go (refused fault) e = refl

module _ (front : NodeFront) {byte : ℕ} (of_node : byte ≡ node_kind (node front)) (is : byte ≡ 10) (s : Ty) where
  abbrev n : Node
  n = node front

  pub two : node_arity (node_kind n) ≡ 2
  two = ap node_arity (sym of_node ∙ is)

  chain_is : typing s n ≡ go_on (typing s (first_node n)) (λ t. go_on (typing t (second_node n)) (λ r. gives r))
  unfolding typing
  chain_is = ap (typing s) (made_of n (sym of_node ∙ is))

  pub chain_refused : {middle held lent : List ℕ} {fault : Fault} → Refused s (first_node n) middle held fault
      → NodeTyped s n lent lent (Err fault)
  chain_refused one = rw (chain_is, one.outcome) (answers_refused refl)

  module _ {middle held : List ℕ} {g : Typed} (one : Gave s (first_node n) middle held g) (room : length middle ≡ 255) where
    passes_on : typing s n ≡ typing (type_of (take g.size held)) (second_node n)
    passes_on =
        let carries = ((forked n two).carries front.front.carries).1 in
        rw (chain_is, one.outcome, has_tree (given_held one room)) (given_again one.type (second_node n) carries)

    module _ {lent now : List ℕ} where
      pub second_refused : {fault : Fault} → Refused (type_of (take g.size held)) (second_node n) lent now fault
          → NodeTyped s n lent now (Err fault)
      second_refused other = rw passes_on (refused_at other)

      pub chain_given : {h : Typed} → Gave (type_of (take g.size held)) (second_node n) lent now h
          → NodeTyped s n lent now (Ok (typed_at (1 + g.end + h.end) h.size))
      chain_given other = rw (passes_on, fork_ends front two one.ends other.ends) (given_at other)
