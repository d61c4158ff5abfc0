-- What the code promises of views and fronts, said of places in longer bytes, of which the laws speak.
use Rattle.std.specs.Prelude.{Err, Ok, Result, Bool, true, false, leb, ◌≡◌, refl, List, ℕ, ◌+◌, ◌-◌, length, take, drop}
use Rattle.std.proofs.Common.{Fits, sym, ap, ◌∙◌, arith, length-take-le, length-drop}
use Rattle.std.specs.Int.{w64}
use Rattle.stream.specs.declared.Fault.{Fault}
use Rattle.stream.specs.declared.Fault.TheVariants.{TypeTooLarge}
use Rattle.stream.specs.Types.{Ty, type_limit}
use Rattle.stream.specs.Reading.{Result as Outcome, accepted, refused}
use Rattle.stream.proofs.TypeFiles.Held.{tree_of}
use Rattle.reading.specs.Places.{TypePlace}
use Rattle.reading.specs.declared.types.TypeView.{TypeView}
use Rattle.reading.specs.Views.{tree}
use Rattle.reading.specs.TypeReads.{TypeIn}
use Rattle.reading.specs.TypeReads.Laws.{same_type}
use Rattle.writing.specs.Appending.{PartDue}
use Rattle.node.specs.Nodes.{Node}
use Rattle.node.specs.Checking.{typing}
use Rattle.patch_reading.specs.declared.fronts.NodeFront.{NodeFront}
use Rattle.patch_reading.specs.Fronts.{node}
use Rattle.patch_reading.specs.PatchReads.{node_width, NodeAt}
use Rattle.patch_reading.proofs.NodeFronts.{has_node, at_front}
use Rattle.typing.specs.declared.Typed.{Typed}
use Rattle.typing.specs.Typing.{typed_at, typed, limited, limited_size, ended, Answers, NodeTyped, TypingDue, TypesNode}
use Rattle.typing.specs.Typing.Laws.{type_in_piece, HasGiven, has_given}

-- A node that stands at `from` ends so much further on.
abbrev pub moved : ℕ → Result Typed Fault → Result Typed Fault
moved from (Ok g) = Ok (typed_at (from + g.end) g.size)
moved from (Err e) = Err e

moved_typed : (from end : ℕ) (outcome : Outcome Ty) → moved from (typed end outcome) ≡ typed (from + end) outcome
unfolding typed
moved_typed from end (accepted t) = refl
moved_typed from end (refused e) = refl

same_node : {bytes : List ℕ} {at : ℕ} {n m : Node} → NodeAt bytes at n → NodeAt bytes at m → n ≡ m
same_node one other = sym (has_node (at_front one)) ∙ has_node (at_front other)

-- What type_node answers of a view and a front, wherever their type and their node stand.
module _ {types nodes : List ℕ} {place : TypePlace} {from : ℕ} (v : TypeView) (f : NodeFront) (type_in : TypeIn types place (tree v))
    (node_at : NodeAt nodes from (node f)) {lent held : List ℕ} where
  pub types_node : {answer : Result Typed Fault} → NodeTyped (tree v) (node f) lent held answer
      → TypesNode types place nodes from lent held (moved from answer)
  types_node {answer} answered = record { each = each }
    where
      each : (due : TypingDue types place nodes from)
          → Answers (from + node_width due.node) (typing due.type due.node) lent held (moved from answer)
      each due =
          rw (same_type due.type_in.stands type_in.stands, same_node due.node_at node_at)
          (record { answers = ap (moved from) answered.answers ∙ moved_typed from _ _; long = answered.long; writes = answered.writes })

  -- On work bytes that have room for every type.
  pub node_given : {g : Typed} → length lent ≡ 255 → NodeTyped (tree v) (node f) lent held (Ok g)
      → HasGiven types place nodes from held (from + g.end) g.size
  node_given long answered = has_given long (types_node answered) refl

-- The view and the front that are cut out there have that type and that node.
module _ {types nodes : List ℕ} {place : TypePlace} {from : ℕ} (due : TypingDue types place nodes from) where
  pub type_cut : (v : TypeView) → v.bytes.now ≡ take (place.end - place.start) (drop place.start types) → TypeIn types place (tree v)
  type_cut v cut =
      let is : tree v ≡ due.type = rw (cut, (type_in_piece due.type_in).taken) (tree_of due.type due.type_in.stands.small) in
      rw is due.type_in

  pub node_cut : (f : NodeFront) → f.bytes.now ≡ drop from nodes → NodeAt nodes from (node f)
  node_cut f cut =
      let stands : NodeAt (drop from nodes) 0 due.node
      = record { rest = due.node_at.rest; here = due.node_at.here; carries = due.node_at.carries } in
      let is : node f ≡ due.node = rw cut (has_node stands) in
      rw is due.node_at

-- What limit answers, told for a node that ends at `end`.
pub limited_ended : (end n : ℕ) {answer : Result ℕ Fault} → answer ≡ limited_size n → ended end answer ≡ limited end n
unfolding limited_size limited
limited_ended end n told = rw told (go (leb n type_limit))
  where
    go : (b : Bool)
        → ended end (elim b [ true ↦ Ok n | false ↦ Err TypeTooLarge ]) ≡ elim b [ true ↦ Ok (typed_at end n) | false ↦ Err TypeTooLarge ]
    go true = refl
    go false = refl

-- What append asks where the part is cut out.
pub part_counted : {source : List ℕ} {from to written : ℕ} → PartDue source from to written
    → Fits w64 (written + length (take (to - from) (drop from source)))
part_counted {source} {from} {to} due =
    omega (arith, due.few, due.inside, length-drop from source, length-take-le (to - from) (drop from source) (omega (arith, due.inside, length-drop from source)))
