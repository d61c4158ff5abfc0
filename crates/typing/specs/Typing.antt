-- What the writers of Check's second pass promise and ask: contracts inside the library, which no demand rests on.
use Rattle.std.specs.Prelude.{Err, Ok, Result, true, false, ◌⊎◌, ◌≡◌, List, [], ℕ, ◌+◌, leb, eqb, length}
use Rattle.stream.specs.declared.Fault.{Fault}
use Rattle.stream.specs.declared.Fault.TheVariants.{TypeTooLarge, NotNullable, WrongShape}
use Rattle.stream.specs.Types.{Ty, seq, par, either, nullable, size, type_limit, first_part, second_part, has_kind}
use Rattle.stream.specs.Reading.{Result as Outcome, accepted, refused, require, go_on}
use Rattle.writing.specs.Appending.{Holds}
use Rattle.stream.specs.TypeFiles.{type_bytes}
use Rattle.reading.specs.Places.{TypePlace}
use Rattle.reading.specs.TypeReads.{TypeIn}
use Rattle.node.specs.Nodes.{Node}
use Rattle.node.specs.Checking.{gives, typing}
use Rattle.patch_reading.specs.PatchReads.{node_width, NodeAt}
use Rattle.patch_reading.specs.Fronts.{first_node, second_node}
use Rattle.typing.specs.declared.Typed.{Typed}
pub mod Laws
pub mod Standing

-- A node that ends at `end` gives a type of `size` nodes.
abbrev pub typed_at : (end size : ℕ) → Typed
typed_at end size = record { end = end; size = size }

-- What is told of a node that ends at `end`.
unfoldable pub typed : ℕ → Outcome Ty → Result Typed Fault
typed end (accepted t) = Ok (typed_at end (size t))
typed end (refused e) = Err e

-- The same by the size of the type given.
unfoldable pub limited : ℕ → ℕ → Result Typed Fault
limited end n = elim (leb n type_limit) [ true ↦ Ok (typed_at end n) | false ↦ Err TypeTooLarge ]

-- The answer of a node that ends at `end`, where the rules have `outcome`; the type is written if there is one.
pub record Answers (end : ℕ) (outcome : Outcome Ty) (lent lent_after : List ℕ) (answer : Result Typed Fault) : Type 0 where
  pub answers : answer ≡ typed end outcome
  pub long : length lent_after ≡ length lent
  pub writes : (t : Ty) → outcome ≡ accepted t → Holds (type_bytes t []) lent lent_after

-- What is told of a type that is given: its size, or why none is.
unfoldable pub sized : Outcome Ty → Result ℕ Fault
sized (accepted t) = Ok (size t)
sized (refused e) = Err e

unfoldable pub limited_size : ℕ → Result ℕ Fault
limited_size n = elim (leb n type_limit) [ true ↦ Ok n | false ↦ Err TypeTooLarge ]

-- The answer of a writer of a type, where the rules have `outcome`; the type is written if there is one.
pub record TypeGiven (outcome : Outcome Ty) (lent lent_after : List ℕ) (answer : Result ℕ Fault) : Type 0 where
  pub answers : answer ≡ sized outcome
  pub long : length lent_after ≡ length lent
  pub writes : (t : Ty) → outcome ≡ accepted t → Holds (type_bytes t []) lent lent_after

-- What is told of a node of `end` bytes, by what is told of the type that it gives.
abbrev pub ended : ℕ → Result ℕ Fault → Result Typed Fault
ended end (Ok n) = Ok (typed_at end n)
ended end (Err e) = Err e

-- The answer of a node on a type.
abbrev pub NodeTyped : Ty → Node → (lent lent_after : List ℕ) → Result Typed Fault → Type 0
NodeTyped t n lent lent_after answer = Answers (node_width n) (typing t n) lent lent_after answer

abbrev pub first_of : ℕ → Ty → Outcome Ty
first_of k t = require (has_kind k t) WrongShape (gives (first_part t))

abbrev pub second_of : ℕ → Ty → Outcome Ty
second_of k t = require (has_kind k t) WrongShape (gives (second_part t))

-- What silent gives, by the type that it carries, and what a node that gives an either, by the types of its two parts.

abbrev pub carried_of : Ty → Outcome Ty
carried_of n = require (nullable n) NotNullable (gives n)

abbrev pub either_of : Ty → Ty → Outcome Ty
either_of s t = gives (either s t)

-- The kinds of the nodes that mark a choice.
abbrev pub Marks : ℕ → Type 0
Marks k = (k ≡ 16) ⊎ (k ≡ 17)

abbrev pub fork : ℕ → Ty → Ty → Ty
fork k t r = elim (eqb k 3) [ true ↦ seq t r | false ↦ par t r ]

-- What two nodes give together, a type of the kind `kind`.
abbrev pub parts_typing : ℕ → Ty → Ty → Node → Node → Outcome Ty
parts_typing k s t n m = go_on (typing s n) (λ u. go_on (typing t m) (λ r. gives (fork k u r)))

-- The answer of a node whose parts are typed in turn, on s and on t; together they give a type of the kind k, 3 or 4.
abbrev pub PartsTyped : ℕ → Ty → Ty → Node → (lent lent_after : List ℕ) → Result Typed Fault → Type 0
PartsTyped k s t n lent lent_after answer = Answers (node_width n) (parts_typing k s t (first_node n) (second_node n)) lent lent_after answer

-- A node, and the type that it takes, in their bytes.
pub record TypingDue (types : List ℕ) (place : TypePlace) (nodes : List ℕ) (from : ℕ) : Type 0 where
  pub type : Ty
  pub node : Node
  pub type_in : TypeIn types place type
  pub node_at : NodeAt nodes from node

pub record TypesNode (types : List ℕ) (place : TypePlace) (nodes : List ℕ) (from : ℕ) (lent lent_after : List ℕ) (answer : Result Typed Fault) : Type 0 where
  pub each : (due : TypingDue types place nodes from)
      → Answers (from + node_width due.node) (typing due.type due.node) lent lent_after answer
