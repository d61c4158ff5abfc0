-- The second pass at a node without parts, by what is given on its type.
use Rattle.std.specs.Prelude.{◌≡◌, refl, Bool, true, false, List, [], ◌∷◌, ℕ, ◌+◌, ◌≤◌, ◌<◌, leb, length, get_or, Ok, Result}
use Rattle.std.proofs.Common.{inl, inr, sym, subst, ap, ◌∙◌, arith, leb-true}
use Rattle.std.proofs.lemmas.Bool.{leb-false}
use Rattle.stream.specs.declared.Fault.{Fault}
use Rattle.stream.specs.Types.{Ty, size}
use Rattle.stream.proofs.Types.Laws.{limit_is}
use Rattle.stream.specs.TypeFiles.{type_bytes}
use Rattle.stream.proofs.TypeFiles.Held.{type_width}
use Rattle.stream.specs.Reading.{Result as Outcome, accepted, refused}
use Rattle.reading.specs.declared.types.TypeView.{TypeView}
use Rattle.reading.specs.Views.{tree}
use Rattle.node.specs.Nodes.{Node, pass}
use Rattle.node.specs.Nodes.Kinds.{node_kind, node_arity, kind_is_listed, bare, a_type, node_contents}
use Rattle.node.specs.Checking.{gives, typing}
use Rattle.writing.specs.Appending.{Appends}
use Rattle.writing.specs.Appending.Laws.{nothing_written, written_on}
use Rattle.patch_reading.specs.PatchReads.{node_width}
use Rattle.patch_reading.specs.declared.fronts.NodeFront.{NodeFront}
use Rattle.patch_reading.specs.Fronts.{node, carried_type}
use Rattle.patch_reading.proofs.NodeParts.{nodes_by_kind, made_of, alone_width, carried_width}
use Rattle.typing.specs.Typing.{typed, sized, ended, Answers, TypeGiven, NodeTyped, Marks}
use Rattle.typing.specs.Typing.Laws.{marks_between}
use Rattle.typing.proofs.Giving.{small_given}

ended_sized : (end : ℕ) (outcome : Outcome Ty) → ended end (sized outcome) ≡ typed end outcome
unfolding sized typed
ended_sized end (accepted t) = refl
ended_sized end (refused e) = refl

pub ended_typed : {end : ℕ} {outcome : Outcome Ty} {lent now : List ℕ} {answer : Result ℕ Fault} → TypeGiven outcome lent now answer
    → Answers end outcome lent now (ended end answer)
ended_typed {end} {outcome} given =
    record { answers = ap (ended end) given.answers ∙ ended_sized end outcome; long = given.long; writes = given.writes }

-- By its kind byte, at which the node computes to one of that kind.
module _ (ty : TypeView) (front : NodeFront) {k byte : ℕ} (of_node : byte ≡ node_kind (node front)) (is : byte ≡ k) {lent now : List ℕ}
    {answer : Result ℕ Fault} (given : TypeGiven (typing (tree ty) (get_or (nodes_by_kind (node front)) k pass)) lent now answer) where
  abbrev t : Ty
  t = tree ty

  abbrev n : Node
  n = node front

  of_kind : node_kind n ≡ k
  of_kind = sym of_node ∙ is

  pub leaf_typed : {end : ℕ} → end ≡ node_width n → NodeTyped t n lent now (ended end answer)
  leaf_typed ends = rw ends (ended_typed (subst (λ m. TypeGiven (typing t m) lent now answer) (sym (made_of n of_kind)) given))

  pub alone_typed : node_contents k ≡ bare → node_arity k ≡ 0 → NodeTyped t n lent now (ended 1 answer)
  alone_typed plain none = leaf_typed (sym (alone_width n (ap node_contents of_kind ∙ plain) (ap node_arity of_kind ∙ none)))

  pub carried_typed : {many : ℕ} → node_contents k ≡ a_type → many ≡ size (carried_type n) → NodeTyped t n lent now (ended (1 + many) answer)
  carried_typed typed e = leaf_typed (ap (λ m. 1 + m) e ∙ sym (carried_width n (ap node_contents of_kind ∙ typed)))

-- One byte is written: the type of one node whose kind it is.
pub kind_given : {k : ℕ} (t : Ty) → type_bytes t [] ≡ k ∷ [] → {lent now : List ℕ} {n : ℕ} → Appends (k ∷ []) 0 lent now n
    → TypeGiven (gives t) lent now (Ok n)
kind_given t alone {lent} appended =
    small_given t (written_on (nothing_written lent) appended) (sym alone) (omega (arith, limit_is, ap length alone, type_width t))

pub other_mark : {k : ℕ} → Marks k → (k ≡ 16 → ⊥) → k ≡ 17
other_mark (inl e) other = absurd (other e)
other_mark (inr e) other = e

-- No kind below those that mark a choice is left when all others but those with parts have been tried.

abbrev pub Outside : List ℕ → ℕ → Type 0
Outside [] k = Unit
Outside (j ∷ js) k = Outside js k × (k ≡ j → ⊥)

abbrev pub tried : List ℕ
tried = 14 ∷ 13 ∷ 12 ∷ 11 ∷ 8 ∷ 7 ∷ 6 ∷ 5 ∷ 3 ∷ 2 ∷ 1 ∷ 0 ∷ []

above : {j k : ℕ} → j ≤ k → (k ≡ j → ⊥) → j + 1 ≤ k
above h other = omega arith

pub none_left : (k : ℕ) → k < 16 → node_arity k ≡ 0 → Outside tried k → ⊥
none_left k below leaf ((((((((((((none, passed), silent), cue), level), left), right), first), second), regroup_right), regroup_left), spread), front) =
    let low : 4 ≤ k = above (above (above (above (omega arith) passed) silent) cue) level in
    let middle : 9 ≤ k = above (above (above (above (parted 4 refl low) left) right) first) second in
    let high : 11 ≤ k = parted 10 refl (parted 9 refl middle) in
    let last : 16 ≤ k = parted 15 refl (above (above (above (above high regroup_right) regroup_left) spread) front) in
    omega arith
  where
    parted : (j : ℕ) → node_arity j ≡ 2 → j ≤ k → j + 1 ≤ k
    parted j two h = above h (λ e. omega (arith, ap node_arity e))

-- So a node of another kind marks one.
pub marks_left : (n : Node) → node_arity (node_kind n) ≡ 0 → Outside tried (node_kind n) → Marks (node_kind n)
marks_left n leaf other = go (leb 16 (node_kind n)) refl
  where
    go : (b : Bool) → leb 16 (node_kind n) ≡ b → Marks (node_kind n)
    go true e = marks_between (node_kind n) (leb-true 16 (node_kind n) e) (omega (arith, kind_is_listed n))
    go false e = absurd (none_left (node_kind n) (leb-false 16 (node_kind n) e) leaf other)
