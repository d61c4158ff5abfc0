-- The second pass at both and then: how the answers of two parts make the node's.
use Rattle.std.specs.Prelude.{◌⊎◌, ◌≡◌, List, [], ◌∷◌, ◌++◌, ℕ, ◌+◌, length, Option, Some, None, Err}
use Rattle.std.specs.Option.{is_some}
use Rattle.std.specs.Prelude.{false}
use Rattle.std.proofs.Common.{refl, ⊎_elim, sym, ap, ◌∙◌}
use Rattle.stream.specs.declared.Fault.{Fault}
use Rattle.stream.specs.declared.Fault.TheVariants.{WrongShape}
use Rattle.stream.specs.Types.{Ty, first_part, second_part, has_kind}
use Rattle.stream.specs.Reading.{require}
use Rattle.stream.specs.TypeFiles.{type_bytes}
use Rattle.stream.proofs.TypeFiles.Held.{type_width, type_before}
use Rattle.reading.specs.declared.types.TypeView.{TypeView}
use Rattle.reading.specs.Views.{PartsOf}
use Rattle.writing.specs.Appending.{Appends, Within}
use Rattle.writing.specs.Appending.Laws.{back_length, nothing_written, written_on, written-part}
use Rattle.writing.specs.Writing.Laws.{part, back}
use Rattle.node.specs.Nodes.{Node}
use Rattle.node.specs.Nodes.Kinds.{node_kind, node_arity}
use Rattle.node.specs.Checking.{typing}
use Rattle.patch_reading.specs.declared.fronts.NodeFront.{NodeFront}
use Rattle.patch_reading.specs.Fronts.{node, first_node, second_node}
use Rattle.patch_reading.proofs.NodeParts.{made_of}
use Rattle.typing.specs.declared.Typed.{Typed}
use Rattle.typing.specs.Typing.{limited_size, ended, PartsTyped, parts_typing, fork}
use Rattle.typing.specs.Typing.Laws.{answers_refused, answers_written}
use Rattle.typing.specs.Typing.Standing.{limited_ended}
use Rattle.typing.proofs.Given.{Gave, Refused, fork_ends}

fork_bytes : {k : ℕ} (t r : Ty) → (k ≡ 3) ⊎ (k ≡ 4) → (k ∷ type_bytes t []) ++ type_bytes r [] ≡ type_bytes (fork k t r) []
unfolding type_bytes
fork_bytes t r forks =
    let parts = sym (type_before t (type_bytes r [])) in
    ⊎_elim (λ three. rw three (ap (λ l. 3 ∷ l) parts)) (λ four. rw four (ap (λ l. 4 ∷ l) parts)) forks

module _ (front : NodeFront) (two : node_arity (node_kind (node front)) ≡ 2) {k : ℕ} (s t : Ty) {lent now : List ℕ} {before start : ℕ}
    (kind_written : Appends (k ∷ []) 0 lent now before) (starts : Within before (length now) start) where
  abbrev n : Node
  n = node front

  kept : (y : List ℕ) → length y ≡ length (part start now) → length (back start now y) ≡ length lent
  kept y e = back_length start now y starts.inside e ∙ kind_written.long

  pub first_failed : {fault : Fault} {y : List ℕ} → Refused s (first_node n) (part start now) y fault
      → PartsTyped k s t n lent (back start now y) (Err fault)
  first_failed {y = y} one = rw one.outcome (answers_refused (kept y one.long))

  module _ {g : Typed} {y : List ℕ} (one : Gave s (first_node n) (part start now) y g) {rest : ℕ}
      (rests : Within (before + g.size) (length (back start now y)) rest) {z : List ℕ} where
    pub second_failed : {fault : Fault} → Refused t (second_node n) (part rest (back start now y)) z fault
        → PartsTyped k s t n lent (back rest (back start now y) z) (Err fault)
    second_failed other =
        rw (one.outcome, other.outcome)
        (answers_refused (back_length rest (back start now y) z rests.inside other.long ∙ kept y one.long))

    pub both_given : {h : Typed} → (k ≡ 3) ⊎ (k ≡ 4) → Gave t (second_node n) (part rest (back start now y)) z h
        → PartsTyped k s t n lent (back rest (back start now y) z) (ended (1 + g.end + h.end) (limited_size (before + g.size + h.size)))
    both_given {h = h} forks other =
        let kind = written_on (nothing_written lent) kind_written in
        let so_far = written-part kind starts one.writes (one.sized ∙ sym (type_width one.type)) in
        let written = written-part so_far rests other.writes (other.sized ∙ sym (type_width other.type)) in
        rw (one.outcome, other.outcome, fork_ends front two one.ends other.ends, limited_ended (1 + g.end + h.end) (before + g.size + h.size) refl)
        (answers_written (fork k one.type other.type) written (fork_bytes one.type other.type forks))

-- A byte of the kind tells what the rules say.
module _ (n : Node) {byte : ℕ} (of_node : byte ≡ node_kind n) (s : Ty) where
  pub both_is : byte ≡ 4 → typing s n ≡ parts_typing 4 s s (first_node n) (second_node n)
  unfolding typing
  both_is is = ap (typing s) (made_of n (sym of_node ∙ is))

  pub then_is : byte ≡ 9
      → typing s n ≡ require (has_kind 3 s) WrongShape (parts_typing 3 (first_part s) (second_part s) (first_node n) (second_node n))
  unfolding typing
  then_is is = ap (typing s) (made_of n (sym of_node ∙ is))

-- A type of another kind has no such parts.
pub no_parts : (k : ℕ) (t : Ty) (found : Option (TypeView × TypeView)) → PartsOf k t found → false ≡ is_some found → has_kind k t ≡ false
no_parts k t None parts none = parts
no_parts k t (Some v) parts none = absurd cc
