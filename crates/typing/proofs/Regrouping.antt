-- Regroup and spread at a type with a fork in one of its parts: its pieces s, t and r can be written, and make the type that is given.
use Rattle.std.specs.Prelude.{◌≡◌, List, [], ◌++◌, ℕ, Ok, Some}
use Rattle.std.proofs.Common.{refl, sym, ap, ◌∙◌, append_assoc, arith}
use Rattle.stream.specs.Types.{Ty, seq, par, size, has_kind, first_part, second_part}
use Rattle.stream.proofs.Types.Laws.{limit_is, parts_size, and_left, and_right}
use Rattle.stream.specs.TypeFiles.{type_bytes}
use Rattle.stream.proofs.TypeFiles.Held.{type_before}
use Rattle.reading.specs.declared.types.TypeView.{TypeView}
use Rattle.reading.specs.Views.{tree, FirstNested, SecondNested}
use Rattle.reading.proofs.TypeViews.{size_is}
use Rattle.reading.specs.declared.types.Pieces.{Pieces}
use Rattle.writing.specs.Reordering.{regrouped_right, regrouped_left, spread_out}
use Rattle.writing.specs.Rearranging.{Countable, Rearranged}
use Rattle.node.specs.Nodes.{regroup_right, regroup_left, spread}
use Rattle.node.specs.Checking.{typing}
use Rattle.typing.specs.Typing.{limited_size, TypeGiven}
use Rattle.typing.proofs.Giving.{type_given, small_given}

-- The bytes of what is made

onto : (t : Ty) (r s : List ℕ) → type_bytes t r ++ s ≡ type_bytes t (r ++ s)
onto t r s = rw (type_before t r, type_before t (r ++ s)) (append_assoc (type_bytes t []) r s)

module _ (s t r : Ty) where
  pub right_bytes : regrouped_right 3 3 (type_bytes s []) (type_bytes t []) (type_bytes r []) ≡ type_bytes (seq s (seq t r)) []
  unfolding type_bytes
  right_bytes = simp onto

  pub left_bytes : regrouped_left 3 3 (type_bytes s []) (type_bytes t []) (type_bytes r []) ≡ type_bytes (seq (seq s t) r) []
  unfolding type_bytes
  left_bytes = simp onto

  pub spread_bytes : spread_out 4 3 (type_bytes s []) (type_bytes t []) (type_bytes r []) ≡ type_bytes (par (seq s t) (seq s r)) []
  unfolding type_bytes
  spread_bytes = simp onto

module _ (s t r : TypeView) where
  abbrev pieces : Pieces
  pieces = record { s = s.bytes; t = t.bytes; r = r.bytes }

  pub countable : Countable pieces
  countable = omega (arith, size_is s, size_is t, size_is r, s.small, t.small, r.small, limit_is)

  by_trees : (order : List ℕ → List ℕ → List ℕ → List ℕ)
      → order s.bytes.now t.bytes.now r.bytes.now ≡ order (type_bytes (tree s) []) (type_bytes (tree t) []) (type_bytes (tree r) [])
  by_trees order =
      ap (λ x. order x t.bytes.now r.bytes.now) (sym s.whole)
      ∙ ap (λ x. order (type_bytes (tree s) []) x r.bytes.now) (sym t.whole)
      ∙ ap (order (type_bytes (tree s) []) (type_bytes (tree t) [])) (sym r.whole)

  module _ (v : TypeView) {lent now : List ℕ} {n : ℕ} where
    -- Regrouped, it has as many nodes.

    pub right_given : FirstNested (tree v) (Some (s, t, r)) → Rearranged (regrouped_right 3 3) pieces lent now n
        → TypeGiven (typing (tree v) regroup_right) lent now (Ok n)
    unfolding typing size
    right_given nested written =
        let outer = parts_size 3 (tree v) refl (and_left (has_kind 3 (tree v)) _ nested.0) in
        let inner = parts_size 3 (first_part (tree v)) refl (and_right (has_kind 3 (tree v)) _ nested.0) in
        rw (nested.0, ← nested.1, ← nested.2, ← nested.3)
        (small_given (seq (tree s) (seq (tree t) (tree r))) written (by_trees (regrouped_right 3 3) ∙ right_bytes (tree s) (tree t) (tree r))
        (omega (arith, v.small, outer, inner, ap size nested.1, ap size nested.2, ap size nested.3)))

    pub left_given : SecondNested 3 (tree v) (Some (s, t, r)) → Rearranged (regrouped_left 3 3) pieces lent now n
        → TypeGiven (typing (tree v) regroup_left) lent now (Ok n)
    unfolding typing size
    left_given nested written =
        let outer = parts_size 3 (tree v) refl (and_left (has_kind 3 (tree v)) _ nested.0) in
        let inner = parts_size 3 (second_part (tree v)) refl (and_right (has_kind 3 (tree v)) _ nested.0) in
        rw (nested.0, ← nested.1, ← nested.2, ← nested.3)
        (small_given (seq (seq (tree s) (tree t)) (tree r)) written (by_trees (regrouped_left 3 3) ∙ left_bytes (tree s) (tree t) (tree r))
        (omega (arith, v.small, outer, inner, ap size nested.1, ap size nested.2, ap size nested.3)))

    pub spread_given : SecondNested 4 (tree v) (Some (s, t, r)) → Rearranged (spread_out 4 3) pieces lent now n
        → TypeGiven (typing (tree v) spread) lent now (limited_size n)
    unfolding typing
    spread_given nested written =
        rw (nested.0, ← nested.1, ← nested.2, ← nested.3)
        (type_given (par (seq (tree s) (tree t)) (seq (tree s) (tree r))) written
        (by_trees (spread_out 4 3) ∙ spread_bytes (tree s) (tree t) (tree r)))
