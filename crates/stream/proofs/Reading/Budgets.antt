-- A tree under a budget of nodes, part by part: the root takes one node of it, and each part as many as were read for it.
use Rattle.std.specs.Prelude.{◌≡◌}
use Rattle.std.proofs.Math.Path.{refl, ap}
use Rattle.std.proofs.Common.{sym, ◌∙◌}
use mathlib.Core.List.{List, [], ◌∷◌, ◌++◌, append_assoc}
use Prim.Native.Nat.{ℕ, zero, suc, ◌+◌, ◌-◌, ◌≤◌}
use native.Mathlib.Omega.{arith}
use Rattle.std.proofs.Math.ListN.{length, length-append}
use Rattle.stream.specs.declared.Fault.{Fault}
use Rattle.stream.specs.Reading.{Reading, read, fault, read_on, Root, forest, only, tree, leaf, one_part, two_parts, on_one, on_two}
use Rattle.stream.proofs.Reading.Laws.{none_owed}
use Rattle.stream.specs.Reading.Walking.{MakesOne}
use Rattle.stream.proofs.Reading.Walking.{OneEach, one_each}
use Rattle.stream.proofs.Reading.Parts.{then_read, as_read, built, one_read, second_read, alone, InFront}

-- The nodes of some trees; a root makes of its parts a tree of one node more.
module _ {A : Type 0} (nodes : A → ℕ) where
  unfoldable pub nodes_in : List A → ℕ
  nodes_in [] = 0
  nodes_in (t ∷ ts) = nodes t + nodes_in ts

  abbrev pub OneMore : {W : Type 0} → Reading (Root W A) → Type 0
  OneMore (read n r) = (ts : List A) → length n.parts ≤ length ts → nodes_in (n.build ts) ≡ suc (nodes_in ts)
  OneMore (fault e) = Unit

  pub leaf_one_more : {W : Type 0} (w : W) (a : A) (s : List ℕ) → nodes a ≡ 1 → OneMore {W = W} (leaf a s)
  unfolding nodes_in
  leaf_one_more w a s e = λ ts h. omega arith

  pub one_one_more : {W : Type 0} (f : A → A) (w : W) (s : List ℕ) → ((a : A) → nodes (f a) ≡ suc (nodes a)) → OneMore (one_part f w s)
  unfolding nodes_in
  one_one_more f w s e = go
    where
      go : (ts : List A) → 1 ≤ length ts → nodes_in (on_one f ts) ≡ suc (nodes_in ts)
      go [] h = absurd (omega arith)
      go (t ∷ ts) h = omega (arith, e t)

  pub two_one_more : {W : Type 0} (f : A → A → A) (v w : W) (s : List ℕ) → ((a b : A) → nodes (f a b) ≡ suc (nodes a + nodes b))
      → OneMore (two_parts f v w s)
  unfolding nodes_in
  two_one_more f v w s e = go
    where
      go : (ts : List A) → 2 ≤ length ts → nodes_in (on_two f ts) ≡ suc (nodes_in ts)
      go [] h = absurd (omega arith)
      go (t ∷ []) h = absurd (omega arith)
      go (t ∷ u ∷ ts) h = omega (arith, e t u)

pub record Spends {W A : Type 0} (nodes : A → ℕ) (root : W → List ℕ → Reading (Root W A)) : Type 0 where
  pub makes_one : (w : W) (s : List ℕ) → MakesOne (root w s)
  pub in_front : (w : W) (s : List ℕ) → InFront (root w s)
  pub one_more : (w : W) (s : List ℕ) → OneMore nodes (root w s)

module _ {W A : Type 0} {nodes : A → ℕ} {root : W → List ℕ → Reading (Root W A)} (spends : Spends nodes root) (over : Fault) where
  -- What is left of the budget behind some trees is for the other entries.
  abbrev behind : ℕ → List W → List A → List ℕ → Reading (List A)
  behind budget vs ts = forest over root (budget - nodes_in nodes ts) vs

  forest_append : (budget : ℕ) (ws vs : List W) (s : List ℕ)
      → forest over root budget (ws ++ vs) s ≡ then_read (forest over root budget ws s) (behind budget vs)
  unfolding forest nodes_in
  forest_append zero [] vs s = as_read (forest over root zero vs s)
  forest_append (suc budget) [] vs s =
      let e : suc budget - 0 ≡ suc budget = omega arith in
      rw e (as_read (forest over root (suc budget) vs s))
  forest_append zero (w ∷ ws) vs s = refl
  forest_append (suc budget) (w ∷ ws) vs s =
      go (root w s) (spends.in_front w s) (spends.one_more w s) (λ us r. forest_append budget us vs r)
    where
      on : (n : Root W A) (r : List ℕ) → InFront (read n r) → OneMore nodes (read n r) → (g : Reading (List A))
          → OneEach over root spends.makes_one (n.parts ++ ws) g
          → read_on (then_read g (behind budget vs)) (λ ts x. read (n.build ts) x)
          ≡ then_read (read_on g (λ ts x. read (n.build ts) x)) (behind (suc budget) vs)
      on n r f m (read ts x) o =
          let l : length n.parts ≤ length ts = omega (arith, o, length-append n.parts ws) in
          let e : suc budget - nodes_in nodes (n.build ts) ≡ budget - nodes_in nodes ts = omega (arith, m ts l) in
          rw e (built n ts (forest over root (budget - nodes_in nodes ts) vs x) (λ us. f ts us l))
      on n r f m (fault e) o = refl

      go : (g : Reading (Root W A)) → InFront g → OneMore nodes g
          → ((us : List W) (r : List ℕ) → forest over root budget (us ++ vs) r ≡ then_read (forest over root budget us r) (behind budget vs))
          → read_on g (λ n r. read_on (forest over root budget (n.parts ++ (ws ++ vs)) r) (λ ts rest. read (n.build ts) rest))
          ≡ then_read (read_on g (λ n r. read_on (forest over root budget (n.parts ++ ws) r) (λ ts rest. read (n.build ts) rest)))
          (behind (suc budget) vs)
      go (read n r) f m k =
          ap (λ us. read_on (forest over root budget us r) (λ ts rest. read (n.build ts) rest)) (sym (append_assoc n.parts ws vs))
          ∙ ap (λ g. read_on g (λ ts rest. read (n.build ts) rest)) (k (n.parts ++ ws) r)
          ∙ on n r f m (forest over root budget (n.parts ++ ws) r) (one_each over root spends.makes_one budget (n.parts ++ ws) r)
      go (fault e) f m k = refl

  -- Where no node is left, the fault for a node too many comes before the byte is asked for.
  pub tree_spent : (w : W) (s : List ℕ) → tree over root 0 w s ≡ fault over
  unfolding tree forest
  tree_spent w s = refl

  pub tree_fault : (budget : ℕ) (w : W) (s : List ℕ) (e : Fault) → root w s ≡ fault e → tree over root (suc budget) w s ≡ fault e
  unfolding tree forest
  tree_fault budget w s e k = rw (forest, k)

  pub tree_leaf : (budget : ℕ) (w : W) (s r : List ℕ) (a : A) → root w s ≡ leaf a r → tree over root (suc budget) w s ≡ read a r
  unfolding tree forest
  tree_leaf budget w s r a k = rw (forest, k, none_owed over root budget r)

  opened : (budget : ℕ) (w : W) (s : List ℕ) → tree over root budget w s ≡ read_on (forest over root budget (w ∷ []) s) (only over)
  unfolding tree
  opened budget w s = refl

  stepped : (budget : ℕ) (w : W) (s r : List ℕ) (n : Root W A) → root w s ≡ read n r
      → forest over root (suc budget) (w ∷ []) s ≡ read_on (forest over root budget (n.parts ++ []) r) (λ ts x. read (n.build ts) x)
  unfolding forest
  stepped budget w s r n k = rw (forest, k)

  pub tree_one : (budget : ℕ) (w v : W) (s r : List ℕ) (f : A → A) → root w s ≡ one_part f v r
      → tree over root (suc budget) w s ≡ read_on (tree over root budget v r) (λ a x. read (f a) x)
  tree_one budget w v s r f k =
      opened (suc budget) w s
      ∙ ap (λ g. read_on g (only over))
      (stepped budget w s r _ k ∙ ap (λ g. read_on g (λ ts x. read (on_one f ts) x)) (alone over root spends.makes_one budget v r))
      ∙ one_read over f (tree over root budget v r)

  pub tree_two : (budget : ℕ) (w u v : W) (s r : List ℕ) (f : A → A → A) → root w s ≡ two_parts f u v r
      → tree over root (suc budget) w s
      ≡ read_on (tree over root budget u r) (λ a x. read_on (tree over root (budget - nodes a) v x) (λ b y. read (f a b) y))
  unfolding nodes_in
  tree_two budget w u v s r f k =
      opened (suc budget) w s
      ∙ ap (λ g. read_on g (only over))
      (stepped budget w s r _ k
      ∙ ap (λ g. read_on g (λ ts x. read (on_two f ts) x))
      (forest_append budget (u ∷ []) (v ∷ []) r ∙ ap (λ g. then_read g (behind budget (v ∷ []))) (alone over root spends.makes_one budget u r)))
      ∙ go (tree over root budget u r)
    where
      go : (g : Reading A)
          → read_on (read_on (then_read (read_on g (λ a x. read (a ∷ []) x)) (behind budget (v ∷ []))) (λ ts x. read (on_two f ts) x)) (only over)
          ≡ read_on g (λ a x. read_on (tree over root (budget - nodes a) v x) (λ b y. read (f a b) y))
      go (read a x) =
          let e : budget - (nodes a + 0) ≡ budget - nodes a = omega arith in
          rw (e, alone over root spends.makes_one (budget - nodes a) v x) (second_read over f a (tree over root (budget - nodes a) v x))
      go (fault e) = refl
