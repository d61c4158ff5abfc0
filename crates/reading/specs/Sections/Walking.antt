-- A tree read root by root: what the place come to says of where the tree ends. Types and nodes are read so.
use Rattle.std.specs.Prelude.{Err, Ok, ◌≡◌, List, ℕ, ◌+◌, ◌-◌, ◌≤◌, ◌<◌, drop, replicate}
use Rattle.std.proofs.Math.Path.{ap}
use Rattle.std.proofs.Common.{◌∙◌, arith}
use Rattle.std.proofs.Math.ListN.{length, length-drop}
use Rattle.stream.specs.declared.Fault.{Fault}
use Rattle.stream.specs.Reading.{Reading, read, fault, Root, forest, tree}
use Rattle.stream.specs.Reading.Walking.{rest_of, Owes, MakesOne}
use Rattle.stream.proofs.Reading.Walking.{ahead_same, stopped_same, spent_same, done, tree_rest}
use Rattle.reading.specs.Sections.{end_of}

-- Where a tree ends is decided by what stands after it.
pub end_of_rest : {A : Type 0} (n : ℕ) (g : Reading A) (f : Reading (Unit {0})) → rest_of g ≡ f → end_of n g ≡ end_of n f
unfolding end_of
end_of_rest n (read a r) f e = rw (← e)
end_of_rest n (fault x) f e = rw (← e)

module _ {A : Type 0} (over : Fault) (root : Unit {0} → List ℕ → Reading (Root (Unit {0}) A)) (top : ℕ) where
  -- After `count` roots: behind the tree that starts s stands what stands behind the `owed` trees that start at the place `at`.
  pub record Walked (s : List ℕ) (owed count at : ℕ) : Type 0 where
    pub inside : at ≤ length s
    pub within : count ≤ top
    pub few : owed ≤ count + 1
    pub same : rest_of (tree over root top tt s) ≡ rest_of (forest over root (top - count) (replicate owed tt) (drop at s))

  pub starts : ((w : Unit {0}) (s : List ℕ) → MakesOne (root w s)) → (s : List ℕ) → Walked s 1 0 0
  starts makes_one s =
      let e : top - 0 ≡ top = omega arith in
      record {
        inside = omega arith;
        within = omega arith;
        few = omega arith;
        same = rw e (tree_rest over root makes_one top tt s);
      }

module _ {A : Type 0} {over : Fault} {root : Unit {0} → List ℕ → Reading (Root (Unit {0}) A)} {top : ℕ} {s : List ℕ} {owed count at : ℕ}
    (walked : Walked over root top s owed count at) where
  pub ends : owed ≡ 0 → end_of (length s) (tree over root top tt s) ≡ Ok at
  unfolding end_of
  ends z =
      let e : length s - length (drop at s) ≡ at = simp length-drop (omega (arith, walked.inside)) in
      end_of_rest (length s) (tree over root top tt s) (read tt (drop at s))
      (walked.same ∙ rw z (done over root top count (drop at s)))
      ∙ ap Ok e

  module _ (wanted : 0 < owed) where
    pub too_many : count ≡ top → end_of (length s) (tree over root top tt s) ≡ Err over
    unfolding end_of
    too_many e =
        end_of_rest (length s) (tree over root top tt s) (fault over)
        (walked.same ∙ spent_same over root tt top count owed wanted (drop at s) e)

    module _ (more : count < top) where
      pub stops : (e : Fault) → root tt (drop at s) ≡ fault e → end_of (length s) (tree over root top tt s) ≡ Err e
      unfolding end_of
      stops e h =
          end_of_rest (length s) (tree over root top tt s) (fault e)
          (walked.same ∙ stopped_same over root tt top count owed wanted (drop at s) e more h)

      pub goes_on : (parts next : ℕ) → parts ≤ 2 → next ≤ length s → Owes tt parts (drop next s) (root tt (drop at s))
          → Walked over root top s (owed - 1 + parts) (count + 1) next
      goes_on parts next two h o =
          let e : owed - 1 + parts ≡ parts + (owed - 1) = omega arith in
          record {
            inside = h;
            within = omega arith;
            few = omega (arith, walked.few);
            same = walked.same ∙ rw e (ahead_same over root tt top count owed wanted (drop at s) parts (drop next s) more o);
          }
