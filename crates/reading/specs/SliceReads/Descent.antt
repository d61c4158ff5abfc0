-- A prefix of a type is read as its kind byte and then its parts, each against its part of the type and with what the earlier
-- ones leave of the budget.
use Rattle.std.specs.Prelude.{◌≡◌, Bool, true, false, ◌&&◌, length, get_or}
use Rattle.std.proofs.Math.Path.{refl, ap}
use Rattle.std.proofs.Common.{sym, arith}
use Rattle.std.proofs.Math.Bool.{not}
use mathlib.Core.List.{List, [], ◌∷◌}
use Prim.Native.Nat.{ℕ, suc, ◌-◌, ◌≤◌}
use Rattle.stream.specs.declared.Fault.{Fault}
use Rattle.stream.specs.declared.Fault.TheVariants.{SliceCutShort, SliceUnlisted}
use Rattle.stream.specs.Types.{Ty, size, kind, first_part, second_part, has_kind}
use Rattle.stream.specs.Levels.{read_value}
use Rattle.stream.specs.Prefixes.{Prefix, nothing, cue_awaited, cue_come, level_awaited, level_come, in_first, crossed, beside, none_chosen, first_chosen, second_chosen, IsPrefix, of_empty, of_cue_awaited, of_cue_come, of_level_awaited, of_level_come, of_first, of_crossed, of_beside, of_none_chosen, of_first_chosen, of_second_chosen, arrivals, derivative}
use Rattle.stream.specs.Prefixes.Functions.{complete}
use Rattle.stream.specs.Reading.{Bytes, Reading, read, fault, read_on, Root, leaf, one_part, two_parts}
use Rattle.stream.proofs.Reading.Laws.{FoundTree, tree_sound, ◌&◌, past, every}
use Rattle.stream.proofs.Reading.Budgets.{tree_fault, tree_leaf, tree_one, tree_two}
use Rattle.stream.specs.Tables.{beyond}
use Rattle.stream.specs.SliceFiles.{Owed, owed, belongs, prefix_kinds, prefix_root, prefix_bytes, slice_over}
use Rattle.stream.proofs.SliceFiles.Laws.{nodes, Fills, root_sound, prefix_spends}
use Rattle.reading.specs.SliceReads.{overlap, known, belongs_at, read_owed, known_read}

-- The kind byte says whether it belongs, and what it begins where it does.
abbrev pub kind_roots : Ty → Bool → List (List ℕ → Reading (Root Owed Prefix))
kind_roots t c =
    leaf nothing
    ∷ leaf cue_awaited
    ∷ leaf cue_come
    ∷ leaf level_awaited
    ∷ (λ s. read_on (read_value SliceCutShort s) (λ v r. leaf (level_come v) r))
    ∷ one_part in_first (owed (first_part t) false)
    ∷ two_parts crossed (owed (first_part t) true) (owed (second_part t) c)
    ∷ two_parts beside (owed (first_part t) c) (owed (second_part t) c)
    ∷ leaf none_chosen
    ∷ one_part first_chosen (owed (first_part t) c)
    ∷ one_part second_chosen (owed (second_part t) c)
    ∷ []

abbrev pub kind_root : ℕ → Ty → Bool → List ℕ → Reading (Root Owed Prefix)
kind_root k t c = get_or (kind_roots t c) k (λ r. fault SliceUnlisted)

finished : (b c : Bool) → b ≡ b && not (c && false)
finished true true = refl
finished true false = refl
finished false c = refl

unfinished : (b c : Bool) → b && not c ≡ b && not (c && true)
unfinished true true = refl
unfinished true false = refl
unfinished false c = refl

module _ (t : Ty) (c : Bool) (s : List ℕ) where
  pub root_tested : (k : ℕ) → k ≤ 10 → prefix_root (owed t c) (k ∷ s) ≡ belongs (belongs_at (kind t) k c) (kind_root k t c) s
  unfolding prefix_root
  root_tested =
      every (λ k f. k ≤ 10 → f t c s ≡ belongs (belongs_at (kind t) k c) (kind_root k t c) s) (λ u d r. fault SliceUnlisted) prefix_kinds
      ((λ h. plain (has_kind 0 t) (leaf nothing))
      & (λ h. awaited (has_kind 1 t) (leaf cue_awaited))
      & (λ h. plain (has_kind 1 t) (leaf cue_come))
      & (λ h. awaited (has_kind 2 t) (leaf level_awaited))
      & (λ h. plain (has_kind 2 t) _)
      & (λ h. awaited (has_kind 3 t) _)
      & (λ h. plain (has_kind 3 t) _)
      & (λ h. plain (has_kind 4 t) _)
      & (λ h. awaited (has_kind 5 t) (leaf none_chosen))
      & (λ h. plain (has_kind 5 t) _)
      & (λ h. plain (has_kind 5 t) _)
      & past (λ k l h. absurd (omega arith)))
    where
      plain : (b : Bool) (root : List ℕ → Reading (Root Owed Prefix)) → belongs b root s ≡ belongs (b && not (c && false)) root s
      plain b root = ap (λ x. belongs x root s) (finished b c)

      awaited : (b : Bool) (root : List ℕ → Reading (Root Owed Prefix)) → belongs (b && not c) root s ≡ belongs (b && not (c && true)) root s
      awaited b root = ap (λ x. belongs x root s) (unfinished b c)

  pub root_unlisted : (k : ℕ) → length prefix_kinds ≤ k → prefix_root (owed t c) (k ∷ s) ≡ fault SliceUnlisted
  unfolding prefix_root
  root_unlisted k l = ap (λ f. f t c s) (sym (beyond prefix_kinds (λ u d r. fault SliceUnlisted) k l))

-- The reading, by what the root says: it takes a node of the budget, and each part as many as were read for it.
module _ (t : Ty) (c : Bool) (budget : ℕ) (s : List ℕ) where
  pub reads_fault : (e : Fault) → prefix_root (owed t c) s ≡ fault e → read_owed (suc budget) (owed t c) s ≡ fault e
  unfolding read_owed
  reads_fault e h = tree_fault prefix_spends slice_over budget (owed t c) s e h

  pub reads_leaf : (p : Prefix) (r : List ℕ) → prefix_root (owed t c) s ≡ leaf p r → read_owed (suc budget) (owed t c) s ≡ read p r
  unfolding read_owed
  reads_leaf p r h = tree_leaf prefix_spends slice_over budget (owed t c) s r p h

  pub reads_one : (f : Prefix → Prefix) (o : Owed) (r : List ℕ) → prefix_root (owed t c) s ≡ one_part f o r
      → read_owed (suc budget) (owed t c) s ≡ read_on (read_owed budget o r) (λ p x. read (f p) x)
  unfolding read_owed
  reads_one f o r h = tree_one prefix_spends slice_over budget (owed t c) o s r f h

  pub reads_two : (f : Prefix → Prefix → Prefix) (o u : Owed) (r : List ℕ) → prefix_root (owed t c) s ≡ two_parts f o u r
      → read_owed (suc budget) (owed t c) s
      ≡ read_on (read_owed budget o r) (λ p x. read_on (read_owed (budget - nodes p) u x) (λ q y. read (f p q) y))
  unfolding read_owed
  reads_two f o u r h = tree_two prefix_spends slice_over budget (owed t c) o u s r f h

-- What is known of the part of a choice is known of the choice.
module _ (t : Ty) where
  pub first_chosen_known : (g : Reading Prefix) → known_read (first_part t) g ≡ known_read t (read_on g (λ p r. read (first_chosen p) r))
  unfolding known_read known complete derivative arrivals overlap
  first_chosen_known (read p r) = refl
  first_chosen_known (fault e) = refl

  pub second_chosen_known : (g : Reading Prefix) → known_read (second_part t) g ≡ known_read t (read_on g (λ p r. read (second_chosen p) r))
  unfolding known_read known complete derivative arrivals overlap
  second_chosen_known (read p r) = refl
  second_chosen_known (fault e) = refl

-- What is read is a prefix of the type, of the bytes that were there.
pub read_owed_sound : (budget : ℕ) (o : Owed) (s : List ℕ) (p : Prefix) (r : List ℕ) → Bytes s → read_owed budget o s ≡ read p r
    → FoundTree slice_over prefix_root Fills prefix_bytes nodes root_sound budget o s p r
unfolding read_owed
read_owed_sound budget o s p r b e = tree_sound slice_over prefix_root Fills prefix_bytes nodes root_sound budget o s p r b e

-- A join with what follows is not shorter than the two by more than the nodes of the type.
pub overlap-size : {t : Ty} {p : Prefix} → IsPrefix t p → overlap p ≤ size t
unfolding overlap size
overlap-size of_empty = omega arith
overlap-size of_cue_awaited = omega arith
overlap-size of_cue_come = omega arith
overlap-size of_level_awaited = omega arith
overlap-size (of_level_come h) = omega arith
overlap-size (of_first h) = omega (arith, overlap-size h)
overlap-size (of_crossed h d k) = omega (arith, overlap-size k)
overlap-size (of_beside h k) = omega (arith, overlap-size h, overlap-size k)
overlap-size of_none_chosen = omega arith
overlap-size (of_first_chosen h) = omega (arith, overlap-size h)
overlap-size (of_second_chosen h) = omega (arith, overlap-size h)
