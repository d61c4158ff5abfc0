-- A walk as the places where a type and a prefix of it end: through a choice it ends where both parts of the type do.
use Rattle.std.specs.Prelude.{Result, Ok, Err, ◌≡◌, refl, Bool, List, ℕ, ◌-◌, ◌≤◌, length}
use Rattle.std.proofs.Common.{sym, ap, ◌∙◌}
use Rattle.stream.specs.declared.Fault.{Fault}
use Rattle.stream.specs.Types.{Ty, size, first_part, second_part}
use Rattle.stream.specs.Prefixes.{Prefix, first_chosen, second_chosen, arrivals, derivative}
use Rattle.stream.specs.Prefixes.Functions.{complete}
use Rattle.stream.specs.Reading.{Reading, read, fault, read_on}
use Rattle.reading.specs.declared.prefixes.Known.{Known}
use Rattle.stream.specs.SliceFiles.{owed}
use Rattle.reading.specs.SliceReads.{known, known_read, read_owed, Walks, overlap}

pub record Walked : Type 0 where
  pub type_end : ℕ
  pub prefix_end : ℕ
  pub known : Known

-- A walk that ends at these two places, with what it knows.
abbrev pub past : (type_end prefix_end : ℕ) → Known → Walked
past type_end prefix_end known = record { type_end = type_end; prefix_end = prefix_end; known = known }

-- A choice is known as its part is. The walk through it ends where both parts of the type do, from how it ends through the part.
abbrev pub behind_both : (type_end : ℕ) → Result Walked Fault → Result Walked Fault
behind_both type_end (Ok part) = Ok (past type_end part.prefix_end part.known)
behind_both type_end (Err e) = Err e

-- The walk's answer, by what is read: where type and prefix end, and what is known of the prefix.
unfoldable pub walked : Ty → (type_end length_of_slice : ℕ) → Reading Prefix → Result Walked Fault
walked t type_end n (read p r) = Ok (past type_end (n - length r) (known t p))
walked t type_end n (fault e) = Err e

-- The walk through a choice, by the walk through its part: what is known of the part is known of the choice.
module _ (t : Ty) (type_end part_end n : ℕ) where
  pub first_chosen_walked : (g : Reading Prefix)
      → behind_both type_end (walked (first_part t) part_end n g) ≡ walked t type_end n (read_on g (λ p r. read (first_chosen p) r))
  unfolding walked known complete derivative arrivals overlap
  first_chosen_walked (read p r) = refl
  first_chosen_walked (fault e) = refl

  pub second_chosen_walked : (g : Reading Prefix)
      → behind_both type_end (walked (second_part t) part_end n g) ≡ walked t type_end n (read_on g (λ p r. read (second_chosen p) r))
  unfolding walked known complete derivative arrivals overlap
  second_chosen_walked (read p r) = refl
  second_chosen_walked (fault e) = refl

-- The walk of the code hands back what is behind the prefix, and what is known of it: these are the places where both end.
abbrev pub placed : (type_end n : ℕ) → Reading Known → Result Walked Fault
placed type_end n (read k r) = Ok (past type_end (n - length r) k)
placed type_end n (fault e) = Err e

walked_placed : (t : Ty) (type_end n : ℕ) (g : Reading Prefix) → walked t type_end n g ≡ placed type_end n (known_read t g)
unfolding walked known_read
walked_placed t type_end n (read p r) = refl
walked_placed t type_end n (fault e) = refl

pub walks_placed : {t : Ty} {slice : List ℕ} {must_complete : Bool} {answer : Reading Known} (type_end n budget : ℕ) → Walks t slice must_complete answer
    → size t ≤ budget → walked t type_end n (read_owed budget (owed t must_complete) slice) ≡ placed type_end n answer
walks_placed {t} type_end n budget walks enough = walked_placed t type_end n _ ∙ ap (placed type_end n) (sym (walks.each budget enough))
