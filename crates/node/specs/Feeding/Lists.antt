-- Prefixes fed one after the other: what they send and leave, and their arrivals.
use Rattle.std.specs.Prelude.{List, [], ◌∷◌, ℕ, ◌+◌}
use Rattle.stream.specs.Types.{Ty}
use Rattle.stream.specs.Prefixes.{Prefix, IsPrefix, arrivals, derivative}
use Rattle.stream.specs.Prefixes.Functions.{concat}
use Rattle.node.specs.Nodes.{Node}
use Rattle.node.specs.Feeding.Functions.{sends, leaves}

-- Each is a prefix of what the earlier ones leave.
pub data Pieces : Ty → List Prefix → Type 0 where
  no_more : {s : Ty} → Pieces s []
  piece : {s : Ty} {p : Prefix} {ps : List Prefix} → IsPrefix s p → Pieces (derivative s p) ps → Pieces s (p ∷ ps)

-- "Slices are joined in the order of their calls, from the left."
unfoldable pub concat_all : Prefix → List Prefix → Prefix
concat_all p [] = p
concat_all p (q ∷ qs) = concat_all (concat p q) qs

unfoldable pub derivative_all : Ty → List Prefix → Ty
derivative_all s [] = s
derivative_all s (p ∷ ps) = derivative_all (derivative s p) ps

unfoldable pub sends_all : Ty → Node → List Prefix → List Prefix
sends_all s n [] = []
sends_all s n (p ∷ ps) = sends s n p ∷ sends_all (derivative s p) (leaves s n p) ps

unfoldable pub leaves_all : Ty → Node → List Prefix → Node
leaves_all s n [] = n
leaves_all s n (p ∷ ps) = leaves_all (derivative s p) (leaves s n p) ps

unfoldable pub arrivals_all : List Prefix → ℕ
arrivals_all [] = 0
arrivals_all (p ∷ ps) = arrivals p + arrivals_all ps
