-- Feeding a list of prefixes one after the other is feeding their concatenation, and the arrivals of both are the same.
use Rattle.std.specs.Prelude.{◌≡◌, refl, List, [], ◌∷◌}
use Rattle.std.proofs.Common.{ap, ◌∙◌, arith}
use Rattle.stream.specs.Types.{Ty}
use Rattle.stream.specs.Prefixes.{Prefix, IsPrefix, arrivals, derivative}
use Rattle.stream.specs.Prefixes.Functions.{concat}
use Rattle.stream.proofs.Prefixes.Laws.{concat_is_prefix, derivative-concat, arrivals-concat}
use Rattle.node.specs.Nodes.{Node, Takes, Allowed}
use Rattle.node.specs.Feeding.Functions.{sends, leaves}
use Rattle.node.proofs.Feeding.Laws.{preserved, feed-concat, leaves_allowed}
use Rattle.node.specs.Feeding.Lists.{Pieces, no_more, piece, concat_all, derivative_all, sends_all, leaves_all, arrivals_all}

-- The outputs are pieces of the output type.
pub sends_pieces : {s t : Ty} {n : Node} (ps : List Prefix) → Takes s n t → Pieces s ps → Pieces t (sends_all s n ps)
unfolding sends_all
sends_pieces [] d r = no_more
sends_pieces {s = s} (p ∷ ps) d (piece h r) = let f = preserved d h in piece f.sent (sends_pieces {s = derivative s p} ps f.types r)

pub concat_all_is_prefix : {s : Ty} {p : Prefix} (ps : List Prefix) → IsPrefix s p → Pieces (derivative s p) ps → IsPrefix s (concat_all p ps)
unfolding concat_all
concat_all_is_prefix [] h r = h
concat_all_is_prefix {p = p} (q ∷ ps) h (piece k r) = concat_all_is_prefix {p = concat p q} ps (concat_is_prefix q h k) (rw (derivative-concat q h k) r)

pub derivative-concat_all : {s : Ty} {p : Prefix} (ps : List Prefix) → IsPrefix s p → Pieces (derivative s p) ps
    → derivative s (concat_all p ps) ≡ derivative_all (derivative s p) ps
unfolding concat_all derivative_all
derivative-concat_all [] h r = refl
derivative-concat_all {p = p} (q ∷ ps) h (piece k r) =
    derivative-concat_all {p = concat p q} ps (concat_is_prefix q h k) (rw (derivative-concat q h k) r)
    ∙ ap (λ u. derivative_all u ps) (derivative-concat q h k)

pub sends-concat_all : {s t : Ty} {n : Node} {p : Prefix} (ps : List Prefix) → Takes s n t → IsPrefix s p → Pieces (derivative s p) ps
    → sends s n (concat_all p ps) ≡ concat_all (sends s n p) (sends_all (derivative s p) (leaves s n p) ps)
unfolding concat_all sends_all
sends-concat_all [] d h r = refl
sends-concat_all {p = p} (q ∷ ps) d h (piece k r) =
    let e = feed-concat q d h k in
    let g = derivative-concat q h k in
    sends-concat_all {p = concat p q} ps d (concat_is_prefix q h k) (rw (derivative-concat q h k) r)
    ∙ (λ i. concat_all (e.sent i) (sends_all (g i) (e.node i) ps))

pub leaves-concat_all : {s t : Ty} {n : Node} {p : Prefix} (ps : List Prefix) → Takes s n t → IsPrefix s p → Pieces (derivative s p) ps
    → leaves s n (concat_all p ps) ≡ leaves_all (derivative s p) (leaves s n p) ps
unfolding concat_all leaves_all
leaves-concat_all [] d h r = refl
leaves-concat_all {p = p} (q ∷ ps) d h (piece k r) =
    let e = feed-concat q d h k in
    rw (← e.node, ← derivative-concat q h k)
    (leaves-concat_all {p = concat p q} ps d (concat_is_prefix q h k) (rw (derivative-concat q h k) r))

-- The patch left by a list of feeds is allowed.
pub leaves_all_allowed : {s t : Ty} {n : Node} (ps : List Prefix) → Allowed s n t → Pieces s ps
    → Allowed (derivative_all s ps) (leaves_all s n ps) (derivative_all t (sends_all s n ps))
unfolding derivative_all leaves_all sends_all
leaves_all_allowed [] a r = a
leaves_all_allowed {s = s} (p ∷ ps) a (piece h r) = leaves_all_allowed {s = derivative s p} ps (leaves_allowed a h) r

-- The arrivals of a list are added up, and are those of its concatenation.

pub arrivals-concat_all : {s : Ty} {p : Prefix} (ps : List Prefix) → IsPrefix s p → Pieces (derivative s p) ps
    → arrivals (concat_all p ps) ≡ arrivals_all (p ∷ ps)
unfolding concat_all arrivals_all
arrivals-concat_all [] h r = omega arith
arrivals-concat_all {p = p} (q ∷ ps) h (piece k r) =
    omega (arith, arrivals-concat q h k, arrivals-concat_all {p = concat p q} ps (concat_is_prefix q h k) (rw (derivative-concat q h k) r))
