-- Patches fed one prefix, and a list of them: the rules and the functions agree, a list of feeds is as one feed (demand 3, on trees), and
-- it is within the limits of Feed exactly if the one feed is.
use Rattle.std.specs.Prelude.{◌≡◌, refl, true, ◌↔◌, List, [], ◌∷◌, ◌+◌}
use Rattle.std.proofs.Common.{sym, ap, ◌∙◌, arith}
use Rattle.stream.specs.Types.{Ty}
use Rattle.stream.specs.Prefixes.{Prefix, IsPrefix, arrivals, derivative}
use Rattle.node.specs.Totals.{Held, held, added}
use Rattle.node.proofs.Totals.Laws.{held_test}
use Rattle.node.specs.Nodes.{Takes, Patch}
use Rattle.node.specs.Feeding.{FeedsPatch, Within}
use Rattle.node.specs.Feeding.Functions.{sends, leaves, patch_left}
use Rattle.node.proofs.Feeding.Laws.{feeds, feeds_only, preserved}
use Rattle.node.specs.Feeding.Lists.{Pieces, no_more, piece, concat_all, derivative_all, sends_all, leaves_all, arrivals_all}
use Rattle.node.proofs.Feeding.Lists.{sends_pieces, concat_all_is_prefix, derivative-concat_all, sends-concat_all, leaves-concat_all, arrivals-concat_all}
use Rattle.node.specs.Feeding.Patches.{FeedsAll, none_fed, feed_next, patch_left_all, EachWithin, none_within, within_next}

-- One feed

pub feeds_patch : (a : Patch) {t : Ty} {p : Prefix} → Takes a.input a.node t → IsPrefix a.input p
    → FeedsPatch a p (sends a.input a.node p) (patch_left a p)
feeds_patch a d h = record { by_node = feeds d h; input_left = refl; totals_left = refl }

pub feeds_patch_only : {a b : Patch} {p o : Prefix} → FeedsPatch a p o b → IsPrefix a.input p
    → (o ≡ sends a.input a.node p) × (b ≡ patch_left a p)
feeds_patch_only {a} {b} {p} {o} f h =
    let e = feeds_only f.by_node h in
    let totals = f.totals_left ∙ ap (added a.totals p) e.sent in
    (e.sent, λ i. record { input = f.input_left i; node = e.node i; totals = totals i })

pub within_test : (a : Patch) {t : Ty} {p : Prefix} → Takes a.input a.node t → IsPrefix a.input p
    → held (patch_left a p).totals ≡ true ↔ Within a p
within_test a {p = p} d h = (
  (λ e. record { totals = λ o b f. rw (ap (λ (c : Patch). c.totals) (feeds_patch_only f h).1) ((held_test (patch_left a p).totals).0 e) }),
  (λ w. (held_test (patch_left a p).totals).1 (w.totals _ _ (feeds_patch a d h))),
)

-- A list of feeds

pub patch_left-none : (a : Patch) → patch_left_all a [] ≡ a
unfolding derivative_all leaves_all sends_all arrivals_all
patch_left-none a =
    let came : a.totals.arrived + 0 ≡ a.totals.arrived = omega arith in
    let went : a.totals.sent + 0 ≡ a.totals.sent = omega arith in
    λ i. record { input = a.input; node = a.node; totals = record { arrived = came i; sent = went i } }

pub patch_left_next : (a : Patch) (p : Prefix) (ps : List Prefix) → patch_left_all (patch_left a p) ps ≡ patch_left_all a (p ∷ ps)
unfolding derivative_all leaves_all sends_all arrivals_all
patch_left_next a p ps =
    let came : a.totals.arrived + arrivals p + arrivals_all ps ≡ a.totals.arrived + (arrivals p + arrivals_all ps) = omega arith in
    let sent = sends a.input a.node p in
    let rest = sends_all (derivative a.input p) (leaves a.input a.node p) ps in
    let went : a.totals.sent + arrivals sent + arrivals_all rest ≡ a.totals.sent + (arrivals sent + arrivals_all rest) = omega arith in
    λ i. record {
      input = derivative_all (derivative a.input p) ps;
      node = leaves_all (derivative a.input p) (leaves a.input a.node p) ps;
      totals = record { arrived = came i; sent = went i };
    }

pub patch_left-concat_all : (a : Patch) {t : Ty} {p : Prefix} (ps : List Prefix) → Takes a.input a.node t → Pieces a.input (p ∷ ps)
    → patch_left a (concat_all p ps) ≡ patch_left_all a (p ∷ ps)
unfolding derivative_all leaves_all sends_all
patch_left-concat_all a {p = p} ps d (piece h k) =
    let x = preserved d h in
    let sent = sends_all (derivative a.input p) (leaves a.input a.node p) ps in
    let came = arrivals-concat_all ps h k in
    let went = ap arrivals (sends-concat_all ps d h k) ∙ arrivals-concat_all sent x.sent (sends_pieces ps x.types k) in
    λ i. record {
      input = derivative-concat_all ps h k i;
      node = leaves-concat_all ps d h k i;
      totals = record { arrived = a.totals.arrived + came i; sent = a.totals.sent + went i };
    }

pub feeds_all : (a : Patch) {t : Ty} (ps : List Prefix) → Takes a.input a.node t → Pieces a.input ps
    → FeedsAll a ps (sends_all a.input a.node ps) (patch_left_all a ps)
unfolding sends_all
feeds_all a [] d no_more = rw (patch_left-none a) none_fed
feeds_all a (p ∷ ps) d (piece h k) =
    rw (← patch_left_next a p ps) (feed_next (feeds_patch a d h) (feeds_all (patch_left a p) ps (preserved d h).types k))

pub feeds_all-only : {a b : Patch} {t : Ty} {ps os : List Prefix} → Takes a.input a.node t → Pieces a.input ps → FeedsAll a ps os b
    → (os ≡ sends_all a.input a.node ps) × (b ≡ patch_left_all a ps)
unfolding sends_all
feeds_all-only {a} d no_more none_fed = (refl, sym (patch_left-none a))
feeds_all-only {a} d (piece {p = p} {ps = ps} h k) (feed_next f fs) =
    let one = feeds_patch_only f h in
    let rest = feeds_all-only (preserved d h).types k (rw one.1 at fs) in
    (λ i. one.0 i ∷ rest.0 i, rest.1 ∙ patch_left_next a p ps)

-- Demand 3, on trees: the joined prefix is a prefix, and by the rules it sends the outputs joined and leaves the same patch.
pub as_one_feed : {a b : Patch} {t : Ty} {p o : Prefix} {ps os : List Prefix} → Takes a.input a.node t → Pieces a.input (p ∷ ps)
    → FeedsAll a (p ∷ ps) (o ∷ os) b → IsPrefix a.input (concat_all p ps) × FeedsPatch a (concat_all p ps) (concat_all o os) b
unfolding sends_all concat_all
as_one_feed {a} {p = p} {ps = ps} d (piece h k) fs =
    let x = feeds_all-only d (piece h k) fs in
    (concat_all_is_prefix ps h k, together x.0 x.1)
  where
    together : {o : Prefix} {os : List Prefix} {b : Patch} → o ∷ os ≡ sends_all a.input a.node (p ∷ ps) → b ≡ patch_left_all a (p ∷ ps)
        → FeedsPatch a (concat_all p ps) (concat_all o os) b
    together {o} {os} e g =
        let first : o ≡ sends a.input a.node p = cc in
        let rest : os ≡ sends_all (derivative a.input p) (leaves a.input a.node p) ps = cc in
        rw (first, rest, g, ← sends-concat_all ps d h k, ← patch_left-concat_all a ps d (piece h k))
        (feeds_patch a d (concat_all_is_prefix ps h k))

-- The limits

pub held_along : {a b : Patch} → a ≡ b → Held a.totals → Held b.totals
held_along e w = rw (← e) w

-- Totals only grow: where the last are held, all before them were.
pub held_before : (a : Patch) (ps : List Prefix) → Held (patch_left_all a ps).totals → Held a.totals
held_before a ps w = record { arrived = omega (arith, w.arrived); sent = omega (arith, w.sent) }

pub held_first : (a : Patch) (p : Prefix) (ps : List Prefix) → Held (patch_left_all a (p ∷ ps)).totals → Held (patch_left a p).totals
held_first a p ps w = held_before (patch_left a p) ps (held_along (sym (patch_left_next a p ps)) w)

each-held : {a : Patch} {t : Ty} {ps : List Prefix} → Takes a.input a.node t → Pieces a.input ps → Held a.totals → EachWithin a ps
    → Held (patch_left_all a ps).totals
each-held {a} d no_more c none_within = held_along (sym (patch_left-none a)) c
each-held {a} d (piece {p = p} {ps = ps} h k) c (within_next w ws) =
    held_along (patch_left_next a p ps) (each-held (preserved d h).types k (w.totals _ _ (feeds_patch a d h)) ws)

held-each : {a : Patch} {t : Ty} (ps : List Prefix) → Takes a.input a.node t → Pieces a.input ps → Held (patch_left_all a ps).totals → EachWithin a ps
held-each [] d no_more w = none_within
held-each {a} (p ∷ ps) d (piece h k) w =
    within_next ((within_test a d h).0 ((held_test (patch_left a p).totals).1 (held_first a p ps w)))
    (held-each {a = patch_left a p} ps (preserved d h).types k (held_along (sym (patch_left_next a p ps)) w))

pub within_held : (a : Patch) {t : Ty} {p : Prefix} (ps : List Prefix) → Takes a.input a.node t → Pieces a.input (p ∷ ps)
    → Within a (concat_all p ps) ↔ Held (patch_left_all a (p ∷ ps)).totals
within_held a {p = p} ps d (piece h k) =
    let one = concat_all_is_prefix ps h k in
    let same = patch_left-concat_all a ps d (piece h k) in (
      (λ w. held_along same (w.totals _ _ (feeds_patch a d one))),
      (λ c. (within_test a d one).0 ((held_test (patch_left a (concat_all p ps)).totals).1 (held_along (sym same) c))),
    )

-- 31 never comes of cutting or of joining: the pieces are each within the limits exactly if the joined prefix is.
pub each_within : (a : Patch) {t : Ty} {p : Prefix} (ps : List Prefix) → Takes a.input a.node t → Held a.totals → Pieces a.input (p ∷ ps)
    → EachWithin a (p ∷ ps) ↔ Within a (concat_all p ps)
each_within a ps d c k = (
  (λ w. (within_held a ps d k).1 (each-held d k c w)),
  (λ w. held-each (_ ∷ ps) d k ((within_held a ps d k).0 w)),
)
