-- A fed node keeps its typing and its limits, the functions are the rules, and feeding a joined prefix is feeding its parts.
use Rattle.std.specs.Prelude.{◌≡◌, refl, Bool, cond, ℕ, ◌≤◌, ◌<◌}
use Rattle.std.proofs.Common.{sym, ap, ap₂, arith, le_trans}
use Rattle.std.proofs.Math.Bool.{true, false}
use Rattle.stream.specs.Types.{Ty, empty, cue, level, size, null_empty, Small}
use Rattle.stream.specs.Levels.{level_limit}
use Rattle.stream.specs.Prefixes.{Prefix, cue_awaited, cue_come, level_awaited, level_come, in_first, crossed, beside, Complete, whole_nothing, whole_cue, whole_level, whole_crossed, whole_beside, whole_first_chosen, whole_second_chosen, IsPrefix, of_empty, of_cue_awaited, of_cue_come, of_level_awaited, of_level_come, of_first, of_crossed, of_beside, of_none_chosen, of_first_chosen, of_second_chosen, Opens, derivative}
use Rattle.stream.specs.Prefixes.Functions.{opens, concat}
use Rattle.stream.proofs.Prefixes.Laws.{crossed_second, beside_first, beside_second, first_chosen-inside, second_chosen-inside, empty_prefix_is_prefix, empty_prefix-complete, derivative_empty, complete-opens, opens_test, closed_test, complete→nullable, derivative-size, derivative-concat, concat_empty_left, concat_empty_right, opens-concat, closed_concat}
use Rattle.node.specs.Nodes.{Node, silent, emit_cue, emit_level, both, then, chain, Takes, takes_pass, takes_silent, takes_cue, takes_level, takes_both, takes_left, takes_right, takes_first, takes_second, takes_then, takes_chain, takes_regroup_right, takes_regroup_left, takes_spread, takes_front, takes_choose, takes_mark_first, takes_mark_second, count, Allowed}
use Rattle.node.specs.Nodes.Functions.{output_type, Fits}
use Rattle.node.proofs.Nodes.Laws.{output_type_is, is_allowed, allowed_fits}
use Rattle.node.specs.Feeding.{Feeds, feeds_pass, feeds_silent, feeds_cue, feeds_cue_waiting, feeds_level, feeds_level_waiting, feeds_both, feeds_left, feeds_right, feeds_first_coming, feeds_first_crossed, feeds_second_coming, feeds_second_crossed, feeds_then_coming, feeds_then_crossed, feeds_chain, feeds_regroup_right_in_first, feeds_regroup_right_in_second, feeds_regroup_right_in_third, feeds_regroup_left_in_first, feeds_regroup_left_in_second, feeds_regroup_left_in_third, feeds_spread_coming, feeds_spread_crossed, feeds_front, feeds_choose_none, feeds_choose_first, feeds_choose_second, feeds_mark_first, feeds_mark_second}
use Rattle.node.specs.Feeding.Functions.{sends, leaves}

-- A fed node: its output is a prefix of the output type, complete where the input is, and the node left takes what is left
-- of the input type to what is left of the output type.
pub record Preserved (s : Ty) (n : Node) (t : Ty) (p : Prefix) : Type 0 where
  pub sent : IsPrefix t (sends s n p)
  pub whole : Complete p → Complete (sends s n p)
  pub types : Takes (derivative s p) (leaves s n p) (derivative t (sends s n p))

-- Two outcomes of a feed that are the same.
pub record Same (o u : Prefix) (n m : Node) : Type 0 where
  pub sent : o ≡ u
  pub node : n ≡ m

abbrev same : {o : Prefix} {n : Node} → Same o o n n
same = record { sent = refl; node = refl }

-- Nodes 2 and 3 wait, and send once: n sends `come` and leaves silent where the prefix opens it, and else sends `awaited` and stays. What
-- follows is said of both.
record Waiting (n : Node) (t : Ty) : Type 0 where
  come : Prefix
  awaited : Prefix
  takes : (s : Ty) → Takes s n t
  sending : (s : Ty) (p : Prefix) → sends s n p ≡ cond (opens p) come awaited
  leaving : (s : Ty) (p : Prefix) → leaves s n p ≡ cond (opens p) (silent empty) n
  opened : {s : Ty} {p : Prefix} → Opens s p → Feeds s n p come (silent empty)
  closed : {s : Ty} {p : Prefix} → (Opens s p → ⊥) → Feeds s n p awaited n
  come_is_prefix : IsPrefix t come
  come_whole : Complete come
  come_leaves : derivative t come ≡ empty
  come_first : (q : Prefix) → concat come q ≡ come
  awaited_is_prefix : IsPrefix t awaited
  awaited_leaves : derivative t awaited ≡ t
  awaited_first : (q : Prefix) → concat awaited q ≡ q

waiting_cue : Waiting emit_cue cue
unfolding sends leaves derivative concat
waiting_cue =
    record {
      come = cue_come;
      awaited = cue_awaited;
      takes = λ s. takes_cue;
      sending = λ s p. refl;
      leaving = λ s p. refl;
      opened = feeds_cue;
      closed = feeds_cue_waiting;
      come_is_prefix = of_cue_come;
      come_whole = whole_cue;
      come_leaves = refl;
      come_first = λ q. refl;
      awaited_is_prefix = of_cue_awaited;
      awaited_leaves = refl;
      awaited_first = λ q. refl;
    }

waiting_level : {v : ℕ} → v < level_limit → Waiting (emit_level v) level
unfolding sends leaves derivative concat
waiting_level {v} small =
    record {
      come = level_come v;
      awaited = level_awaited;
      takes = λ s. takes_level small;
      sending = λ s p. refl;
      leaving = λ s p. refl;
      opened = feeds_level;
      closed = feeds_level_waiting;
      come_is_prefix = of_level_come small;
      come_whole = whole_level;
      come_leaves = refl;
      come_first = λ q. refl;
      awaited_is_prefix = of_level_awaited;
      awaited_leaves = refl;
      awaited_first = λ q. refl;
    }

module _ {n : Node} {t : Ty} (w : Waiting n t) where
  waiting_preserved : {s : Ty} {p : Prefix} → Preserved s n t p
  waiting_preserved {s} {p} =
      record {
        sent = rw (w.sending s p) (on_sent (opens p));
        whole = λ whole. rw (w.sending s p, complete-opens whole) w.come_whole;
        types = rw (w.sending s p, w.leaving s p) (on_left (opens p));
      }
    where
      on_sent : (b : Bool) → IsPrefix t (cond b w.come w.awaited)
      on_sent true = w.come_is_prefix
      on_sent false = w.awaited_is_prefix

      on_left : (b : Bool) → Takes (derivative s p) (cond b (silent empty) n) (derivative t (cond b w.come w.awaited))
      on_left true = rw w.come_leaves (takes_silent null_empty)
      on_left false = rw w.awaited_leaves (w.takes (derivative s p))

  waiting_feeds : {s : Ty} {p : Prefix} → IsPrefix s p → Feeds s n p (sends s n p) (leaves s n p)
  waiting_feeds {s} {p} h = rw (w.sending s p, w.leaving s p) (go (opens p) refl)
    where
      go : (b : Bool) → opens p ≡ b → Feeds s n p (cond b w.come w.awaited) (cond b (silent empty) n)
      go true e = w.opened ((opens_test h).0 e)
      go false e = w.closed ((closed_test h).0 e)

  -- Demand 3 holds of it, since a prefix that opens it does so with anything joined to it, and one that does not is the empty prefix,
  -- after which the next one is all that has come.
  waiting_concat : {s : Ty} {p : Prefix} (q : Prefix) → IsPrefix s p → IsPrefix (derivative s p) q
      → Same (sends s n (concat p q)) (concat (sends s n p) (sends (derivative s p) (leaves s n p) q))
      (leaves s n (concat p q)) (leaves (derivative s p) (leaves s n p) q)
  unfolding sends leaves
  waiting_concat {s} {p} q h k =
      rw (w.sending s (concat p q), w.leaving s (concat p q), w.sending s p, w.leaving s p) (go (opens p) refl)
    where
      go : (b : Bool) → opens p ≡ b
          → Same (cond (opens (concat p q)) w.come w.awaited)
          (concat (cond b w.come w.awaited) (sends (derivative s p) (cond b (silent empty) n) q))
          (cond (opens (concat p q)) (silent empty) n) (leaves (derivative s p) (cond b (silent empty) n) q)
      go true e = record { sent = rw (opens-concat q h k e, w.come_first); node = rw (opens-concat q h k e) }
      go false e =
          record {
            sent = rw (closed_concat q h k e, w.awaited_first, w.sending (derivative s p) q);
            node = rw (closed_concat q h k e, w.leaving (derivative s p) q);
          }

pub preserved : {s t : Ty} {n : Node} {p : Prefix} → Takes s n t → IsPrefix s p → Preserved s n t p
unfolding sends leaves derivative output_type
preserved takes_pass h = record { sent = h; whole = λ c. c; types = takes_pass }
preserved (takes_silent {n = t} z) h =
    record { sent = empty_prefix_is_prefix t; whole = λ c. empty_prefix-complete z; types = rw (derivative_empty t) (takes_silent z) }
preserved takes_cue h = waiting_preserved waiting_cue
preserved (takes_level small) h = waiting_preserved (waiting_level small)
preserved (takes_both d e) h =
    let a = preserved d h in
    let b = preserved e h in
    record { sent = of_beside a.sent b.sent; whole = λ c. whole_beside (a.whole c) (b.whole c); types = takes_both a.types b.types }
preserved takes_left (of_beside h k) = record { sent = h; whole = λ c. beside_first c; types = takes_left }
preserved takes_right (of_beside h k) = record { sent = k; whole = λ c. beside_second c; types = takes_right }
preserved takes_first (of_first h) = record { sent = h; whole = λ c. elim c [ ]; types = takes_first }
preserved takes_first (of_crossed h b k) = record { sent = h; whole = λ c. b; types = takes_silent (complete→nullable h b) }
preserved (takes_second {t = t}) (of_first h) =
    record { sent = empty_prefix_is_prefix t; whole = λ c. elim c [ ]; types = rw (derivative_empty t) takes_second }
preserved takes_second (of_crossed h b k) = record { sent = k; whole = λ c. crossed_second c; types = takes_pass }
preserved (takes_then d e) (of_first h) =
    let a = preserved d h in
    record { sent = of_first a.sent; whole = λ c. elim c [ ]; types = takes_then a.types e }
preserved (takes_then d e) (of_crossed h b k) =
    let x = preserved d h in
    let y = preserved e k in
    record { sent = of_crossed x.sent (x.whole b) y.sent; whole = λ c. whole_crossed (y.whole (crossed_second c)); types = y.types }
preserved (takes_chain d e) h =
    let a = preserved d h in
    let b = preserved e a.sent in
    record {
      sent = rw (output_type_is d) b.sent;
      whole = λ c. rw (output_type_is d) (b.whole (a.whole c));
      types = rw (output_type_is d) (takes_chain a.types b.types);
    }
preserved takes_regroup_right (of_first (of_first h)) = record { sent = of_first h; whole = λ c. elim c [ ]; types = takes_regroup_right }
preserved takes_regroup_right (of_first (of_crossed h b k)) =
    record { sent = of_crossed h b (of_first k); whole = λ c. elim c [ ]; types = takes_pass }
preserved takes_regroup_right (of_crossed (of_first _) b l) = elim b [ ]
preserved takes_regroup_right (of_crossed (of_crossed h b k) (whole_crossed d) l) =
    record { sent = of_crossed h b (of_crossed k d l); whole = λ c. whole_crossed (whole_crossed (crossed_second c)); types = takes_pass }
preserved takes_regroup_left (of_first h) = record { sent = of_first (of_first h); whole = λ c. elim c [ ]; types = takes_regroup_left }
preserved takes_regroup_left (of_crossed h b (of_first k)) =
    record { sent = of_first (of_crossed h b k); whole = λ c. elim (crossed_second c) [ ]; types = takes_pass }
preserved takes_regroup_left (of_crossed h b (of_crossed k d l)) =
    record {
      sent = of_crossed (of_crossed h b k) (whole_crossed d) l;
      whole = λ c. whole_crossed (crossed_second (crossed_second c));
      types = takes_pass;
    }
preserved takes_spread (of_first h) = record { sent = of_beside (of_first h) (of_first h); whole = λ c. elim c [ ]; types = takes_spread }
preserved takes_spread (of_crossed h b (of_beside k l)) =
    record {
      sent = of_beside (of_crossed h b k) (of_crossed h b l);
      whole = λ c. whole_beside (whole_crossed (beside_first (crossed_second c))) (whole_crossed (beside_second (crossed_second c)));
      types = takes_pass;
    }
preserved takes_front h = record { sent = of_crossed of_empty whole_nothing h; whole = λ c. whole_crossed c; types = takes_pass }
preserved (takes_choose {r = r} d e) of_none_chosen =
    record {
      sent = rw (output_type_is d) (empty_prefix_is_prefix r);
      whole = λ c. elim c [ ];
      types = rw (output_type_is d, derivative_empty r) (takes_choose d e);
    }
preserved (takes_choose d e) (of_first_chosen h) =
    let a = preserved d h in
    record { sent = a.sent; whole = λ c. a.whole (first_chosen-inside c); types = a.types }
preserved (takes_choose d e) (of_second_chosen h) =
    let a = preserved e h in
    record { sent = a.sent; whole = λ c. a.whole (second_chosen-inside c); types = a.types }
preserved takes_mark_first h = record { sent = of_first_chosen h; whole = λ c. whole_first_chosen c; types = takes_pass }
preserved takes_mark_second h = record { sent = of_second_chosen h; whole = λ c. whole_second_chosen c; types = takes_pass }

-- The functions are the rules: they give an outcome of the rules, and the rules have no other.

pub feeds : {s t : Ty} {n : Node} {p : Prefix} → Takes s n t → IsPrefix s p → Feeds s n p (sends s n p) (leaves s n p)
unfolding sends leaves
feeds takes_pass h = feeds_pass
feeds (takes_silent z) h = feeds_silent
feeds takes_cue h = waiting_feeds waiting_cue h
feeds (takes_level small) h = waiting_feeds (waiting_level small) h
feeds (takes_both d e) h = feeds_both (feeds d h) (feeds e h)
feeds takes_left (of_beside h k) = feeds_left
feeds takes_right (of_beside h k) = feeds_right
feeds takes_first (of_first h) = feeds_first_coming
feeds takes_first (of_crossed h c k) = feeds_first_crossed
feeds takes_second (of_first h) = feeds_second_coming
feeds takes_second (of_crossed h c k) = feeds_second_crossed
feeds (takes_then d e) (of_first h) = feeds_then_coming (feeds d h)
feeds (takes_then d e) (of_crossed h c k) = feeds_then_crossed (feeds d h) (feeds e k)
feeds (takes_chain d e) h = rw (output_type_is d) (feeds_chain d (feeds d h) (feeds e (preserved d h).sent))
feeds takes_regroup_right (of_first (of_first h)) = feeds_regroup_right_in_first
feeds takes_regroup_right (of_first (of_crossed h c k)) = feeds_regroup_right_in_second
feeds takes_regroup_right (of_crossed (of_first _) c l) = elim c [ ]
feeds takes_regroup_right (of_crossed (of_crossed h c k) d l) = feeds_regroup_right_in_third
feeds takes_regroup_left (of_first h) = feeds_regroup_left_in_first
feeds takes_regroup_left (of_crossed h c (of_first k)) = feeds_regroup_left_in_second
feeds takes_regroup_left (of_crossed h c (of_crossed k d l)) = feeds_regroup_left_in_third
feeds takes_spread (of_first h) = feeds_spread_coming
feeds takes_spread (of_crossed h c (of_beside k l)) = feeds_spread_crossed
feeds takes_front h = feeds_front
feeds (takes_choose d e) of_none_chosen = rw (output_type_is d) (feeds_choose_none d)
feeds (takes_choose d e) (of_first_chosen h) = feeds_choose_first (feeds d h)
feeds (takes_choose d e) (of_second_chosen h) = feeds_choose_second (feeds e h)
feeds takes_mark_first h = feeds_mark_first
feeds takes_mark_second h = feeds_mark_second

pub feeds_only : {s : Ty} {n n' : Node} {p o : Prefix} → Feeds s n p o n' → IsPrefix s p → Same o (sends s n p) n' (leaves s n p)
unfolding sends leaves
feeds_only feeds_pass h = same
feeds_only feeds_silent h = same
feeds_only (feeds_cue o) h = let e = (opens_test h).1 o in record { sent = rw e; node = rw e }
feeds_only (feeds_cue_waiting o) h = let e = (closed_test h).1 o in record { sent = rw e; node = rw e }
feeds_only (feeds_level o) h = let e = (opens_test h).1 o in record { sent = rw e; node = rw e }
feeds_only (feeds_level_waiting o) h = let e = (closed_test h).1 o in record { sent = rw e; node = rw e }
feeds_only (feeds_both f g) h =
    let a = feeds_only f h in
    let b = feeds_only g h in
    record { sent = ap₂ beside a.sent b.sent; node = ap₂ both a.node b.node }
feeds_only feeds_left h = same
feeds_only feeds_right h = same
feeds_only feeds_first_coming h = same
feeds_only feeds_first_crossed h = same
feeds_only feeds_second_coming h = same
feeds_only feeds_second_crossed h = same
feeds_only (feeds_then_coming f) (of_first h) =
    let a = feeds_only f h in
    record { sent = ap in_first a.sent; node = ap₂ then a.node refl }
feeds_only (feeds_then_crossed f g) (of_crossed h c k) =
    let a = feeds_only f h in
    let b = feeds_only g k in
    record { sent = ap₂ crossed a.sent b.sent; node = b.node }
feeds_only (feeds_chain d f g) h =
    let a = feeds_only f h in
    let b = feeds_only g (rw a.sent (preserved d h).sent) in
    rw (output_type_is d, ← a.sent) (record { sent = b.sent; node = ap₂ chain a.node b.node })
feeds_only feeds_regroup_right_in_first h = same
feeds_only feeds_regroup_right_in_second h = same
feeds_only feeds_regroup_right_in_third h = same
feeds_only feeds_regroup_left_in_first h = same
feeds_only feeds_regroup_left_in_second h = same
feeds_only feeds_regroup_left_in_third h = same
feeds_only feeds_spread_coming h = same
feeds_only feeds_spread_crossed h = same
feeds_only feeds_front h = same
feeds_only (feeds_choose_none d) h = record { sent = rw (output_type_is d); node = refl }
feeds_only (feeds_choose_first f) (of_first_chosen h) = feeds_only f h
feeds_only (feeds_choose_second f) (of_second_chosen h) = feeds_only f h
feeds_only feeds_mark_first h = same
feeds_only feeds_mark_second h = same

-- Feeding a joined prefix is feeding its two parts.
pub feed-concat : {s t : Ty} {n : Node} {p : Prefix} (q : Prefix) → Takes s n t → IsPrefix s p → IsPrefix (derivative s p) q
    → Same (sends s n (concat p q)) (concat (sends s n p) (sends (derivative s p) (leaves s n p) q))
    (leaves s n (concat p q)) (leaves (derivative s p) (leaves s n p) q)
unfolding sends leaves derivative concat output_type
feed-concat q takes_pass h k = same
feed-concat q (takes_silent {n = t} z) h k = record { sent = sym (concat_empty_left (empty_prefix_is_prefix t)); node = refl }
feed-concat q takes_cue h k = waiting_concat waiting_cue q h k
feed-concat q (takes_level small) h k = waiting_concat (waiting_level small) q h k
feed-concat q (takes_both d e) h k =
    let a = feed-concat q d h k in
    let b = feed-concat q e h k in
    record { sent = ap₂ beside a.sent b.sent; node = ap₂ both a.node b.node }
feed-concat q takes_left (of_beside h i) (of_beside k l) = same
feed-concat q takes_right (of_beside h i) (of_beside k l) = same
feed-concat q takes_first (of_first h) (of_first k) = same
feed-concat q takes_first (of_first h) (of_crossed i c k) = record { sent = refl; node = ap silent (derivative-concat _ h i) }
feed-concat q takes_first (of_crossed h c i) k = record { sent = sym (concat_empty_right h); node = refl }
feed-concat q (takes_second {t = t}) (of_first h) (of_first k) =
    record { sent = sym (concat_empty_left (empty_prefix_is_prefix t)); node = refl }
feed-concat q takes_second (of_first h) (of_crossed i c k) = record { sent = sym (concat_empty_left k); node = refl }
feed-concat q takes_second (of_crossed h c i) k = same
feed-concat q (takes_then d e) (of_first h) (of_first k) =
    let a = feed-concat _ d h k in
    record { sent = ap in_first a.sent; node = ap₂ then a.node refl }
feed-concat q (takes_then d e) (of_first h) (of_crossed i c k) =
    record { sent = ap₂ crossed (feed-concat _ d h i).sent refl; node = refl }
feed-concat q (takes_then d e) (of_crossed h c i) k =
    let a = feed-concat q e i k in
    record { sent = ap₂ crossed refl a.sent; node = a.node }
feed-concat q (takes_chain d e) h k =
    let a = feed-concat q d h k in
    let x = preserved d h in
    let b = feed-concat _ e x.sent (preserved x.types k).sent in
    rw (a.sent, output_type_is d, output_type_is x.types) (record { sent = b.sent; node = ap₂ chain a.node b.node })
feed-concat q takes_regroup_right (of_first (of_first h)) (of_first (of_first k)) = same
feed-concat q takes_regroup_right (of_first (of_first h)) (of_first (of_crossed i c k)) = same
feed-concat q takes_regroup_right (of_first (of_first h)) (of_crossed (of_first _) d l) = elim d [ ]
feed-concat q takes_regroup_right (of_first (of_first h)) (of_crossed (of_crossed i c k) d l) = same
feed-concat q takes_regroup_right (of_first (of_crossed h c i)) (of_first k) = same
feed-concat q takes_regroup_right (of_first (of_crossed h c i)) (of_crossed j d k) = same
feed-concat q takes_regroup_right (of_crossed (of_first _) d j) k = elim d [ ]
feed-concat q takes_regroup_right (of_crossed (of_crossed h c i) d j) k = same
feed-concat q takes_regroup_left (of_first h) (of_first k) = same
feed-concat q takes_regroup_left (of_first h) (of_crossed i c (of_first k)) = same
feed-concat q takes_regroup_left (of_first h) (of_crossed i c (of_crossed k d l)) = same
feed-concat q takes_regroup_left (of_crossed h c (of_first i)) (of_first k) = same
feed-concat q takes_regroup_left (of_crossed h c (of_first i)) (of_crossed j d k) = same
feed-concat q takes_regroup_left (of_crossed h c (of_crossed i d j)) k = same
feed-concat q takes_spread (of_first h) (of_first k) = same
feed-concat q takes_spread (of_first h) (of_crossed i c (of_beside k l)) = same
feed-concat q takes_spread (of_crossed h c (of_beside i j)) (of_beside k l) = same
feed-concat q takes_front h k = same
feed-concat q (takes_choose {r = r} d e) of_none_chosen of_none_chosen =
    record { sent = rw (output_type_is d) (sym (concat_empty_left (empty_prefix_is_prefix r))); node = refl }
feed-concat q (takes_choose d e) of_none_chosen (of_first_chosen k) =
    record { sent = rw (output_type_is d) (sym (concat_empty_left (preserved d k).sent)); node = refl }
feed-concat q (takes_choose d e) of_none_chosen (of_second_chosen k) =
    record { sent = rw (output_type_is d) (sym (concat_empty_left (preserved e k).sent)); node = refl }
feed-concat q (takes_choose d e) (of_first_chosen h) k = feed-concat q d h k
feed-concat q (takes_choose d e) (of_second_chosen h) k = feed-concat q e h k
feed-concat q takes_mark_first h k = same
feed-concat q takes_mark_second h k = same

-- Neither the number of nodes nor a type carried or given grows.

waiting_count : (n : Node) (b : Bool) → 1 ≤ count n → count (cond b (silent empty) n) ≤ count n
unfolding count
waiting_count n true h = h
waiting_count n false h = omega arith

waiting_fits : (s : Ty) (n : Node) (b : Bool) → Small empty → Fits s n → Fits s (cond b (silent empty) n)
waiting_fits s n true h f = h
waiting_fits s n false h f = f

pub leaves-count : {s t : Ty} {n : Node} {p : Prefix} → Takes s n t → IsPrefix s p → count (leaves s n p) ≤ count n
unfolding leaves count
leaves-count takes_pass h = omega arith
leaves-count (takes_silent z) h = omega arith
leaves-count {p = p} takes_cue h = waiting_count emit_cue (opens p) (omega arith)
leaves-count {p = p} (takes_level {v = v} small) h = waiting_count (emit_level v) (opens p) (omega arith)
leaves-count (takes_both d e) h = omega (arith, leaves-count d h, leaves-count e h)
leaves-count takes_left h = omega arith
leaves-count takes_right h = omega arith
leaves-count takes_first (of_first h) = omega arith
leaves-count takes_first (of_crossed h c k) = omega arith
leaves-count takes_second (of_first h) = omega arith
leaves-count takes_second (of_crossed h c k) = omega arith
leaves-count (takes_then d e) (of_first h) = omega (arith, leaves-count d h)
leaves-count (takes_then d e) (of_crossed h c k) = omega (arith, leaves-count e k)
leaves-count (takes_chain d e) h = rw (output_type_is d) (omega (arith, leaves-count d h, leaves-count e (preserved d h).sent))
leaves-count takes_regroup_right (of_first (of_first h)) = omega arith
leaves-count takes_regroup_right (of_first (of_crossed h c k)) = omega arith
leaves-count takes_regroup_right (of_crossed h c k) = omega arith
leaves-count takes_regroup_left (of_first h) = omega arith
leaves-count takes_regroup_left (of_crossed h c k) = omega arith
leaves-count takes_spread (of_first h) = omega arith
leaves-count takes_spread (of_crossed h c k) = omega arith
leaves-count takes_front h = omega arith
leaves-count (takes_choose d e) of_none_chosen = omega arith
leaves-count (takes_choose d e) (of_first_chosen h) = omega (arith, leaves-count d h)
leaves-count (takes_choose d e) (of_second_chosen h) = omega (arith, leaves-count e h)
leaves-count takes_mark_first h = omega arith
leaves-count takes_mark_second h = omega arith

-- The output type left is no larger.
pub output_type-size : {s t : Ty} {n : Node} {p : Prefix} → Takes s n t → IsPrefix s p
    → size (output_type (derivative s p) (leaves s n p)) ≤ size (output_type s n)
output_type-size d h = rw (output_type_is d, output_type_is (preserved d h).types) (derivative-size (preserved d h).sent)

pub leaves_fits : {s t : Ty} {n : Node} {p : Prefix} → Takes s n t → IsPrefix s p → Fits s n → Fits (derivative s p) (leaves s n p)
unfolding leaves derivative output_type size
leaves_fits takes_pass h f = omega (arith, derivative-size h)
leaves_fits (takes_silent z) h f = f
leaves_fits {s} {p = p} takes_cue h f = waiting_fits (derivative s p) emit_cue (opens p) f f
leaves_fits {s} {p = p} (takes_level {v = v} small) h f = waiting_fits (derivative s p) (emit_level v) (opens p) f f
leaves_fits (takes_both d e) h f =
    (leaves_fits d h f.0, leaves_fits e h f.1, le_trans (output_type-size (takes_both d e) h) f.2)
leaves_fits takes_left (of_beside h k) f = omega (arith, derivative-size h)
leaves_fits takes_right (of_beside h k) f = omega (arith, derivative-size k)
leaves_fits takes_first (of_first h) f = omega (arith, derivative-size h)
leaves_fits takes_first (of_crossed h c k) f = omega (arith, derivative-size h)
leaves_fits takes_second (of_first h) f = f
leaves_fits takes_second (of_crossed h c k) f = omega (arith, derivative-size k)
leaves_fits (takes_then d e) (of_first h) f =
    (leaves_fits d h f.0, f.1, le_trans (output_type-size (takes_then d e) (of_first h)) f.2)
leaves_fits (takes_then d e) (of_crossed h c k) f = leaves_fits e k f.1
leaves_fits (takes_chain d e) h f =
    let x = preserved d h in (
      leaves_fits d h f.0,
      rw (output_type_is x.types) (rw (output_type_is d) (leaves_fits e x.sent (rw (output_type_is d) at f.1))),
      le_trans (output_type-size (takes_chain d e) h) f.2,
    )
leaves_fits takes_regroup_right (of_first (of_first h)) f = omega (arith, derivative-size h)
leaves_fits takes_regroup_right (of_first (of_crossed h c k)) f = omega (arith, derivative-size k)
leaves_fits takes_regroup_right (of_crossed h c k) f = omega (arith, derivative-size k)
leaves_fits takes_regroup_left (of_first h) f = omega (arith, derivative-size h)
leaves_fits takes_regroup_left (of_crossed h c k) f = omega (arith, derivative-size k)
leaves_fits takes_spread (of_first h) f = omega (arith, derivative-size h)
leaves_fits takes_spread (of_crossed h c k) f = omega (arith, derivative-size k)
leaves_fits takes_front h f = omega (arith, derivative-size h)
leaves_fits (takes_choose d e) of_none_chosen f = f
leaves_fits (takes_choose d e) (of_first_chosen h) f = leaves_fits d h f.0
leaves_fits (takes_choose d e) (of_second_chosen h) f = leaves_fits e h f.1
leaves_fits takes_mark_first h f = omega (arith, derivative-size h)
leaves_fits takes_mark_second h f = omega (arith, derivative-size h)

-- The patch left is allowed again, from what is left of the input type to what is left of the output type.
pub leaves_allowed : {s t : Ty} {n : Node} {p : Prefix} → Allowed s n t → IsPrefix s p
    → Allowed (derivative s p) (leaves s n p) (derivative t (sends s n p))
leaves_allowed a h =
    is_allowed (preserved a.types h).types (le_trans (derivative-size h) a.input_small)
    (le_trans (leaves-count a.types h) a.few) (leaves_fits a.types h (allowed_fits a))
