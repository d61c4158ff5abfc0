-- One feed of a node: what it sends and the node left (document 01, Nodes; document 02, M-100 and M-103; the source's step of the
-- incremental semantics).
use Rattle.std.specs.Prelude.{◌≡◌, ℕ}
use Rattle.stream.specs.Types.{Ty, empty, seq, par, either}
use Rattle.stream.specs.Prefixes.{Prefix, nothing, cue_awaited, cue_come, level_awaited, level_come, in_first, crossed, beside, none_chosen, first_chosen, second_chosen, empty_prefix, Opens, derivative}
use Rattle.node.specs.Totals.{added, Held}
use Rattle.node.specs.Nodes.{Node, pass, silent, emit_cue, emit_level, both, left_side, right_side, first, second, then, chain, regroup_right, regroup_left, spread, front, choose, mark_first, mark_second, Takes, Patch}
pub mod Functions
pub mod Lists
pub mod Patches
pub mod Examples

-- Feeds s n p o n': fed the prefix p of s, the node n sends o and leaves n'.
pub data Feeds : Ty → Node → Prefix → Prefix → Node → Type 0 where
  -- 0 pass: "Sends the slice; pass."
  feeds_pass : {s : Ty} {p : Prefix} → Feeds s pass p p pass
  -- 1 silent: "Sends n's empty slice; itself."
  feeds_silent : {s n : Ty} {p : Prefix} → Feeds s (silent n) p (empty_prefix n) (silent n)
  -- 2 cue: "Sends 2 ..; silent 0", now (M-103) "when the slice differs from its type's empty slice or is complete,
  feeds_cue : {s : Ty} {p : Prefix} → Opens s p → Feeds s emit_cue p cue_come (silent empty)
  -- otherwise" it sends "the empty slice of [its] own type" and stays.
  feeds_cue_waiting : {s : Ty} {p : Prefix} → (Opens s p → ⊥) → Feeds s emit_cue p cue_awaited emit_cue
  -- 3 level: "as cue, sending 4 and the value."
  feeds_level : {s : Ty} {p : Prefix} {v : ℕ} → Opens s p → Feeds s (emit_level v) p (level_come v) (silent empty)
  feeds_level_waiting : {s : Ty} {p : Prefix} {v : ℕ} → (Opens s p → ⊥) → Feeds s (emit_level v) p level_awaited (emit_level v)
  -- 4 both: "Each gets the whole slice; sends 7 and both outputs; both of the nodes left."
  feeds_both : {s : Ty} {n m n' m' : Node} {p o u : Prefix} → Feeds s n p o n' → Feeds s m p u m'
      → Feeds s (both n m) p (beside o u) (both n' m')
  -- 5 left, 6 right: "one side of a type 4. Sends that side; itself."
  feeds_left : {s t : Ty} {p q : Prefix} → Feeds (par s t) left_side (beside p q) p left_side
  feeds_right : {s t : Ty} {p q : Prefix} → Feeds (par s t) right_side (beside p q) q right_side
  -- 7 first: "On 5 p sends p; itself. On 6 b q sends b; silent with what b leaves of s."
  feeds_first_coming : {s t : Ty} {p : Prefix} → Feeds (seq s t) first (in_first p) p first
  feeds_first_crossed : {s t : Ty} {b q : Prefix} → Feeds (seq s t) first (crossed b q) b (silent (derivative s b))
  -- 8 second: "On 5 sends t's empty slice; itself. On 6 b q sends q; pass."
  feeds_second_coming : {s t : Ty} {p : Prefix} → Feeds (seq s t) second (in_first p) (empty_prefix t) second
  feeds_second_crossed : {s t : Ty} {b q : Prefix} → Feeds (seq s t) second (crossed b q) q pass
  -- 9 then: "On 5 p runs the first node: 5 and its output; then, with the first node replaced.
  feeds_then_coming : {s t : Ty} {n m n' : Node} {p o : Prefix} → Feeds s n p o n'
      → Feeds (seq s t) (then n m) (in_first p) (in_first o) (then n' m)
  -- On 6 b q runs the first on b and the second on q: 6 and both outputs; the second node's remainder alone."
  feeds_then_crossed : {s t : Ty} {n m n' m' : Node} {b q o u : Prefix} → Feeds s n b o n' → Feeds t m q u m'
      → Feeds (seq s t) (then n m) (crossed b q) (crossed o u) m'
  -- 10 chain: "the second takes what the first sends; chain of both left."
  feeds_chain : {s t : Ty} {n m n' m' : Node} {p o u : Prefix} → Takes s n t → Feeds s n p o n' → Feeds t m o u m'
      → Feeds s (chain n m) p u (chain n' m')
  -- 11 regroup right: "5 5 p gives 5 p, itself. 5 6 b q gives 6 b 5 q, pass. 6 6 b c q gives 6 b 6 c q, pass."
  feeds_regroup_right_in_first : {s t r : Ty} {p : Prefix} → Feeds (seq (seq s t) r) regroup_right (in_first (in_first p)) (in_first p) regroup_right
  feeds_regroup_right_in_second : {s t r : Ty} {b q : Prefix} → Feeds (seq (seq s t) r) regroup_right (in_first (crossed b q)) (crossed b (in_first q)) pass
  feeds_regroup_right_in_third : {s t r : Ty} {b c q : Prefix} → Feeds (seq (seq s t) r) regroup_right (crossed (crossed b c) q) (crossed b (crossed c q)) pass
  -- 12 regroup left: "5 p gives 5 5 p, itself. 6 b 5 q gives 5 6 b q, pass. 6 b 6 c q gives 6 6 b c q, pass."
  feeds_regroup_left_in_first : {s t r : Ty} {p : Prefix} → Feeds (seq s (seq t r)) regroup_left (in_first p) (in_first (in_first p)) regroup_left
  feeds_regroup_left_in_second : {s t r : Ty} {b q : Prefix} → Feeds (seq s (seq t r)) regroup_left (crossed b (in_first q)) (in_first (crossed b q)) pass
  feeds_regroup_left_in_third : {s t r : Ty} {b c q : Prefix} → Feeds (seq s (seq t r)) regroup_left (crossed b (crossed c q)) (crossed (crossed b c) q) pass
  -- 13 spread: "5 p gives 7 5 p 5 p, itself. 6 b 7 q r gives 7 6 b q 6 b r, pass."
  feeds_spread_coming : {s t r : Ty} {p : Prefix} → Feeds (seq s (par t r)) spread (in_first p) (beside (in_first p) (in_first p)) spread
  feeds_spread_crossed : {s t u : Ty} {b q r : Prefix} → Feeds (seq s (par t u)) spread (crossed b (beside q r)) (beside (crossed b q) (crossed b r)) pass
  -- 14 front: "p gives 6 0 p; pass."
  feeds_front : {s : Ty} {p : Prefix} → Feeds s front p (crossed nothing p) pass
  -- 15 choose (M-100): "on 8 it sends that type's empty slice and stays;
  feeds_choose_none : {s t r : Ty} {n m : Node} → Takes s n r → Feeds (either s t) (choose n m) none_chosen (empty_prefix r) (choose n m)
  -- a choice feeds the chosen node, whose remainder stays alone."
  feeds_choose_first : {s t : Ty} {n m n' : Node} {p o : Prefix} → Feeds s n p o n' → Feeds (either s t) (choose n m) (first_chosen p) o n'
  feeds_choose_second : {s t : Ty} {n m m' : Node} {p o : Prefix} → Feeds t m p o m' → Feeds (either s t) (choose n m) (second_chosen p) o m'
  -- 16, 17 (M-100): "marking the choice at first and leaving pass", at the first feed, even one that brings nothing.
  feeds_mark_first : {s t : Ty} {p : Prefix} → Feeds s (mark_first t) p (first_chosen p) pass
  feeds_mark_second : {s t : Ty} {p : Prefix} → Feeds s (mark_second t) p (second_chosen p) pass

-- FeedsPatch a p o b: fed p, the patch a sends o and leaves the patch b. "The patch left has as its input type what the slice
-- leaves", and "Feed adds its two counts" (M-105).
pub record FeedsPatch (a : Patch) (p o : Prefix) (b : Patch) : Type 0 where
  pub by_node : Feeds a.input a.node p o b.node
  pub input_left : b.input ≡ derivative a.input p
  pub totals_left : b.totals ≡ added a.totals p o

-- The limits of Feed (M-105): "31, a total would pass 4,294,967,295", of the patch that the rules leave.
pub record Within (a : Patch) (p : Prefix) : Type 0 where
  pub totals : (o : Prefix) (b : Patch) → FeedsPatch a p o b → Held b.totals
