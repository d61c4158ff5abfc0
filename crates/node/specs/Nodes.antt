-- Nodes, their typing and their limits (document 01, Nodes and Bounds; document 02, M-100). A node is one of the source's kernel
-- transformers, the source's cut, or a structural rule that document 01 keeps as a node.
use Rattle.std.specs.Prelude.{ℕ, suc, ◌+◌, ◌<◌, ◌≤◌}
use Rattle.stream.specs.Types.{Ty, empty, cue, level, seq, par, either, Nullable, Small}
use Rattle.stream.specs.Levels.{level_limit}
use Rattle.node.specs.Totals.{Totals}
pub mod Functions
pub mod Kinds

pub data Node : Type 0 where
  pass : Node  -- 0, the source's variable
  silent : Ty → Node  -- 1, and a nullable type (the source's sink, at any nullable type)
  emit_cue : Node  -- 2, document 01's cue, the source's ()
  emit_level : ℕ → Node  -- 3, document 01's level, and its value
  both : Node → Node → Node  -- 4, the source's PAR-R
  left_side : Node  -- 5, document 01's left
  right_side : Node  -- 6, document 01's right
  first : Node  -- 7
  second : Node  -- 8
  then : Node → Node → Node  -- 9, the source's CAT-R
  chain : Node → Node → Node  -- 10, the source's cut
  regroup_right : Node  -- 11
  regroup_left : Node  -- 12
  spread : Node  -- 13
  front : Node  -- 14
  choose : Node → Node → Node  -- 15, a node for each part of an either (the source's PLUS-L, case)
  mark_first : Ty → Node  -- 16, and the type of the part that is not chosen (the source's PLUS-R-1, inl)
  mark_second : Ty → Node  -- 17, and the type of the part that is not chosen (the source's PLUS-R-2, inr)

-- "Each node takes an input type to an output type": Takes s n t says that n takes s to t.
pub data Takes : Ty → Node → Ty → Type 0 where
  takes_pass : {s : Ty} → Takes s pass s
  takes_silent : {s n : Ty} → Nullable n → Takes s (silent n) n
  takes_cue : {s : Ty} → Takes s emit_cue cue
  takes_level : {s : Ty} {v : ℕ} → v < level_limit → Takes s (emit_level v) level
  takes_both : {s t r : Ty} {n m : Node} → Takes s n t → Takes s m r → Takes s (both n m) (par t r)
  takes_left : {s t : Ty} → Takes (par s t) left_side s
  takes_right : {s t : Ty} → Takes (par s t) right_side t
  takes_first : {s t : Ty} → Takes (seq s t) first s
  takes_second : {s t : Ty} → Takes (seq s t) second t
  takes_then : {s t u v : Ty} {n m : Node} → Takes s n u → Takes t m v → Takes (seq s t) (then n m) (seq u v)
  takes_chain : {s t r : Ty} {n m : Node} → Takes s n t → Takes t m r → Takes s (chain n m) r
  takes_regroup_right : {s t r : Ty} → Takes (seq (seq s t) r) regroup_right (seq s (seq t r))
  takes_regroup_left : {s t r : Ty} → Takes (seq s (seq t r)) regroup_left (seq (seq s t) r)
  takes_spread : {s t r : Ty} → Takes (seq s (par t r)) spread (par (seq s t) (seq s r))
  takes_front : {s : Ty} → Takes s front (seq empty s)
  -- M-100: "choose, has two nodes from the two parts to one output type"; 16 and 17 "carry a type t and take s to either s or t,
  -- or either t or s".
  takes_choose : {s t r : Ty} {n m : Node} → Takes s n r → Takes t m r → Takes (either s t) (choose n m) r
  takes_mark_first : {s t : Ty} → Takes s (mark_first t) (either s t)
  takes_mark_second : {s t : Ty} → Takes s (mark_second t) (either t s)

-- The number of nodes; a type that a node carries does not count.
unfoldable pub count : Node → ℕ
count pass = 1
count (silent n) = 1
count emit_cue = 1
count (emit_level v) = 1
count (both n m) = suc (count n + count m)
count left_side = 1
count right_side = 1
count first = 1
count second = 1
count (then n m) = suc (count n + count m)
count (chain n m) = suc (count n + count m)
count regroup_right = 1
count regroup_left = 1
count spread = 1
count front = 1
count (choose n m) = suc (count n + count m)
count (mark_first t) = 1
count (mark_second t) = 1

-- "At most 63 nodes in a patch."
unfoldable pub node_limit : ℕ
node_limit = 63

abbrev pub Few : Node → Type 0
Few n = count n ≤ node_limit

-- "At most 255 nodes in a type, counted as a tree, wherever it arises: read, carried by silent, or given by a node." Arises s n t
-- says that t is given by n on s, or by a node in it; what silent carries it gives, and what 16 or 17 carries is part of what it
-- gives.
pub data Arises : Ty → Node → Ty → Type 0 where
  given : {s t : Ty} {n : Node} → Takes s n t → Arises s n t
  in_both_first : {s t : Ty} {n m : Node} → Arises s n t → Arises s (both n m) t
  in_both_second : {s t : Ty} {n m : Node} → Arises s m t → Arises s (both n m) t
  in_then_first : {s r t : Ty} {n m : Node} → Arises s n t → Arises (seq s r) (then n m) t
  in_then_second : {s r t : Ty} {n m : Node} → Arises r m t → Arises (seq s r) (then n m) t
  in_chain_first : {s t : Ty} {n m : Node} → Arises s n t → Arises s (chain n m) t
  in_chain_second : {s r t : Ty} {n m : Node} → Takes s n r → Arises r m t → Arises s (chain n m) t
  in_choose_first : {s r t : Ty} {n m : Node} → Arises s n t → Arises (either s r) (choose n m) t
  in_choose_second : {s r t : Ty} {n m : Node} → Arises r m t → Arises (either s r) (choose n m) t

-- "The kernel rules .. as document 01 takes them for one input, and its limits": from s to t by n.
pub record Allowed (s : Ty) (n : Node) (t : Ty) : Type 0 where
  pub types : Takes s n t
  pub input_small : Small s
  pub few : Few n
  pub each_small : (u : Ty) → Arises s n u → Small u

-- A patch: "the input type and then the nodes", and its totals (M-105).
pub record Patch : Type 0 where
  pub input : Ty
  pub node : Node
  pub totals : Totals

abbrev pub patch_of : Ty → Node → Totals → Patch
patch_of s n c = record { input = s; node = n; totals = c }
