-- Nodes by their kind bytes: how many parts a kind has, and which they are. What goes through the bytes of nodes goes by this
-- table.
use Rattle.std.specs.Prelude.{◌≡◌, refl, List, [], ◌∷◌, ℕ, suc, ◌+◌, ◌<◌, length, get_or}
use Rattle.std.proofs.Common.{arith}
use Rattle.node.specs.Nodes.{Node, pass, silent, emit_cue, emit_level, both, left_side, right_side, first, second, then, chain, regroup_right, regroup_left, spread, front, choose, mark_first, mark_second, count}

abbrev pub node_kind : Node → ℕ
node_kind pass = 0
node_kind (silent n) = 1
node_kind emit_cue = 2
node_kind (emit_level v) = 3
node_kind (both n m) = 4
node_kind left_side = 5
node_kind right_side = 6
node_kind first = 7
node_kind second = 8
node_kind (then n m) = 9
node_kind (chain n m) = 10
node_kind regroup_right = 11
node_kind regroup_left = 12
node_kind spread = 13
node_kind front = 14
node_kind (choose n m) = 15
node_kind (mark_first t) = 16
node_kind (mark_second t) = 17

-- How many parts each kind has. A byte that is no node's kind has none.
abbrev pub node_arities : List ℕ
node_arities = 0 ∷ 0 ∷ 0 ∷ 0 ∷ 2 ∷ 0 ∷ 0 ∷ 0 ∷ 0 ∷ 2 ∷ 2 ∷ 0 ∷ 0 ∷ 0 ∷ 0 ∷ 2 ∷ 0 ∷ 0 ∷ []

abbrev pub node_arity : ℕ → ℕ
node_arity k = get_or node_arities k 0

abbrev pub listed_kinds : ℕ
listed_kinds = length node_arities

pub kind_is_listed : (n : Node) → node_kind n < listed_kinds
kind_is_listed pass = omega arith
kind_is_listed (silent n) = omega arith
kind_is_listed emit_cue = omega arith
kind_is_listed (emit_level v) = omega arith
kind_is_listed (both n m) = omega arith
kind_is_listed left_side = omega arith
kind_is_listed right_side = omega arith
kind_is_listed first = omega arith
kind_is_listed second = omega arith
kind_is_listed (then n m) = omega arith
kind_is_listed (chain n m) = omega arith
kind_is_listed regroup_right = omega arith
kind_is_listed regroup_left = omega arith
kind_is_listed spread = omega arith
kind_is_listed front = omega arith
kind_is_listed (choose n m) = omega arith
kind_is_listed (mark_first t) = omega arith
kind_is_listed (mark_second t) = omega arith

-- What stands behind each kind byte, before the parts: nothing, a type or a value.
pub data Contents : Type 0 where
  bare : Contents
  a_type : Contents
  a_value : Contents
  no_kind : Contents

abbrev pub contents_by_kind : List Contents
contents_by_kind =
    bare ∷ a_type ∷ bare ∷ a_value ∷ bare ∷ bare ∷ bare ∷ bare ∷ bare ∷ bare ∷ bare ∷ bare ∷ bare ∷ bare ∷ bare ∷ bare
    ∷ a_type ∷ a_type ∷ []

abbrev pub node_contents : ℕ → Contents
node_contents k = get_or contents_by_kind k no_kind

-- The parts, left to right.
abbrev pub node_parts : Node → List Node
node_parts pass = []
node_parts (silent n) = []
node_parts emit_cue = []
node_parts (emit_level v) = []
node_parts (both n m) = n ∷ m ∷ []
node_parts left_side = []
node_parts right_side = []
node_parts first = []
node_parts second = []
node_parts (then n m) = n ∷ m ∷ []
node_parts (chain n m) = n ∷ m ∷ []
node_parts regroup_right = []
node_parts regroup_left = []
node_parts spread = []
node_parts front = []
node_parts (choose n m) = n ∷ m ∷ []
node_parts (mark_first t) = []
node_parts (mark_second t) = []

pub node_parts_many : (n : Node) → length (node_parts n) ≡ node_arity (node_kind n)
node_parts_many pass = refl
node_parts_many (silent n) = refl
node_parts_many emit_cue = refl
node_parts_many (emit_level v) = refl
node_parts_many (both n m) = refl
node_parts_many left_side = refl
node_parts_many right_side = refl
node_parts_many first = refl
node_parts_many second = refl
node_parts_many (then n m) = refl
node_parts_many (chain n m) = refl
node_parts_many regroup_right = refl
node_parts_many regroup_left = refl
node_parts_many spread = refl
node_parts_many front = refl
node_parts_many (choose n m) = refl
node_parts_many (mark_first t) = refl
node_parts_many (mark_second t) = refl

-- The nodes of several, and of one by its parts.
abbrev pub counts : List Node → ℕ
counts [] = 0
counts (n ∷ ns) = count n + counts ns

pub count_by_parts : (n : Node) → count n ≡ suc (counts (node_parts n))
unfolding count
count_by_parts pass = refl
count_by_parts (silent n) = refl
count_by_parts emit_cue = refl
count_by_parts (emit_level v) = refl
count_by_parts (both n m) = omega arith
count_by_parts left_side = refl
count_by_parts right_side = refl
count_by_parts first = refl
count_by_parts second = refl
count_by_parts (then n m) = omega arith
count_by_parts (chain n m) = omega arith
count_by_parts regroup_right = refl
count_by_parts regroup_left = refl
count_by_parts spread = refl
count_by_parts front = refl
count_by_parts (choose n m) = omega arith
count_by_parts (mark_first t) = refl
count_by_parts (mark_second t) = refl
