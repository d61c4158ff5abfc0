-- Trees with a fork in one of their parts, s, t and r in all: what is found in their bytes. Contracts inside the library, which no demand
-- rests on.
use Rattle.std.specs.Prelude.{◌≡◌, List, [], ℕ, ◌-◌, ◌≤◌, length, take, drop}
use Rattle.stream.specs.Prefixes.{Prefix, in_first, crossed, beside}
use Rattle.stream.specs.SliceFiles.{prefix_bytes}
pub mod Laws

-- The bytes from `from` up to `to` are `part`.
pub record Piece (bytes : List ℕ) (from to : ℕ) (part : List ℕ) : Type 0 where
  pub forward : from ≤ to
  pub inside : to ≤ length bytes
  pub taken : take (to - from) (drop from bytes) ≡ part

-- How a tree is cut: not at all, or into the bytes of s, t and r; k is the kind of t and r as one tree behind s.
pub data Cut : Type 0 where
  uncut : Cut
  cut : (k : ℕ) (s t r : List ℕ) → Cut

-- Slices, which are cut if s has come whole

-- Of (s, t), r.
pub data FirstCut : Prefix → Cut → Type 0 where
  first_coming : {p : Prefix} → FirstCut (in_first (in_first p)) uncut  -- 5 5 p
  first_one : {b q : Prefix} → FirstCut (in_first (crossed b q)) (cut 5 (prefix_bytes b []) (prefix_bytes q []) [])  -- 5 6 b q
  first_two : {b c q : Prefix} → FirstCut (crossed (crossed b c) q) (cut 6 (prefix_bytes b []) (prefix_bytes c []) (prefix_bytes q []))  -- 6 6 b c q

-- Of s and then a type with the parts t and r.
pub data SecondCut : Prefix → Cut → Type 0 where
  second_coming : {p : Prefix} → SecondCut (in_first p) uncut  -- 5 p
  second_one : {b q : Prefix} → SecondCut (crossed b (in_first q)) (cut 5 (prefix_bytes b []) (prefix_bytes q []) [])  -- 6 b 5 q
  second_two : {b c q : Prefix} → SecondCut (crossed b (crossed c q)) (cut 6 (prefix_bytes b []) (prefix_bytes c []) (prefix_bytes q []))  -- 6 b 6 c q
  second_sides : {b q r : Prefix} → SecondCut (crossed b (beside q r)) (cut 7 (prefix_bytes b []) (prefix_bytes q []) (prefix_bytes r []))  -- 6 b 7 q r
