-- Check's second pass: the output type of a node, or its first fault in preorder (document 01, Operations, Check; document 02,
-- M-100).
use Rattle.std.specs.Prelude.{◌&&◌, leb}
use Rattle.stream.specs.declared.Fault.TheVariants.{TypeTooLarge, NotNullable, WrongShape, OutputsDiffer}
use Rattle.stream.specs.Types.{Ty, empty, cue, level, seq, par, either, nullable, size, type_limit, first_part, second_part, has_kind, same_type}
use Rattle.stream.specs.Reading.{Result, accepted, require, go_on}
use Rattle.node.specs.Nodes.{Node, pass, silent, emit_cue, emit_level, both, left_side, right_side, first, second, then, chain, regroup_right, regroup_left, spread, front, choose, mark_first, mark_second, Takes}
use Rattle.node.specs.Nodes.Functions.{Fits}

-- "4 if the type it gives is too large."
unfoldable pub gives : Ty → Result Ty
gives t = require (leb (size t) type_limit) TypeTooLarge (accepted t)

-- "At a node, 7 if its input lacks the shape it takes, 6 if silent's type is not nullable; then its parts; then 4 .." M-100: "30,
-- choose's output types differ, after its second part and before 4."
unfoldable pub typing : Ty → Node → Result Ty
typing s pass = gives s
typing s (silent n) = require (nullable n) NotNullable (gives n)
typing s emit_cue = gives cue
typing s (emit_level v) = gives level
typing s (both n m) = go_on (typing s n) (λ t. go_on (typing s m) (λ r. gives (par t r)))
typing s left_side = require (has_kind 4 s) WrongShape (gives (first_part s))
typing s right_side = require (has_kind 4 s) WrongShape (gives (second_part s))
typing s first = require (has_kind 3 s) WrongShape (gives (first_part s))
typing s second = require (has_kind 3 s) WrongShape (gives (second_part s))
typing s (then n m) =
    require (has_kind 3 s) WrongShape
    (go_on (typing (first_part s) n) (λ t. go_on (typing (second_part s) m) (λ r. gives (seq t r))))
typing s (chain n m) = go_on (typing s n) (λ t. go_on (typing t m) (λ r. gives r))
typing s regroup_right =
    require (has_kind 3 s && has_kind 3 (first_part s)) WrongShape
    (gives (seq (first_part (first_part s)) (seq (second_part (first_part s)) (second_part s))))
typing s regroup_left =
    require (has_kind 3 s && has_kind 3 (second_part s)) WrongShape
    (gives (seq (seq (first_part s) (first_part (second_part s))) (second_part (second_part s))))
typing s spread =
    require (has_kind 3 s && has_kind 4 (second_part s)) WrongShape
    (gives (par (seq (first_part s) (first_part (second_part s))) (seq (first_part s) (second_part (second_part s)))))
typing s front = gives (seq empty s)
typing s (choose n m) =
    require (has_kind 5 s) WrongShape
    (go_on (typing (first_part s) n) (λ t. go_on (typing (second_part s) m) (λ r. require (same_type t r) OutputsDiffer (gives t))))
typing s (mark_first t) = gives (either s t)
typing s (mark_second t) = gives (either t s)

-- What the pass accepts: a node that the typing rules allow, within the limit.
pub record WellTyped (s : Ty) (n : Node) (t : Ty) : Type 0 where
  pub types : Takes s n t
  pub fits : Fits s n
