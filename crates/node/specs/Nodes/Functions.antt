-- What the rules of typing and the limits say, as functions that compute. They are proved to agree with the rules (Laws:
-- output_type_is, arises_small and fits_of), so that nobody has to believe them.
use Rattle.std.specs.Prelude.{◌<◌}
use Rattle.stream.specs.Types.{Ty, empty, cue, level, seq, par, either, first_part, second_part, Small}
use Rattle.stream.specs.Levels.{level_limit}
use Rattle.node.specs.Nodes.{Node, pass, silent, emit_cue, emit_level, both, left_side, right_side, first, second, then, chain, regroup_right, regroup_left, spread, front, choose, mark_first, mark_second}

-- The output type that the rules give.
unfoldable pub output_type : Ty → Node → Ty
output_type s pass = s
output_type s (silent n) = n
output_type s emit_cue = cue
output_type s (emit_level v) = level
output_type s (both n m) = par (output_type s n) (output_type s m)
output_type s left_side = first_part s
output_type s right_side = second_part s
output_type s first = first_part s
output_type s second = second_part s
output_type s (then n m) = seq (output_type (first_part s) n) (output_type (second_part s) m)
output_type s (chain n m) = output_type (output_type s n) m
output_type s regroup_right = seq (first_part (first_part s)) (seq (second_part (first_part s)) (second_part s))
output_type s regroup_left = seq (seq (first_part s) (first_part (second_part s))) (second_part (second_part s))
output_type s spread = par (seq (first_part s) (first_part (second_part s))) (seq (first_part s) (second_part (second_part s)))
output_type s front = seq empty s
output_type s (choose n m) = output_type (first_part s) n
output_type s (mark_first t) = either s t
output_type s (mark_second t) = either t s

-- Every type that arises is small, given that the node takes the type at all.
abbrev pub Fits : Ty → Node → Type 0
Fits s pass = Small s
Fits s (silent n) = Small n
Fits s emit_cue = Small cue
Fits s (emit_level v) = Small level
Fits s (both n m) = Fits s n × Fits s m × Small (output_type s (both n m))
Fits s left_side = Small (output_type s left_side)
Fits s right_side = Small (output_type s right_side)
Fits s first = Small (output_type s first)
Fits s second = Small (output_type s second)
Fits s (then n m) = Fits (first_part s) n × Fits (second_part s) m × Small (output_type s (then n m))
Fits s (chain n m) = Fits s n × Fits (output_type s n) m × Small (output_type s (chain n m))
Fits s regroup_right = Small (output_type s regroup_right)
Fits s regroup_left = Small (output_type s regroup_left)
Fits s spread = Small (output_type s spread)
Fits s front = Small (output_type s front)
Fits s (choose n m) = Fits (first_part s) n × Fits (second_part s) m × Small (output_type s (choose n m))
Fits s (mark_first t) = Small (output_type s (mark_first t))
Fits s (mark_second t) = Small (output_type s (mark_second t))

-- What nodes carry is within its limits, as the reader of nodes sees to.
abbrev pub Carries : Node → Type 0
Carries pass = Unit
Carries (silent n) = Small n
Carries emit_cue = Unit
Carries (emit_level v) = v < level_limit
Carries (both n m) = Carries n × Carries m
Carries left_side = Unit
Carries right_side = Unit
Carries first = Unit
Carries second = Unit
Carries (then n m) = Carries n × Carries m
Carries (chain n m) = Carries n × Carries m
Carries regroup_right = Unit
Carries regroup_left = Unit
Carries spread = Unit
Carries front = Unit
Carries (choose n m) = Carries n × Carries m
Carries (mark_first t) = Small t
Carries (mark_second t) = Small t
