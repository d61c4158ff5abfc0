-- What the rules of feeding say, as functions that compute: what is sent, the node left and the patch left. They are proved to
-- agree with the rules, both ways (Laws: feeds, feeds_only), so that nobody has to believe them.
use Rattle.std.specs.Prelude.{cond}
use Rattle.stream.specs.Types.{Ty, empty, first_part, second_part}
use Rattle.stream.specs.Prefixes.{Prefix, nothing, cue_awaited, cue_come, level_awaited, level_come, in_first, crossed, beside, first_chosen, second_chosen, empty_prefix, derivative}
use Rattle.stream.specs.Prefixes.Functions.{opens, on_seq, on_par, on_either}
use Rattle.node.specs.Nodes.{Node, pass, silent, emit_cue, emit_level, both, left_side, right_side, first, second, then, chain, regroup_right, regroup_left, spread, front, choose, mark_first, mark_second, Patch}
use Rattle.node.specs.Nodes.Functions.{output_type}
use Rattle.node.specs.Totals.{added}

unfoldable pub sends : Ty → Node → Prefix → Prefix
sends s pass p = p
sends s (silent n) p = empty_prefix n
sends s emit_cue p = cond (opens p) cue_come cue_awaited
sends s (emit_level v) p = cond (opens p) (level_come v) level_awaited
sends s (both n m) p = beside (sends s n p) (sends s m p)
sends s left_side p = on_par nothing (λ x y. x) p
sends s right_side p = on_par nothing (λ x y. y) p
sends s first p = on_seq nothing (λ x. x) (λ b q. b) p
sends s second p = on_seq nothing (λ x. empty_prefix (second_part s)) (λ b q. q) p
sends s (then n m) p =
    on_seq nothing (λ x. in_first (sends (first_part s) n x)) (λ b q. crossed (sends (first_part s) n b) (sends (second_part s) m q)) p
sends s (chain n m) p = sends (output_type s n) m (sends s n p)
sends s regroup_right p =
    on_seq nothing
    (λ x. on_seq nothing (λ y. in_first y) (λ b q. crossed b (in_first q)) x)
    (λ x q. on_seq nothing (λ y. nothing) (λ b c. crossed b (crossed c q)) x) p
sends s regroup_left p =
    on_seq nothing
    (λ x. in_first (in_first x))
    (λ b x. on_seq nothing (λ q. in_first (crossed b q)) (λ c q. crossed (crossed b c) q) x) p
sends s spread p =
    on_seq nothing
    (λ x. beside (in_first x) (in_first x))
    (λ b x. on_par nothing (λ q r. beside (crossed b q) (crossed b r)) x) p
sends s front p = crossed nothing p
sends s (choose n m) p =
    on_either nothing (empty_prefix (output_type (first_part s) n)) (λ x. sends (first_part s) n x) (λ x. sends (second_part s) m x) p
sends s (mark_first t) p = first_chosen p
sends s (mark_second t) p = second_chosen p

unfoldable pub leaves : Ty → Node → Prefix → Node
leaves s pass p = pass
leaves s (silent n) p = silent n
leaves s emit_cue p = cond (opens p) (silent empty) emit_cue
leaves s (emit_level v) p = cond (opens p) (silent empty) (emit_level v)
leaves s (both n m) p = both (leaves s n p) (leaves s m p)
leaves s left_side p = left_side
leaves s right_side p = right_side
leaves s first p = on_seq first (λ x. first) (λ b q. silent (derivative (first_part s) b)) p
leaves s second p = on_seq second (λ x. second) (λ b q. pass) p
leaves s (then n m) p = on_seq (then n m) (λ x. then (leaves (first_part s) n x) m) (λ b q. leaves (second_part s) m q) p
leaves s (chain n m) p = chain (leaves s n p) (leaves (output_type s n) m (sends s n p))
leaves s regroup_right p = on_seq pass (λ x. on_seq pass (λ y. regroup_right) (λ b q. pass) x) (λ x q. pass) p
leaves s regroup_left p = on_seq pass (λ x. regroup_left) (λ b x. pass) p
leaves s spread p = on_seq pass (λ x. spread) (λ b x. pass) p
leaves s front p = pass
leaves s (choose n m) p = on_either (choose n m) (choose n m) (λ x. leaves (first_part s) n x) (λ x. leaves (second_part s) m x) p
leaves s (mark_first t) p = pass
leaves s (mark_second t) p = pass

abbrev pub patch_left : Patch → Prefix → Patch
patch_left a p =
    record { input = derivative a.input p; node = leaves a.input a.node p; totals = added a.totals p (sends a.input a.node p) }
