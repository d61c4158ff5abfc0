-- A feed of each kind of node, in the documents' order: what is sent, and the node left.
use Rattle.std.specs.Prelude.{◌≡◌, refl, List, [], ◌∷◌}
use Rattle.stream.specs.Types.{Ty, empty, cue, level, seq, par, either}
use Rattle.stream.specs.Prefixes.{Prefix, nothing, cue_awaited, cue_come, level_awaited, level_come, in_first, crossed, beside, none_chosen, first_chosen, second_chosen}
use Rattle.node.specs.Nodes.{Node, pass, silent, emit_cue, emit_level, both, left_side, right_side, first, second, then, chain, regroup_right, regroup_left, spread, front, choose, mark_first, mark_second}
use Rattle.node.specs.Feeding.Functions.{sends, leaves}
use Rattle.node.specs.Computing.{node_definitions}

-- A row: the input type, the node and the prefix fed; then the prefix sent and the node left.
pub record Row : Type 0 where
  pub input : Ty
  pub node : Node
  pub fed : Prefix
  pub sent : Prefix
  pub left_behind : Node

abbrev row : Ty → Node → Prefix → Prefix → Node → Row
row s n p o m = record { input = s; node = n; fed = p; sent = o; left_behind = m }

abbrev table : List Row
table =
    row level pass (level_come 0) (level_come 0) pass
    ∷ row cue (silent (par empty empty)) cue_come (beside nothing nothing) (silent (par empty empty))
    -- cue and level wait for what differs from the empty prefix or is complete; a crossing and a choice differ, with nothing come in them
    ∷ row cue emit_cue cue_awaited cue_awaited emit_cue
    ∷ row cue emit_cue cue_come cue_come (silent empty)
    ∷ row cue (emit_level 7) cue_awaited level_awaited (emit_level 7)
    ∷ row cue (emit_level 7) cue_come (level_come 7) (silent empty)
    ∷ row empty emit_cue nothing cue_come (silent empty)
    ∷ row (seq empty empty) emit_cue (in_first nothing) cue_awaited emit_cue
    ∷ row (seq empty cue) emit_cue (crossed nothing cue_awaited) cue_come (silent empty)
    ∷ row (either cue cue) emit_cue none_chosen cue_awaited emit_cue
    ∷ row (either cue cue) emit_cue (second_chosen cue_awaited) cue_come (silent empty)
    -- .. of the prefix that they are fed themselves
    ∷ row (par cue cue) (chain left_side emit_cue) (beside cue_awaited cue_come) cue_awaited (chain left_side emit_cue)
    ∷ row (seq cue empty) (chain second emit_cue) (in_first cue_awaited) cue_come (chain second (silent empty))
    ∷ row cue (both emit_cue pass) cue_come (beside cue_come cue_come) (both (silent empty) pass)
    ∷ row (par cue level) left_side (beside cue_come level_awaited) cue_come left_side
    ∷ row (par cue level) right_side (beside cue_come level_awaited) level_awaited right_side
    ∷ row (seq cue cue) first (in_first cue_come) cue_come first
    ∷ row (seq (par cue cue) cue) first (crossed (beside cue_come cue_come) cue_awaited) (beside cue_come cue_come) (silent (par empty empty))
    ∷ row (seq cue (seq level cue)) second (in_first cue_come) (in_first level_awaited) second
    ∷ row (seq cue level) second (crossed cue_come (level_come 0)) (level_come 0) pass
    ∷ row (seq cue cue) (then emit_cue pass) (in_first cue_come) (in_first cue_come) (then (silent empty) pass)
    ∷ row (seq cue cue) (then pass emit_cue) (crossed cue_come cue_awaited) (crossed cue_come cue_awaited) emit_cue
    ∷ row cue (chain front (then emit_cue pass)) cue_awaited (crossed cue_come cue_awaited) (chain pass pass)
    ∷ row (seq (seq cue cue) cue) regroup_right (in_first (in_first cue_come)) (in_first cue_come) regroup_right
    ∷ row (seq (seq cue cue) cue) regroup_right (in_first (crossed cue_come cue_awaited)) (crossed cue_come (in_first cue_awaited)) pass
    ∷ row (seq (seq cue level) cue) regroup_right (crossed (crossed cue_come (level_come 1)) cue_awaited)
    (crossed cue_come (crossed (level_come 1) cue_awaited)) pass
    ∷ row (seq cue (seq cue cue)) regroup_left (in_first cue_come) (in_first (in_first cue_come)) regroup_left
    ∷ row (seq cue (seq cue cue)) regroup_left (crossed cue_come (in_first cue_awaited)) (in_first (crossed cue_come cue_awaited)) pass
    ∷ row (seq cue (seq level cue)) regroup_left (crossed cue_come (crossed (level_come 1) cue_awaited))
    (crossed (crossed cue_come (level_come 1)) cue_awaited) pass
    ∷ row (seq cue (par cue cue)) spread (in_first cue_come) (beside (in_first cue_come) (in_first cue_come)) spread
    ∷ row (seq cue (par cue level)) spread (crossed cue_come (beside cue_come level_awaited))
    (beside (crossed cue_come cue_come) (crossed cue_come level_awaited)) pass
    ∷ row cue front cue_awaited (crossed nothing cue_awaited) pass
    ∷ row (either cue level) (choose emit_cue emit_cue) none_chosen cue_awaited (choose emit_cue emit_cue)
    ∷ row (either cue cue) (choose pass emit_cue) (first_chosen cue_awaited) cue_awaited pass
    ∷ row (either cue cue) (choose pass emit_cue) (second_chosen cue_awaited) cue_awaited emit_cue
    ∷ row (either cue cue) (choose pass emit_cue) (second_chosen cue_come) cue_come (silent empty)
    ∷ row cue (mark_first level) cue_awaited (first_chosen cue_awaited) pass
    ∷ row cue (mark_second level) cue_come (second_chosen cue_come) pass
    -- a sequence is crossed with a choice for its first part
    ∷ row (seq (either cue level) cue) second (crossed (second_chosen (level_come 7)) cue_come) cue_come pass
    ∷ []

abbrev sent_by : Row → Prefix
sent_by r = sends r.input r.node r.fed

abbrev left_by : Row → Node
left_by r = leaves r.input r.node r.fed

abbrev each : {A : Type 0} → (Row → A) → List Row → List A
each f [] = []
each f (r ∷ rs) = f r ∷ each f rs

pub sends_examples : each sent_by table ≡ each (λ r. r.sent) table
unfolding node_definitions
sends_examples = refl

pub leaves_examples : each left_by table ≡ each (λ r. r.left_behind) table
unfolding node_definitions
leaves_examples = refl
