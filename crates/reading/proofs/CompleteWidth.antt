-- How wide a complete prefix is, by its type: a byte for each node, and the value of each level, if no choice stands in the type. Nodes of a
-- kind are counted in the type's bytes.
use Rattle.std.specs.Prelude.{◌≡◌, refl, Some, List, [], ◌∷◌, ℕ, ◌+◌, ◌*◌, ◌≤◌, ◌<◌, eqb, length, get_or, drop}
use Rattle.std.proofs.Common.{sym, ap, ◌∙◌, arith, add-one, drop_of_length-le}
use Rattle.std.proofs.Math.Seq.{drop-cons}
use mir.Val.{bool_byte}
use Rattle.stream.specs.Types.{Ty, empty, cue, level, seq, par, either, size}
use Rattle.stream.specs.Prefixes.{Prefix, Complete, whole_crossed, whole_beside, IsPrefix, of_empty, of_cue_awaited, of_cue_come, of_level_awaited, of_level_come, of_first, of_crossed, of_beside, of_none_chosen, of_first_chosen, of_second_chosen}
use Rattle.stream.specs.Levels.{value_width}
use Rattle.stream.specs.TypeFiles.{type_bytes}
use Rattle.reading.specs.declared.types.TypeView.{TypeView}
use Rattle.reading.specs.Views.{tree}
use Rattle.reading.specs.SliceReads.{prefix_width, CompleteWide}
use Rattle.reading.proofs.TypeViews.{size_is}

-- Whether a byte is the kind k, as a number; how many nodes of a type have the kind k.
abbrev pub kind_byte : ℕ → ℕ → ℕ
kind_byte k j = bool_byte (eqb j k)

abbrev nodes_of : ℕ → Ty → ℕ
nodes_of k empty = kind_byte k 0
nodes_of k cue = kind_byte k 1
nodes_of k level = kind_byte k 2
nodes_of k (seq s t) = kind_byte k 3 + (nodes_of k s + nodes_of k t)
nodes_of k (par s t) = kind_byte k 4 + (nodes_of k s + nodes_of k t)
nodes_of k (either s t) = kind_byte k 5 + (nodes_of k s + nodes_of k t)

-- A complete prefix has a byte for each node of its type and a value for each level, unless a choice leaves a part out.
complete_width : {t : Ty} {p : Prefix} → IsPrefix t p → Complete p → nodes_of 5 t ≡ 0 → prefix_width p ≡ size t + value_width * nodes_of 2 t
unfolding prefix_width size
complete_width of_empty d none = omega arith
complete_width of_cue_come d none = omega arith
complete_width (of_level_come v) d none = omega arith
complete_width (of_crossed h b i) (whole_crossed d) none = omega (arith, complete_width h b (omega arith), complete_width i d (omega arith))
complete_width (of_beside h i) (whole_beside d e) none = omega (arith, complete_width h d (omega arith), complete_width i e (omega arith))
complete_width (of_first_chosen h) d none = absurd (omega arith)
complete_width (of_second_chosen h) d none = absurd (omega arith)
complete_width of_cue_awaited d none = elim d [ ]
complete_width of_level_awaited d none = elim d [ ]
complete_width (of_first _) d none = elim d [ ]
complete_width of_none_chosen d none = elim d [ ]

-- How many bytes are the kind k.
abbrev pub kind_bytes : ℕ → List ℕ → ℕ
kind_bytes k [] = 0
kind_bytes k (j ∷ s) = kind_byte k j + kind_bytes k s

-- One byte after the other is counted.

pub kinds_step : (k : ℕ) (s : List ℕ) (i : ℕ) → i < length s → kind_bytes k (drop i s) ≡ kind_byte k (get_or s i 0) + kind_bytes k (drop (i + 1) s)
kinds_step k s i h = rw (add-one, drop-cons s i 0 h)

pub kinds_done : (k : ℕ) (s : List ℕ) (i : ℕ) → length s ≤ i → kind_bytes k (drop i s) ≡ 0
kinds_done k s i h = rw (drop_of_length-le s h)

-- Each byte of a type is the kind of a node.
type_nodes : (k : ℕ) (t : Ty) (r : List ℕ) → kind_bytes k (type_bytes t r) ≡ nodes_of k t + kind_bytes k r
unfolding type_bytes
type_nodes k empty r = refl
type_nodes k cue r = refl
type_nodes k level r = refl
type_nodes k (seq s t) r = omega (arith, type_nodes k s (type_bytes t r), type_nodes k t r)
type_nodes k (par s t) r = omega (arith, type_nodes k s (type_bytes t r), type_nodes k t r)
type_nodes k (either s t) r = omega (arith, type_nodes k s (type_bytes t r), type_nodes k t r)

view_nodes : (k : ℕ) (v : TypeView) → kind_bytes k v.bytes.now ≡ nodes_of k (tree v)
view_nodes k v = ap (kind_bytes k) (sym v.whole) ∙ omega (arith, type_nodes k (tree v) [])

-- No choice stands in the type: the width is known.
pub fixed : (v : TypeView) {levels : ℕ} → levels ≡ kind_bytes 2 v.bytes.now → kind_bytes 5 v.bytes.now ≡ 0
    → CompleteWide (tree v) (Some (length v.bytes.now + value_width * levels))
fixed v {levels} counted none p is whole =
    omega (arith, size_is v, view_nodes 2 v, complete_width is whole (omega (arith, view_nodes 5 v)))
