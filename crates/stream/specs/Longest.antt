-- The longest prefix of a type (document 02, M-101, "How long a slice can get"): "a slice file such that no slice accepted for that
-- type makes a longer one". That none is longer is `no_prefix_longer` in the laws.
use Rattle.std.specs.Prelude.{Bool, true, false, [], ℕ, ◌-◌, leb, length}
use Rattle.stream.specs.Types.{Ty, empty, cue, level, seq, par, either}
use Rattle.stream.specs.Levels.{level_limit}
use Rattle.stream.specs.Prefixes.{Prefix, nothing, cue_come, level_come, crossed, beside, first_chosen, second_chosen}
use Rattle.stream.specs.SliceFiles.{prefix_bytes}
pub mod Examples

-- How many bytes a prefix has; the count of its file comes before them.
abbrev pub byte_count : Prefix → ℕ
byte_count p = length (prefix_bytes p [])

-- Of two prefixes, one of each side, the longer is chosen. "Where either's sides are equally long the first is chosen."
abbrev pub chosen : Bool → Prefix → Prefix → Prefix
chosen true p q = first_chosen p
chosen false p q = second_chosen q

abbrev pub longer : Prefix → Prefix → Prefix
longer p q = chosen (leb (byte_count q) (byte_count p)) p q

-- "Every cue and level has come, levels at their largest, and every sequence is crossed."

abbrev pub largest_level : ℕ
largest_level = level_limit - 1

unfoldable pub longest_prefix : Ty → Prefix
longest_prefix empty = nothing
longest_prefix cue = cue_come
longest_prefix level = level_come largest_level
longest_prefix (seq s t) = crossed (longest_prefix s) (longest_prefix t)
longest_prefix (par s t) = beside (longest_prefix s) (longest_prefix t)
longest_prefix (either s t) = longer (longest_prefix s) (longest_prefix t)
