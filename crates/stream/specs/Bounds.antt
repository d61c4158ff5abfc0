-- How long a file can get, and the trees in it, and how much can come in a slice (document 01, Bounds; the mission). That none is
-- longer, and that no more comes, is proved where the bytes are defined: type_file_length, slice_length, slice_file_length,
-- few_arrivals, node_length, nodes_length and patch_file_length.
use Rattle.std.specs.Prelude.{ℕ, ◌+◌, ◌*◌}

-- A type file: the count, and a byte for each of 255 nodes.
abbrev pub type_file_limit : ℕ
type_file_limit = 257

-- A slice: a byte for each of 255 nodes, and the values of at most 128 levels. "So a slice file has at most 513 bytes."
abbrev pub slice_limit : ℕ
slice_limit = 511

abbrev pub slice_file_limit : ℕ
slice_file_limit = 513

-- The cues and levels that came in a slice: the leaves of 255 nodes.
abbrev pub arrivals_limit : ℕ
arrivals_limit = 128

-- Twice the most bytes that c nodes have: at most (c + 1) / 2 of them have no parts, and each of these may carry a type of 255
-- nodes.
abbrev pub twice_node_bytes : ℕ → ℕ
twice_node_bytes c = 257 * c + 255

-- The nodes of a patch, and a patch file: three counts, a type of 255 nodes, and eight bytes of totals. "A patch file may now have
-- 8,492 bytes" (document 02, M-105).
abbrev pub node_bytes_limit : ℕ
node_bytes_limit = 8223

abbrev pub patch_file_limit : ℕ
patch_file_limit = 8492
