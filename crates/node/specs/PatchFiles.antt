-- Patch files: their bytes, and Check's two passes over them with refusals 1 to 7 and 30 (document 01, Files and Operations;
-- document 02, M-100 and M-105).
use Rattle.std.specs.Prelude.{List, [], ◌∷◌, ◌≡◌, ℕ, get_or}
use Rattle.stream.specs.declared.Fault.TheVariants.{CutShort, Unlisted, LeftOver, TooManyNodes}
use Rattle.stream.specs.Types.{Ty}
use Rattle.stream.specs.Levels.{value_width}
use Rattle.stream.specs.Reading.{Reading, read, fault, Result, accepted, read_on, go_on, whole, next_byte, number_bytes, read_number, section_bytes, section, Root, tree, leaf, two_parts}
use Rattle.stream.specs.TypeFiles.{type_bytes, read_type, type_section}
use Rattle.node.specs.Totals.{Held, totals_bytes, totals_section}
use Rattle.node.specs.Nodes.{Node, pass, silent, emit_cue, emit_level, both, left_side, right_side, first, second, then, chain, regroup_right, regroup_left, spread, front, choose, mark_first, mark_second, node_limit, Allowed, Patch}
use Rattle.node.specs.Checking.{typing}
pub mod Examples

-- The bytes of a node in preorder, and then r.
unfoldable pub node_bytes : Node → List ℕ → List ℕ
node_bytes pass r = 0 ∷ r
node_bytes (silent n) r = 1 ∷ type_bytes n r
node_bytes emit_cue r = 2 ∷ r
node_bytes (emit_level v) r = 3 ∷ number_bytes value_width v r
node_bytes (both n m) r = 4 ∷ node_bytes n (node_bytes m r)
node_bytes left_side r = 5 ∷ r
node_bytes right_side r = 6 ∷ r
node_bytes first r = 7 ∷ r
node_bytes second r = 8 ∷ r
node_bytes (then n m) r = 9 ∷ node_bytes n (node_bytes m r)
node_bytes (chain n m) r = 10 ∷ node_bytes n (node_bytes m r)
node_bytes regroup_right r = 11 ∷ r
node_bytes regroup_left r = 12 ∷ r
node_bytes spread r = 13 ∷ r
node_bytes front r = 14 ∷ r
node_bytes (choose n m) r = 15 ∷ node_bytes n (node_bytes m r)
node_bytes (mark_first t) r = 16 ∷ type_bytes t r
node_bytes (mark_second t) r = 17 ∷ type_bytes t r

-- "A patch file is two [sections], the input type and then the nodes." "Each patch file gets a third section of eight bytes."
unfoldable pub patch_file_bytes : Patch → List ℕ
patch_file_bytes p =
    section_bytes (type_bytes p.input []) (section_bytes (node_bytes p.node []) (section_bytes (totals_bytes p.totals []) []))

-- The bytes that are a patch file: those of trees that the rules and the limits allow, and of totals.
pub record PatchFile (file : List ℕ) : Type 0 where
  pub trees : Patch
  pub output : Ty
  pub allowed : Allowed trees.input trees.node output
  pub held : Held trees.totals
  pub bytes : patch_file_bytes trees ≡ file

-- What each kind byte begins, by its number.
abbrev pub node_kinds : List (List ℕ → Reading (Root (Unit {0}) Node))
node_kinds =
    leaf pass
    ∷ (λ s. read_on (read_type s) (λ n r. leaf (silent n) r))
    ∷ leaf emit_cue
    ∷ (λ s. read_on (read_number CutShort value_width s) (λ v r. leaf (emit_level v) r))
    ∷ two_parts both tt tt
    ∷ leaf left_side
    ∷ leaf right_side
    ∷ leaf first
    ∷ leaf second
    ∷ two_parts then tt tt
    ∷ two_parts chain tt tt
    ∷ leaf regroup_right
    ∷ leaf regroup_left
    ∷ leaf spread
    ∷ leaf front
    ∷ two_parts choose tt tt
    ∷ (λ s. read_on (read_type s) (λ t r. leaf (mark_first t) r))
    ∷ (λ s. read_on (read_type s) (λ t r. leaf (mark_second t) r))
    ∷ []

unfoldable pub node_root : Unit {0} → List ℕ → Reading (Root (Unit {0}) Node)
node_root w s = read_on (next_byte CutShort s) (λ k r. get_or node_kinds k (λ x. fault Unlisted) r)

unfoldable pub read_node : List ℕ → Reading Node
read_node s = tree TooManyNodes node_root node_limit tt s

unfoldable pub node_section : List ℕ → Reading Node
node_section s = section CutShort LeftOver read_node s

-- A patch, and the output type that Check finds for it.
pub record Checked : Type 0 where
  pub patch : Patch
  pub output : Ty

-- "First pass, left to right .. the type section ends before the next begins."
unfoldable pub patch_sections : List ℕ → Reading Patch
patch_sections s =
    read_on (type_section s) (λ t r. read_on (node_section r) (λ n x. read_on (totals_section x) (λ c rest.
    read (record { input = t; node = n; totals = c }) rest)))

unfoldable pub first_pass : List ℕ → Result Patch
first_pass s = whole LeftOver (patch_sections s)

-- "Second pass, in preorder."
unfoldable pub second_pass : Patch → Result Checked
second_pass p = go_on (typing p.input p.node) (λ t. accepted (record { patch = p; output = t }))

unfoldable pub patch_file : List ℕ → Result Checked
patch_file s = go_on (first_pass s) second_pass
