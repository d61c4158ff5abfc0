-- Type files: their bytes, and their reading with refusals 1 to 4 (document 01, Files, "Types"; Operations, Check).
use Rattle.std.specs.Prelude.{List, [], ◌∷◌, ◌≡◌, ℕ, get_or}
use Rattle.stream.specs.declared.Fault.TheVariants.{CutShort, Unlisted, LeftOver, TypeTooLarge}
use Rattle.stream.specs.Types.{Ty, empty, cue, level, seq, par, either, type_limit, Small}
use Rattle.stream.specs.Reading.{Reading, fault, found, Result, read_on, whole, next_byte, section_bytes, section, Root, tree, leaf, two_parts}
pub mod Examples

-- The bytes of a type in preorder, and then r.
unfoldable pub type_bytes : Ty → List ℕ → List ℕ
type_bytes empty r = 0 ∷ r
type_bytes cue r = 1 ∷ r
type_bytes level r = 2 ∷ r
type_bytes (seq s t) r = 3 ∷ type_bytes s (type_bytes t r)
type_bytes (par s t) r = 4 ∷ type_bytes s (type_bytes t r)
type_bytes (either s t) r = 5 ∷ type_bytes s (type_bytes t r)

-- "A type file is one section."
unfoldable pub type_file_bytes : Ty → List ℕ
type_file_bytes t = section_bytes (type_bytes t []) []

-- The bytes that are a type file.
pub record TypeFile (file : List ℕ) : Type 0 where
  pub type : Ty
  pub small : Small type
  pub bytes : type_file_bytes type ≡ file

-- What each kind byte begins, by its number.
abbrev pub type_kinds : List (List ℕ → Reading (Root (Unit {0}) Ty))
type_kinds = leaf empty ∷ leaf cue ∷ leaf level ∷ two_parts seq tt tt ∷ two_parts par tt tt ∷ two_parts either tt tt ∷ []

unfoldable pub type_root : Unit {0} → List ℕ → Reading (Root (Unit {0}) Ty)
type_root w s = read_on (next_byte CutShort s) (λ k r. get_or type_kinds k (λ x. fault Unlisted) r)

-- A type of at most 255 nodes at the front of some bytes; a section that holds one; a file that is one.
unfoldable pub read_type : List ℕ → Reading Ty
read_type s = tree TypeTooLarge type_root type_limit tt s

unfoldable pub type_section : List ℕ → Reading Ty
type_section s = section CutShort LeftOver read_type s

unfoldable pub type_file : List ℕ → Result Ty
type_file s = whole LeftOver (type_section s)

-- The type that some bytes hold; where they hold none, the empty type, which no rule uses.
unfoldable pub type_of : List ℕ → Ty
type_of s = found empty (read_type s)
