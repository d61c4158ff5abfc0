-- The program of document 01: what it prints for the stream that it reads.
use Rattle.std.specs.Prelude.{true, false, List, [], ◌∷◌, ◌++◌, ℕ, zero, suc, ◌+◌, ◌*◌, ◌/◌, ◌%◌, leb, length, take, drop}
use Rattle.stream.specs.Faults.{number}
use Rattle.stream.specs.Reading.{Result, accepted, refused}
use Rattle.meaning.specs.Answers.{check, feed, FedFiles, first_section}
pub mod Examples

-- "A two-byte length and a patch file, then slice files, each after such a length .. a stream that ends, between files or inside
-- one, stops it": the files of a stream that are whole. Each takes two bytes at least, so a stream of n bytes has at most n.
unfoldable pub files_within : ℕ → List ℕ → List (List ℕ)
files_within zero s = []
files_within (suc n) [] = []
files_within (suc n) (h ∷ []) = []
files_within (suc n) (h ∷ l ∷ s) =
    elim (leb (h * 256 + l) (length s))
    [ true ↦ take (h * 256 + l) s ∷ files_within n (drop (h * 256 + l) s) | false ↦ [] ]

unfoldable pub files : List ℕ → List (List ℕ)
files s = files_within (length s) s

-- "In two-digit lower-case hexadecimal": in ASCII, 48 is 0 and 97 is a.
unfoldable pub digit : ℕ → ℕ
digit d = elim (leb 10 d) [ true ↦ 87 + d | false ↦ 48 + d ]

unfoldable pub hexadecimal : List ℕ → List ℕ
hexadecimal [] = []
hexadecimal (b ∷ s) = digit (b / 16) ∷ digit (b % 16) ∷ hexadecimal s

-- "The number", in decimal; none has more than two digits. 10 is the line feed that ends a line.
unfoldable pub number_line : ℕ → List ℕ
number_line n = elim (leb 10 n) [ true ↦ digit (n / 10) ∷ digit (n % 10) ∷ 10 ∷ [] | false ↦ digit n ∷ 10 ∷ [] ]

-- "The section's bytes": those behind the count of a file's first section.
abbrev pub contents : List ℕ → List ℕ
contents file = drop 2 (first_section file)

-- "A line per slice: the number, and if 0 the output and the left input type, each the section's bytes in two-digit lower-case
-- hexadecimal, one space between fields." 32 is the space.
abbrev pub fed_line : (output type : List ℕ) → List ℕ
fed_line output type = (48 ∷ 32 ∷ []) ++ hexadecimal output ++ (32 ∷ []) ++ hexadecimal type ++ (10 ∷ [])

unfoldable pub line : Result FedFiles → List ℕ
line (accepted w) = fed_line (contents w.output) (contents w.patch)
line (refused e) = number_line (number e)

-- "A refused slice leaves the patch."
unfoldable pub patch_after : List ℕ → Result FedFiles → List ℕ
patch_after patch (accepted w) = w.patch
patch_after patch (refused e) = patch

-- Where the program stands between two files: it awaits the patch, feeds the slices that follow to the patch it has, or has
-- stopped.
pub data State : Type 0 where
  awaiting : State
  feeding : (patch : List ℕ) → State
  stopped : State

-- What a file makes it print, and where the program stands then. "A refused patch gives its number alone, and the program stops";
-- nothing is printed for one that is accepted.
abbrev pub opening : List ℕ → Result (List ℕ) → List ℕ × State
opening patch (accepted type) = ([], feeding patch)
opening patch (refused e) = (number_line (number e), stopped)

unfoldable pub takes : State → List ℕ → List ℕ × State
takes awaiting file = opening file (check file)
takes (feeding patch) file = (line (feed patch file), feeding (patch_after patch (feed patch file)))
takes stopped file = ([], stopped)

-- "Feeds them in turn."
unfoldable pub prints : State → List (List ℕ) → List ℕ
prints state [] = []
prints state (file ∷ rest) = (takes state file).0 ++ prints (takes state file).1 rest

-- What the program prints.
unfoldable pub transcript : List ℕ → List ℕ
transcript stream = prints awaiting (files stream)
