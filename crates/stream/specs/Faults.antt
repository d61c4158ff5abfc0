-- The refusals, by the numbers that documents 01 (Operations) and 02 give them.
use Rattle.std.specs.Prelude.{Bool, false, true, ◌||◌, List, [], ◌∷◌, ◌++◌, ◌≡◌, ℕ, eqb}
use Rattle.stream.specs.declared.Fault.{Fault}
use Rattle.stream.specs.declared.Fault.TheVariants.{CutShort, Unlisted, LeftOver, TypeTooLarge, TooManyNodes, NotNullable, WrongShape, SliceCutShort, SliceUnlisted, SliceLeftOver, SliceMisplaced, NoRoom, OutputsDiffer, TotalTooLarge}

abbrev pub number : Fault → ℕ
number CutShort = 1  -- a section is longer than the bytes remain, or a tree needs a byte past its section
number Unlisted = 2  -- a kind byte not listed
number LeftOver = 3  -- bytes after a whole tree in its section, or after the last section
number TypeTooLarge = 4  -- a type needs a 256th node
number TooManyNodes = 5  -- a 64th node is needed
number NotNullable = 6  -- silent's type is not nullable
number WrongShape = 7  -- a node's input lacks the shape it takes
number SliceCutShort = 11  -- a slice cut short
number SliceUnlisted = 12  -- a slice's kind not listed
number SliceLeftOver = 13  -- bytes left over after a slice
number SliceMisplaced = 14  -- a slice's kind that does not belong there
number NoRoom = 20  -- a lent buffer is too short for the answer
number OutputsDiffer = 30  -- choose's output types differ
number TotalTooLarge = 31  -- a total would pass 4,294,967,295

-- The numbers that the documents list for what is read: a type ("1 to 4"), a slice ("11 .. 14") and a patch ("1" to "7", and 30).
abbrev pub type_numbers : List ℕ
type_numbers = 1 ∷ 2 ∷ 3 ∷ 4 ∷ []

abbrev pub slice_numbers : List ℕ
slice_numbers = 11 ∷ 12 ∷ 13 ∷ 14 ∷ []

abbrev pub patch_numbers : List ℕ
patch_numbers = type_numbers ++ 5 ∷ 6 ∷ 7 ∷ 30 ∷ []

abbrev pub contains : List ℕ → ℕ → Bool
contains [] k = false
contains (n ∷ ns) k = eqb n k || contains ns k

-- A fault whose number is among these.
abbrev pub Listed : List ℕ → Fault → Type 0
Listed numbers e = contains numbers (number e) ≡ true
