-- Files: sections, and trees in preorder, read with the first fault (document 01, Files and Operations).
use Rattle.std.specs.Prelude.{Bool, true, false, List, [], ◌∷◌, ◌++◌, ◌≡◌, ℕ, zero, suc, ◌+◌, ◌*◌, ◌/◌, ◌%◌, ◌<◌, leb, length, get_or, take, drop}
use Rattle.stream.specs.declared.Fault.{Fault}
pub mod Examples
pub mod Walking

-- A list of numbers that are bytes.
abbrev pub Bytes : List ℕ → Type 0
Bytes s = (i : ℕ) → get_or s i 0 < 256

-- What reading finds at the front of some bytes: a value and the bytes after it, or the first fault.
pub data Reading (A : Type 0) : Type 0 where
  read : A → List ℕ → Reading A
  fault : Fault → Reading A

-- What becomes of something handed in whole.
pub data Result (A : Type 0) : Type 0 where
  accepted : A → Result A
  refused : Fault → Result A

abbrev pub IsAccepted : {A : Type 0} → Result A → Type 0
IsAccepted {A} r = (a : A) × (r ≡ accepted a)

-- The first fault ends it; otherwise go on with what was read, or accepted.
abbrev pub read_on : {A B : Type 0} → Reading A → (A → List ℕ → Reading B) → Reading B
read_on (read a r) f = f a r
read_on (fault e) f = fault e

abbrev pub go_on : {A B : Type 0} → Result A → (A → Result B) → Result B
go_on (accepted a) f = f a
go_on (refused e) f = refused e

-- What was read, or `other` where nothing was.
abbrev pub found : {A : Type 0} → A → Reading A → A
found other (read a r) = a
found other (fault e) = other

-- What has to hold; `e` is the fault if it does not.
abbrev pub require : {A : Type 0} → Bool → Fault → Result A → Result A
require true e r = r
require false e r = refused e

-- No byte may be left; `if_left` is the fault if one is.
abbrev pub whole : {A : Type 0} → Fault → Reading A → Result A
whole if_left (read a []) = accepted a
whole if_left (read a (b ∷ r)) = refused if_left
whole if_left (fault e) = refused e

-- The bytes r come after what was read.
abbrev pub followed_by : {A : Type 0} → List ℕ → Result A → Reading A
followed_by r (accepted a) = read a r
followed_by r (refused e) = fault e

-- The next byte, and the bytes after it.
abbrev pub next_byte : Fault → List ℕ → Reading ℕ
next_byte if_short [] = fault if_short
next_byte if_short (b ∷ s) = read b s

-- "A number of two bytes has its high byte first", and so has one of any width: its bytes, and then r; and its reading.
unfoldable pub number_bytes : (width v : ℕ) → List ℕ → List ℕ
number_bytes zero v r = r
number_bytes (suc width) v r = number_bytes width (v / 256) (v % 256 ∷ r)

unfoldable pub read_number : Fault → (width : ℕ) → List ℕ → Reading ℕ
read_number if_short zero s = read 0 s
read_number if_short (suc width) s = read_on (read_number if_short width s) (λ high r. read_on (next_byte if_short r) (λ low x. read (high * 256 + low) x))

-- "A section is a two-byte count and then that many bytes", the high byte first: the section of `body`, and then `r`.
unfoldable pub section_bytes : List ℕ → List ℕ → List ℕ
section_bytes body r = length body / 256 ∷ length body % 256 ∷ (body ++ r)

-- "A section's length is tried before its contents": the contents of a section whose count is n, which they have to fill.
unfoldable pub counted : {A : Type 0} → Fault → Fault → (List ℕ → Reading A) → ℕ → List ℕ → Reading A
counted if_short if_left contents n s = followed_by (drop n s) (require (leb n (length s)) if_short (whole if_left (contents (take n s))))

unfoldable pub section : {A : Type 0} → Fault → Fault → (List ℕ → Reading A) → List ℕ → Reading A
section if_short if_left contents s = read_on (read_number if_short 2 s) (counted if_short if_left contents)

-- "Trees are in preorder, root first, then the parts left to right." What the root's own bytes say: what is owed for each
-- part, and `build`, which puts the tree made of the first trees that follow in their place.
pub record Root (W A : Type 0) : Type 0 where
  pub parts : List W
  pub build : List A → List A

-- Reads a tree for each entry of `owed`, of at most `budget` nodes in all; `over` is the fault where one node more is
-- needed. "When one is needed, 4 or 5 comes before 1, and 1 before 2."
unfoldable pub forest : {W A : Type 0} → Fault → (W → List ℕ → Reading (Root W A)) → ℕ → List W → List ℕ → Reading (List A)
forest over root zero [] s = read [] s
forest over root (suc budget) [] s = read [] s
forest over root zero (w ∷ owed) s = fault over
forest over root (suc budget) (w ∷ owed) s =
    read_on (root w s)
    (λ n r. read_on (forest over root budget (n.parts ++ owed) r) (λ trees rest. read (n.build trees) rest))

-- One tree. (A forest for one entry holds one tree; the clause for none is never met.)
abbrev pub only : {A : Type 0} → Fault → List A → List ℕ → Reading A
only over [] r = fault over
only over (t ∷ ts) r = read t r

unfoldable pub tree : {W A : Type 0} → Fault → (W → List ℕ → Reading (Root W A)) → ℕ → W → List ℕ → Reading A
tree over root budget w s = read_on (forest over root budget (w ∷ []) s) (only over)

-- The roots that most kinds have: no parts, one, or two.
abbrev pub leaf : {W A : Type 0} → A → List ℕ → Reading (Root W A)
leaf a s = read (record { parts = []; build = λ ts. a ∷ ts }) s

abbrev pub on_one : {A : Type 0} → (A → A) → List A → List A
on_one f [] = []
on_one f (t ∷ ts) = f t ∷ ts

abbrev pub one_part : {W A : Type 0} → (A → A) → W → List ℕ → Reading (Root W A)
one_part f w s = read (record { parts = w ∷ []; build = on_one f }) s

abbrev pub on_two : {A : Type 0} → (A → A → A) → List A → List A
on_two f [] = []
on_two f (t ∷ []) = []
on_two f (t ∷ u ∷ ts) = f t u ∷ ts

abbrev pub two_parts : {W A : Type 0} → (A → A → A) → W → W → List ℕ → Reading (Root W A)
two_parts f v w s = read (record { parts = v ∷ w ∷ []; build = on_two f }) s
