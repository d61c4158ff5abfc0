-- What a loop over the bytes knows: of trees that it does not build, of one root, and of a section by its count.
use Rattle.std.specs.Prelude.{◌≡◌, List, ℕ, suc, ◌+◌, ◌*◌, length, get_or, take, drop, replicate}
use Rattle.stream.specs.Reading.{Reading, read, fault, Root}

-- The bytes after what was read, or the fault: all that a loop knows of trees that it does not build.
abbrev pub rest_of : {A : Type 0} → Reading A → Reading (Unit {0})
rest_of (read a r) = read tt r
rest_of (fault e) = fault e

-- A root was read that owes k parts, and r is left.
abbrev pub Owes : {W A : Type 0} → W → ℕ → List ℕ → Reading (Root W A) → Type 0
Owes {W} {A} w k r g = (n : Root W A) × (g ≡ read n r) × (n.parts ≡ replicate k w)

-- A root makes one tree of those of its parts.
abbrev pub MakesOne : {W A : Type 0} → Reading (Root W A) → Type 0
MakesOne {A = A} (read n r) = (ts : List A) (k : ℕ) → length ts ≡ length n.parts + k → length (n.build ts) ≡ suc k
MakesOne (fault e) = Unit

-- A section's count, and the bytes that it counts.
abbrev pub count : List ℕ → ℕ
count s = get_or s 0 0 * 256 + get_or s 1 0

abbrev pub body : List ℕ → List ℕ
body s = take (count s) (drop 2 s)
