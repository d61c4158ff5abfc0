-- What the bytes of a prefix tell of it, whatever its type is: bytes that are those of one prefix, and no others.
use Rattle.std.specs.Prelude.{◌≡◌, Bool, List, [], ℕ}
use Rattle.stream.specs.Prefixes.{Prefix, arrivals}
use Rattle.stream.specs.Prefixes.Functions.{opens}
use Rattle.stream.specs.SliceFiles.{prefix_bytes}

-- The bytes are those of some prefix.
pub record SomePrefix (bytes : List ℕ) : Type 0 where
  pub prefix : Prefix
  pub whole : prefix_bytes prefix [] ≡ bytes

-- Whether the prefix in these bytes opens a node that waits, whichever it is.
pub record OpensBy (bytes : List ℕ) (answer : Bool) : Type 0 where
  pub each : (p : Prefix) → prefix_bytes p [] ≡ bytes → answer ≡ opens p

-- How many cues and levels came in the prefix in these bytes, whichever it is.
pub record ArrivalsBy (bytes : List ℕ) (answer : ℕ) : Type 0 where
  pub each : (p : Prefix) → prefix_bytes p [] ≡ bytes → answer ≡ arrivals p
