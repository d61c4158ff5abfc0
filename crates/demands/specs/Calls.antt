-- What the demands say of one call.
use Rattle.std.specs.Prelude.{◌≡◌, Bool, false, List, [], ◌∷◌, map, ℕ, ◌≤◌, length}
use Rattle.stream.specs.declared.Fault.{Fault}
use Rattle.stream.specs.declared.Fault.TheVariants.{TotalTooLarge}
use Rattle.stream.specs.Faults.{number}
use Rattle.stream.specs.Buffers.{at_front}
use Rattle.stream.specs.Types.{Ty}
use Rattle.stream.specs.Prefixes.{Prefix, derivative, Concat}
use Rattle.stream.specs.Reading.{Result, accepted, refused}
use Rattle.stream.specs.TypeFiles.{type_file_bytes}
use Rattle.stream.specs.SliceFiles.{slice_file, slice_file_bytes}
use Rattle.stream.specs.Longest.{longest_prefix}
use Rattle.node.specs.Nodes.{Patch}
use Rattle.node.specs.Feeding.{FeedsPatch, Within}
use Rattle.node.specs.PatchFiles.{Checked, patch_file, patch_file_bytes}
use Rattle.meaning.specs.declared.Written.{Written}
use Rattle.meaning.specs.declared.Fed.{Fed}
use Rattle.meaning.specs.Answers.{on_slice, on_slices, FedFiles}
pub mod Laws

-- What the files of a call are read as, or the first fault in them: a type and a slice, two slices. (Check reads a patch file,
-- `patch_file`, and Longest a type file, `type_file`.)
abbrev pub type_and_slice : (type slice : List ℕ) → Result (Ty × Prefix)
type_and_slice type slice = on_slice type slice (λ t p. accepted (t, p))

abbrev pub two_slices : (type first second : List ℕ) → Result (Prefix × Prefix)
two_slices type first second = on_slices type first second (λ p q. accepted (p, q))

-- What Feed takes, or the first fault: of the patch, of the slice, and last a limit of Feed.
pub data FeedTakes (patch slice : List ℕ) : Result (Patch × Prefix) → Type 0 where
  patch_refused : {e : Fault} → patch_file patch ≡ refused e → FeedTakes patch slice (refused e)
  slice_refused : {c : Checked} {e : Fault} → patch_file patch ≡ accepted c → slice_file c.patch.input slice ≡ refused e
      → FeedTakes patch slice (refused e)
  total_passed : {c : Checked} {p : Prefix} → patch_file patch ≡ accepted c → slice_file c.patch.input slice ≡ accepted p
      → (Within c.patch p → ⊥) → FeedTakes patch slice (refused TotalTooLarge)
  taken : {c : Checked} {p : Prefix} → patch_file patch ≡ accepted c → slice_file c.patch.input slice ≡ accepted p
      → Within c.patch p → FeedTakes patch slice (accepted (c.patch, p))

-- The files that are due for what was read: Check "writes its output type file", Admit writes nothing, Left what the slice leaves,
-- Join the two slices as one, Feed "the output slice file and the patch file left", Longest the longest slice of the type.
abbrev pub DueFromCheck : Checked → List (List ℕ) → Type 0
DueFromCheck c files = files ≡ type_file_bytes c.output ∷ []

abbrev pub DueFromAdmit : Ty × Prefix → List (List ℕ) → Type 0
DueFromAdmit (t, p) files = files ≡ []

abbrev pub DueFromLeft : Ty × Prefix → List (List ℕ) → Type 0
DueFromLeft (t, p) files = files ≡ type_file_bytes (derivative t p) ∷ []

abbrev pub DueFromJoin : Prefix × Prefix → List (List ℕ) → Type 0
DueFromJoin (p, q) files = (both : Prefix) × Concat p q both × (files ≡ slice_file_bytes both ∷ [])

abbrev pub DueFromFeed : Patch × Prefix → List (List ℕ) → Type 0
DueFromFeed (a, p) files =
    (sent : Prefix) × (next : Patch) × FeedsPatch a p sent next × (files ≡ slice_file_bytes sent ∷ patch_file_bytes next ∷ [])

abbrev pub DueFromLongest : Ty → List (List ℕ) → Type 0
DueFromLongest t files = files ≡ slice_file_bytes (longest_prefix t) ∷ []

-- Each file fits the buffer that is lent for it; and what the buffers hold once they are written: "These stand at the front of the
-- lent buffer, and the bytes behind them stay."
abbrev pub RoomFor : (files lent : List (List ℕ)) → Type 0
RoomFor [] lent = Unit
RoomFor (file ∷ files) [] = ⊥
RoomFor (file ∷ files) (buffer ∷ lent) = (length file ≤ length buffer) × RoomFor files lent

abbrev pub fronts : (files lent : List (List ℕ)) → List (List ℕ)
fronts [] lent = lent
fronts (file ∷ files) [] = []
fronts (file ∷ files) (buffer ∷ lent) = at_front file buffer ∷ fronts files lent

-- What demand 1 asks of a call whose files are read as `read`: "accepted or .. refused with the number that document 01 gives for
-- its first fault .. and a refused one alters no byte of a lent buffer". "Accepted is 0, with the number of bytes written, for Feed
-- one number for each buffer": these are `told`. "Last 20: the buffer is too short for this answer."
pub data Decided {A : Type 0} (read : Result A) (Due : A → List (List ℕ) → Type 0)
    (answered : ℕ) (told : List ℕ) (lent lent_after : List (List ℕ)) : Type 0 where
  is_accepted : (a : A) → read ≡ accepted a → answered ≡ 0
      → ((files : List (List ℕ)) → Due a files → RoomFor files lent × (told ≡ map length files) × (lent_after ≡ fronts files lent))
      → Decided read Due answered told lent lent_after
  is_refused : (e : Fault) → read ≡ refused e → answered ≡ number e → lent_after ≡ lent → Decided read Due answered told lent lent_after
  is_short : (a : A) → read ≡ accepted a → answered ≡ 20 → ((files : List (List ℕ)) → Due a files → RoomFor files lent → ⊥)
      → lent_after ≡ lent → Decided read Due answered told lent lent_after

-- Accepted calls: one that wrote a file, and a feed that wrote the file sent and that of the patch for the next feed, and told what
-- arrived and what was sent.
abbrev pub Wrote : (file lent : List ℕ) → Written → List ℕ → Type 0
Wrote file lent answer lent_after = (answer ≡ record { number = 0; written = length file }) × (lent_after ≡ at_front file lent)

abbrev pub WroteBoth : (files : FedFiles) (output_lent patch_lent : List ℕ) → Fed → List ℕ → List ℕ → Type 0
WroteBoth files output_lent patch_lent answer output_after patch_after =
    (answer ≡ record {
      number = 0;
      output = length files.output;
      patch = length files.patch;
      arrived = files.arrived;
      sent = files.sent;
    })
    × (output_after ≡ at_front files.output output_lent) × (patch_after ≡ at_front files.patch patch_lent)

-- When 20 is due by the answers' own definitions: the call would be accepted but for a buffer that is too short.
pub record TooShortFor {A : Type 0} (fits : A → Bool) (outcome : Result A) : Type 0 where
  pub due : A
  pub is_due : outcome ≡ accepted due
  pub too_short : fits due ≡ false
