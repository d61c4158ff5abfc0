-- What each operation answers, from the bytes handed in (document 01, Operations; document 02, M-101, M-104 and M-105).
use Rattle.std.specs.Prelude.{Bool, true, false, ◌&&◌, List, [], ◌∷◌, ◌++◌, ℕ, ◌+◌, ◌*◌, leb, length, take}
use Rattle.stream.specs.declared.Fault.TheVariants.{NoRoom, TotalTooLarge}
use Rattle.stream.specs.Faults.{number, type_numbers, slice_numbers, patch_numbers}
use Rattle.stream.specs.Types.{Ty}
use Rattle.stream.specs.Buffers.{at_front}
use Rattle.stream.specs.Prefixes.{Prefix, arrivals, derivative}
use Rattle.stream.specs.Prefixes.Functions.{complete, concat}
use Rattle.stream.specs.Reading.{Result, accepted, refused, go_on, require}
use Rattle.stream.specs.TypeFiles.{type_file, type_file_bytes}
use Rattle.stream.specs.SliceFiles.{slice_file, slice_file_bytes}
use Rattle.stream.specs.Longest.{longest_prefix}
use Rattle.node.specs.Totals.{held}
use Rattle.node.specs.Feeding.Functions.{sends, patch_left}
use Rattle.node.specs.PatchFiles.{patch_file, patch_file_bytes}
use Rattle.meaning.specs.declared.Written.{Written}
use Rattle.meaning.specs.declared.Admitted.{Admitted}
use Rattle.meaning.specs.declared.Fed.{Fed}
use Rattle.node.specs.Nodes.{Patch}
pub mod Examples

-- The files of a call are read one after the other, up to the first fault. Admit and Left read "a type file and a slice"; Join a
-- type and two slices, "as Admit for the first, then 11 to 14 for the second against what is left"; Feed a patch and a slice, "as
-- Check without 20; 11 to 14 against the input type".
abbrev pub on_slice : {A : Type 0} → (type slice : List ℕ) → (Ty → Prefix → Result A) → Result A
on_slice type slice f = go_on (type_file type) (λ t. go_on (slice_file t slice) (λ p. f t p))

abbrev pub on_slices : {A : Type 0} → (type first second : List ℕ) → (Prefix → Prefix → Result A) → Result A
on_slices type first second f = on_slice type first (λ t p. go_on (slice_file (derivative t p) second) (λ q. f p q))

-- The slice that a patch takes: "31, a total would pass 4,294,967,295, after the slice's refusals and before 20. It is a limit of Feed."
unfoldable pub takes_slice : Patch → List ℕ → Result Prefix
takes_slice a slice = go_on (slice_file a.input slice) (λ p. require (held (patch_left a p).totals) TotalTooLarge (accepted p))

abbrev pub on_patch : {A : Type 0} → (patch slice : List ℕ) → (Patch → Prefix → Result A) → Result A
on_patch patch slice f = go_on (patch_file patch) (λ c. go_on (takes_slice c.patch slice) (λ p. f c.patch p))

-- "Check a patch; writes its output type file."
unfoldable pub check : List ℕ → Result (List ℕ)
check patch = go_on (patch_file patch) (λ c. accepted (type_file_bytes c.output))

-- "Admit a type file and a slice"; what it answers of the slice that was read is in `admitted`.
unfoldable pub admit : List ℕ → List ℕ → Result Prefix
admit type slice = on_slice type slice (λ t p. accepted p)

-- "Left of a type and slice; writes a type file."
unfoldable pub left : List ℕ → List ℕ → Result (List ℕ)
left type slice = on_slice type slice (λ t p. accepted (type_file_bytes (derivative t p)))

-- "Join a type and two slices; writes a slice file."
unfoldable pub join : List ℕ → List ℕ → List ℕ → Result (List ℕ)
join type first second = on_slices type first second (λ p q. accepted (slice_file_bytes (concat p q)))

-- "Feed a patch and a slice; writes the output slice file and the patch file left." It gives how many cues and levels came in the slice,
-- "and .. the number sent" (M-104): those in its output.
pub record FedFiles : Type 0 where
  pub output : List ℕ
  pub patch : List ℕ
  pub arrived : ℕ
  pub sent : ℕ

abbrev pub files_of : (taken sent : Prefix) (next : Patch) → FedFiles
files_of taken sent next =
    record { output = slice_file_bytes sent; patch = patch_file_bytes next; arrived = arrivals taken; sent = arrivals sent }

abbrev pub fed_files : Patch → Prefix → FedFiles
fed_files a p = files_of p (sends a.input a.node p) (patch_left a p)

unfoldable pub feed : List ℕ → List ℕ → Result FedFiles
feed patch slice = on_patch patch slice (λ a p. accepted (fed_files a p))

-- "From a type file, write a slice file such that no slice accepted for that type makes a longer one" (document 02, M-101).
unfoldable pub longest : List ℕ → Result (List ℕ)
longest type = go_on (type_file type) (λ t. accepted (slice_file_bytes (longest_prefix t)))

-- "Last 20: the buffer is too short for this answer"; for Feed "20 if either buffer is too short".
unfoldable pub with_room : {A : Type 0} → (A → Bool) → Result A → Result A
with_room fits r = go_on r (λ a. require (fits a) NoRoom (accepted a))

abbrev pub fits_one : ℕ → List ℕ → Bool
fits_one lent file = leb (length file) lent

abbrev pub fits_both : ℕ → ℕ → FedFiles → Bool
fits_both output_lent patch_lent files = leb (length files.output) output_lent && leb (length files.patch) patch_lent

-- The outcome of a call with 20 taken in, by the buffers that it is lent.
abbrev pub into_one : (lent : List ℕ) → Result (List ℕ) → Result (List ℕ)
into_one lent r = with_room (fits_one (length lent)) r

abbrev pub into_both : (output_lent patch_lent : List ℕ) → Result FedFiles → Result FedFiles
into_both output_lent patch_lent r = with_room (fits_both (length output_lent) (length patch_lent)) r

-- "Accepted is 0, with the number of bytes written, for Feed one number for each buffer .. Refused: the number alone." The
-- lengths, Admit's `complete` and the counts are free on a refusal; they are 0.
abbrev pub number_of : {A : Type 0} → Result A → ℕ
number_of (accepted a) = 0
number_of (refused e) = number e

abbrev pub value_of : {A : Type 0} → (A → ℕ) → Result A → ℕ
value_of f (accepted a) = f a
value_of f (refused e) = 0

abbrev pub as_number : Bool → ℕ
as_number true = 1
as_number false = 0

unfoldable pub written : Result (List ℕ) → Written
written r = record { number = number_of r; written = value_of length r }

-- Admit "answers whether the slice is complete", and how many cues and levels came in it.
unfoldable pub admitted : Result Prefix → Admitted
admitted r = record { number = number_of r; complete = value_of (λ p. as_number (complete p)) r; arrived = value_of arrivals r }

unfoldable pub fed : Result FedFiles → Fed
fed r =
    record {
      number = number_of r;
      output = value_of (λ w. length w.output) r;
      patch = value_of (λ w. length w.patch) r;
      arrived = value_of (λ w. w.arrived) r;
      sent = value_of (λ w. w.sent) r;
    }

-- "These stand at the front of the lent buffer, and the bytes behind them stay. Refused: .. every lent buffer unaltered."
unfoldable pub after : {A : Type 0} → (A → List ℕ) → Result A → List ℕ → List ℕ
after file (accepted a) lent = at_front (file a) lent
after file (refused e) lent = lent

-- The input type file of a patch file is its first section.
unfoldable pub first_section : List ℕ → List ℕ
first_section [] = []
first_section (h ∷ []) = h ∷ []
first_section (h ∷ l ∷ s) = h ∷ l ∷ take (h * 256 + l) s

-- The numbers that the documents list for Admit, Left and Join ("1 to 4 as above", 11 to 14) and for Feed ("As Check without 20; 11
-- to 14", then 31), 20 aside; for Check they are a patch's, and for Longest a type's ("Faults of the type are 1 to 4, then 20").
abbrev pub admit_numbers : List ℕ
admit_numbers = type_numbers ++ slice_numbers

abbrev pub feed_numbers : List ℕ
feed_numbers = (patch_numbers ++ slice_numbers) ++ 31 ∷ []
