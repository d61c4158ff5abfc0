-- The user's three demands, whole and in order, and behind them what a request of document 02 demands. A statement takes the promise
-- of the call that it speaks of: the very proposition that is the `ensures` of that operation (crates/wosthile_c/src/lib.rt), with
-- the bytes handed in, the answer, and each lent buffer as it is afterwards. The prover shows the promise of every call, so nobody
-- has to read it. What a reader has to believe is what the conclusions are written in: reading with the first fault (TypeFiles,
-- SliceFiles, PatchFiles, Checking), the rules (IsPrefix and Concat in Prefixes, Takes and Allowed in Nodes, Feeds and Within in
-- Feeding), the longest slice of a type (Longest), the arrivals of a slice (Prefixes), the totals of a patch (Totals), and what is said
-- of calls and runs (Calls, Runs). `Bytes`
-- says that a list of numbers is one of bytes, as whatever a byte slice holds is; nobody has to test it. `Consequences` has what else
-- follows; the laws have the proofs.
use Rattle.std.specs.Prelude.{◌≡◌, ◌↔◌, List, [], ◌∷◌, ◌++◌, ℕ, ◌+◌, ◌≤◌, length, take}
use Rattle.std.proofs.Math.Logic.Iff
use Rattle.stream.specs.Bounds.{type_file_limit, slice_file_limit, patch_file_limit}
use Rattle.stream.specs.Prefixes.{Prefix, arrivals, derivative}
use Rattle.stream.specs.Reading.{Bytes, Result}
use Rattle.stream.specs.TypeFiles.{type_file, TypeFile}
use Rattle.stream.specs.SliceFiles.{slice_file_bytes, SliceFile}
use Rattle.stream.specs.Longest.{longest_prefix}
use Rattle.node.specs.Nodes.{Patch}
use Rattle.node.specs.Feeding.{FeedsPatch, Within}
use Rattle.node.specs.PatchFiles.{patch_file, patch_file_bytes, PatchFile}
use Rattle.meaning.specs.declared.Written.{Written}
use Rattle.meaning.specs.declared.Admitted.{Admitted}
use Rattle.meaning.specs.declared.Fed.{Fed}
use Rattle.meaning.specs.Answers.{files_of}
use Rattle.meaning.proofs.Answers.Laws.{check_accepted, admit_accepted, left_accepted, join_accepted, feed_accepted, feed_accepted_of_bytes, longest_accepted, check_sized, left_sized, join_sized, longest_sized, feed_sized, feed_sized_of_bytes}
use Rattle.meaning.specs.Promises.{CheckPromise, AdmitPromise, LeftPromise, JoinPromise, FeedPromise, LongestPromise}
use Rattle.demands.specs.Calls.{type_and_slice, two_slices, FeedTakes, DueFromCheck, DueFromAdmit, DueFromLeft, DueFromJoin, DueFromFeed, DueFromLongest, Decided, WroteBoth}
use Rattle.demands.specs.Calls.Laws.{check_decided, admit_decided, left_decided, join_decided, feed_decided, longest_decided, check_kept, admit_kept, left_kept, join_kept, feed_kept, longest_kept, writes_zero, admits_zero, admits_counts, feeds_zero, feeds_as_check, none_admitted_longer, longest_admits, admits_file, join_counts}
use Rattle.demands.specs.Runs.{Call, ByteSlices, RunEnd, Ran, NoneShort, handed, Joined, Faithful, Through}
use Rattle.demands.proofs.Runs.Laws.{feed_by_rules, feed_defined, run_faithful, run_faithful_so_far, every_list_runs, feeds_passed, run_totals, cut_anyhow}

-- Demand 1. "A patch, type or slice handed in, whatever its bytes and length, is accepted or is refused with the number that
-- document 01 gives for its first fault. (`Decided`, by what the files are read as and by the files that are then due. The rules
-- give such files: demand_2_defined, and for Join a_join in Consequences.)

pub demand_1_check : (file : List ℕ) {lent lent_after : List ℕ} {answer : Written} → CheckPromise file lent answer lent_after
    → Decided (patch_file file) DueFromCheck answer.number (answer.written ∷ []) (lent ∷ []) (lent_after ∷ [])
demand_1_check file call = check_decided file call

pub demand_1_admit : (type slice : List ℕ) {answer : Admitted} → AdmitPromise type slice answer
    → Decided (type_and_slice type slice) DueFromAdmit answer.number [] [] []
demand_1_admit type slice call = admit_decided type slice call

pub demand_1_left : (type slice : List ℕ) {lent lent_after : List ℕ} {answer : Written} → LeftPromise type slice lent answer lent_after
    → Decided (type_and_slice type slice) DueFromLeft answer.number (answer.written ∷ []) (lent ∷ []) (lent_after ∷ [])
demand_1_left type slice call = left_decided type slice call

pub demand_1_join : (type first second : List ℕ) {lent lent_after : List ℕ} {answer : Written} → JoinPromise type first second lent answer lent_after
    → Decided (two_slices type first second) DueFromJoin answer.number (answer.written ∷ []) (lent ∷ []) (lent_after ∷ [])
demand_1_join type first second call = join_decided type first second call

pub demand_1_feed : {file slice output_lent patch_lent output_after patch_after : List ℕ} {answer : Fed}
    → FeedPromise file slice output_lent patch_lent answer output_after patch_after → Bytes file → Bytes slice
    → (read : Result (Patch × Prefix)) × FeedTakes file slice read × Decided read DueFromFeed answer.number (answer.output ∷ answer.patch ∷ [])
    (output_lent ∷ patch_lent ∷ []) (output_after ∷ patch_after ∷ [])
demand_1_feed call b c = feed_decided call b c

pub demand_1_longest : (type : List ℕ) {lent lent_after : List ℕ} {answer : Written} → LongestPromise type lent answer lent_after
    → Decided (type_file type) DueFromLongest answer.number (answer.written ∷ []) (lent ∷ []) (lent_after ∷ [])
demand_1_longest type call = longest_decided type call

-- Nothing is left for the caller to test first. (The exports have no `requires`; and a promise asks nothing of what is handed
-- in: whatever that is, some answer and buffers keep it.)

pub promises_can_be_kept :
    ((file lent : List ℕ) → (answer : Written) × (lent_after : List ℕ) × CheckPromise file lent answer lent_after)
    × ((type slice : List ℕ) → (answer : Admitted) × AdmitPromise type slice answer)
    × ((type slice lent : List ℕ) → (answer : Written) × (lent_after : List ℕ) × LeftPromise type slice lent answer lent_after)
    × ((type first second lent : List ℕ) → (answer : Written) × (lent_after : List ℕ) × JoinPromise type first second lent answer lent_after)
    × ((file slice output_lent patch_lent : List ℕ) → (answer : Fed) × (output_after : List ℕ) × (patch_after : List ℕ)
    × FeedPromise file slice output_lent patch_lent answer output_after patch_after)
    × ((type lent : List ℕ) → (answer : Written) × (lent_after : List ℕ) × LongestPromise type lent answer lent_after)
promises_can_be_kept = (check_kept, admit_kept, left_kept, join_kept, feed_kept, longest_kept)

-- Every call ends, (Rattle proves of each function that it ends; one without that proof is not built)
-- and a refused one alters no byte of a lent buffer." (`is_refused` and `is_short` in Decided: the buffers afterwards are the
-- buffers lent.)

-- Demand 2. "A patch is accepted exactly when the kernel rules of stream types, as document 01 takes them for one input, and
-- its limits allow it; (`PatchFile`, by Check; what Check refuses, Feed refuses with the same number)

pub demand_2_patch : (file : List ℕ) {lent lent_after : List ℕ} {answer : Written} → CheckPromise file lent answer lent_after
    → Bytes file → type_file_limit ≤ length lent → answer.number ≡ 0 ↔ PatchFile file
demand_2_patch file call b h = Iff.trans (writes_zero call (check_sized file b) h) (check_accepted file b)

pub demand_2_patch_fed : {file slice lent lent_after output_lent patch_lent output_after patch_after : List ℕ} {checked : Written} {answer : Fed}
    → CheckPromise file lent checked lent_after → FeedPromise file slice output_lent patch_lent answer output_after patch_after
    → (checked.number ≡ 0 → ⊥) → (checked.number ≡ 20 → ⊥) → answer ≡ record { number = checked.number; output = 0; patch = 0; arrived = 0; sent = 0 }
demand_2_patch_fed check_call feed_call not_0 not_20 = feeds_as_check check_call feed_call not_0 not_20

-- a slice, exactly when it is a prefix of the type in force. (`SliceFile`: by Feed, of the patch's input type; by Admit and Left, of
-- the type beside it; by Join, the second of what the first leaves. Feed has limits of its own besides, document 02's: `Within`.)

pub demand_2_slice : {file slice output_lent patch_lent output_after patch_after : List ℕ} {answer : Fed}
    → FeedPromise file slice output_lent patch_lent answer output_after patch_after → (patch : PatchFile file) → Bytes slice
    → slice_file_limit ≤ length output_lent → patch_file_limit ≤ length patch_lent
    → answer.number ≡ 0 ↔ ((taken : SliceFile patch.trees.input slice) × Within patch.trees taken.prefix)
demand_2_slice {slice = slice} call patch b h k = Iff.trans (feeds_zero call (feed_sized slice patch b) h k) (feed_accepted slice patch b)

pub demand_2_feed : {file slice output_lent patch_lent output_after patch_after : List ℕ} {answer : Fed}
    → FeedPromise file slice output_lent patch_lent answer output_after patch_after → Bytes file → Bytes slice
    → slice_file_limit ≤ length output_lent → patch_file_limit ≤ length patch_lent
    → answer.number ≡ 0 ↔ ((patch : PatchFile file) × (taken : SliceFile patch.trees.input slice) × Within patch.trees taken.prefix)
demand_2_feed call b c h k = Iff.trans (feeds_zero call (feed_sized_of_bytes _ _ b c) h k) (feed_accepted_of_bytes _ _ b c)

pub demand_2_admit : (type slice : List ℕ) {answer : Admitted} → AdmitPromise type slice answer → Bytes type → Bytes slice
    → answer.number ≡ 0 ↔ ((t : TypeFile type) × SliceFile t.type slice)
demand_2_admit type slice call b c = Iff.trans (admits_zero call) (admit_accepted type slice b c)

pub demand_2_left : (type slice : List ℕ) {lent lent_after : List ℕ} {answer : Written} → LeftPromise type slice lent answer lent_after
    → Bytes type → Bytes slice → type_file_limit ≤ length lent → answer.number ≡ 0 ↔ ((t : TypeFile type) × SliceFile t.type slice)
demand_2_left type slice call b c h = Iff.trans (writes_zero call (left_sized type slice b c) h) (left_accepted type slice b c)

pub demand_2_join : (type first second : List ℕ) {lent lent_after : List ℕ} {answer : Written} → JoinPromise type first second lent answer lent_after
    → Bytes type → Bytes first → Bytes second → slice_file_limit ≤ length lent
    → answer.number ≡ 0 ↔ ((t : TypeFile type) × (p : SliceFile t.type first) × SliceFile (derivative t.type p.prefix) second)
demand_2_join type first second call b c d h = Iff.trans (writes_zero call (join_sized type first second b c d) h) (join_accepted type first second b c d)

-- (Longest takes no slice: a type, exactly when it is one.)

pub demand_2_longest : (type : List ℕ) {lent lent_after : List ℕ} {answer : Written} → LongestPromise type lent answer lent_after
    → Bytes type → slice_file_limit ≤ length lent → answer.number ≡ 0 ↔ TypeFile type
demand_2_longest type call b h = Iff.trans (writes_zero call (longest_sized type b) h) (longest_accepted type b)

-- Given long enough buffers, a feed sends the output and leaves the patch that those rules define." (For every prefix they define an
-- output and a patch, and no other: one_rule in Consequences.)

pub demand_2_sends : {file slice output_lent patch_lent output_after patch_after : List ℕ} {answer : Fed} {sent : Prefix} {next : Patch}
    → FeedPromise file slice output_lent patch_lent answer output_after patch_after
    → (patch : PatchFile file) (taken : SliceFile patch.trees.input slice) → Within patch.trees taken.prefix
    → FeedsPatch patch.trees taken.prefix sent next
    → length (slice_file_bytes sent) ≤ length output_lent → length (patch_file_bytes next) ≤ length patch_lent
    → WroteBoth (files_of taken.prefix sent next) output_lent patch_lent answer output_after patch_after
demand_2_sends call patch taken within rule h k = feed_by_rules call patch taken within rule h k

pub demand_2_defined : {file slice : List ℕ} (patch : PatchFile file) (taken : SliceFile patch.trees.input slice)
    → (sent : Prefix) × (next : Patch) × FeedsPatch patch.trees taken.prefix sent next
demand_2_defined patch taken = feed_defined patch taken

-- Demand 3. "Take any accepted patch and any list of feeds from it, refused feeds included, whatever slices and buffers they are
-- handed, each given the patch that the last accepted one before it left, or the patch at the start while there is none.
-- (`PatchFile start`, by demand 2, and `Ran start calls r`. Every list of calls has such a run.)

pub demand_3_any_list : (start : List ℕ) (calls : List Call) → (r : RunEnd) × Ran start calls r
demand_3_any_list start calls = every_list_runs start calls

-- If any was accepted, the accepted slices joined in order, fed as one to the patch at the start with long enough buffers, are
-- accepted too, send exactly the accepted feeds' outputs joined in order, and leave the patch that the list left, byte for
-- byte; if none was, the patch is the one at the start. (`Faithful patch r`)

pub demand_3 : {start : List ℕ} {calls : List Call} {r : RunEnd} → Ran start calls r → (patch : PatchFile start) → ByteSlices calls → Faithful patch r
demand_3 ran patch b = run_faithful ran patch b

-- After every feed the patch is itself accepted. Its input type is exactly what the slices taken so far, joined, leave of the
-- input type at the start, and its output type exactly what the outputs so far, joined, leave of the output type at the
-- start." (`Faithful` has this of the end of a list; it holds after each call of a list.)

pub demand_3_after_every_feed : {start : List ℕ} {r : RunEnd} (calls more : List Call) → Ran start (calls ++ more) r → (patch : PatchFile start)
    → ByteSlices (calls ++ more) → (t : Through start calls more r) × Faithful patch t.so_far
demand_3_after_every_feed calls more ran patch b = run_faithful_so_far calls more ran patch b

-- Document 02, M-101. "From a type file, write a slice file such that no slice accepted for that type makes a longer one." (Whatever
-- slice Admit accepts for the type is no longer than the file that Longest wrote; and that file Admit accepts too, as a complete
-- slice.)

pub none-longer : (type slice : List ℕ) {lent lent_after : List ℕ} {answer : Written} {seen : Admitted}
    → LongestPromise type lent answer lent_after → answer.number ≡ 0 → AdmitPromise type slice seen → seen.number ≡ 0
    → Bytes type → Bytes slice → length slice ≤ answer.written
none-longer type slice call zero admits admitted b c = none_admitted_longer type call zero b slice admits admitted c

pub longest-admitted : (type : List ℕ) {lent lent_after : List ℕ} {answer : Written} {seen : Admitted}
    → LongestPromise type lent answer lent_after → answer.number ≡ 0 → Bytes type
    → AdmitPromise type (take answer.written lent_after) seen
    → (t : TypeFile type) × (seen ≡ record { number = 0; complete = 1; arrived = arrivals (longest_prefix t.type) })
longest-admitted type call zero b admits = longest_admits type call zero b admits

-- Document 02, M-104. "Reading a slice now also counts the cues and levels come in it; Admit and Feed give this, and Feed the number
-- sent. (Admit, here; Feed in `files_of`, by demand_2_sends. What a run counts is the sum of what its accepted feeds tell, and the
-- joined slice fed as one tells exactly that: `fed_as_one`, by demand_3.)

pub admit-counts : (type slice : List ℕ) {answer : Admitted} → AdmitPromise type slice answer → (t : TypeFile type) (p : SliceFile t.type slice)
    → answer.arrived ≡ arrivals p.prefix
admit-counts type slice call t p = admits_counts call (admits_file t p)

-- Joining two slices adds their counts." (Admit accepts the file that Join wrote, and tells the sum of what it tells of the two slices, of
-- the second for the type that Left wrote.)

pub joining_adds : (type first second : List ℕ) {lent lent_after left_lent left_after : List ℕ} {joined left : Written} {one next both : Admitted}
    → JoinPromise type first second lent joined lent_after → joined.number ≡ 0
    → LeftPromise type first left_lent left left_after → left.number ≡ 0
    → AdmitPromise type first one → AdmitPromise (take left.written left_after) second next
    → AdmitPromise type (take joined.written lent_after) both → Bytes type → Bytes first → Bytes second
    → (both.number ≡ 0) × (both.arrived ≡ one.arrived + next.arrived)
joining_adds type first second join zero left left_zero one next both b c d = join_counts type first second join zero left left_zero one next both b c d

-- Document 02, M-105. "Feed adds its two counts. (`totals_left` in FeedsPatch, by demand_2_sends; and of a list of feeds.)

pub totals_of_a_run : {start : List ℕ} {calls : List Call} {r : RunEnd} → Ran start calls r → (patch : PatchFile start) → ByteSlices calls
    → (next : PatchFile r.file)
    → next.trees.totals ≡ record { arrived = patch.trees.totals.arrived + r.arrived; sent = patch.trees.totals.sent + r.sent }
totals_of_a_run ran patch b next = run_totals ran patch b next

-- Totals are part of the patch left, the same however a slice that Feed accepts whole is split. (Whatever slices join to it, with long
-- enough buffers the run takes each of them, and it comes to the patch file that the one feed left, byte for byte.)

pub split : {start slice output_lent patch_lent output_after patch_after : List ℕ} {answer : Fed} {calls : List Call} {r : RunEnd} {p : Prefix}
    → FeedPromise start slice output_lent patch_lent answer output_after patch_after → answer.number ≡ 0 → (patch : PatchFile start) → Bytes slice
    → Joined patch.trees.input (handed calls) p → slice_file_bytes p ≡ slice → (ran : Ran start calls r) → NoneShort ran
    → (r.slices ≡ handed calls) × (r.file ≡ take answer.patch patch_after)
split call zero patch b joined is ran long = cut_anyhow call zero patch b joined is ran long

-- Errors: 31, a total would pass 4,294,967,295, after the slice's refusals and before 20." (Whatever the buffers.)

pub thirty_one : {file slice output_lent patch_lent output_after patch_after : List ℕ} {answer : Fed}
    → FeedPromise file slice output_lent patch_lent answer output_after patch_after → (patch : PatchFile file) → Bytes slice
    → answer.number ≡ 31 ↔ ((taken : SliceFile patch.trees.input slice) × (Within patch.trees taken.prefix → ⊥))
thirty_one call patch b = feeds_passed call patch b
