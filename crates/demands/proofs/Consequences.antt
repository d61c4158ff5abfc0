-- What else follows from the promises, call by call: what Check, Left, Join and Longest write and what Admit says, which numbers each
-- operation gives and when 20 comes, how long an answer is and how much is counted, that bytes stay bytes, that a promise leaves no
-- choice, that a patch which waits stays, that no slice of a run is longer than Longest says, and that neither the cut of a stream nor the
-- order of two lanes changes the show.
use Rattle.std.specs.Prelude.{◌≡◌, true, ◌↔◌, ◌⊎◌, List, ◌∷◌, ℕ, ◌≤◌, length, take}
use Rattle.std.proofs.Math.Path.{refl}
use Rattle.std.proofs.Common.{sym, ◌∙◌}
use Rattle.std.proofs.Math.Logic.Iff
use Rattle.stream.specs.Bounds.{type_file_limit, slice_file_limit, patch_file_limit, arrivals_limit}
use Rattle.stream.specs.Faults.{type_numbers, patch_numbers, contains}
use Rattle.stream.specs.Types.{Ty, par, Small}
use Rattle.stream.specs.Prefixes.{Prefix, cue_awaited, level_awaited, beside, IsPrefix, Complete, empty_prefix, Opens, arrivals, derivative, Concat}
use Rattle.stream.proofs.Prefixes.Laws.{concats, concat-only}
use Rattle.stream.specs.Reading.{Bytes, Result, accepted}
use Rattle.stream.specs.TypeFiles.{type_file_bytes, TypeFile}
use Rattle.stream.specs.SliceFiles.{slice_file_bytes, SliceFile}
use Rattle.stream.specs.Longest.{longest_prefix}
use Rattle.node.specs.Nodes.{Node, emit_cue, emit_level, Patch, Allowed}
use Rattle.node.specs.Feeding.{Feeds, feeds_cue_waiting, feeds_level_waiting, FeedsPatch, Within}
use Rattle.node.proofs.Feeding.Laws.{feeds, feeds_only}
use Rattle.node.specs.PatchFiles.{patch_file_bytes, PatchFile}
use Rattle.meaning.specs.declared.Written.{Written}
use Rattle.meaning.specs.declared.Admitted.{Admitted}
use Rattle.meaning.specs.declared.Fed.{Fed}
use Rattle.meaning.specs.Answers.{check, left, join, feed, longest, files_of, fits_one, fits_both, admit_numbers, feed_numbers}
use Rattle.meaning.proofs.Answers.Laws.{lanes_join, check_accepted, left_accepted, join_accepted, feed_accepted_of_bytes, longest_accepted, longest_of, check_answers, admit_answers, left_answers, joins, check_refuses, admit_refuses, left_refuses, join_refuses, feed_refuses, longest_refuses, check_sized, left_sized, join_sized, feed_sized_of_bytes, longest_sized}
use Rattle.meaning.specs.Promises.{CheckPromise, AdmitPromise, LeftPromise, JoinPromise, FeedPromise, LongestPromise}
use Rattle.demands.specs.Calls.{FeedTakes, Wrote, WroteBoth, TooShortFor}
use Rattle.demands.specs.Calls.Laws.{writes_aside, feeds_aside, writes_exactly, admits_complete, admits_few, admits_refused, feeds_refused, writes_listed, admits_listed, feeds_listed, writes_twenty, feeds_twenty, writes_bounded, feeds_bounded, writes_never_twenty, feeds_never_twenty, writes_bytes, feeds_bytes, writes_alike, admits_alike, feeds_alike, one_type, takes_one}
use Rattle.demands.specs.Runs.{Call, ByteSlices, RunEnd, Ran, Joined, AsOne, NoneLonger}
use Rattle.demands.proofs.Runs.Laws.{stays_on_file, feeds_few, counts_as_admit, run_patch, runs_alike, runs_agree, one_joined, one_patch, one_prefix, run_slices_fit, run_outputs_fit}
use Rattle.demands.specs.Runs.Files.{OnFiles}
use Rattle.demands.proofs.Runs.Files.{on_files}
use Rattle.demands.proofs.Demands.{demand_2_slice, demand_2_sends}

-- A call of Check

module _ (patch : List ℕ) {lent lent_after : List ℕ} {answer : Written} (call : CheckPromise patch lent answer lent_after) where
  -- The number is 0 or one that document 01 lists for the operation.
  pub listed_check : contains (0 ∷ 20 ∷ patch_numbers) answer.number ≡ true
  listed_check = writes_listed call (check_refuses patch)

  -- 20 comes exactly if a buffer is too short for an answer that is due.
  pub twenty_check : answer.number ≡ 20 ↔ TooShortFor (fits_one (length lent)) (check patch)
  twenty_check = writes_twenty call (check_refuses patch)

  -- "With 20 aside", whatever the buffer, a patch file is accepted exactly if the rules and the limits allow it.
  pub aside_check : Bytes patch → (answer.number ≡ 0) ⊎ (answer.number ≡ 20) ↔ PatchFile patch
  aside_check b = Iff.trans (writes_aside call (check_refuses patch)) (check_accepted patch b)

  -- "So a slice file has at most 513 bytes", a type file 257 and a patch file 8,492: no answer is longer.
  pub bound_check : Bytes patch → answer.written ≤ type_file_limit
  bound_check b = writes_bounded call (check_sized patch b)

  -- So with buffers of these lengths 20 never comes.
  pub never_twenty_check : Bytes patch → type_file_limit ≤ length lent → answer.number ≡ 20 → ⊥
  never_twenty_check b h = writes_never_twenty call (check_refuses patch) (check_sized patch b) h

  -- What is lent as bytes stays bytes: no definition asks for a number above 255.
  pub bytes_check : Bytes patch → Bytes lent → Bytes lent_after
  bytes_check b c = writes_bytes call (check_sized patch b) c

  -- The promise leaves no choice.
  pub one_answer_check : {also : Written} {also_after : List ℕ} → CheckPromise patch lent also also_after → (answer ≡ also) × (lent_after ≡ also_after)
  one_answer_check other = writes_alike call other

-- Check writes the output type.
pub check_writes : {file lent lent_after : List ℕ} {answer : Written} → CheckPromise file lent answer lent_after → (patch : PatchFile file)
    → length (type_file_bytes patch.output) ≤ length lent → Wrote (type_file_bytes patch.output) lent answer lent_after
check_writes call patch h = writes_exactly call (rw patch.bytes at (check_answers patch.allowed patch.held)) h

-- A call of Admit

module _ (type slice : List ℕ) {answer : Admitted} (call : AdmitPromise type slice answer) where
  pub listed_admit : contains (0 ∷ admit_numbers) answer.number ≡ true
  listed_admit = admits_listed call (admit_refuses type slice)

  -- No slice has more than 128 arrivals, and a refused one has none.
  pub bound_admit : Bytes type → Bytes slice → answer.arrived ≤ arrivals_limit
  bound_admit b c = admits_few type slice call b c

  pub refused_admit : (answer.number ≡ 0 → ⊥) → answer.arrived ≡ 0
  refused_admit refused = admits_refused call refused

  pub one_answer_admit : {also : Admitted} → AdmitPromise type slice also → answer ≡ also
  one_answer_admit other = admits_alike call other

-- Admit says whether the slice is complete: 1 or 0.
pub admit_says : {type slice : List ℕ} {answer : Admitted} → AdmitPromise type slice answer → (t : TypeFile type) (p : SliceFile t.type slice)
    → (answer.complete ≡ 1 ↔ Complete p.prefix) × ((Complete p.prefix → ⊥) → answer.complete ≡ 0)
admit_says call t p = admits_complete call (rw (t.bytes, p.bytes) at (admit_answers t.small p.is_prefix))

-- A call of Left

module _ (type slice : List ℕ) {lent lent_after : List ℕ} {answer : Written} (call : LeftPromise type slice lent answer lent_after) where
  pub listed_left : contains (0 ∷ 20 ∷ admit_numbers) answer.number ≡ true
  listed_left = writes_listed call (left_refuses type slice)

  pub twenty_left : answer.number ≡ 20 ↔ TooShortFor (fits_one (length lent)) (left type slice)
  twenty_left = writes_twenty call (left_refuses type slice)

  pub aside_left : Bytes type → Bytes slice → (answer.number ≡ 0) ⊎ (answer.number ≡ 20) ↔ ((t : TypeFile type) × SliceFile t.type slice)
  aside_left b c = Iff.trans (writes_aside call (left_refuses type slice)) (left_accepted type slice b c)

  pub bound_left : Bytes type → Bytes slice → answer.written ≤ type_file_limit
  bound_left b c = writes_bounded call (left_sized type slice b c)

  pub never_twenty_left : Bytes type → Bytes slice → type_file_limit ≤ length lent → answer.number ≡ 20 → ⊥
  never_twenty_left b c h = writes_never_twenty call (left_refuses type slice) (left_sized type slice b c) h

  pub bytes_left : Bytes type → Bytes slice → Bytes lent → Bytes lent_after
  bytes_left b c d = writes_bytes call (left_sized type slice b c) d

  pub one_answer_left : {also : Written} {also_after : List ℕ} → LeftPromise type slice lent also also_after → (answer ≡ also) × (lent_after ≡ also_after)
  one_answer_left other = writes_alike call other

-- Left writes what the slice leaves.
pub left_writes : {type slice lent lent_after : List ℕ} {answer : Written} → LeftPromise type slice lent answer lent_after
    → (t : TypeFile type) (p : SliceFile t.type slice)
    → (let file = type_file_bytes (derivative t.type p.prefix) in length file ≤ length lent → Wrote file lent answer lent_after)
left_writes call t p h = writes_exactly call (rw (t.bytes, p.bytes) at (left_answers t.small p.is_prefix)) h

-- A call of Join

module _ (type first second : List ℕ) {lent lent_after : List ℕ} {answer : Written} (call : JoinPromise type first second lent answer lent_after) where
  pub listed_join : contains (0 ∷ 20 ∷ admit_numbers) answer.number ≡ true
  listed_join = writes_listed call (join_refuses type first second)

  pub twenty_join : answer.number ≡ 20 ↔ TooShortFor (fits_one (length lent)) (join type first second)
  twenty_join = writes_twenty call (join_refuses type first second)

  pub aside_join : Bytes type → Bytes first → Bytes second → (answer.number ≡ 0) ⊎ (answer.number ≡ 20)
      ↔ ((t : TypeFile type) × (p : SliceFile t.type first) × SliceFile (derivative t.type p.prefix) second)
  aside_join b c d = Iff.trans (writes_aside call (join_refuses type first second)) (join_accepted type first second b c d)

  pub bound_join : Bytes type → Bytes first → Bytes second → answer.written ≤ slice_file_limit
  bound_join b c d = writes_bounded call (join_sized type first second b c d)

  pub never_twenty_join : Bytes type → Bytes first → Bytes second → slice_file_limit ≤ length lent → answer.number ≡ 20 → ⊥
  never_twenty_join b c d h = writes_never_twenty call (join_refuses type first second) (join_sized type first second b c d) h

  pub bytes_join : Bytes type → Bytes first → Bytes second → Bytes lent → Bytes lent_after
  bytes_join b c d e = writes_bytes call (join_sized type first second b c d) e

  pub one_answer_join : {also : Written} {also_after : List ℕ} → JoinPromise type first second lent also also_after
      → (answer ≡ also) × (lent_after ≡ also_after)
  one_answer_join other = writes_alike call other

-- Join writes the two slices as one.
pub join_writes : {type first second lent lent_after : List ℕ} {answer : Written} {both : Prefix} → JoinPromise type first second lent answer lent_after
    → (t : TypeFile type) (p : SliceFile t.type first) (q : SliceFile (derivative t.type p.prefix) second)
    → Concat p.prefix q.prefix both → length (slice_file_bytes both) ≤ length lent → Wrote (slice_file_bytes both) lent answer lent_after
join_writes call t p q c h = writes_exactly call (joins t p q c) h

-- A call of Feed

module _ {patch slice output_lent patch_lent output_after patch_after : List ℕ} {answer : Fed}
    (call : FeedPromise patch slice output_lent patch_lent answer output_after patch_after) where
  pub listed_feed : contains (0 ∷ 20 ∷ feed_numbers) answer.number ≡ true
  listed_feed = feeds_listed call (feed_refuses patch slice)

  pub twenty_feed : answer.number ≡ 20 ↔ TooShortFor (fits_both (length output_lent) (length patch_lent)) (feed patch slice)
  twenty_feed = feeds_twenty call (feed_refuses patch slice)

  pub aside_feed : Bytes patch → Bytes slice → (answer.number ≡ 0) ⊎ (answer.number ≡ 20)
      ↔ ((f : PatchFile patch) × (p : SliceFile f.trees.input slice) × Within f.trees p.prefix)
  aside_feed b c = Iff.trans (feeds_aside call (feed_refuses patch slice)) (feed_accepted_of_bytes patch slice b c)

  pub bound_feed : Bytes patch → Bytes slice → (answer.output ≤ slice_file_limit) × (answer.patch ≤ patch_file_limit)
  bound_feed b c = feeds_bounded call (feed_sized_of_bytes patch slice b c)

  pub bound_counts_feed : Bytes patch → Bytes slice → (answer.arrived ≤ arrivals_limit) × (answer.sent ≤ arrivals_limit)
  bound_counts_feed b c = feeds_few call b c

  pub refused_feed : (answer.number ≡ 0 → ⊥) → (answer.arrived ≡ 0) × (answer.sent ≡ 0)
  refused_feed refused = feeds_refused call refused

  pub never_twenty_feed : Bytes patch → Bytes slice → slice_file_limit ≤ length output_lent → patch_file_limit ≤ length patch_lent
      → answer.number ≡ 20 → ⊥
  never_twenty_feed b c h k = feeds_never_twenty call (feed_refuses patch slice) (feed_sized_of_bytes patch slice b c) h k

  pub bytes_feed : Bytes patch → Bytes slice → Bytes output_lent → Bytes patch_lent → Bytes output_after × Bytes patch_after
  bytes_feed b c d e = feeds_bytes call (feed_sized_of_bytes patch slice b c) d e

  pub one_answer_feed : {also : Fed} {output_also patch_also : List ℕ} → FeedPromise patch slice output_lent patch_lent also output_also patch_also
      → (answer ≡ also) × (output_after ≡ output_also) × (patch_after ≡ patch_also)
  one_answer_feed other = feeds_alike call other

-- A call of Longest

module _ (type : List ℕ) {lent lent_after : List ℕ} {answer : Written} (call : LongestPromise type lent answer lent_after) where
  pub listed_longest : contains (0 ∷ 20 ∷ type_numbers) answer.number ≡ true
  listed_longest = writes_listed call (longest_refuses type)

  pub twenty_longest : answer.number ≡ 20 ↔ TooShortFor (fits_one (length lent)) (longest type)
  twenty_longest = writes_twenty call (longest_refuses type)

  pub aside_longest : Bytes type → (answer.number ≡ 0) ⊎ (answer.number ≡ 20) ↔ TypeFile type
  aside_longest b = Iff.trans (writes_aside call (longest_refuses type)) (longest_accepted type b)

  pub bound_longest : Bytes type → answer.written ≤ slice_file_limit
  bound_longest b = writes_bounded call (longest_sized type b)

  pub never_twenty_longest : Bytes type → slice_file_limit ≤ length lent → answer.number ≡ 20 → ⊥
  never_twenty_longest b h = writes_never_twenty call (longest_refuses type) (longest_sized type b) h

  pub bytes_longest : Bytes type → Bytes lent → Bytes lent_after
  bytes_longest b c = writes_bytes call (longest_sized type b) c

  pub one_answer_longest : {also : Written} {also_after : List ℕ} → LongestPromise type lent also also_after → (answer ≡ also) × (lent_after ≡ also_after)
  one_answer_longest other = writes_alike call other

-- Longest writes the longest slice of the type.
pub longest_writes : {type lent lent_after : List ℕ} {answer : Written} → LongestPromise type lent answer lent_after → (t : TypeFile type)
    → length (slice_file_bytes (longest_prefix t.type)) ≤ length lent
    → Wrote (slice_file_bytes (longest_prefix t.type)) lent answer lent_after
longest_writes call t h = writes_exactly call (longest_of t) h

-- A call on the patch that a run has come to: that is a patch file, takes the prefixes of its input type, and is fed as the rules
-- say.

pub run_accepted : {start : List ℕ} {calls : List Call} {r : RunEnd} → Ran start calls r → PatchFile start → ByteSlices calls → PatchFile r.file
run_accepted ran patch b = run_patch ran patch b

module _ {start : List ℕ} {calls : List Call} {r : RunEnd} (ran : Ran start calls r) (patch : PatchFile start) (b : ByteSlices calls)
    {slice output_lent patch_lent output_after patch_after : List ℕ} {answer : Fed}
    (call : FeedPromise r.file slice output_lent patch_lent answer output_after patch_after) where
  pub run_slice : Bytes slice → slice_file_limit ≤ length output_lent → patch_file_limit ≤ length patch_lent
      → answer.number ≡ 0
      ↔ ((taken : SliceFile (run_accepted ran patch b).trees.input slice) × Within (run_accepted ran patch b).trees taken.prefix)
  run_slice c h k = demand_2_slice call (run_accepted ran patch b) c h k

  pub run_sends : {sent : Prefix} {next : Patch} (taken : SliceFile (run_accepted ran patch b).trees.input slice)
      → Within (run_accepted ran patch b).trees taken.prefix → FeedsPatch (run_accepted ran patch b).trees taken.prefix sent next
      → length (slice_file_bytes sent) ≤ length output_lent → length (patch_file_bytes next) ≤ length patch_lent
      → WroteBoth (files_of taken.prefix sent next) output_lent patch_lent answer output_after patch_after
  run_sends taken within rule h k = demand_2_sends call (run_accepted ran patch b) taken within rule h k

-- Document 02, M-104: Feed counts as Admit does, what arrived in the slice that it is fed and what it sends in its output. (The input type
-- file is the first section of the patch; Check writes the output type file.)
pub feed-counts : {file slice output_lent patch_lent output_after patch_after : List ℕ} {answer : Fed} {taken sent : Admitted}
    → FeedPromise file slice output_lent patch_lent answer output_after patch_after → answer.number ≡ 0 → (patch : PatchFile file) → Bytes slice
    → AdmitPromise (type_file_bytes patch.trees.input) slice taken
    → AdmitPromise (type_file_bytes patch.output) (take answer.output output_after) sent
    → (answer.arrived ≡ taken.arrived) × (answer.sent ≡ sent.arrived)
feed-counts call zero patch c takes sends_on = counts_as_admit call zero patch c takes sends_on

-- Document 02, M-103, of a patch that is a node 2 or 3: until the slice "differs from its type's empty slice or is complete" the node sends
-- "the empty slice of [its] own type" and stays, so that the patch file is written back, byte for byte; nothing is counted.

module _ {file slice output_lent patch_lent output_after patch_after : List ℕ} {answer : Fed}
    (call : FeedPromise file slice output_lent patch_lent answer output_after patch_after)
    (patch : PatchFile file) (taken : SliceFile patch.trees.input slice) (closed : Opens patch.trees.input taken.prefix → ⊥)
    (room : length file ≤ length patch_lent) where
  pub cue_stays : patch.trees.node ≡ emit_cue → length (slice_file_bytes cue_awaited) ≤ length output_lent
      → WroteBoth (record { output = slice_file_bytes cue_awaited; patch = file; arrived = 0; sent = 0 })
      output_lent patch_lent answer output_after patch_after
  unfolding arrivals
  cue_stays is_cue h = stays_on_file call patch taken closed (rw is_cue (feeds_cue_waiting closed)) refl h room

  pub level_stays : {v : ℕ} → patch.trees.node ≡ emit_level v → length (slice_file_bytes level_awaited) ≤ length output_lent
      → WroteBoth (record { output = slice_file_bytes level_awaited; patch = file; arrived = 0; sent = 0 })
      output_lent patch_lent answer output_after patch_after
  unfolding arrivals
  level_stays is_level h = stays_on_file call patch taken closed (rw is_level (feeds_level_waiting closed)) refl h room

-- What a link has to carry: no slice that a run takes is longer than the longest slice of the input type at the start, and no output
-- longer than that of the output type. (The input type file is the first section of the patch; Check writes the output type file.)

module _ {start : List ℕ} {calls : List Call} {r : RunEnd} (ran : Ran start calls r) (patch : PatchFile start) (b : ByteSlices calls)
    {lent lent_after : List ℕ} {answer : Written} where
  pub run_slices_none_longer : LongestPromise (type_file_bytes patch.trees.input) lent answer lent_after → answer.number ≡ 0
      → NoneLonger answer.written r.slices
  run_slices_none_longer call zero = run_slices_fit ran patch b call zero

  pub run_outputs_none_longer : LongestPromise (type_file_bytes patch.output) lent answer lent_after → answer.number ≡ 0
      → NoneLonger answer.written r.outputs
  run_outputs_none_longer call zero = run_outputs_fit ran patch b call zero

-- The rules of a node define an output and a node left, and one only.

pub a_rule : {s t : Ty} {n : Node} {p : Prefix} → Allowed s n t → IsPrefix s p → (o : Prefix) × (n' : Node) × Feeds s n p o n'
a_rule a h = (_, _, feeds a.types h)

pub one_rule : {s : Ty} {n n' m : Node} {p o q : Prefix} → IsPrefix s p → Feeds s n p o n' → Feeds s n p q m → (o ≡ q) × (n' ≡ m)
one_rule is_prefix h k = let x = feeds_only h is_prefix in let y = feeds_only k is_prefix in (x.sent ∙ sym y.sent, x.node ∙ sym y.node)

-- What Feed takes of its files is one thing.

pub one_taking : {patch slice : List ℕ} {r q : Result (Patch × Prefix)} → FeedTakes patch slice r → FeedTakes patch slice q → r ≡ q
one_taking one other = takes_one one other

-- So do the rules of Join.

pub a_join : {t : Ty} {p : Prefix} (q : Prefix) → IsPrefix t p → IsPrefix (derivative t p) q → (both : Prefix) × Concat p q both
a_join q h k = (_, concats q h k)

pub one_join : {p q r u : Prefix} → Concat p q r → Concat p q u → r ≡ u
one_join c d = sym (concat-only c) ∙ concat-only d

-- The same calls from the same start come to the same.
pub one_run : {start : List ℕ} {r q : RunEnd} (calls : List Call) → Ran start calls r → Ran start calls q → r ≡ q
one_run calls ran also = runs_alike calls ran also

-- Demand 3 by the operations' own answers on files: Join, Left and Check.
pub as_one_on_files : {start : List ℕ} {r : RunEnd} {patch : PatchFile start} {next : PatchFile r.file} → AsOne patch r next → OnFiles start r
as_one_on_files {patch = patch} {next = next} one = on_files patch next one

-- The cut of the stream does not change the show: two runs from one start whose accepted slices join to the same slice leave the
-- same patch, byte for byte, their outputs join to the same output, and they count the same.
pub same_however_cut : {start : List ℕ} {calls others : List Call} {r q : RunEnd} {p : Prefix} → Ran start calls r → Ran start others q
    → (patch : PatchFile start) → ByteSlices calls → ByteSlices others
    → Joined patch.trees.input r.slices p → Joined patch.trees.input q.slices p
    → (r.file ≡ q.file) × ((o : Prefix) × Joined patch.output r.outputs o × Joined patch.output q.outputs o)
    × (r.arrived ≡ q.arrived) × (r.sent ≡ q.sent)
same_however_cut ran also patch b c j k = runs_agree ran also patch b c j k

-- Files join to one slice; and a file is read in one way, so that "its input type" is one.

pub one_joined_slice : {t : Ty} {files : List (List ℕ)} {p q : Prefix} → Small t → Joined t files p → Joined t files q → p ≡ q
one_joined_slice small j k = one_joined small j k refl

pub one_reading : {file type slice : List ℕ}
    → ((a b : PatchFile file) → (a.trees ≡ b.trees) × (a.output ≡ b.output))
    × ((a b : TypeFile type) → a.type ≡ b.type)
    × ((t : TypeFile type) (a b : SliceFile t.type slice) → a.prefix ≡ b.prefix)
one_reading = (one_patch, one_type, λ t a b. one_prefix t.small a b)

-- The order in which two lanes side by side arrive does not matter either: the slice of one and then that of the other join to the
-- same slice either way. With same_however_cut this is the source's Theorem 3.4, "Determinism".
pub same_in_either_order : {s t : Ty} {p q : Prefix} → Small (par s t) → IsPrefix s p → IsPrefix t q
    → (let type = type_file_bytes (par s t) in
    (join type (slice_file_bytes (beside p (empty_prefix t))) (slice_file_bytes (beside (empty_prefix (derivative s p)) q))
    ≡ accepted (slice_file_bytes (beside p q)))
    × (join type (slice_file_bytes (beside (empty_prefix s) q)) (slice_file_bytes (beside p (empty_prefix (derivative t q))))
    ≡ accepted (slice_file_bytes (beside p q))))
same_in_either_order w h k = lanes_join w h k
