-- What follows from a promise: a call is decided, it says 20 exactly if a buffer is too short, and no answer is longer than
-- what the call has to write.
use Rattle.std.specs.Prelude.{◌≡◌, ◌↔◌, ◌⊎◌, Bool, List, [], ◌∷◌, ℕ, ◌+◌, ◌≤◌, eqb, drop}
use Rattle.std.proofs.Math.Path.{refl, ap, ap₂}
use Rattle.std.proofs.Common.{sym, ◌∙◌, inl, inr, ⊎_elim, arith, le_trans}
use Rattle.std.proofs.Math.Logic.Iff
use Rattle.std.proofs.Math.Bool.{true, false, true≢false, or-true}
use Rattle.std.proofs.Math.Dec.{leb}
use Rattle.std.proofs.Math.ListN.{length, take}
use Rattle.std.proofs.Math.Seq.{take-append_seam}
use borrow.Author.Tests.{le-leb, leb-false, leb-true, eqb-true, eqb-false}
use Rattle.stream.specs.declared.Fault.{Fault}
use Rattle.stream.specs.declared.Fault.TheVariants.{NoRoom, TotalTooLarge}
use Rattle.stream.specs.Faults.{number, contains, Listed}
use Rattle.stream.specs.Prefixes.{Prefix, Complete, IsPrefix, arrivals, derivative}
use Rattle.stream.specs.Prefixes.Functions.{complete, concat}
use Rattle.stream.proofs.Prefixes.Laws.{complete_sound, complete-complete, concats, concat-only, concat_is_prefix, derivative-size, arrivals-concat}
use Rattle.stream.specs.Reading.{Bytes, Result, accepted, refused, IsAccepted, require, go_on}
use Rattle.stream.proofs.Reading.Laws.{bytes_append, bytes_drop, go_on_accepted}
use Rattle.stream.proofs.Reading.Refusals.{Refusals, refusals_too}
use Rattle.meaning.specs.declared.Written.{Written}
use Rattle.meaning.specs.declared.Admitted.{Admitted}
use Rattle.meaning.specs.declared.Fed.{Fed}
use Rattle.stream.specs.Bounds.{slice_file_limit, patch_file_limit, arrivals_limit}
use Rattle.meaning.specs.Answers.{on_patch, takes_slice, with_room, number_of, value_of, as_number, after, fits_one, fits_both, written, admitted, fed, FedFiles, check, left, join, feed, admit, longest, files_of, fed_files, into_both}
use Rattle.meaning.proofs.Answers.Laws.{takes_sound, number_positive, enough_room, room_accepted, room_refusals, both_fit, check_refused_feed, admit_answers, left_answers, joins, admit_accepted, join_accepted, longest_of, longest_accepted, Refuses, WritesSized, FeedsSized}
use Rattle.meaning.specs.Promises.{Writes, Admits, CheckPromise, AdmitPromise, LeftPromise, JoinPromise, FeedPromise, LongestPromise}
use Rattle.demands.specs.Calls.{type_and_slice, two_slices, FeedTakes, patch_refused, slice_refused, total_passed, taken, DueFromCheck, DueFromAdmit, DueFromLeft, DueFromJoin, DueFromFeed, DueFromLongest, RoomFor, Wrote, WroteBoth, Decided, is_accepted, is_refused, is_short, TooShortFor, Ty}
use Rattle.stream.specs.TypeFiles.{type_file, type_file_bytes, TypeFile}
use Rattle.stream.proofs.TypeFiles.Laws.{type_file-complete}
use Rattle.stream.specs.Longest.{longest_prefix}
use Rattle.stream.proofs.Longest.Laws.{longest_prefix_is_prefix, longest_prefix-complete, no_file_longer}
use Rattle.stream.specs.SliceFiles.{slice_file, slice_file_bytes, SliceFile}
use Rattle.stream.proofs.SliceFiles.Laws.{slice_file_sound, few_arrivals}
use Rattle.node.specs.PatchFiles.{Checked, patch_file}
use Rattle.node.proofs.PatchFiles.Laws.{patch_file_sound}
use Rattle.node.specs.Totals.{held}
use Rattle.node.specs.Nodes.{Allowed, Patch}
use Rattle.node.specs.Feeding.Functions.{patch_left}
use Rattle.node.specs.Feeding.{FeedsPatch, Within}
use Rattle.node.proofs.Feeding.Patches.{feeds_patch_only, within_test}
use Rattle.stream.specs.Types.{Ty}
use Rattle.stream.proofs.Types.Laws.{and_left, and_right}

abbrev NotRoom : Fault → Type 0
NotRoom e = number e ≡ 20 → ⊥

-- Where 20 is not among the numbers, no refusal is 20.
not_room : {A : Type 0} {ns : List ℕ} (r : Result A) → Refuses ns r → Refusals NotRoom r
not_room (accepted a) h = tt
not_room {ns = ns} (refused e) h = λ d. true≢false (sym h.only ∙ ap (contains ns) d ∙ h.not_20)

-- The number is 0, or one that is listed.
number_listed : {A : Type 0} (ns : List ℕ) (o : Result A) → Refusals (Listed ns) o → contains (0 ∷ ns) (number_of o) ≡ true
number_listed ns (accepted a) h = refl
number_listed ns (refused e) h = rw h (or-true (eqb 0 (number e)))

listed_more : (n : ℕ) (ns : List ℕ) (e : Fault) → Listed ns e → Listed (n ∷ ns) e
listed_more n ns e h = rw h (or-true (eqb n (number e)))

-- The number is 0 exactly for what is accepted.
zero_accepted : {A : Type 0} (o : Result A) → number_of o ≡ 0 ↔ IsAccepted o
zero_accepted (accepted a) = ((λ h. (a, refl)), (λ h. refl))
zero_accepted (refused e) = (
  (λ h. absurd (omega (arith, number_positive e))),
  (λ h. let z : ◌≡◌ {A = ℕ} 0 1 = let d = h.1 in cc in absurd (omega arith)),
)

-- 20 exactly if a buffer is too short.

twenty : {A : Type 0} (fits : A → Bool) (r : Result A) → Refusals NotRoom r → number_of (with_room fits r) ≡ 20 ↔ TooShortFor fits r
unfolding with_room
twenty fits (refused e) n = ((λ h. absurd (n h)), (λ t. let z : ◌≡◌ {A = ℕ} 0 1 = let d = t.is_due in cc in absurd (omega arith)))
twenty {A} fits (accepted a) n = ((λ h. there (fits a) refl h), back)
  where
    there : (b : Bool) → fits a ≡ b → number_of (require b NoRoom (accepted a)) ≡ 20 → TooShortFor fits (accepted a)
    there true e h = absurd (omega arith)
    there false e h = record { due = a; is_due = refl; too_short = e }

    back : TooShortFor fits (accepted a) → number_of (require (fits a) NoRoom (accepted a)) ≡ 20
    back t =
        let e : a ≡ t.due = let d = t.is_due in cc in
        rw (ap fits e ∙ t.too_short)

other_number : {A : Type 0} (fits : A → Bool) (r : Result A) (k : ℕ) → (k ≡ 0 → ⊥) → (k ≡ 20 → ⊥) → number_of (with_room fits r) ≡ k ↔ number_of r ≡ k
unfolding with_room
other_number fits (refused e) k not_0 not_20 = ((λ h. h), (λ h. h))
other_number {A} fits (accepted a) k not_0 not_20 = ((λ h. go (fits a) h), (λ h. absurd (not_0 (sym h))))
  where
    go : (b : Bool) → number_of (require b NoRoom (accepted a)) ≡ k → 0 ≡ k
    go true h = h
    go false h = absurd (not_20 (sym h))

-- A bound on every answer holds of the length that the caller is told, and where all answers fit, 20 does not come.
module _ {A : Type 0} (fits : A → Bool) (r : Result A) where
  bounded : (f : A → ℕ) (n : ℕ) → ((a : A) → r ≡ accepted a → f a ≤ n) → value_of f (with_room fits r) ≤ n
  bounded f n h = go (with_room fits r) refl
    where
      go : (o : Result A) → with_room fits r ≡ o → value_of f o ≤ n
      go (accepted a) e = h a (room_accepted fits r a e).0
      go (refused e) d = omega arith

  never_twenty : Refusals NotRoom r → ((a : A) → r ≡ accepted a → fits a ≡ true) → number_of (with_room fits r) ≡ 20 → ⊥
  never_twenty n h e = let t = (twenty fits r n).0 e in true≢false (sym (h t.due t.is_due) ∙ t.too_short)

  zero_only : number_of (with_room fits r) ≡ 0 → IsAccepted r
  zero_only e = let a = (zero_accepted (with_room fits r)).0 e in (a.0, (room_accepted fits r a.0 a.1).0)

  -- With 20 aside, a call is accepted exactly if it would be with room set aside.
  aside : Refusals NotRoom r → (number_of (with_room fits r) ≡ 0) ⊎ (number_of (with_room fits r) ≡ 20) ↔ IsAccepted r
  aside n = ((λ s. ⊎_elim zero_only (λ e. let t = (twenty fits r n).0 e in (t.due, t.is_due)) s), (λ (a, e). go a e (fits a) refl))
    where
      go : (a : A) → r ≡ accepted a → (b : Bool) → fits a ≡ b → (number_of (with_room fits r) ≡ 0) ⊎ (number_of (with_room fits r) ≡ 20)
      go a e true h = inl ((zero_accepted (with_room fits r)).1 (a, enough_room fits r e h))
      go a e false h = inr ((twenty fits r n).1 (record { due = a; is_due = e; too_short = h }))

  -- With room for every answer, so is a call with number 0.
  zero_with_room : ((a : A) → r ≡ accepted a → fits a ≡ true) → number_of (with_room fits r) ≡ 0 ↔ IsAccepted r
  zero_with_room h = (zero_only, (λ a. (zero_accepted (with_room fits r)).1 (a.0, enough_room fits r a.1 (h a.0 a.1))))

-- Bytes stay bytes in a buffer, if what is written are bytes.
still_bytes : {A : Type 0} (fits : A → Bool) (r : Result A) (file : A → List ℕ) (lent : List ℕ)
    → ((a : A) → r ≡ accepted a → Bytes (file a)) → Bytes lent → Bytes (after file (with_room fits r) lent)
unfolding after
still_bytes {A} fits r file lent h b = go (with_room fits r) refl
  where
    go : (o : Result A) → with_room fits r ≡ o → Bytes (after file o lent)
    go (accepted a) e =
        bytes_append (file a) (drop (length (file a)) lent) (h a (room_accepted fits r a e).0) (bytes_drop (length (file a)) lent b)
    go (refused e) d = b

-- The operations with one lent buffer

module _ {outcome : Result (List ℕ)} {lent : List ℕ} {answer : Written} {lent_after : List ℕ} (promise : Writes outcome lent answer lent_after) where
  told : answer.number ≡ number_of (with_room (fits_one (length lent)) outcome)
  unfolding written
  told = ap (λ (a : Written). a.number) promise.answers

  all_fit : {most : ℕ} → WritesSized most outcome → most ≤ length lent → (file : List ℕ) → outcome ≡ accepted file → fits_one (length lent) file ≡ true
  all_fit l h file e = le-leb (length file) (length lent) (le_trans (l.sized file e).short h)

  pub writes_listed : {ns : List ℕ} → Refuses ns outcome → contains (0 ∷ 20 ∷ ns) answer.number ≡ true
  writes_listed {ns} r =
      rw told
      (number_listed (20 ∷ ns) (with_room (fits_one (length lent)) outcome)
      (room_refusals (fits_one (length lent)) (Listed (20 ∷ ns)) outcome refl (refusals_too (listed_more 20 ns) outcome r.only)))

  pub writes_twenty : {ns : List ℕ} → Refuses ns outcome → answer.number ≡ 20 ↔ TooShortFor (fits_one (length lent)) outcome
  writes_twenty r = rw told (twenty (fits_one (length lent)) outcome (not_room outcome r))

  pub writes_aside : {ns : List ℕ} → Refuses ns outcome → (answer.number ≡ 0) ⊎ (answer.number ≡ 20) ↔ IsAccepted outcome
  writes_aside r = rw told (aside (fits_one (length lent)) outcome (not_room outcome r))

  pub writes_bounded : {most : ℕ} → WritesSized most outcome → answer.written ≤ most
  unfolding written
  writes_bounded {most} l =
      rw (ap (λ (a : Written). a.written) promise.answers) (bounded (fits_one (length lent)) outcome length most (λ file e. (l.sized file e).short))

  pub writes_never_twenty : {ns : List ℕ} {most : ℕ} → Refuses ns outcome → WritesSized most outcome → most ≤ length lent → answer.number ≡ 20 → ⊥
  writes_never_twenty r l h e = never_twenty (fits_one (length lent)) outcome (not_room outcome r) (all_fit l h) (sym told ∙ e)

  pub writes_bytes : {most : ℕ} → WritesSized most outcome → Bytes lent → Bytes lent_after
  writes_bytes l b =
      rw promise.buffer (still_bytes (fits_one (length lent)) outcome (λ file. file) lent (λ file e. (l.sized file e).bytes) b)

  -- With room for its file, the call writes exactly that.
  pub writes_exactly : {file : List ℕ} → outcome ≡ accepted file → length file ≤ length lent
      → Wrote file lent answer lent_after
  unfolding written after
  writes_exactly {file} e h =
      let o = enough_room (fits_one (length lent)) outcome e (le-leb (length file) (length lent) h) in
      (promise.answers ∙ ap written o, promise.buffer ∙ ap (λ r. after (λ f. f) r lent) o)

  -- An accepted call has written the file that it had to.
  pub record WroteDue : Type 0 where
    pub file : List ℕ
    pub due : outcome ≡ accepted file
    pub long : answer.written ≡ length file
    pub in_front : take answer.written lent_after ≡ file

  pub writes_accepted : answer.number ≡ 0 → WroteDue
  unfolding written after
  writes_accepted z =
      let a = (zero_accepted (with_room (fits_one (length lent)) outcome)).0 (sym told ∙ z) in
      let says : answer.written ≡ length a.0 = ap (λ (w : Written). w.written) (promise.answers ∙ ap written a.1) in
      record {
        file = a.0;
        due = (room_accepted (fits_one (length lent)) outcome a.0 a.1).0;
        long = says;
        in_front = ap₂ take says (promise.buffer ∙ ap (λ r. after (λ f. f) r lent) a.1) ∙ take-append_seam a.0 (drop (length a.0) lent);
      }

  pub writes_zero : {most : ℕ} → WritesSized most outcome → most ≤ length lent → answer.number ≡ 0 ↔ IsAccepted outcome
  writes_zero l h = rw told (zero_with_room (fits_one (length lent)) outcome (all_fit l h))

-- Feed

module _ {patch slice output_lent patch_lent : List ℕ} {answer : Fed} {output_after patch_after : List ℕ}
    (promise : FeedPromise patch slice output_lent patch_lent answer output_after patch_after) where
  abbrev fits : FedFiles → Bool
  fits w = fits_both (length output_lent) (length patch_lent) w

  fed_told : answer.number ≡ number_of (with_room fits (feed patch slice))
  unfolding fed
  fed_told = ap (λ (a : Fed). a.number) promise.answers

  both_fits : FeedsSized (feed patch slice) → slice_file_limit ≤ length output_lent → patch_file_limit ≤ length patch_lent → (w : FedFiles) → feed patch slice ≡ accepted w → fits w ≡ true
  both_fits l h k w e = let n = l.sized w e in both_fit w (le_trans n.output.short h) (le_trans n.patch.short k)

  pub feeds_listed : {ns : List ℕ} → Refuses ns (feed patch slice) → contains (0 ∷ 20 ∷ ns) answer.number ≡ true
  feeds_listed {ns} r =
      rw fed_told
      (number_listed (20 ∷ ns) (with_room fits (feed patch slice))
      (room_refusals fits (Listed (20 ∷ ns)) (feed patch slice) refl (refusals_too (listed_more 20 ns) (feed patch slice) r.only)))

  pub feeds_twenty : {ns : List ℕ} → Refuses ns (feed patch slice)
      → answer.number ≡ 20 ↔ TooShortFor (fits_both (length output_lent) (length patch_lent)) (feed patch slice)
  feeds_twenty r = rw fed_told (twenty fits (feed patch slice) (not_room (feed patch slice) r))

  pub feeds_aside : {ns : List ℕ} → Refuses ns (feed patch slice) → (answer.number ≡ 0) ⊎ (answer.number ≡ 20) ↔ IsAccepted (feed patch slice)
  feeds_aside r = rw fed_told (aside fits (feed patch slice) (not_room (feed patch slice) r))

  -- Room changes no number but 0 and 20.
  pub feeds_number : (k : ℕ) → (k ≡ 0 → ⊥) → (k ≡ 20 → ⊥) → answer.number ≡ k ↔ number_of (feed patch slice) ≡ k
  feeds_number k not_0 not_20 = rw fed_told (other_number fits (feed patch slice) k not_0 not_20)

  pub feeds_bounded : FeedsSized (feed patch slice) → (answer.output ≤ slice_file_limit) × (answer.patch ≤ patch_file_limit)
  unfolding fed
  feeds_bounded l = (
    rw (ap (λ (a : Fed). a.output) promise.answers)
        (bounded fits (feed patch slice) (λ w. length w.output) slice_file_limit (λ w e. (l.sized w e).output.short)),
    rw (ap (λ (a : Fed). a.patch) promise.answers)
        (bounded fits (feed patch slice) (λ w. length w.patch) patch_file_limit (λ w e. (l.sized w e).patch.short)),
  )

  pub feeds_never_twenty : {ns : List ℕ} → Refuses ns (feed patch slice) → FeedsSized (feed patch slice)
      → slice_file_limit ≤ length output_lent → patch_file_limit ≤ length patch_lent → answer.number ≡ 20 → ⊥
  feeds_never_twenty r l h k e = never_twenty fits (feed patch slice) (not_room (feed patch slice) r) (both_fits l h k) (sym fed_told ∙ e)

  pub feeds_bytes : FeedsSized (feed patch slice) → Bytes output_lent → Bytes patch_lent → Bytes output_after × Bytes patch_after
  feeds_bytes l b c = (
    rw promise.output_buffer (still_bytes fits (feed patch slice) (λ w. w.output) output_lent (λ w e. (l.sized w e).output.bytes) b),
    rw promise.patch_buffer (still_bytes fits (feed patch slice) (λ w. w.patch) patch_lent (λ w e. (l.sized w e).patch.bytes) c),
  )

  pub feeds_zero : FeedsSized (feed patch slice) → slice_file_limit ≤ length output_lent → patch_file_limit ≤ length patch_lent → answer.number ≡ 0 ↔ IsAccepted (feed patch slice)
  feeds_zero l h k = rw fed_told (zero_with_room fits (feed patch slice) (both_fits l h k))

  -- With room for its files, the call writes exactly these.
  pub feeds_exactly : {w : FedFiles} → feed patch slice ≡ accepted w → length w.output ≤ length output_lent → length w.patch ≤ length patch_lent
      → WroteBoth w output_lent patch_lent answer output_after patch_after
  unfolding fed after
  feeds_exactly {w} e h k =
      let o = enough_room fits (feed patch slice) e (both_fit w h k) in (
        promise.answers ∙ ap fed o,
        promise.output_buffer ∙ ap (λ r. after (λ f. f.output) r output_lent) o,
        promise.patch_buffer ∙ ap (λ r. after (λ f. f.patch) r patch_lent) o,
      )

  -- An accepted call has written the two files that it had to.
  pub record Accepted : Type 0 where
    pub files : FedFiles
    pub due : feed patch slice ≡ accepted files
    pub output_file : take answer.output output_after ≡ files.output
    pub patch_file : take answer.patch patch_after ≡ files.patch
    pub arrived : answer.arrived ≡ files.arrived
    pub sent : answer.sent ≡ files.sent

  pub feeds_accepted : answer.number ≡ 0 → Accepted
  unfolding fed after
  feeds_accepted z =
      let a = (zero_accepted (with_room fits (feed patch slice))).0 (sym fed_told ∙ z) in
      let w = a.0 in
      let told = promise.answers ∙ ap fed a.1 in
      record {
        files = w;
        due = (room_accepted fits (feed patch slice) w a.1).0;
        output_file = ap₂ take (ap (λ (f : Fed). f.output) told) (promise.output_buffer ∙ ap (λ r. after (λ f. f.output) r output_lent) a.1)
            ∙ take-append_seam w.output (drop (length w.output) output_lent);
        patch_file = ap₂ take (ap (λ (f : Fed). f.patch) told) (promise.patch_buffer ∙ ap (λ r. after (λ f. f.patch) r patch_lent) a.1)
            ∙ take-append_seam w.patch (drop (length w.patch) patch_lent);
        arrived = ap (λ (f : Fed). f.arrived) told;
        sent = ap (λ (f : Fed). f.sent) told;
      }

  -- A refused call counts nothing.
  pub feeds_refused : (answer.number ≡ 0 → ⊥) → (answer.arrived ≡ 0) × (answer.sent ≡ 0)
  unfolding fed
  feeds_refused n = go (with_room fits (feed patch slice)) promise.answers
    where
      go : (o : Result FedFiles) → answer ≡ fed o → (answer.arrived ≡ 0) × (answer.sent ≡ 0)
      go (accepted w) e = absurd (n (ap (λ (a : Fed). a.number) e))
      go (refused f) e = (ap (λ (a : Fed). a.arrived) e, ap (λ (a : Fed). a.sent) e)

-- Admit

one_true : (b : Bool) → as_number b ≡ 1 ↔ b ≡ true
one_true true = ((λ e. refl), (λ e. refl))
one_true false = ((λ e. absurd (omega arith)), (λ e. absurd (true≢false (sym e))))

else_zero : (b : Bool) → (b ≡ true → ⊥) → as_number b ≡ 0
else_zero true not = absurd (not refl)
else_zero false not = refl

module _ {o : Result Prefix} {answer : Admitted} (promise : Admits o answer) where
  admit_told : answer.number ≡ number_of o
  unfolding admitted
  admit_told = ap (λ (a : Admitted). a.number) promise.answers

  pub admits_listed : {ns : List ℕ} → Refuses ns o → contains (0 ∷ ns) answer.number ≡ true
  admits_listed {ns} r = rw admit_told (number_listed ns o r.only)

  pub admits_zero : answer.number ≡ 0 ↔ IsAccepted o
  admits_zero = rw admit_told (zero_accepted o)

  pub admits_counts : {p : Prefix} → o ≡ accepted p → answer.arrived ≡ arrivals p
  unfolding admitted
  admits_counts d = ap (λ (a : Admitted). a.arrived) (promise.answers ∙ ap admitted d)

  -- A refused call counts nothing.
  pub admits_refused : (answer.number ≡ 0 → ⊥) → answer.arrived ≡ 0
  unfolding admitted
  admits_refused n = go o promise.answers
    where
      go : (r : Result Prefix) → answer ≡ admitted r → answer.arrived ≡ 0
      go (accepted p) e = absurd (n (ap (λ (a : Admitted). a.number) e))
      go (refused f) e = ap (λ (a : Admitted). a.arrived) e

  pub admits_complete : {p : Prefix} → o ≡ accepted p
      → (answer.complete ≡ 1 ↔ Complete p) × ((Complete p → ⊥) → answer.complete ≡ 0)
  unfolding admitted
  admits_complete {p} d =
      rw (ap (λ (a : Admitted). a.complete) (promise.answers ∙ ap admitted d)) (
        Iff.trans (one_true (complete p)) ((λ e. complete_sound p e), (λ c. complete-complete c)),
        (λ not. else_zero (complete p) (λ e. not (complete_sound p e))),
      )

-- Each promise can be kept, whatever is handed in, and in one way only.

writes_kept : (outcome : Result (List ℕ)) (lent : List ℕ) → (answer : Written) × (lent_after : List ℕ) × Writes outcome lent answer lent_after
writes_kept outcome lent = (_, _, record { answers = refl; buffer = refl })

pub check_kept : (patch lent : List ℕ) → (answer : Written) × (lent_after : List ℕ) × CheckPromise patch lent answer lent_after
check_kept patch lent = writes_kept (check patch) lent

pub admit_kept : (type slice : List ℕ) → (answer : Admitted) × AdmitPromise type slice answer
admit_kept type slice = (_, record { answers = refl })

pub left_kept : (type slice lent : List ℕ) → (answer : Written) × (lent_after : List ℕ) × LeftPromise type slice lent answer lent_after
left_kept type slice lent = writes_kept (left type slice) lent

pub join_kept : (type first second lent : List ℕ)
    → (answer : Written) × (lent_after : List ℕ) × JoinPromise type first second lent answer lent_after
join_kept type first second lent = writes_kept (join type first second) lent

pub feed_kept : (patch slice output_lent patch_lent : List ℕ)
    → (answer : Fed) × (output_after : List ℕ) × (patch_after : List ℕ) × FeedPromise patch slice output_lent patch_lent answer output_after patch_after
feed_kept patch slice output_lent patch_lent = (_, _, _, record { answers = refl; output_buffer = refl; patch_buffer = refl })

pub longest_kept : (type lent : List ℕ) → (answer : Written) × (lent_after : List ℕ) × LongestPromise type lent answer lent_after
longest_kept type lent = writes_kept (longest type) lent

pub writes_alike : {outcome : Result (List ℕ)} {lent x y : List ℕ} {a b : Written} → Writes outcome lent a x → Writes outcome lent b y
    → (a ≡ b) × (x ≡ y)
writes_alike h k = (h.answers ∙ sym k.answers, h.buffer ∙ sym k.buffer)

pub admits_alike : {outcome : Result Prefix} {a b : Admitted} → Admits outcome a → Admits outcome b → a ≡ b
admits_alike h k = h.answers ∙ sym k.answers

pub feeds_alike : {patch slice output_lent patch_lent x y u v : List ℕ} {a b : Fed} → FeedPromise patch slice output_lent patch_lent a x u
    → FeedPromise patch slice output_lent patch_lent b y v → (a ≡ b) × (x ≡ y) × (u ≡ v)
feeds_alike h k = (h.answers ∙ sym k.answers, h.output_buffer ∙ sym k.output_buffer, h.patch_buffer ∙ sym k.patch_buffer)

-- What Check refuses, 20 aside, Feed refuses with the same number.
pub feeds_as_check : {patch slice lent lent_after output_lent patch_lent output_after patch_after : List ℕ} {c : Written} {f : Fed}
    → CheckPromise patch lent c lent_after → FeedPromise patch slice output_lent patch_lent f output_after patch_after
    → (c.number ≡ 0 → ⊥) → (c.number ≡ 20 → ⊥) → f ≡ record { number = c.number; output = 0; patch = 0; arrived = 0; sent = 0 }
unfolding with_room fed written
feeds_as_check {patch} {slice} {lent} {output_lent = output_lent} {patch_lent = patch_lent} {c = c} {f = f} check_call feed_call n m = go (check patch) refl
  where
    short : (file : List ℕ) (b : Bool) → c.number ≡ number_of (require b NoRoom (accepted file)) → f ≡ record { number = c.number; output = 0; patch = 0; arrived = 0; sent = 0 }
    short file true e = absurd (n e)
    short file false e = absurd (m e)

    go : (r : Result (List ℕ)) → check patch ≡ r → f ≡ record { number = c.number; output = 0; patch = 0; arrived = 0; sent = 0 }
    go (accepted file) e = short file (fits_one (length lent) file) (told check_call ∙ ap (λ r. number_of (with_room (fits_one (length lent)) r)) e)
    go (refused e) d =
        feed_call.answers ∙ ap (λ r. fed (with_room (fits_both (length output_lent) (length patch_lent)) r)) (check_refused_feed patch slice d)
        ∙ (λ i. record { number = sym (told check_call ∙ ap (λ r. number_of (with_room (fits_one (length lent)) r)) d) i; output = 0; patch = 0; arrived = 0; sent = 0 })

-- A call is decided by what its files are read as.

-- An operation with one lent buffer, which writes `file a` where its files are read as a: that is what is due.
module _ {A : Type 0} {Due : A → List (List ℕ) → Type 0} (file : A → List ℕ) (only : (a : A) (files : List (List ℕ)) → Due a files → files ≡ file a ∷ [])
    {lent : List ℕ} {answer : Written} {lent_after : List ℕ} where
  by_room : (a : A) (b : Bool) → leb (length (file a)) (length lent) ≡ b → answer ≡ written (require b NoRoom (accepted (file a)))
      → lent_after ≡ after (λ f. f) (require b NoRoom (accepted (file a))) lent
      → Decided (accepted a) Due answer.number (answer.written ∷ []) (lent ∷ []) (lent_after ∷ [])
  unfolding written after
  by_room a true e n u =
      is_accepted a refl (ap (λ (w : Written). w.number) n)
      (λ files d. rw (only a files d)
      ((leb-true _ _ e, tt), ap (λ (w : Written). w.written ∷ []) n, ap (λ l. l ∷ []) u))
  by_room a false e n u =
      is_short a refl (ap (λ (w : Written). w.number) n) (λ files d fit. short a e (rw (only a files d) at fit)) (ap (λ l. l ∷ []) u)
    where
      short : (x : A) → leb (length (file x)) (length lent) ≡ false → RoomFor (file x ∷ []) (lent ∷ []) → ⊥
      short x c fit = let h = fit.0 in omega (arith, leb-false (length (file x)) (length lent) c)

  pub writes_decided : (read : Result A) → Writes (go_on read (λ a. accepted (file a))) lent answer lent_after
      → Decided read Due answer.number (answer.written ∷ []) (lent ∷ []) (lent_after ∷ [])
  unfolding with_room written after
  writes_decided (accepted a) promise = by_room a (leb (length (file a)) (length lent)) refl promise.answers promise.buffer
  writes_decided (refused e) promise =
      is_refused e refl (ap (λ (w : Written). w.number) promise.answers) (ap (λ l. l ∷ []) promise.buffer)

admits_decided : {answer : Admitted} (read : Result (Ty × Prefix)) → Admits (go_on read (λ a. accepted a.1)) answer
    → Decided read DueFromAdmit answer.number [] [] []
unfolding admitted
admits_decided (accepted a) promise =
    is_accepted a refl (ap (λ (w : Admitted). w.number) promise.answers) (λ files none. rw none (tt, refl, refl))
admits_decided (refused e) promise = is_refused e refl (ap (λ (w : Admitted). w.number) promise.answers) refl

-- What files read one after the other come to is what comes of all of them together.

both_read : {A B C D : Type 0} (r : Result A) (s : A → Result B) (g : A → C) (f : C → B → Result D)
    → go_on r (λ a. go_on (s a) (λ b. f (g a) b)) ≡ go_on (go_on r (λ a. go_on (s a) (λ b. accepted (g a, b)))) (λ (x : C × B). f x.0 x.1)
both_read (refused e) s g f = refl
both_read {A} {B} {C} {D} (accepted a) s g f = go (s a)
  where
    go : (r : Result B) → go_on r (λ b. f (g a) b) ≡ go_on (go_on r (λ b. accepted (g a, b))) (λ (x : C × B). f x.0 x.1)
    go (accepted b) = refl
    go (refused e) = refl

three_read : {A B C D : Type 0} (r : Result A) (s : A → Result B) (u : A → B → Result C) (f : B → C → Result D)
    → go_on r (λ a. go_on (s a) (λ b. go_on (u a b) (λ c. f b c)))
    ≡ go_on (go_on r (λ a. go_on (s a) (λ b. go_on (u a b) (λ c. accepted (b, c))))) (λ (x : B × C). f x.0 x.1)
three_read (refused e) s u f = refl
three_read (accepted a) s u f = both_read (s a) (u a) (λ b. b) f

pub check_decided : (file : List ℕ) {lent lent_after : List ℕ} {answer : Written} → CheckPromise file lent answer lent_after
    → Decided (patch_file file) DueFromCheck answer.number (answer.written ∷ []) (lent ∷ []) (lent_after ∷ [])
unfolding check
check_decided file call = writes_decided (λ c. type_file_bytes c.output) (λ c files due. due) (patch_file file) call

pub admit_decided : (type slice : List ℕ) {answer : Admitted} → AdmitPromise type slice answer
    → Decided (type_and_slice type slice) DueFromAdmit answer.number [] [] []
unfolding admit
admit_decided type slice call =
    admits_decided (type_and_slice type slice)
    (rw (both_read (type_file type) (λ t. slice_file t slice) (λ t. t) (λ t p. accepted p)) at call)

pub left_decided : (type slice : List ℕ) {lent lent_after : List ℕ} {answer : Written} → LeftPromise type slice lent answer lent_after
    → Decided (type_and_slice type slice) DueFromLeft answer.number (answer.written ∷ []) (lent ∷ []) (lent_after ∷ [])
unfolding left
left_decided type slice call =
    writes_decided (λ (x : Ty × Prefix). type_file_bytes (derivative x.0 x.1)) (λ x files due. due) (type_and_slice type slice)
    (rw (both_read (type_file type) (λ t. slice_file t slice) (λ t. t) (λ t p. accepted (type_file_bytes (derivative t p)))) at call)

-- The rules join two slices in no other way than the function does.
joined_only : (x : Prefix × Prefix) (files : List (List ℕ)) → DueFromJoin x files → files ≡ slice_file_bytes (concat x.0 x.1) ∷ []
joined_only x files (both, c, e) = e ∙ (λ i. slice_file_bytes (sym (concat-only c) i) ∷ [])

pub join_decided : (type first second : List ℕ) {lent lent_after : List ℕ} {answer : Written} → JoinPromise type first second lent answer lent_after
    → Decided (two_slices type first second) DueFromJoin answer.number (answer.written ∷ []) (lent ∷ []) (lent_after ∷ [])
unfolding join
join_decided type first second call =
    writes_decided (λ (x : Prefix × Prefix). slice_file_bytes (concat x.0 x.1)) joined_only (two_slices type first second)
    (rw (three_read (type_file type) (λ t. slice_file t first) (λ t p. slice_file (derivative t p) second)
    (λ p q. accepted (slice_file_bytes (concat p q)))) at call)

pub longest_decided : (type : List ℕ) {lent lent_after : List ℕ} {answer : Written} → LongestPromise type lent answer lent_after
    → Decided (type_file type) DueFromLongest answer.number (answer.written ∷ []) (lent ∷ []) (lent_after ∷ [])
unfolding longest
longest_decided type call = writes_decided (λ t. slice_file_bytes (longest_prefix t)) (λ t files due. due) (type_file type) call

-- A type file is read in one way.
pub one_type : {file : List ℕ} (a b : TypeFile file) → a.type ≡ b.type
one_type {file} a b =
    let x : type_file file ≡ accepted a.type = rw a.bytes at (type_file-complete a.type a.small) in
    let y : type_file file ≡ accepted b.type = rw b.bytes at (type_file-complete b.type b.small) in cc

-- What Admit says of a slice file, and of the file that Join writes of two.

pub admits_file : {type slice : List ℕ} (t : TypeFile type) (p : SliceFile t.type slice) → admit type slice ≡ accepted p.prefix
admits_file t p = rw (t.bytes, p.bytes) at (admit_answers t.small p.is_prefix)

pub admits_few : (type slice : List ℕ) {answer : Admitted} → AdmitPromise type slice answer → Bytes type → Bytes slice → answer.arrived ≤ arrivals_limit
admits_few type slice {answer} call b c = go (eqb answer.number 0) refl
  where
    go : (z : Bool) → eqb answer.number 0 ≡ z → answer.arrived ≤ arrivals_limit
    go true e =
        let both = (admit_accepted type slice b c).0 ((admits_zero call).0 (eqb-true _ _ e)) in
        rw (admits_counts call (admits_file both.0 both.1)) (few_arrivals both.1.is_prefix both.0.small)
    go false e = rw (admits_refused call (eqb-false _ _ e)) (omega arith)

module _ (type first second : List ℕ) {lent lent_after left_lent left_after : List ℕ} {joined left_answer : Written} {one next both : Admitted} where
  pub join_counts : JoinPromise type first second lent joined lent_after → joined.number ≡ 0
      → LeftPromise type first left_lent left_answer left_after → left_answer.number ≡ 0
      → AdmitPromise type first one → AdmitPromise (take left_answer.written left_after) second next
      → AdmitPromise type (take joined.written lent_after) both → Bytes type → Bytes first → Bytes second
      → (both.number ≡ 0) × (both.arrived ≡ one.arrived + next.arrived)
  join_counts joins_call zero left_call left_zero first_admits second_admits both_admits b c d =
      let wrote = writes_accepted joins_call zero in
      let remained = writes_accepted left_call left_zero in
      let files = (join_accepted type first second b c d).0 (wrote.file, wrote.due) in
      let t = files.0 in
      let p = files.1 in
      let q = files.2 in
      let rest = derivative t.type p.prefix in
      let whole = concat p.prefix q.prefix in
      let is_prefix = concat_is_prefix q.prefix p.is_prefix q.is_prefix in
      let small = le_trans (derivative-size p.is_prefix) t.small in
      let joined_is : take joined.written lent_after ≡ slice_file_bytes whole
      = wrote.in_front ∙ (let e = wrote.due in let f = joins t p q (concats q.prefix p.is_prefix q.is_prefix) in cc) in
      let left_is : take left_answer.written left_after ≡ type_file_bytes rest
      = remained.in_front ∙ (let e = remained.due in let f = rw (t.bytes, p.bytes) at (left_answers t.small p.is_prefix) in cc) in
      let rest_file : TypeFile (take left_answer.written left_after) = record { type = rest; small = small; bytes = sym left_is } in
      let whole_file : SliceFile t.type (take joined.written lent_after) = record { prefix = whole; is_prefix = is_prefix; bytes = sym joined_is } in (
        (admits_zero both_admits).1 (whole, admits_file t whole_file),
        admits_counts both_admits (admits_file t whole_file) ∙ arrivals-concat q.prefix p.is_prefix q.is_prefix
            ∙ ap₂ ◌+◌ (sym (admits_counts first_admits (admits_file t p))) (sym (admits_counts second_admits (admits_file rest_file q))),
      )

-- What Longest writes, beside what Admit says of slices of the same type.

module _ (type : List ℕ) {lent lent_after : List ℕ} {answer : Written} (call : LongestPromise type lent answer lent_after) (zero : answer.number ≡ 0)
    (b : Bytes type) where
  longest_type : TypeFile type
  longest_type = let w = writes_accepted call zero in (longest_accepted type b).0 (w.file, w.due)

  longest_due : (writes_accepted call zero).file ≡ slice_file_bytes (longest_prefix longest_type.type)
  longest_due = let d = (writes_accepted call zero).due in let e = longest_of longest_type in cc

  pub none_admitted_longer : (slice : List ℕ) {seen : Admitted} → AdmitPromise type slice seen → seen.number ≡ 0 → Bytes slice → length slice ≤ answer.written
  none_admitted_longer slice admits z c =
      let both = (admit_accepted type slice b c).0 ((admits_zero admits).0 z) in
      let same : longest_prefix longest_type.type ≡ longest_prefix both.0.type = ap longest_prefix (one_type longest_type both.0) in
      rw ((writes_accepted call zero).long, longest_due, same) (no_file_longer both.1)

  pub longest_admits : {seen : Admitted} → AdmitPromise type (take answer.written lent_after) seen
      → (t : TypeFile type) × (seen ≡ record { number = 0; complete = 1; arrived = arrivals (longest_prefix t.type) })
  unfolding admitted
  longest_admits {seen} admits =
      let t = longest_type.type in
      let is : take answer.written lent_after ≡ slice_file_bytes (longest_prefix t) = (writes_accepted call zero).in_front ∙ longest_due in
      let says : admit type (slice_file_bytes (longest_prefix t)) ≡ accepted (longest_prefix t)
      = rw longest_type.bytes at (admit_answers longest_type.small (longest_prefix_is_prefix t)) in
      let whole : complete (longest_prefix t) ≡ true = complete-complete (longest_prefix-complete t) in (
        longest_type,
        admits.answers ∙ ap (λ file. admitted (admit type file)) is ∙ ap admitted says
            ∙ (λ i. record { number = 0; complete = as_number (whole i); arrived = arrivals (longest_prefix t) }),
      )

-- Feed, which has two buffers. The rules leave no other files than the functions do.

pub left-only : {a b : Patch} {p o : Prefix} → IsPrefix a.input p → FeedsPatch a p o b
    → fed_files a p ≡ files_of p o b
left-only {p = p} is_prefix f = let e = feeds_patch_only f is_prefix in λ i. files_of p (sym e.0 i) (sym e.1 i)

abbrev both_files : FedFiles → List (List ℕ)
both_files w = w.output ∷ w.patch ∷ []

abbrev SliceFits : Patch × Prefix → Type 0
SliceFits x = IsPrefix x.0.input x.1

-- What Feed takes, as a function.
abbrev patch_and_slice : (patch slice : List ℕ) → Result (Patch × Prefix)
patch_and_slice patch slice = on_patch patch slice (λ a p. accepted (a, p))

feed-takes : (file slice : List ℕ) → Bytes file → Bytes slice → FeedTakes file slice (patch_and_slice file slice)
unfolding takes_slice
feed-takes file slice b c = by_patch (patch_file file) refl
  where
    by_limit : (a : Checked) (p : Prefix) → patch_file file ≡ accepted a → slice_file a.patch.input slice ≡ accepted p
        → Allowed a.patch.input a.patch.node a.output → IsPrefix a.patch.input p → (k : Bool) → held (patch_left a.patch p).totals ≡ k
        → FeedTakes file slice (go_on (require k TotalTooLarge (accepted p)) (λ q. accepted (a.patch, q)))
    by_limit a p d e w h true k = taken d e ((within_test a.patch w.types h).0 k)
    by_limit a p d e w h false k = total_passed d e (λ within. true≢false (sym ((within_test a.patch w.types h).1 within) ∙ k))

    by_slice : (a : Checked) → patch_file file ≡ accepted a → (r : Result Prefix) → slice_file a.patch.input slice ≡ r
        → FeedTakes file slice (go_on (go_on r (λ p. require (held (patch_left a.patch p).totals) TotalTooLarge (accepted p))) (λ p. accepted (a.patch, p)))
    by_slice a d (accepted p) e =
        by_limit a p d e (patch_file_sound file a b d).allowed (slice_file_sound a.patch.input slice p c e).1 (held (patch_left a.patch p).totals) refl
    by_slice a d (refused x) e = slice_refused d e

    by_patch : (r : Result Checked) → patch_file file ≡ r → FeedTakes file slice (go_on r (λ a. go_on (takes_slice a.patch slice) (λ p. accepted (a.patch, p))))
    by_patch (accepted a) d = by_slice a d (slice_file a.patch.input slice) refl
    by_patch (refused e) d = patch_refused d

-- It takes one thing only.

same_read : {A : Type 0} {a b : A} {r : Result A} → r ≡ accepted a → r ≡ accepted b → a ≡ b
same_read d e = cc

same_fault : {A : Type 0} {x y : Fault} {r : Result A} → r ≡ refused x → r ≡ refused y → x ≡ y
same_fault d e = cc

never_both : {A : Type 0} {a : A} {x : Fault} {r : Result A} → r ≡ accepted a → r ≡ refused x → ⊥
never_both d e = let z : ◌≡◌ {A = ℕ} 0 1 = cc in omega arith

-- The slice is read against the same type.
against : (slice : List ℕ) {c d : Checked} {r : Result Prefix} → c ≡ d → slice_file c.patch.input slice ≡ r → slice_file d.patch.input slice ≡ r
against slice e h = ap (λ (c : Checked). slice_file c.patch.input slice) (sym e) ∙ h

within_too : {c d : Checked} {p q : Prefix} → c ≡ d → p ≡ q → Within c.patch p → Within d.patch q
within_too e f w = rw (← e, ← f) w

pub takes_one : {patch slice : List ℕ} {r q : Result (Patch × Prefix)} → FeedTakes patch slice r → FeedTakes patch slice q → r ≡ q
takes_one {slice = slice} (patch_refused d) (patch_refused e) = ap refused (same_fault d e)
takes_one {slice = slice} (patch_refused d) (slice_refused e k) = absurd (never_both e d)
takes_one {slice = slice} (patch_refused d) (total_passed e k l) = absurd (never_both e d)
takes_one {slice = slice} (patch_refused d) (taken e k l) = absurd (never_both e d)
takes_one {slice = slice} (slice_refused d h) (patch_refused e) = absurd (never_both d e)
takes_one {slice = slice} (slice_refused d h) (slice_refused e k) = ap refused (same_fault (against slice (same_read d e) h) k)
takes_one {slice = slice} (slice_refused d h) (total_passed e k l) = absurd (never_both k (against slice (same_read d e) h))
takes_one {slice = slice} (slice_refused d h) (taken e k l) = absurd (never_both k (against slice (same_read d e) h))
takes_one {slice = slice} (total_passed d h i) (patch_refused e) = absurd (never_both d e)
takes_one {slice = slice} (total_passed d h i) (slice_refused e k) = absurd (never_both (against slice (same_read d e) h) k)
takes_one {slice = slice} (total_passed d h i) (total_passed e k l) = refl
takes_one {slice = slice} (total_passed d h i) (taken e k l) = absurd (i (within_too (same_read e d) (same_read (against slice (same_read e d) k) h) l))
takes_one {slice = slice} (taken d h i) (patch_refused e) = absurd (never_both d e)
takes_one {slice = slice} (taken d h i) (slice_refused e k) = absurd (never_both (against slice (same_read d e) h) k)
takes_one {slice = slice} (taken d h i) (total_passed e k l) = absurd (l (within_too (same_read d e) (same_read (against slice (same_read d e) h) k) i))
takes_one {slice = slice} (taken d h i) (taken e k l) =
    let c = same_read d e in
    let p = same_read (against slice (same_read d e) h) k in
    λ i. accepted ((c i).patch, p i)

-- A slice that was read for a patch is a prefix of its input type.
slice_fits : (file slice : List ℕ) → Bytes slice → (x : Patch × Prefix) → patch_and_slice file slice ≡ accepted x → SliceFits x
slice_fits file slice b x e =
    let c = go_on_accepted (patch_file file) (λ c. go_on (takes_slice c.patch slice) (λ p. accepted (c.patch, p))) x e in
    let p = go_on_accepted (takes_slice c.0.patch slice) (λ p. accepted (c.0.patch, p)) x c.2 in
    go c.0.patch p.0 p.2 (takes_sound c.0.patch slice p.0 b p.1).is_prefix
  where
    go : (a : Patch) (q : Prefix) → ◌≡◌ {A = Result (Patch × Prefix)} (accepted (a, q)) (accepted x) → IsPrefix a.input q → SliceFits x
    go a q d h = let i : ◌≡◌ {A = Patch × Prefix} (a, q) x = cc in rw (← i) h

fed-only : (x : Patch × Prefix) (files : List (List ℕ)) → SliceFits x → DueFromFeed x files → files ≡ both_files (fed_files x.0 x.1)
fed-only x files is_prefix (sent, next, rule, e) = e ∙ ap both_files (sym (left-only is_prefix rule))

module _ {output_lent patch_lent output_after patch_after : List ℕ} {answer : Fed} where
  by_both : (x : Patch × Prefix) (w : FedFiles) → SliceFits x → w ≡ fed_files x.0 x.1 → (b : Bool) → fits_both (length output_lent) (length patch_lent) w ≡ b
      → answer ≡ fed (require b NoRoom (accepted w)) → output_after ≡ after (λ v. v.output) (require b NoRoom (accepted w)) output_lent
      → patch_after ≡ after (λ v. v.patch) (require b NoRoom (accepted w)) patch_lent
      → Decided (accepted x) DueFromFeed answer.number (answer.output ∷ answer.patch ∷ [])
      (output_lent ∷ patch_lent ∷ []) (output_after ∷ patch_after ∷ [])
  unfolding fed after
  by_both x w h is true e n u v =
      is_accepted x refl (ap (λ (f : Fed). f.number) n)
      (λ files d. rw (fed-only x files h d ∙ ap both_files (sym is)) (
        (
          leb-true _ _ (and_left (leb (length w.output) (length output_lent)) _ e),
          (leb-true _ _ (and_right (leb (length w.output) (length output_lent)) _ e), tt),
        ),
        ap (λ (f : Fed). f.output ∷ f.patch ∷ []) n,
        ap₂ (λ k l. k ∷ l ∷ []) u v,
      ))
  by_both x w h is false e n u v =
      is_short x refl (ap (λ (f : Fed). f.number) n)
      (λ files d fit. short (rw (fed-only x files h d ∙ ap both_files (sym is)) at fit)) (ap₂ (λ k l. k ∷ l ∷ []) u v)
    where
      short : RoomFor (both_files w) (output_lent ∷ patch_lent ∷ []) → ⊥
      short fit = true≢false (sym (both_fit w fit.0 fit.1.0) ∙ e)

  fed_decided : (read : Result (Patch × Prefix)) → ((x : Patch × Prefix) → read ≡ accepted x → SliceFits x) → (o : Result FedFiles) → o ≡ go_on read (λ x. accepted (fed_files x.0 x.1))
      → answer ≡ fed (into_both output_lent patch_lent o)
      → output_after ≡ after (λ w. w.output) (into_both output_lent patch_lent o) output_lent
      → patch_after ≡ after (λ w. w.patch) (into_both output_lent patch_lent o) patch_lent
      → Decided read DueFromFeed answer.number (answer.output ∷ answer.patch ∷ []) (output_lent ∷ patch_lent ∷ []) (output_after ∷ patch_after ∷ [])
  unfolding with_room fed after
  fed_decided (accepted x) fits o e n u v =
      by_both x (fed_files x.0 x.1) (fits x refl) refl (fits_both (length output_lent) (length patch_lent) (fed_files x.0 x.1)) refl
      (rw e at n) (rw e at u) (rw e at v)
  fed_decided (refused f) fits o e n u v =
      is_refused f refl (ap (λ (w : Fed). w.number) (rw e at n)) (ap₂ (λ k l. k ∷ l ∷ []) (rw e at u) (rw e at v))

pub feed_decided : {file slice output_lent patch_lent output_after patch_after : List ℕ} {answer : Fed}
    → FeedPromise file slice output_lent patch_lent answer output_after patch_after → Bytes file → Bytes slice
    → (read : Result (Patch × Prefix)) × FeedTakes file slice read × Decided read DueFromFeed answer.number (answer.output ∷ answer.patch ∷ [])
    (output_lent ∷ patch_lent ∷ []) (output_after ∷ patch_after ∷ [])
unfolding feed
feed_decided {file} {slice} call file_bytes bytes = (
  patch_and_slice file slice,
  feed-takes file slice file_bytes bytes,
  fed_decided (patch_and_slice file slice) (slice_fits file slice bytes) (feed file slice)
      (both_read (patch_file file) (λ c. takes_slice c.patch slice) (λ c. c.patch) (λ a p. accepted (fed_files a p)))
      call.answers call.output_buffer call.patch_buffer,
)
