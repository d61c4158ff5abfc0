-- The answers, by the trees that the files hold: what the operations write, how long it is, and when they refuse.
use Rattle.std.specs.Prelude.{◌≡◌, refl, ◌↔◌, Bool, true, false, List, [], ◌∷◌, ◌++◌, ℕ, ◌+◌, ◌*◌, ◌/◌, ◌%◌, ◌≤◌, length}
use Rattle.std.proofs.Common.{sym, ap, ◌∙◌, true≢false, append-nil, arith, le_trans, le-leb}
use Rattle.std.proofs.Math.Seq.{take-append_seam}
use Rattle.stream.specs.declared.Fault.{Fault}
use Rattle.stream.specs.declared.Fault.TheVariants.{CutShort, Unlisted, LeftOver, TypeTooLarge, TooManyNodes, NotNullable, WrongShape, SliceCutShort, SliceUnlisted, SliceLeftOver, SliceMisplaced, NoRoom, OutputsDiffer, TotalTooLarge}
use Rattle.stream.specs.Bounds.{type_file_limit, slice_file_limit, patch_file_limit}
use Rattle.stream.specs.Faults.{number, type_numbers, slice_numbers, patch_numbers, Listed, contains}
use Rattle.stream.specs.Types.{Ty, par, Small}
use Rattle.stream.proofs.Types.Laws.{and_both}
use Rattle.stream.specs.Prefixes.{Prefix, beside, IsPrefix, of_beside, empty_prefix, derivative, Concat}
use Rattle.stream.specs.Prefixes.Functions.{concat}
use Rattle.stream.proofs.Prefixes.Laws.{derivative-size, concat_is_prefix, empty_prefix_is_prefix, left_lane_first, right_lane_first, right_lane_after, left_lane_after, concat-only, concats}
use Rattle.stream.specs.Reading.{Bytes, Result, accepted, refused, IsAccepted, go_on, require, section_bytes}
use Rattle.stream.proofs.Reading.Laws.{bytes_nil, go_on_accepted, require_accepted}
use Rattle.stream.proofs.Reading.Refusals.{Refusals, go_on_refusals, require_refusals, refusals_too, listed_first, listed_second}
use Rattle.stream.specs.TypeFiles.{type_bytes, type_file, type_file_bytes, TypeFile}
use Rattle.stream.proofs.TypeFiles.Laws.{type_file-complete, type_file_sound, type_file_length, type_section_is_bytes, type_file_accepted, type_file_refusals}
use Rattle.stream.specs.SliceFiles.{slice_file, slice_file_bytes, SliceFile}
use Rattle.stream.proofs.SliceFiles.Laws.{prefix_short, slice_file-complete, slice_file_sound, slice_file_length, slice_file_is_bytes, slice_file_refusals}
use Rattle.stream.specs.Longest.{longest_prefix}
use Rattle.stream.proofs.Longest.Laws.{longest_prefix_is_prefix}
use Rattle.node.specs.Totals.{Totals, Held, held, totals_bytes}
use Rattle.node.proofs.Totals.Laws.{held_test}
use Rattle.node.specs.Nodes.{Node, Allowed, Patch, patch_of}
use Rattle.node.proofs.Nodes.Laws.{output_small, allowed_fits}
use Rattle.node.specs.Feeding.{Within}
use Rattle.node.specs.Feeding.Functions.{patch_left}
use Rattle.node.proofs.Feeding.Laws.{preserved, leaves_allowed}
use Rattle.node.proofs.Feeding.Patches.{within_test}
use Rattle.node.specs.PatchFiles.{Checked, node_bytes, patch_file, patch_file_bytes, PatchFile}
use Rattle.node.proofs.PatchFiles.Laws.{patch_file-complete, patch_file_sound, patch_file_accepted, patch_file_length, patch_file_is_bytes, patch_file_refusals}
use Rattle.meaning.specs.Answers.{takes_slice, number_of, check, admit, left, join, FedFiles, feed, longest, with_room, fits_both, admit_numbers, feed_numbers, first_section, fed_files}

-- No refusal has the number 0, and none has more than two digits.
pub number_bounds : (e : Fault) → (1 ≤ number e) × (number e ≤ 99)
number_bounds CutShort = (omega arith, omega arith)
number_bounds Unlisted = (omega arith, omega arith)
number_bounds LeftOver = (omega arith, omega arith)
number_bounds TypeTooLarge = (omega arith, omega arith)
number_bounds TooManyNodes = (omega arith, omega arith)
number_bounds NotNullable = (omega arith, omega arith)
number_bounds WrongShape = (omega arith, omega arith)
number_bounds SliceCutShort = (omega arith, omega arith)
number_bounds SliceUnlisted = (omega arith, omega arith)
number_bounds SliceLeftOver = (omega arith, omega arith)
number_bounds SliceMisplaced = (omega arith, omega arith)
number_bounds NoRoom = (omega arith, omega arith)
number_bounds OutputsDiffer = (omega arith, omega arith)
number_bounds TotalTooLarge = (omega arith, omega arith)

pub number_positive : (e : Fault) → 1 ≤ number e
number_positive e = (number_bounds e).0

-- No refusal of a slice has the number 31.
slice_not_31 : (e : Fault) → Listed slice_numbers e → number e ≡ 31 → ⊥
slice_not_31 e h d = true≢false (sym h ∙ ap (contains slice_numbers) d)

-- What the operations make of files that the rules allow

pub check_answers : {s t : Ty} {n : Node} {c : Totals} → Allowed s n t → Held c → check (patch_file_bytes (patch_of s n c)) ≡ accepted (type_file_bytes t)
unfolding check
check_answers a h = rw (patch_file-complete a h)

pub admit_answers : {t : Ty} {p : Prefix} → Small t → IsPrefix t p → admit (type_file_bytes t) (slice_file_bytes p) ≡ accepted p
unfolding admit
admit_answers {t} w h = rw (type_file-complete t w) (rw (slice_file-complete h (prefix_short h w)))

pub left_answers : {t : Ty} {p : Prefix} → Small t → IsPrefix t p
    → left (type_file_bytes t) (slice_file_bytes p) ≡ accepted (type_file_bytes (derivative t p))
unfolding left
left_answers {t} w h = rw (type_file-complete t w) (rw (slice_file-complete h (prefix_short h w)))

pub join_answers : {t : Ty} {p : Prefix} (q : Prefix) → Small t → IsPrefix t p → IsPrefix (derivative t p) q
    → join (type_file_bytes t) (slice_file_bytes p) (slice_file_bytes q) ≡ accepted (slice_file_bytes (concat p q))
unfolding join
join_answers {t} q w h k =
    rw (type_file-complete t w)
    (rw (slice_file-complete h (prefix_short h w)) (rw (slice_file-complete k (prefix_short k (le_trans (derivative-size h) w)))))

-- Two lanes side by side join to the same slice, whichever comes first.
pub lanes_join : {s t : Ty} {p q : Prefix} → Small (par s t) → IsPrefix s p → IsPrefix t q
    → (let type = type_file_bytes (par s t) in
    (join type (slice_file_bytes (beside p (empty_prefix t))) (slice_file_bytes (beside (empty_prefix (derivative s p)) q))
    ≡ accepted (slice_file_bytes (beside p q)))
    × (join type (slice_file_bytes (beside (empty_prefix s) q)) (slice_file_bytes (beside p (empty_prefix (derivative t q))))
    ≡ accepted (slice_file_bytes (beside p q))))
lanes_join {s} {t} w h k = (
  join_answers _ w (of_beside h (empty_prefix_is_prefix t)) (right_lane_after h k) ∙ ap (λ x. accepted (slice_file_bytes x)) (left_lane_first h k),
  join_answers _ w (of_beside (empty_prefix_is_prefix s) k) (left_lane_after h k) ∙ ap (λ x. accepted (slice_file_bytes x)) (right_lane_first h k),
)

-- Feed on an allowed patch is decided by the slice.
pub feed_of_patch : (a : Patch) {t : Ty} (slice : List ℕ) → Allowed a.input a.node t → Held a.totals
    → feed (patch_file_bytes a) slice ≡ go_on (takes_slice a slice) (λ p. accepted (fed_files a p))
unfolding feed
feed_of_patch a slice w c = rw (patch_file-complete w c)

-- A slice is taken exactly if it is a prefix of the input type and within the limits.

slice_taken : (a : Patch) {t : Ty} {p : Prefix} → Allowed a.input a.node t → IsPrefix a.input p → Within a p
    → takes_slice a (slice_file_bytes p) ≡ accepted p
unfolding takes_slice
slice_taken a w h k = rw (slice_file-complete h (prefix_short h w.input_small)) (rw ((within_test a w.types h).1 k))

pub record TakenSlice (a : Patch) (slice : List ℕ) (p : Prefix) : Type 0 where
  pub is_prefix : IsPrefix a.input p
  pub bytes : slice_file_bytes p ≡ slice
  pub held : Held (patch_left a p).totals

pub takes_sound : (a : Patch) (slice : List ℕ) (p : Prefix) → Bytes slice → takes_slice a slice ≡ accepted p → TakenSlice a slice p
unfolding takes_slice
takes_sound a slice p b e =
    let x = go_on_accepted (slice_file a.input slice) (λ q. require (held (patch_left a q).totals) TotalTooLarge (accepted q)) p e in
    let y = require_accepted (held (patch_left a x.0).totals) TotalTooLarge (accepted x.0) p x.2 in
    let z = slice_file_sound a.input slice x.0 b x.1 in
    let d : x.0 ≡ p = let i = y.1 in cc in
    rw (← d) (record { is_prefix = z.1; bytes = z.0; held = (held_test (patch_left a x.0).totals).0 y.0 })

pub feed_answers : (a : Patch) {t : Ty} {p : Prefix} → Allowed a.input a.node t → Held a.totals → IsPrefix a.input p → Within a p
    → feed (patch_file_bytes a) (slice_file_bytes p) ≡ accepted (fed_files a p)
feed_answers a {p = p} w c h k = feed_of_patch a (slice_file_bytes p) w c ∙ ap (λ r. go_on r (λ q. accepted (fed_files a q))) (slice_taken a w h k)

-- What Feed wrote for an allowed patch: the slice was taken, and the files are those of the rules.
pub record FedPiece (a : Patch) (slice : List ℕ) (w : FedFiles) : Type 0 where
  pub prefix : Prefix
  pub taken : TakenSlice a slice prefix
  pub files : fed_files a prefix ≡ w

pub fed_piece : (a : Patch) {t : Ty} (slice : List ℕ) (w : FedFiles) → Allowed a.input a.node t → Held a.totals → Bytes slice
    → feed (patch_file_bytes a) slice ≡ accepted w → FedPiece a slice w
fed_piece a slice w allowed c b e =
    let x = go_on_accepted (takes_slice a slice) (λ p. accepted (fed_files a p)) w (sym (feed_of_patch a slice allowed c) ∙ e) in
    record { prefix = x.0; taken = takes_sound a slice x.0 b x.1; files = let d = x.2 in cc }

pub longest_answers : (t : Ty) → Small t → longest (type_file_bytes t) ≡ accepted (slice_file_bytes (longest_prefix t))
unfolding longest
longest_answers t w = rw (type_file-complete t w)

-- What is accepted, 20 aside

pub patch_checked : {file : List ℕ} → PatchFile file → IsAccepted (check file)
patch_checked f = (_, rw f.bytes at (check_answers f.allowed f.held))

pub check_accepted : (patch : List ℕ) → Bytes patch → IsAccepted (check patch) ↔ PatchFile patch
unfolding check
check_accepted patch b = (
  (λ a. let x = go_on_accepted (patch_file patch) (λ c. accepted (type_file_bytes c.output)) a.0 a.1 in
      (patch_file_accepted patch b).0 (x.0, x.1)),
  (λ f. patch_checked f),
)

-- A call on a type file and a slice file that is accepted: the files, and what was made of them.
record TypeAndSlice {A : Type 0} (type slice : List ℕ) (f : Ty → Prefix → Result A) (a : A) : Type 0 where
  typed : TypeFile type
  sliced : SliceFile typed.type slice
  made : f typed.type sliced.prefix ≡ accepted a

type_and_slice : {A : Type 0} (type slice : List ℕ) (f : Ty → Prefix → Result A) (a : A) → Bytes type → Bytes slice
    → go_on (type_file type) (λ t. go_on (slice_file t slice) (λ p. f t p)) ≡ accepted a → TypeAndSlice type slice f a
type_and_slice type slice f a b c e =
    let x = go_on_accepted (type_file type) (λ t. go_on (slice_file t slice) (λ p. f t p)) a e in
    let y = go_on_accepted (slice_file x.0 slice) (λ p. f x.0 p) a x.2 in
    let t = type_file_sound type x.0 b x.1 in
    let p = slice_file_sound x.0 slice y.0 c y.1 in
    record {
      typed = record { type = x.0; small = t.1; bytes = t.0 };
      sliced = record { prefix = y.0; is_prefix = p.1; bytes = p.0 };
      made = y.2;
    }

pub admit_accepted : (type slice : List ℕ) → Bytes type → Bytes slice
    → IsAccepted (admit type slice) ↔ ((t : TypeFile type) × SliceFile t.type slice)
unfolding admit
admit_accepted type slice b c = (
  (λ a. let x = type_and_slice type slice (λ t p. accepted p) a.0 b c a.1 in (x.typed, x.sliced)),
  (λ x. let t = x.0 in let p = x.1 in
      (p.prefix, rw (t.bytes, p.bytes) at (admit_answers t.small p.is_prefix))),
)

pub feed_accepted : {patch : List ℕ} (slice : List ℕ) (f : PatchFile patch) → Bytes slice
    → IsAccepted (feed patch slice) ↔ ((p : SliceFile f.trees.input slice) × Within f.trees p.prefix)
feed_accepted slice f b = rw (← f.bytes) (go f.trees f.output f.allowed f.held)
  where
    go : (a : Patch) (t : Ty) → Allowed a.input a.node t → Held a.totals
        → IsAccepted (feed (patch_file_bytes a) slice) ↔ ((p : SliceFile a.input slice) × Within a p.prefix)
    go a t w c = (
      (λ e. let x = fed_piece a slice e.0 w c b e.1 in
          let p = x.taken in (
            record { prefix = x.prefix; is_prefix = p.is_prefix; bytes = p.bytes },
            (within_test a w.types p.is_prefix).0 ((held_test (patch_left a x.prefix).totals).1 p.held),
          )),
      (λ (p, k). (_, rw p.bytes at (feed_answers a w c p.is_prefix k))),
    )

read_as : {t : Ty} {slice : List ℕ} → Small t → (q : SliceFile t slice) → slice_file t slice ≡ accepted q.prefix
read_as w q = rw q.bytes at (slice_file-complete q.is_prefix (prefix_short q.is_prefix w))

-- 31 is due exactly for a prefix that is not within the limits.
pub feed_passed : {patch : List ℕ} (slice : List ℕ) (f : PatchFile patch) → Bytes slice
    → number_of (feed patch slice) ≡ 31 ↔ ((p : SliceFile f.trees.input slice) × (Within f.trees p.prefix → ⊥))
unfolding takes_slice
feed_passed slice f b = rw (← f.bytes) (go f.trees f.output f.allowed f.held)
  where
    by_limit : (a : Patch) {t : Ty} (p : SliceFile a.input slice) (k : Bool) → held (patch_left a p.prefix).totals ≡ k
        → Allowed a.input a.node t
        → number_of (go_on (require k TotalTooLarge (accepted p.prefix)) (λ q. accepted (fed_files a q))) ≡ 31 ↔ (Within a p.prefix → ⊥)
    by_limit a p true e w = (
      (λ h. absurd (omega arith)),
      (λ passed. absurd (passed ((within_test a w.types p.is_prefix).0 e))),
    )
    by_limit a p false e w = (
      (λ h k. true≢false (sym ((within_test a w.types p.is_prefix).1 k) ∙ e)),
      (λ passed. refl),
    )

    by_slice : (a : Patch) {t : Ty} → Allowed a.input a.node t → (r : Result Prefix) → slice_file a.input slice ≡ r
        → number_of (go_on (go_on r (λ p. require (held (patch_left a p).totals) TotalTooLarge (accepted p))) (λ q. accepted (fed_files a q))) ≡ 31
        ↔ ((p : SliceFile a.input slice) × (Within a p.prefix → ⊥))
    by_slice a w (accepted p) e =
        let z = slice_file_sound a.input slice p b e in
        let file : SliceFile a.input slice = record { prefix = p; is_prefix = z.1; bytes = z.0 } in
        let i = by_limit a file (held (patch_left a p).totals) refl w in (
          (λ h. (file, i.0 h)),
          (λ (q, passed). let same : q.prefix ≡ p = let d = read_as w.input_small q in cc in
              i.1 (λ k. passed (rw same k))),
        )
    by_slice a w (refused x) e = (
      (λ h. absurd (slice_not_31 x (rw e at (slice_file_refusals a.input slice)) h)),
      (λ (q, passed). let z : ◌≡◌ {A = ℕ} 0 1 = let d = read_as w.input_small q in cc in absurd (omega arith)),
    )

    go : (a : Patch) (t : Ty) → Allowed a.input a.node t → Held a.totals
        → number_of (feed (patch_file_bytes a) slice) ≡ 31 ↔ ((p : SliceFile a.input slice) × (Within a p.prefix → ⊥))
    go a t w c = rw (feed_of_patch a slice w c) (by_slice a w (slice_file a.input slice) refl)

pub left_accepted : (type slice : List ℕ) → Bytes type → Bytes slice
    → IsAccepted (left type slice) ↔ ((t : TypeFile type) × SliceFile t.type slice)
unfolding left
left_accepted type slice b c = (
  (λ a. let x = type_and_slice type slice (λ t p. accepted (type_file_bytes (derivative t p))) a.0 b c a.1 in (x.typed, x.sliced)),
  (λ x. let t = x.0 in let p = x.1 in (_, rw (t.bytes, p.bytes) at (left_answers t.small p.is_prefix))),
)

-- Join of files that are what they should be.
pub joins : {type first second : List ℕ} {both : Prefix} (t : TypeFile type) (p : SliceFile t.type first)
    (q : SliceFile (derivative t.type p.prefix) second) → Concat p.prefix q.prefix both
    → join type first second ≡ accepted (slice_file_bytes both)
joins t p q c =
    rw (t.bytes, p.bytes, q.bytes) at (join_answers q.prefix t.small p.is_prefix q.is_prefix)
    ∙ ap (λ x. accepted (slice_file_bytes x)) (concat-only c)

pub join_accepted : (type first second : List ℕ) → Bytes type → Bytes first → Bytes second
    → IsAccepted (join type first second)
    ↔ ((t : TypeFile type) × (p : SliceFile t.type first) × SliceFile (derivative t.type p.prefix) second)
unfolding join
join_accepted type first second b c d = (
  (λ a. let x = type_and_slice type first (λ t p. go_on (slice_file (derivative t p) second) (λ q. accepted (slice_file_bytes (concat p q)))) a.0 b c a.1 in
      let t = x.typed.type in
      let p = x.sliced.prefix in
      let y = go_on_accepted (slice_file (derivative t p) second) (λ q. accepted (slice_file_bytes (concat p q))) a.0 x.made in
      let q = slice_file_sound (derivative t p) second y.0 d y.1 in
      (x.typed, x.sliced, record { prefix = y.0; is_prefix = q.1; bytes = q.0 })),
  (λ x. (_, joins x.0 x.1 x.2 (concats _ x.1.is_prefix x.2.is_prefix))),
)

-- Longest of a type file.
pub longest_of : {type : List ℕ} (t : TypeFile type) → longest type ≡ accepted (slice_file_bytes (longest_prefix t.type))
longest_of t = rw t.bytes at (longest_answers t.type t.small)

pub longest_accepted : (type : List ℕ) → Bytes type → IsAccepted (longest type) ↔ TypeFile type
unfolding longest
longest_accepted type b = (
  (λ a. let x = go_on_accepted (type_file type) (λ t. accepted (slice_file_bytes (longest_prefix t))) a.0 a.1 in
      (type_file_accepted type b).0 (x.0, x.1)),
  (λ t. (_, longest_of t)),
)

-- What Check refuses, Feed refuses too, whatever the slice.
pub check_refused_feed : (patch slice : List ℕ) {e : Fault} → check patch ≡ refused e → feed patch slice ≡ refused e
unfolding check feed
check_refused_feed patch slice {e} d = go (patch_file patch) d
  where
    go : (r : Result Checked) → go_on r (λ c. accepted (type_file_bytes c.output)) ≡ refused e
        → go_on r (λ c. go_on (takes_slice c.patch slice) (λ p. accepted (fed_files c.patch p))) ≡ refused e
    go (accepted c) h = let z : ◌≡◌ {A = ℕ} 0 1 = cc in absurd (omega arith)
    go (refused x) h = let z : x ≡ e = cc in ap (λ y. refused y) z

-- Room

module _ {A : Type 0} (fits : A → Bool) where
  pub enough_room : {a : A} (r : Result A) → r ≡ accepted a → fits a ≡ true → with_room fits r ≡ accepted a
  unfolding with_room
  enough_room r e h = rw (e, h)

  -- What is accepted with room taken in is what the call has to write, and it fits.
  pub room_accepted : (r : Result A) (a : A) → with_room fits r ≡ accepted a → (r ≡ accepted a) × (fits a ≡ true)
  unfolding with_room
  room_accepted r a e =
      let x = go_on_accepted r (λ b. require (fits b) NoRoom (accepted b)) a e in
      let y = require_accepted (fits x.0) NoRoom (accepted x.0) a x.2 in
      let z : x.0 ≡ a = let d = y.1 in cc in
      (x.1 ∙ y.1, rw (← z) y.0)

  pub room_refusals : (P : Fault → Type 0) (r : Result A) → P NoRoom → Refusals P r → Refusals P (with_room fits r)
  unfolding with_room
  room_refusals P r n h = go_on_refusals P r _ h (λ a. require_refusals P (fits a) NoRoom (accepted a) n tt)

pub both_fit : {output left : ℕ} (w : FedFiles) → length w.output ≤ output → length w.patch ≤ left → fits_both output left w ≡ true
both_fit w h k = and_both (le-leb _ _ h) (le-leb _ _ k)

-- The refusals of each operation: each has one of the numbers ns, and 20 is not among them.

pub record Refuses {A : Type 0} (ns : List ℕ) (r : Result A) : Type 0 where
  pub only : Refusals (Listed ns) r
  pub not_20 : contains ns 20 ≡ false

pub check_refuses : (patch : List ℕ) → Refuses patch_numbers (check patch)
unfolding check
check_refuses patch =
    record { only = go_on_refusals (Listed patch_numbers) (patch_file patch) _ (patch_file_refusals patch) (λ c. tt); not_20 = refl }

-- A slice after something else with the numbers ns.
then_slice : (ns : List ℕ) {A : Type 0} (t : Ty) (slice : List ℕ) (f : Prefix → Result A) → ((p : Prefix) → Refusals (Listed (ns ++ slice_numbers)) (f p))
    → Refusals (Listed (ns ++ slice_numbers)) (go_on (slice_file t slice) f)
then_slice ns t slice f h =
    go_on_refusals (Listed (ns ++ slice_numbers)) (slice_file t slice) f
    (refusals_too (listed_second ns slice_numbers) (slice_file t slice) (slice_file_refusals t slice)) h

after_type : {A : Type 0} (type : List ℕ) (f : Ty → Result A) → ((t : Ty) → Refusals (Listed admit_numbers) (f t))
    → Refusals (Listed admit_numbers) (go_on (type_file type) f)
after_type type f h =
    go_on_refusals (Listed admit_numbers) (type_file type) f
    (refusals_too (listed_first type_numbers slice_numbers) (type_file type) (type_file_refusals type)) h

pub admit_refuses : (type slice : List ℕ) → Refuses admit_numbers (admit type slice)
unfolding admit
admit_refuses type slice = record { only = after_type type _ (λ t. then_slice type_numbers t slice _ (λ p. tt)); not_20 = refl }

pub left_refuses : (type slice : List ℕ) → Refuses admit_numbers (left type slice)
unfolding left
left_refuses type slice = record { only = after_type type _ (λ t. then_slice type_numbers t slice _ (λ p. tt)); not_20 = refl }

pub join_refuses : (type first second : List ℕ) → Refuses admit_numbers (join type first second)
unfolding join
join_refuses type first second =
    record {
      only = after_type type _ (λ t. then_slice type_numbers t first _ (λ p. then_slice type_numbers (derivative t p) second _ (λ q. tt)));
      not_20 = refl;
    }

before_31 : (e : Fault) → Listed (patch_numbers ++ slice_numbers) e → Listed feed_numbers e
before_31 e h = listed_first (patch_numbers ++ slice_numbers) (31 ∷ []) e h

takes_refusals : (a : Patch) (slice : List ℕ) → Refusals (Listed feed_numbers) (takes_slice a slice)
unfolding takes_slice
takes_refusals a slice =
    go_on_refusals (Listed feed_numbers) (slice_file a.input slice) _
    (refusals_too before_31 (slice_file a.input slice)
    (refusals_too (listed_second patch_numbers slice_numbers) (slice_file a.input slice) (slice_file_refusals a.input slice)))
    (λ p. require_refusals (Listed feed_numbers) (held (patch_left a p).totals) TotalTooLarge (accepted p) refl tt)

pub feed_refuses : (patch slice : List ℕ) → Refuses feed_numbers (feed patch slice)
unfolding feed
feed_refuses patch slice =
    record {
      only = go_on_refusals (Listed feed_numbers) (patch_file patch) _
          (refusals_too before_31 (patch_file patch)
          (refusals_too (listed_first patch_numbers slice_numbers) (patch_file patch) (patch_file_refusals patch)))
          (λ c. go_on_refusals (Listed feed_numbers) (takes_slice c.patch slice) _ (takes_refusals c.patch slice) (λ p. tt));
      not_20 = refl;
    }

pub longest_refuses : (type : List ℕ) → Refuses type_numbers (longest type)
unfolding longest
longest_refuses type =
    record { only = go_on_refusals (Listed type_numbers) (type_file type) _ (type_file_refusals type) (λ t. tt); not_20 = refl }

-- What the operations write: no file is longer than n, and all are bytes.

pub record Sized (n : ℕ) (file : List ℕ) : Type 0 where
  pub short : length file ≤ n
  pub bytes : Bytes file

type_sized : (t : Ty) → Small t → Sized type_file_limit (type_file_bytes t)
unfolding type_file_bytes
type_sized t w = record { short = type_file_length t w; bytes = type_section_is_bytes t [] w bytes_nil }

slice_sized : {t : Ty} {p : Prefix} → IsPrefix t p → Small t → Sized slice_file_limit (slice_file_bytes p)
slice_sized {p = p} h w = let s = prefix_short h w in record { short = slice_file_length p s; bytes = slice_file_is_bytes h s }

patch_sized : {s t : Ty} {n : Node} (c : Totals) → Allowed s n t → Sized patch_file_limit (patch_file_bytes (patch_of s n c))
patch_sized c a = record { short = patch_file_length c a; bytes = patch_file_is_bytes c a }

pub record WritesSized (n : ℕ) (r : Result (List ℕ)) : Type 0 where
  pub sized : (file : List ℕ) → r ≡ accepted file → Sized n file

check_file : (patch file : List ℕ) → Bytes patch → check patch ≡ accepted file → Sized type_file_limit file
unfolding check
check_file patch file b e =
    let x = go_on_accepted (patch_file patch) (λ c. accepted (type_file_bytes c.output)) file e in
    let a = (patch_file_sound patch x.0 b x.1).allowed in
    let d : type_file_bytes x.0.output ≡ file = let y = x.2 in cc in
    rw (← d) (type_sized x.0.output (output_small a.types (allowed_fits a)))

pub check_sized : (patch : List ℕ) → Bytes patch → WritesSized type_file_limit (check patch)
check_sized patch b = record { sized = λ file e. check_file patch file b e }

left_file : (type slice file : List ℕ) → Bytes type → Bytes slice → left type slice ≡ accepted file → Sized type_file_limit file
unfolding left
left_file type slice file b c e =
    let x = type_and_slice type slice (λ t p. accepted (type_file_bytes (derivative t p))) file b c e in
    let t = x.typed.type in
    let p = x.sliced.prefix in
    let d : type_file_bytes (derivative t p) ≡ file = let z = x.made in cc in
    rw (← d) (type_sized (derivative t p) (le_trans (derivative-size x.sliced.is_prefix) x.typed.small))

pub left_sized : (type slice : List ℕ) → Bytes type → Bytes slice → WritesSized type_file_limit (left type slice)
left_sized type slice b c = record { sized = λ file e. left_file type slice file b c e }

joined_file : {t : Ty} {p : Prefix} (second file : List ℕ) → Small t → IsPrefix t p → Bytes second
    → go_on (slice_file (derivative t p) second) (λ q. accepted (slice_file_bytes (concat p q))) ≡ accepted file → Sized slice_file_limit file
joined_file {t} {p} second file w h b e =
    let x = go_on_accepted (slice_file (derivative t p) second) (λ q. accepted (slice_file_bytes (concat p q))) file e in
    let k = (slice_file_sound (derivative t p) second x.0 b x.1).1 in
    let d : slice_file_bytes (concat p x.0) ≡ file = let z = x.2 in cc in
    rw (← d) (slice_sized (concat_is_prefix x.0 h k) w)

join_file : (type first second file : List ℕ) → Bytes type → Bytes first → Bytes second → join type first second ≡ accepted file → Sized slice_file_limit file
unfolding join
join_file type first second file b c o e =
    let x = type_and_slice type first (λ t p. go_on (slice_file (derivative t p) second) (λ q. accepted (slice_file_bytes (concat p q)))) file b c e in
    joined_file second file x.typed.small x.sliced.is_prefix o x.made

pub join_sized : (type first second : List ℕ) → Bytes type → Bytes first → Bytes second → WritesSized slice_file_limit (join type first second)
join_sized type first second b c d = record { sized = λ file e. join_file type first second file b c d e }

longest_file : (type file : List ℕ) → Bytes type → longest type ≡ accepted file → Sized slice_file_limit file
longest_file type file b e =
    let t = (longest_accepted type b).0 (file, e) in
    let d : slice_file_bytes (longest_prefix t.type) ≡ file = let z = longest_of t in cc in
    rw (← d) (slice_sized (longest_prefix_is_prefix t.type) t.small)

pub longest_sized : (type : List ℕ) → Bytes type → WritesSized slice_file_limit (longest type)
longest_sized type b = record { sized = λ file e. longest_file type file b e }

pub record FedSized (w : FedFiles) : Type 0 where
  pub output : Sized slice_file_limit w.output
  pub patch : Sized patch_file_limit w.patch

pub record FeedsSized (r : Result FedFiles) : Type 0 where
  pub sized : (w : FedFiles) → r ≡ accepted w → FedSized w

pub feed_sized : {patch : List ℕ} (slice : List ℕ) → PatchFile patch → Bytes slice → FeedsSized (feed patch slice)
feed_sized slice f b = record { sized = λ w e. go f.trees w f.output f.allowed f.held (rw (← f.bytes) at e) }
  where
    go : (a : Patch) (w : FedFiles) (t : Ty) → Allowed a.input a.node t → Held a.totals → feed (patch_file_bytes a) slice ≡ accepted w → FedSized w
    go a w t allowed c e =
        let x = fed_piece a slice w allowed c b e in
        let h = x.taken.is_prefix in
        rw (← x.files) (record {
          output = slice_sized (preserved allowed.types h).sent (output_small allowed.types (allowed_fits allowed));
          patch = patch_sized (patch_left a x.prefix).totals (leaves_allowed allowed h);
        })

-- An accepted feed was of a patch file.
pub fed_patch : (patch slice : List ℕ) (w : FedFiles) → Bytes patch → feed patch slice ≡ accepted w → PatchFile patch
unfolding feed
fed_patch patch slice w b e =
    let x = go_on_accepted (patch_file patch) (λ c. go_on (takes_slice c.patch slice) (λ p. accepted (fed_files c.patch p))) w e in
    (patch_file_accepted patch b).0 (x.0, x.1)

pub feed_sized_of_bytes : (patch slice : List ℕ) → Bytes patch → Bytes slice → FeedsSized (feed patch slice)
feed_sized_of_bytes patch slice b c = record { sized = λ w e. (feed_sized slice (fed_patch patch slice w b e) c).sized w e }

-- Feed accepts exactly a patch file with a slice file of its input type that is within the limits.
pub feed_accepted_of_bytes : (patch slice : List ℕ) → Bytes patch → Bytes slice
    → IsAccepted (feed patch slice) ↔ ((f : PatchFile patch) × (p : SliceFile f.trees.input slice) × Within f.trees p.prefix)
feed_accepted_of_bytes patch slice b c = (
  (λ a. let f = fed_patch patch slice a.0 b a.1 in
      let p = (feed_accepted slice f c).0 a in (f, p.0, p.1)),
  (λ (f, p, k). (feed_accepted slice f c).1 (p, k)),
)

-- The first section of a file that begins with one, and of a patch file.

pub first_section_of : (body r : List ℕ) → first_section (section_bytes body r) ≡ section_bytes body []
unfolding first_section section_bytes
first_section_of body r =
    let e : length body / 256 * 256 + length body % 256 ≡ length body = omega arith in
    rw (e, take-append_seam body r, append-nil body)

pub first_section_of_patch : (a : Patch) → first_section (patch_file_bytes a) ≡ type_file_bytes a.input
unfolding patch_file_bytes type_file_bytes
first_section_of_patch a =
    first_section_of (type_bytes a.input []) (section_bytes (node_bytes a.node []) (section_bytes (totals_bytes a.totals []) []))
