-- Whether a prefix opens a node that waits, by its bytes: it does at the first kind that brings something. If there is none, each byte is a
-- kind, and the prefix is complete if none of them is unfinished.
use Rattle.std.specs.Prelude.{◌≡◌, refl, Bool, true, false, ◌&&◌, ◌||◌, not, cond, List, [], ℕ, ◌+◌, ◌≤◌, ◌<◌, length, get_or, drop}
use Rattle.std.proofs.Common.{sym, ap, ◌∙◌, add-one, drop_of_length-le}
use Rattle.std.proofs.Math.Seq.{drop-cons}
use Rattle.stream.specs.Prefixes.{Prefix, nothing, cue_awaited, cue_come, level_awaited, level_come, in_first, crossed, beside, none_chosen, first_chosen, second_chosen}
use Rattle.stream.specs.Prefixes.Functions.{complete, brings_nothing, opens}
use Rattle.stream.specs.SliceFiles.{prefix_bytes}
use Rattle.reading.specs.SliceReads.{is_unfinished, kind_brings_nothing}
use Rattle.reading.specs.PrefixBytes.{OpensBy}
use Rattle.reading.specs.Scans.{scan_opens}

-- One byte after the other comes to its turn.

pub scan_step : (u : Bool) (s : List ℕ) (i : ℕ) → i < length s
    → scan_opens u (drop i s) ≡ cond (kind_brings_nothing (get_or s i 0)) (scan_opens (u || is_unfinished (get_or s i 0)) (drop (i + 1) s)) true
scan_step u s i h = rw (add-one, drop-cons s i 0 h)

pub scan_done : (u : Bool) (s : List ℕ) (i : ℕ) → length s ≤ i → scan_opens u (drop i s) ≡ not u
scan_done u s i h = rw (drop_of_length-le s h)

-- A prefix that brings something decides; of one that does not is told on whether it was complete.

once_unfinished : (u b : Bool) → (u || true) || b ≡ u || true
once_unfinished true b = refl
once_unfinished false b = refl

both_complete : (u a b : Bool) → ((u || false) || not a) || not b ≡ u || not (a && b)
both_complete true a b = refl
both_complete false true b = refl
both_complete false false b = refl

either_brings : (a b u : Bool) → cond a (cond b u true) true ≡ cond (a && b) u true
either_brings true b u = refl
either_brings false b u = refl

scanned : (u : Bool) (p : Prefix) (r : List ℕ)
    → scan_opens u (prefix_bytes p r) ≡ cond (brings_nothing p) (scan_opens (u || not (complete p)) r) true
unfolding prefix_bytes brings_nothing complete
scanned u nothing r = refl
scanned u cue_awaited r = refl
scanned u cue_come r = refl
scanned u level_awaited r = refl
scanned u (level_come v) r = refl
scanned u (in_first p) r =
    scanned (u || true) p r ∙ ap (λ b. cond (brings_nothing p) (scan_opens b r) true) (once_unfinished u (not (complete p)))
scanned u (crossed b q) r = refl
scanned u (beside p q) r =
    rw (scanned (u || false) p (prefix_bytes q r), scanned ((u || false) || not (complete p)) q r, both_complete u (complete p) (complete q))
    (either_brings (brings_nothing p) (brings_nothing q) (scan_opens (u || not (complete p && complete q)) r))
scanned u none_chosen r = refl
scanned u (first_chosen p) r = refl
scanned u (second_chosen p) r = refl

-- So all bytes of a prefix tell whether it opens.
tells : (p : Prefix) → scan_opens false (prefix_bytes p []) ≡ opens p
unfolding opens
tells p = scanned false p [] ∙ go (brings_nothing p) (complete p)
  where
    go : (a b : Bool) → cond a (not (not b)) true ≡ not a || b
    go true true = refl
    go true false = refl
    go false b = refl

pub tells_all : {bytes : List ℕ} {answer : Bool} → answer ≡ scan_opens false bytes → OpensBy bytes answer
tells_all told = record { each = λ p whole. told ∙ ap (scan_opens false) (sym whole) ∙ tells p }
