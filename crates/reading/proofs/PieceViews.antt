-- Where the pieces of a slice are, once s has come.
use Rattle.std.specs.Prelude.{◌≡◌, List, [], ◌∷◌, ℕ, ◌+◌, ◌-◌, ◌≤◌, ◌<◌, length, get_or, take, drop}
use Rattle.std.proofs.Common.{sym, ap, ◌∙◌, arith, add-zero, get_or-drop, length-drop, drop-drop, take_all}
use Rattle.std.proofs.lemmas.List.{drop_all}
use Rattle.stream.specs.Prefixes.{Prefix}
use Rattle.stream.specs.SliceFiles.{prefix_bytes}
use Rattle.reading.specs.declared.inputs.Input.{Input}
use Rattle.reading.specs.declared.inputs.Nested.{Nested}
use Rattle.reading.specs.InputViews.{prefix}
use Rattle.reading.specs.SliceReads.{prefix_width, PrefixAt, SomePrefixAt, PrefixEnds}
use Rattle.reading.specs.SliceReads.Laws.{prefix_bytes_length, width_positive, prefix_inside, prefix_taken, behind_prefix}
use Rattle.reading.specs.Nesting.{Cut, uncut, cut, FirstCut, first_coming, first_one, first_two, SecondCut, second_coming, second_one, second_two, second_sides}
use Rattle.reading.specs.PieceViews.{HowCut, SomeCut, Behind, one_behind, two_behind, SomeBehind, CutBehind}

pub not_empty : {slice : List ℕ} (p : Prefix) → slice ≡ prefix_bytes p [] → 0 < length slice
not_empty p e = omega (arith, ap length e, prefix_bytes_length p [], width_positive p)

-- A prefix at `from`, and the bytes behind it.
module _ {bytes : List ℕ} {from : ℕ} {p : Prefix} (stands : PrefixAt bytes from p) {end : ℕ} (ends : end ≡ from + prefix_width p) where
  behind_it : drop end bytes ≡ stands.rest
  behind_it = rw (ends, ← drop-drop (prefix_width p) from bytes, stands.here) (behind_prefix p stands.rest)

  taken : take (end - from) (drop from bytes) ≡ prefix_bytes p []
  taken = prefix_taken (end - from) stands (omega arith)

left : (bytes : List ℕ) (at : ℕ) {x : List ℕ} → drop at bytes ≡ x → take (length bytes - at) (drop at bytes) ≡ x
left bytes at e = take_all (length bytes - at) (drop at bytes) (omega (arith, length-drop at bytes)) ∙ e

-- Where it ends, once it has been passed.
pub record Span (bytes : List ℕ) (from end : ℕ) : Type 0 where
  pub forward : from ≤ end
  pub inside : end ≤ length bytes

pub span : {bytes : List ℕ} {from end : ℕ} → SomePrefixAt bytes from → PrefixEnds bytes from end → Span bytes from end
span some ends =
    let e = ends.each some.prefix some.stands in
    record { forward = omega (arith, e); inside = omega (arith, e, prefix_inside some.stands) }

-- t and r

-- Where t ends in the bytes behind s.
pub record Ends (k : ℕ) (behind : List ℕ) (at : ℕ) : Type 0 where
  pub alone : k ≡ 5 → at ≡ length behind
  pub before : (k ≡ 5 → ⊥) → PrefixEnds behind 0 at

pub record Two (behind : List ℕ) (at : ℕ) (t r : List ℕ) : Type 0 where
  pub inside : at ≤ length behind
  pub second : take at behind ≡ t
  pub third : drop at behind ≡ r

pub two_found : {k : ℕ} {behind : List ℕ} {at : ℕ} {t r : List ℕ} → Ends k behind at → Behind k behind t r → Two behind at t r
two_found {behind = behind} {at = at} ends (one_behind q five is) =
    let e : at ≡ length behind = ends.alone five in
    record { inside = omega arith; second = take_all at behind (omega arith) ∙ is; third = drop_all at behind (omega arith) }
two_found {behind = behind} {at = at} ends (two_behind c q other is) =
    let stands : PrefixAt behind 0 c = record { rest = prefix_bytes q []; here = is } in
    let e : at ≡ prefix_width c = omega (arith, (ends.before other).each c stands) in
    record { inside = omega (arith, e, prefix_inside stands); second = prefix_taken at stands e; third = behind_it stands ((ends.before other).each c stands) }

-- s, and the bytes behind it, of a prefix p.
pub record Found (Cuts : Prefix → Cut → Type 0) (p : Prefix) (k : ℕ) (s behind : List ℕ) : Type 0 where
  pub some : SomeBehind k behind
  pub is_cut : Cuts p (cut k s some.t some.r)

pub told : {Cuts : Prefix → Cut → Type 0} {p : Prefix} {k : ℕ} {s behind : List ℕ} {n : Nested}
    → Found Cuts p k s behind → CutBehind k s behind n → Cuts p (cut n.kind n.pieces.s.now n.pieces.t.now n.pieces.r.now)
told found pieces =
    let each = pieces.each found.some.both in
    rw (pieces.kind, pieces.first, each.0, each.1) found.is_cut

module _ {Cuts : Prefix → Cut → Type 0} {p : Prefix} {k : ℕ} {s behind b : List ℕ} where
  one_due : (q : Prefix) → k ≡ 5 → s ≡ b → behind ≡ prefix_bytes q [] → Cuts p (cut 5 b (prefix_bytes q []) []) → Found Cuts p k s behind
  one_due q five is same cuts =
      record { some = record { t = prefix_bytes q []; r = []; both = one_behind q five same }; is_cut = rw (five, is) cuts }

  two_due : (j : ℕ) (c q : Prefix) → k ≡ j → (j ≡ 5 → ⊥) → s ≡ b → behind ≡ prefix_bytes c (prefix_bytes q [])
      → Cuts p (cut j b (prefix_bytes c []) (prefix_bytes q [])) → Found Cuts p k s behind
  two_due j c q kind other is same cuts =
      record {
        some = record { t = prefix_bytes c []; r = prefix_bytes q []; both = two_behind c q (λ five. other (sym kind ∙ five)) same };
        is_cut = rw (kind, is) cuts;
      }

-- Of (s, t), r: the kind byte behind the first tells whether s has come.
module _ {slice : List ℕ} where
  pub first_inside : {p : Prefix} {how : Cut} → FirstCut p how → slice ≡ prefix_bytes p [] → 1 < length slice
  unfolding prefix_bytes
  first_inside (first_coming {p}) e = omega (arith, ap length e)
  first_inside (first_one {b} {q}) e = omega (arith, ap length e)
  first_inside (first_two {b} {c} {q}) e = omega (arith, ap length e)

  pub first_waits : {p : Prefix} {how : Cut} → FirstCut p how → slice ≡ prefix_bytes p [] → get_or slice 1 0 ≡ 5 → FirstCut p uncut
  unfolding prefix_bytes
  first_waits first_coming e five = first_coming
  first_waits first_one e five = absurd (omega (arith, ap (λ l. get_or l 1 0) e))
  first_waits first_two e five = absurd (omega (arith, ap (λ l. get_or l 1 0) e))

  module _ (other : get_or slice 1 0 ≡ 5 → ⊥) where
    pub first_begins : {p : Prefix} {how : Cut} → FirstCut p how → slice ≡ prefix_bytes p [] → SomePrefixAt slice 2
    unfolding prefix_bytes
    first_begins first_coming e = absurd (other (ap (λ l. get_or l 1 0) e))
    first_begins (first_one {b} {q}) e = record { prefix = b; stands = record { rest = prefix_bytes q []; here = ap (drop 2) e } }
    first_begins (first_two {b} {c} {q}) e =
        record { prefix = b; stands = record { rest = prefix_bytes c (prefix_bytes q []); here = ap (drop 2) e } }

    pub first_found : {p : Prefix} {how : Cut} {second : ℕ} → FirstCut p how → slice ≡ prefix_bytes p [] → PrefixEnds slice 2 second
        → Found FirstCut p (get_or slice 0 0) (take (second - 2) (drop 2 slice)) (take (length slice - second) (drop second slice))
    unfolding prefix_bytes
    first_found first_coming e ends = absurd (other (ap (λ l. get_or l 1 0) e))
    first_found (first_one {b} {q}) e ends =
        let stands : PrefixAt slice 2 b = record { rest = prefix_bytes q []; here = ap (drop 2) e } in
        let at = ends.each b stands in
        one_due q (ap (λ l. get_or l 0 0) e) (taken stands at) (left slice _ (behind_it stands at)) first_one
    first_found (first_two {b} {c} {q}) e ends =
        let stands : PrefixAt slice 2 b = record { rest = prefix_bytes c (prefix_bytes q []); here = ap (drop 2) e } in
        let at = ends.each b stands in
        two_due 6 c q (ap (λ l. get_or l 0 0) e) (λ five. omega arith) (taken stands at) (left slice _ (behind_it stands at)) first_two

-- Of s and then a type with the parts t and r: the first kind byte tells it.

-- s is crossed, and x stands behind the kind j that is behind it.
pub record Crossed (slice : List ℕ) (b : Prefix) (j : ℕ) (x : List ℕ) : Type 0 where
  pub whole : slice ≡ 6 ∷ prefix_bytes b (j ∷ x)

crossed_at : {slice : List ℕ} {b : Prefix} {j : ℕ} {x : List ℕ} → Crossed slice b j x → PrefixAt slice 1 b
crossed_at {j = j} {x = x} is = record { rest = j ∷ x; here = ap (drop 1) is.whole }

module _ {slice : List ℕ} {b : Prefix} {j : ℕ} {x : List ℕ} (is : Crossed slice b j x) {gap : ℕ} (ends : PrefixEnds slice 1 gap) where
  at_gap : drop gap slice ≡ j ∷ x
  unfolding crossed_at
  at_gap = behind_it (crossed_at is) (ends.each b (crossed_at is))

  gap_inside : gap < length slice
  gap_inside = omega (arith, ap length at_gap, length-drop gap slice)

  kind_is : get_or slice gap 0 ≡ j
  kind_is = let f : get_or (drop gap slice) 0 0 ≡ get_or slice gap 0 = rw add-zero at (get_or-drop gap slice 0 0) in sym f ∙ ap (λ l. get_or l 0 0) at_gap

  s_taken : take (gap - 1) (drop 1 slice) ≡ prefix_bytes b []
  s_taken = taken (crossed_at is) (ends.each b (crossed_at is))

  below : take (length slice - (gap + 1)) (drop (gap + 1) slice) ≡ x
  below = left slice (gap + 1) (sym (drop-drop 1 gap slice) ∙ ap (drop 1) at_gap)

module _ {slice : List ℕ} where
  pub second_waits : {p : Prefix} {how : Cut} → SecondCut p how → slice ≡ prefix_bytes p [] → get_or slice 0 0 ≡ 5 → SecondCut p uncut
  unfolding prefix_bytes
  second_waits second_coming e five = second_coming
  second_waits second_one e five = absurd (omega (arith, ap (λ l. get_or l 0 0) e))
  second_waits second_two e five = absurd (omega (arith, ap (λ l. get_or l 0 0) e))
  second_waits second_sides e five = absurd (omega (arith, ap (λ l. get_or l 0 0) e))

  module _ (other : get_or slice 0 0 ≡ 5 → ⊥) where
    pub second_begins : {p : Prefix} {how : Cut} → SecondCut p how → slice ≡ prefix_bytes p [] → SomePrefixAt slice 1
    unfolding prefix_bytes
    second_begins second_coming e = absurd (other (ap (λ l. get_or l 0 0) e))
    second_begins (second_one {b} {q}) e = record { prefix = b; stands = crossed_at (record { whole = e }) }
    second_begins (second_two {b} {c} {q}) e = record { prefix = b; stands = crossed_at (record { whole = e }) }
    second_begins (second_sides {b} {q} {r}) e = record { prefix = b; stands = crossed_at (record { whole = e }) }

    module _ {gap : ℕ} (ends : PrefixEnds slice 1 gap) where
      pub second_inside : {p : Prefix} {how : Cut} → SecondCut p how → slice ≡ prefix_bytes p [] → gap < length slice
      unfolding prefix_bytes
      second_inside second_coming e = absurd (other (ap (λ l. get_or l 0 0) e))
      second_inside second_one e = gap_inside (record { whole = e }) ends
      second_inside second_two e = gap_inside (record { whole = e }) ends
      second_inside second_sides e = gap_inside (record { whole = e }) ends

      pub second_found : {p : Prefix} {how : Cut} → SecondCut p how → slice ≡ prefix_bytes p []
          → Found SecondCut p (get_or slice gap 0) (take (gap - 1) (drop 1 slice)) (take (length slice - (gap + 1)) (drop (gap + 1) slice))
      unfolding prefix_bytes
      second_found second_coming e = absurd (other (ap (λ l. get_or l 0 0) e))
      second_found (second_one {b} {q}) e = one_due q (kind_is (record { whole = e }) ends) (s_taken (record { whole = e }) ends) (below (record { whole = e }) ends) second_one
      second_found (second_two {b} {c} {q}) e = two_due 6 c q (kind_is (record { whole = e }) ends) (λ five. omega arith) (s_taken (record { whole = e }) ends) (below (record { whole = e }) ends) second_two
      second_found (second_sides {b} {q} {r}) e = two_due 7 q r (kind_is (record { whole = e }) ends) (λ five. omega arith) (s_taken (record { whole = e }) ends) (below (record { whole = e }) ends) second_sides

-- An input's slice holds its prefix and nothing else.
pub some_cut : (i : Input) {Cuts : Prefix → Cut → Type 0} → HowCut Cuts (prefix i) → SomeCut Cuts i.slice.now
some_cut i h = record { prefix = prefix i; whole = i.whole; how = h.how; is_cut = h.is_cut }
