-- The join of two prefixes that have parts, in their bytes: which parts meet, and what has been written after each.
use mathlib.Core.Path.{◌≡◌, refl, sym, ap, ap₂, ◌∙◌}
use mathlib.Core.List.{List, [], ◌∷◌, ◌++◌}
use Prim.Native.Nat.{ℕ, ◌+◌, ◌≤◌, ◌<◌}
use native.Mathlib.Omega.{arith}
use lib.ListN.{length, get_or, set}
use Rattle.writing.specs.declared.Moved.{Moved}
use Rattle.stream.specs.Types.{Ty}
use Rattle.stream.specs.Prefixes.{Prefix, in_first, crossed, beside, IsPrefix, of_empty, of_cue_awaited, of_cue_come, of_level_awaited, of_level_come, of_first, of_crossed, of_beside, of_none_chosen, of_first_chosen, of_second_chosen, derivative}
use Rattle.stream.specs.Prefixes.Functions.{concat}
use Rattle.stream.specs.Prefixes.Kinds.{prefix_arity}
use Rattle.stream.specs.SliceFiles.{prefix_bytes}
use Rattle.stream.proofs.SliceFiles.Laws.{prefix_before}
use Rattle.reading.specs.SliceReads.{prefix_width, PrefixAt}
use Rattle.reading.specs.SliceReads.Laws.{prefix_bytes_length, width_positive, prefix_inside, kind_at, in_first_at, crossed_first_at, crossed_second_at, beside_first_at, beside_second_at}
use Rattle.writing.specs.Writing.{PrefixDue, PrefixWritten, Moves, Follows, ConcatDue, ConcatWritten, Begun}
use Rattle.writing.specs.Writing.Laws.{part, back, front_length, begins, goes_on, room_left, length_kept}

-- How two prefixes meet, if the first has parts and is no choice.
data Meets (first : List ℕ) (first_place : ℕ) (second : List ℕ) (second_place : ℕ) : Prefix → Prefix → Type 0 where
  coming : {t : Ty} {p q : Prefix} → get_or first first_place 0 ≡ 5 → get_or second second_place 0 ≡ 5
      → Follows first (first_place + 1) second (second_place + 1) t p q → Meets first first_place second second_place (in_first p) (in_first q)
  crossing : {t : Ty} {p q r : Prefix} → get_or first first_place 0 ≡ 5 → get_or second second_place 0 ≡ 6
      → Follows first (first_place + 1) second (second_place + 1) t p q
      → ((end : ℕ) → end ≡ second_place + 1 + prefix_width q → PrefixAt second end r) → Meets first first_place second second_place (in_first p) (crossed q r)
  behind : {t : Ty} {b p q : Prefix} → get_or first first_place 0 ≡ 6 → PrefixAt first (first_place + 1) b
      → ((end : ℕ) → end ≡ first_place + 1 + prefix_width b → Follows first end second second_place t p q) → Meets first first_place second second_place (crossed b p) q
  aside : {s t : Ty} {p q r u : Prefix} → get_or first first_place 0 ≡ 7 → Follows first (first_place + 1) second (second_place + 1) s p r
      → ((first_end second_end : ℕ) → first_end ≡ first_place + 1 + prefix_width p → second_end ≡ second_place + 1 + prefix_width r
      → Follows first first_end second second_end t q u) → Meets first first_place second second_place (beside p q) (beside r u)

meets : {first second : List ℕ} {first_place second_place : ℕ} {t : Ty} {one other : Prefix} → Follows first first_place second second_place t one other
    → 0 < prefix_arity (get_or first first_place 0) → get_or first first_place 0 < 8 → Meets first first_place second second_place one other
unfolding derivative
meets {first} {second} {first_place} {second_place} f h low = go f.is_first f.is_second f.first_at f.second_at
  where
    go : {t : Ty} {p q : Prefix} → IsPrefix t p → IsPrefix (derivative t p) q → PrefixAt first first_place p → PrefixAt second second_place q
        → Meets first first_place second second_place p q
    go of_empty k x y = absurd (omega (arith, rw (kind_at x) at h))
    go of_cue_awaited k x y = absurd (omega (arith, rw (kind_at x) at h))
    go of_cue_come k x y = absurd (omega (arith, rw (kind_at x) at h))
    go of_level_awaited k x y = absurd (omega (arith, rw (kind_at x) at h))
    go (of_level_come v) k x y = absurd (omega (arith, rw (kind_at x) at h))
    go (of_first i) (of_first k) x y =
        coming (kind_at x) (kind_at y)
        (record { first_at = in_first_at x; second_at = in_first_at y; is_first = i; is_second = k })
    go (of_first i) (of_crossed k d l) x y =
        crossing (kind_at x) (kind_at y)
        (record { first_at = in_first_at x; second_at = crossed_first_at y; is_first = i; is_second = k })
        (λ end e. crossed_second_at y e)
    go (of_crossed i d j) k x y =
        behind (kind_at x) (crossed_first_at x)
        (λ end e. record { first_at = crossed_second_at x e; second_at = y; is_first = j; is_second = k })
    go (of_beside i j) (of_beside k l) x y =
        aside (kind_at x)
        (record { first_at = beside_first_at x; second_at = beside_first_at y; is_first = i; is_second = k })
        (λ first_end second_end d e. record { first_at = beside_second_at x d; second_at = beside_second_at y e; is_first = j; is_second = l })
    go of_none_chosen k x y = absurd (omega (arith, kind_at x))
    go (of_first_chosen i) k x y = absurd (omega (arith, kind_at x))
    go (of_second_chosen i) k x y = absurd (omega (arith, kind_at x))

-- The bytes of two parts behind a kind byte.
kind_and_parts : {k j : ℕ} (p q : Prefix) → k ≡ j → (k ∷ prefix_bytes p []) ++ prefix_bytes q [] ≡ j ∷ prefix_bytes p (prefix_bytes q [])
kind_and_parts p q e = ap₂ ◌∷◌ e (sym (prefix_before p (prefix_bytes q [])))

-- What is known of a join that was written.
pub record Settled (first second lent lent_after : List ℕ) (moved : Moved) : Type 0 where
  pub first_inside : moved.first ≤ length first
  pub second_inside : moved.second ≤ length second
  pub within : moved.written ≤ length lent
  pub kept : length lent_after ≡ length lent

-- Both prefixes have a byte where they stand, and there is room for one.
pub record Inside (first : List ℕ) (first_place : ℕ) (second : List ℕ) (second_place : ℕ) (lent : List ℕ) : Type 0 where
  pub first_there : first_place < length first
  pub second_there : second_place < length second
  pub some : 0 < length lent

module _ (first : List ℕ) (first_place : ℕ) (second : List ℕ) (second_place : ℕ) (lent : List ℕ) where
  pub inside : ConcatDue first first_place second second_place lent → Inside first first_place second second_place lent
  inside due =
      record {
        first_there = omega (arith, prefix_inside due.follows.first_at, width_positive due.one);
        second_there = omega (arith, prefix_inside due.follows.second_at, width_positive due.other);
        some = omega (arith, due.room, width_positive (concat due.one due.other));
      }

  pub settled : {after : List ℕ} {m : Moved} → ConcatDue first first_place second second_place lent → ConcatWritten first first_place second second_place lent after m
      → Settled first second lent after m
  settled due done =
      let d = done.each due in
      let n = prefix_bytes_length (concat due.one due.other) [] in
      record {
        first_inside = omega (arith, d.first, prefix_inside due.follows.first_at);
        second_inside = omega (arith, d.second, prefix_inside due.follows.second_at);
        within = omega (arith, d.written, due.room);
        kept = ap length d.buffer ∙ front_length (prefix_bytes (concat due.one due.other) []) lent (omega (arith, due.room));
      }

  pub moves : {a b : ℕ} {e bytes after : List ℕ} {m : Moved} → m.first ≡ a → m.second ≡ b → Begun e lent after m.written → e ≡ bytes
      → Moves a b bytes lent after m
  moves f s b e = record { first = f; second = s; written = rw e at b.long; buffer = rw e at b.buffer }

  -- The first parts are joined behind a kind byte k.
  module _ (k : ℕ) where
    abbrev first_due : {t : Ty} {p q : Prefix} → Follows first (first_place + 1) second (second_place + 1) t p q → prefix_width (concat p q) < length lent
        → ConcatDue first (first_place + 1) second (second_place + 1) (part 1 (set lent 0 k))
    first_due {t} {p} {q} f h =
        record { type = t; one = p; other = q; follows = f; room = omega (arith, room_left (begins {lent = lent} k (omega arith))) }

    pub joins_first : ConcatDue first first_place second second_place lent → 0 < prefix_arity (get_or first first_place 0)
        → get_or first first_place 0 < 8 → (get_or first first_place 0 ≡ 6 → ⊥)
        → ConcatDue first (first_place + 1) second (second_place + 1) (part 1 (set lent 0 k))
    unfolding prefix_width concat
    joins_first due h low n = go (meets due.follows h low) due.room
      where
        go : {p q : Prefix} → Meets first first_place second second_place p q → prefix_width (concat p q) ≤ length lent
            → ConcatDue first (first_place + 1) second (second_place + 1) (part 1 (set lent 0 k))
        go (coming d e f) r = first_due f (omega arith)
        go (crossing d e f s) r = first_due f (omega arith)
        go (behind d b f) r = absurd (n d)
        go (aside d f s) r = first_due f (omega arith)

    module _ {y : List ℕ} {m : Moved} (done : ConcatWritten first (first_place + 1) second (second_place + 1) (part 1 (set lent 0 k)) y m) where
      first_moves : {t : Ty} {p q : Prefix} → Follows first (first_place + 1) second (second_place + 1) t p q → prefix_width (concat p q) < length lent
          → Moves (first_place + 1 + prefix_width p) (second_place + 1 + prefix_width q) (prefix_bytes (concat p q) []) (part 1 (set lent 0 k)) y m
      first_moves f h = done.each (first_due f h)

      first_begun : {t : Ty} {p q : Prefix} → Follows first (first_place + 1) second (second_place + 1) t p q → prefix_width (concat p q) < length lent
          → Begun (k ∷ prefix_bytes (concat p q) []) lent (back 1 (set lent 0 k) y) (1 + m.written)
      first_begun {p = p} {q = q} f h =
          let d = first_moves f h in
          goes_on (begins {lent = lent} k (omega arith)) (prefix_bytes (concat p q) []) d.buffer d.written

      -- After the first piece: the next starts further on in the first prefix, and within what was lent.
      pub record Started : Type 0 where
        pub beyond : first_place < m.first
        pub within : 1 + m.written ≤ length lent
        pub kept : length (back 1 (set lent 0 k) y) ≡ length lent

      pub started : ConcatDue first first_place second second_place lent → 0 < prefix_arity (get_or first first_place 0)
          → get_or first first_place 0 < 8 → (get_or first first_place 0 ≡ 6 → ⊥) → Started
      unfolding prefix_width concat
      started due h low n = go (meets due.follows h low) due.room
        where
          so_far : {t : Ty} {p q : Prefix} → Follows first (first_place + 1) second (second_place + 1) t p q → prefix_width (concat p q) < length lent → Started
          so_far {p = p} {q = q} f r =
              let d = first_moves f r in
              let l : 1 + m.written ≤ length lent = omega (arith, d.written, prefix_bytes_length (concat p q) []) in
              record { beyond = omega (arith, d.first); within = l; kept = length_kept (first_begun f r) l }

          go : {p q : Prefix} → Meets first first_place second second_place p q → prefix_width (concat p q) ≤ length lent → Started
          go (coming d e f) r = so_far f (omega arith)
          go (crossing d e f s) r = so_far f (omega arith)
          go (behind d b f) r = absurd (n d)
          go (aside d f s) r = so_far f (omega arith)

      module _ (same_kind : k ≡ get_or second second_place 0) (one_kind : get_or first first_place 0 ≡ 5) where
        -- Both first parts are still coming.
        pub coming_written : get_or second second_place 0 ≡ 5
            → ConcatWritten first first_place second second_place lent (back 1 (set lent 0 k) y) (record { first = m.first; second = m.second; written = 1 + m.written })
        unfolding prefix_width concat prefix_bytes
        coming_written other_kind = record { each = λ due. go (meets due.follows (rw one_kind (omega arith)) (omega arith)) due.room }
          where
            go : {p q : Prefix} → Meets first first_place second second_place p q → prefix_width (concat p q) ≤ length lent
                → Moves (first_place + prefix_width p) (second_place + prefix_width q) (prefix_bytes (concat p q) []) lent (back 1 (set lent 0 k) y)
                (record { first = m.first; second = m.second; written = 1 + m.written })
            go (coming {p = p} {q = q} d e f) r =
                let g = first_moves f (omega arith) in
                moves (omega (arith, g.first)) (omega (arith, g.second)) (first_begun f (omega arith))
                (ap (λ j. j ∷ prefix_bytes (concat p q) []) (same_kind ∙ e))
            go (crossing d e f s) r = absurd (omega arith)
            go (behind d b f) r = absurd (omega arith)
            go (aside d f s) r = absurd (omega arith)

        -- The second prefix brings the crossing.
        module _ (other_kind : get_or second second_place 0 ≡ 5 → ⊥) where
          abbrev rest_due : {t : Ty} {p q u : Prefix} → Follows first (first_place + 1) second (second_place + 1) t p q
              → ((end : ℕ) → end ≡ second_place + 1 + prefix_width q → PrefixAt second end u) → prefix_width (concat p q) + prefix_width u < length lent
              → PrefixDue second m.second (part (1 + m.written) (back 1 (set lent 0 k) y))
          rest_due {p = p} {q = q} {u = u} f s r =
              let g = first_moves f (omega arith) in
              record {
                prefix = u;
                stands = s m.second g.second;
                room = omega (arith, room_left (first_begun f (omega arith)), g.written, prefix_bytes_length (concat p q) []);
              }

          pub crossing_due : ConcatDue first first_place second second_place lent → PrefixDue second m.second (part (1 + m.written) (back 1 (set lent 0 k) y))
          unfolding prefix_width concat
          crossing_due due = go (meets due.follows (rw one_kind (omega arith)) (omega arith)) due.room
            where
              go : {p q : Prefix} → Meets first first_place second second_place p q → prefix_width (concat p q) ≤ length lent
                  → PrefixDue second m.second (part (1 + m.written) (back 1 (set lent 0 k) y))
              go (coming d e f) r = absurd (other_kind e)
              go (crossing d e f s) r = rest_due f s (omega arith)
              go (behind d b f) r = absurd (omega arith)
              go (aside d f s) r = absurd (omega arith)

          pub crossing_written : {z : List ℕ} {n : ℕ} → PrefixWritten second m.second (part (1 + m.written) (back 1 (set lent 0 k) y)) z n
              → ConcatWritten first first_place second second_place lent (back (1 + m.written) (back 1 (set lent 0 k) y) z)
              (record { first = m.first; second = m.second + n; written = 1 + m.written + n })
          unfolding prefix_width concat prefix_bytes
          crossing_written {z} {n} copied = record { each = λ due. go (meets due.follows (rw one_kind (omega arith)) (omega arith)) due.room }
            where
              go : {p q : Prefix} → Meets first first_place second second_place p q → prefix_width (concat p q) ≤ length lent
                  → Moves (first_place + prefix_width p) (second_place + prefix_width q) (prefix_bytes (concat p q) []) lent (back (1 + m.written) (back 1 (set lent 0 k) y) z)
                  (record { first = m.first; second = m.second + n; written = 1 + m.written + n })
              go (coming d e f) r = absurd (other_kind e)
              go (crossing {p = p} {q = q} {r = u} d e f s) r =
                  let g = first_moves f (omega arith) in
                  let b = first_begun f (omega arith) in
                  let c = copied.each (rest_due f s (omega arith)) in
                  moves (omega (arith, g.first)) (omega (arith, g.second, c.0))
                  (goes_on b (prefix_bytes u []) c.1 (omega (arith, c.0, prefix_bytes_length u [])))
                  (kind_and_parts (concat p q) u (same_kind ∙ e))
              go (behind d b f) r = absurd (omega arith)
              go (aside d f s) r = absurd (omega arith)

      -- Two prefixes side by side.
      module _ (written_kind : k ≡ 7) (one_kind : get_or first first_place 0 ≡ 7) where
        abbrev second_due : {s t : Ty} {p q r u : Prefix} → Follows first (first_place + 1) second (second_place + 1) s p r
            → ((first_end second_end : ℕ) → first_end ≡ first_place + 1 + prefix_width p → second_end ≡ second_place + 1 + prefix_width r
            → Follows first first_end second second_end t q u) → prefix_width (concat p r) + prefix_width (concat q u) < length lent
            → ConcatDue first m.first second m.second (part (1 + m.written) (back 1 (set lent 0 k) y))
        second_due {t = t} {p = p} {q = q} {r = r} {u = u} f s h =
            let g = first_moves f (omega arith) in
            record {
              type = t;
              one = q;
              other = u;
              follows = s m.first m.second g.first g.second;
              room = omega (arith, room_left (first_begun f (omega arith)), g.written, prefix_bytes_length (concat p r) []);
            }

        pub aside_due : ConcatDue first first_place second second_place lent
            → ConcatDue first m.first second m.second (part (1 + m.written) (back 1 (set lent 0 k) y))
        unfolding prefix_width concat
        aside_due due = go (meets due.follows (rw one_kind (omega arith)) (omega arith)) due.room
          where
            go : {p q : Prefix} → Meets first first_place second second_place p q → prefix_width (concat p q) ≤ length lent
                → ConcatDue first m.first second m.second (part (1 + m.written) (back 1 (set lent 0 k) y))
            go (coming d e f) r = absurd (omega arith)
            go (crossing d e f s) r = absurd (omega arith)
            go (behind d b f) r = absurd (omega arith)
            go (aside d f s) r = second_due f s (omega arith)

        pub aside_written : {z : List ℕ} {n : Moved}
            → ConcatWritten first m.first second m.second (part (1 + m.written) (back 1 (set lent 0 k) y)) z n
            → ConcatWritten first first_place second second_place lent (back (1 + m.written) (back 1 (set lent 0 k) y) z)
            (record { first = n.first; second = n.second; written = 1 + m.written + n.written })
        unfolding prefix_width concat prefix_bytes
        aside_written {z} {n} joined = record { each = λ due. go (meets due.follows (rw one_kind (omega arith)) (omega arith)) due.room }
          where
            go : {p q : Prefix} → Meets first first_place second second_place p q → prefix_width (concat p q) ≤ length lent
                → Moves (first_place + prefix_width p) (second_place + prefix_width q) (prefix_bytes (concat p q) []) lent (back (1 + m.written) (back 1 (set lent 0 k) y) z)
                (record { first = n.first; second = n.second; written = 1 + m.written + n.written })
            go (coming d e f) r = absurd (omega arith)
            go (crossing d e f s) r = absurd (omega arith)
            go (behind d b f) r = absurd (omega arith)
            go (aside {p = p} {q = q} {r = v} {u = u} d f s) r =
                let g = first_moves f (omega arith) in
                let j = joined.each (second_due f s (omega arith)) in
                moves (omega (arith, g.first, j.first)) (omega (arith, g.second, j.second))
                (goes_on (first_begun f (omega arith)) (prefix_bytes (concat q u) []) j.buffer j.written)
                (kind_and_parts (concat p v) (concat q u) written_kind)

  -- The complete first part is copied, and what the first prefix has of the second part is joined.
  module _ (one_kind : get_or first first_place 0 ≡ 6) where
    abbrev whole_due : {b : Prefix} → PrefixAt first (first_place + 1) b → prefix_width b < length lent → PrefixDue first (first_place + 1) (part 1 (set lent 0 6))
    whole_due {b} x h =
        record { prefix = b; stands = x; room = omega (arith, room_left (begins {lent = lent} 6 (omega arith))) }

    pub copies_first : ConcatDue first first_place second second_place lent → PrefixDue first (first_place + 1) (part 1 (set lent 0 6))
    unfolding prefix_width concat
    copies_first due = go (meets due.follows (rw one_kind (omega arith)) (omega arith)) due.room
      where
        go : {p q : Prefix} → Meets first first_place second second_place p q → prefix_width (concat p q) ≤ length lent
            → PrefixDue first (first_place + 1) (part 1 (set lent 0 6))
        go (coming d e f) r = absurd (omega arith)
        go (crossing d e f s) r = absurd (omega arith)
        go (behind d x f) r = whole_due x (omega arith)
        go (aside d f s) r = absurd (omega arith)

    module _ {y : List ℕ} {n : ℕ} (done : PrefixWritten first (first_place + 1) (part 1 (set lent 0 6)) y n) where
      whole_width : {b : Prefix} → PrefixAt first (first_place + 1) b → prefix_width b < length lent → n ≡ prefix_width b
      whole_width x h = (done.each (whole_due x h)).0

      whole_begun : {b : Prefix} → PrefixAt first (first_place + 1) b → prefix_width b < length lent
          → Begun (6 ∷ prefix_bytes b []) lent (back 1 (set lent 0 6) y) (1 + n)
      whole_begun {b} x h =
          let c = done.each (whole_due x h) in
          goes_on (begins {lent = lent} 6 (omega arith)) (prefix_bytes b []) c.1 (omega (arith, c.0, prefix_bytes_length b []))

      abbrev behind_first : {t : Ty} {b p q : Prefix} → PrefixAt first (first_place + 1) b
          → ((end : ℕ) → end ≡ first_place + 1 + prefix_width b → Follows first end second second_place t p q) → prefix_width b + prefix_width (concat p q) < length lent
          → ConcatDue first (first_place + (1 + n)) second second_place (part (1 + n) (back 1 (set lent 0 6) y))
      behind_first {t} {b} {p} {q} x f h =
          let w = whole_width x (omega arith) in
          record {
            type = t;
            one = p;
            other = q;
            follows = f (first_place + (1 + n)) (omega arith);
            room = omega (arith, room_left (whole_begun x (omega arith)));
          }

      -- After the first piece.
      pub record Copied : Type 0 where
        pub inside : first_place + (1 + n) ≤ length first
        pub within : 1 + n ≤ length lent
        pub kept : length (back 1 (set lent 0 6) y) ≡ length lent

      pub copied : ConcatDue first first_place second second_place lent → Copied
      unfolding prefix_width concat
      copied due = go (meets due.follows (rw one_kind (omega arith)) (omega arith)) due.room
        where
          go : {p q : Prefix} → Meets first first_place second second_place p q → prefix_width (concat p q) ≤ length lent → Copied
          go (coming d e f) r = absurd (omega arith)
          go (crossing d e f s) r = absurd (omega arith)
          go (behind d x f) r =
              let w = whole_width x (omega arith) in
              let l : 1 + n ≤ length lent = omega arith in
              record { inside = omega (arith, prefix_inside x); within = l; kept = length_kept (whole_begun x (omega arith)) l }
          go (aside d f s) r = absurd (omega arith)

      pub behind_due : ConcatDue first first_place second second_place lent
          → ConcatDue first (first_place + (1 + n)) second second_place (part (1 + n) (back 1 (set lent 0 6) y))
      unfolding prefix_width concat
      behind_due due = go (meets due.follows (rw one_kind (omega arith)) (omega arith)) due.room
        where
          go : {p q : Prefix} → Meets first first_place second second_place p q → prefix_width (concat p q) ≤ length lent
              → ConcatDue first (first_place + (1 + n)) second second_place (part (1 + n) (back 1 (set lent 0 6) y))
          go (coming d e f) r = absurd (omega arith)
          go (crossing d e f s) r = absurd (omega arith)
          go (behind d x f) r = behind_first x f (omega arith)
          go (aside d f s) r = absurd (omega arith)

      pub behind_written : {z : List ℕ} {m : Moved}
          → ConcatWritten first (first_place + (1 + n)) second second_place (part (1 + n) (back 1 (set lent 0 6) y)) z m
          → ConcatWritten first first_place second second_place lent (back (1 + n) (back 1 (set lent 0 6) y) z)
          (record { first = m.first; second = m.second; written = 1 + n + m.written })
      unfolding prefix_width concat prefix_bytes
      behind_written {z} {m} joined = record { each = λ due. go (meets due.follows (rw one_kind (omega arith)) (omega arith)) due.room }
        where
          go : {p q : Prefix} → Meets first first_place second second_place p q → prefix_width (concat p q) ≤ length lent
              → Moves (first_place + prefix_width p) (second_place + prefix_width q) (prefix_bytes (concat p q) []) lent (back (1 + n) (back 1 (set lent 0 6) y) z)
              (record { first = m.first; second = m.second; written = 1 + n + m.written })
          go (coming d e f) r = absurd (omega arith)
          go (crossing d e f s) r = absurd (omega arith)
          go (behind {b = b} {p = p} {q = q} d x f) r =
              let w = whole_width x (omega arith) in
              let j = joined.each (behind_first x f (omega arith)) in
              moves (omega (arith, j.first)) (omega (arith, j.second))
              (goes_on (whole_begun x (omega arith)) (prefix_bytes (concat p q) []) j.buffer j.written)
              (kind_and_parts b (concat p q) refl)
          go (aside d f s) r = absurd (omega arith)
