-- The plan of a type's longest prefix, made of the plans of its parts: which parts the type at a place has, and what is on the lent
-- list after each of them.
use mathlib.Core.Path.{◌≡◌, refl, sym, ap, ◌∙◌}
use mathlib.Core.Bool.{Bool, true, false}
use mathlib.Core.List.{List, [], ◌∷◌, ◌++◌, append_assoc}
use Prim.Native.Nat.{ℕ, suc, ◌+◌, ◌≤◌, ◌<◌}
use native.Mathlib.Omega.{arith}
use lib.Dec.{leb}
use lib.ListN.{length, drop, set, length-append}
use lib.Seq.{set_at}
use borrow.Author.Tests.{le-leb, lt-leb, leb-true, leb-false}
use Rattle.stream.specs.Types.{Ty, empty, cue, level, seq, par, either, size, kind, first_part, second_part, Small}
use Rattle.stream.specs.Types.Kinds.{type_arity, Fork, fork-size}
use Rattle.stream.proofs.Types.Laws.{size_positive}
use Rattle.stream.specs.Buffers.{at_front}
use Rattle.stream.proofs.Levels.Laws.{value_length}
use Rattle.stream.specs.Prefixes.Kinds.{root_width}
use Rattle.stream.specs.SliceFiles.{prefix_bytes}
use Rattle.stream.specs.Longest.{byte_count, largest_level, longest_prefix}
use Rattle.stream.proofs.Longest.Laws.{byte_count_before}
use Rattle.writing.specs.Writing.{Begun}
use Rattle.writing.specs.Writing.Laws.{part, back, begins, goes_on, room_left, length_kept, front_length}
use Rattle.measuring.specs.declared.Planned.{Planned}
use Rattle.measuring.specs.Planning.{longest_kind, passed_over, plan, PlansLongest, PlansFront, ChoiceDue, Chooses}
use Rattle.measuring.specs.Planning.Laws.{plan_length, plan_before, longest_short}

-- A type that has parts has two.
pub forked : (t : Ty) → (type_arity (kind t) ≡ 0 → ⊥) → Fork t
forked empty some = absurd (some refl)
forked cue some = absurd (some refl)
forked level some = absurd (some refl)
forked (seq s t) some = refl
forked (par s t) some = refl
forked (either s t) some = refl

-- A type without parts.

leaf-plan : (t : Ty) → type_arity (kind t) ≡ 0
    → (plan t [] ≡ longest_kind (kind t) ∷ []) × (root_width (longest_kind (kind t)) ≡ byte_count (longest_prefix t)) × (size t ≡ 1)
unfolding plan longest_prefix prefix_bytes size
leaf-plan empty h = (refl, refl, refl)
leaf-plan cue h = (refl, refl, refl)
leaf-plan level h = (refl, omega (arith, value_length largest_level []), refl)
leaf-plan (seq s t) h = absurd (omega arith)
leaf-plan (par s t) h = absurd (omega arith)
leaf-plan (either s t) h = absurd (omega arith)

-- A type with two parts that is no either: both are planned, and written.

both_plan : (t : Ty) → Fork t → (kind t ≡ 5 → ⊥)
    → (longest_kind (kind t) ∷ plan (first_part t) [] ++ plan (second_part t) [] ≡ plan t [])
    × (byte_count (longest_prefix t) ≡ 1 + byte_count (longest_prefix (first_part t)) + byte_count (longest_prefix (second_part t)))
unfolding plan longest_prefix prefix_bytes
both_plan empty h n = absurd (omega arith)
both_plan cue h n = absurd (omega arith)
both_plan level h n = absurd (omega arith)
both_plan (seq s t) h n = (ap (λ l. 6 ∷ l) (sym (plan_before s (plan t []))), omega (arith, byte_count_before (longest_prefix s) (prefix_bytes (longest_prefix t) [])))
both_plan (par s t) h n = (ap (λ l. 7 ∷ l) (sym (plan_before s (plan t []))), omega (arith, byte_count_before (longest_prefix s) (prefix_bytes (longest_prefix t) [])))
both_plan (either s t) h n = absurd (n refl)

-- An either: its first part is chosen, or its second.

abbrev first_width : Ty → ℕ
first_width t = byte_count (longest_prefix (first_part t))

abbrev second_width : Ty → ℕ
second_width t = byte_count (longest_prefix (second_part t))

first_plan : (t : Ty) → kind t ≡ 5 → second_width t ≤ first_width t
    → (9 ∷ plan (first_part t) [] ++ passed_over (plan (second_part t) []) ≡ plan t []) × (byte_count (longest_prefix t) ≡ 1 + first_width t)
unfolding plan longest_prefix prefix_bytes
first_plan empty e h = absurd (omega arith)
first_plan cue e h = absurd (omega arith)
first_plan level e h = absurd (omega arith)
first_plan (seq s t) e h = absurd (omega arith)
first_plan (par s t) e h = absurd (omega arith)
first_plan (either s t) e h =
    rw (le-leb (byte_count (longest_prefix t)) (byte_count (longest_prefix s)) h)
    (ap (λ l. 9 ∷ l) (sym (plan_before s (passed_over (plan t [])))), omega arith)

second_plan : (t : Ty) → kind t ≡ 5 → first_width t < second_width t
    → (10 ∷ passed_over (plan (first_part t) [] ++ plan (second_part t) []) ≡ plan t []) × (byte_count (longest_prefix t) ≡ 1 + second_width t)
unfolding plan longest_prefix prefix_bytes
second_plan empty e h = absurd (omega arith)
second_plan cue e h = absurd (omega arith)
second_plan level e h = absurd (omega arith)
second_plan (seq s t) e h = absurd (omega arith)
second_plan (par s t) e h = absurd (omega arith)
second_plan (either s t) e h =
    rw (lt-leb (byte_count (longest_prefix t)) (byte_count (longest_prefix s)) h)
    (ap (λ l. 10 ∷ passed_over l) (sym (plan_before s (plan t []))), omega arith)

-- A part is passed over by a store at its root.

over_second : (k : ℕ) (a b x : List ℕ) → 0 < length b → set (at_front (k ∷ a ++ b) x) (1 + length a) 255 ≡ at_front (k ∷ a ++ passed_over b) x
over_second k a [] x h = absurd (omega arith)
over_second k a (j ∷ b) x h =
    ap (λ l. set l (1 + length a) 255) (append_assoc (k ∷ a) (j ∷ b) (drop (length (k ∷ a ++ j ∷ b)) x))
    ∙ set_at (k ∷ a) j (b ++ drop (length (k ∷ a ++ j ∷ b)) x) 255 (1 + length a) (omega arith)
    ∙ sym (append_assoc (k ∷ a) (255 ∷ b) (drop (length (k ∷ a ++ j ∷ b)) x))
    ∙ ap (λ n. (k ∷ a ++ 255 ∷ b) ++ drop n x) same
  where
    same : length (k ∷ a ++ j ∷ b) ≡ length (k ∷ a ++ 255 ∷ b)
    same = omega (arith, length-append a (j ∷ b), length-append a (255 ∷ b))

over_first : (k : ℕ) (a x : List ℕ) → 0 < length a → set (set (at_front (k ∷ a) x) 0 10) 1 255 ≡ at_front (10 ∷ passed_over a) x
over_first k [] x h = absurd (omega arith)
over_first k (j ∷ a) x h = refl

-- There is room for a byte.
pub some : (t : Ty) (lent : List ℕ) → size t ≤ length lent → 0 < length lent
some t lent room = omega (arith, size_positive t)

-- A type without parts is planned by one byte.
pub leaf_planned : (t : Ty) (lent : List ℕ) {written width : ℕ} → size t ≤ length lent → type_arity (kind t) ≡ 0 → written ≡ longest_kind (kind t)
    → width ≡ root_width written → PlansFront t lent (set lent 0 written) (record { end = 1; width = width })
leaf_planned t lent {written} {width} room none is wide =
    let leaf = leaf-plan t none in
    let begun = begins {lent = lent} written (some t lent room) in
    record {
      ends = omega (arith, leaf.2);
      plans =
          record {
            wide = wide ∙ ap root_width is ∙ leaf.1;
            buffer = begun.buffer ∙ ap (λ l. at_front l lent) (ap (λ k. k ∷ []) is ∙ sym leaf.0);
          };
    }

-- A type with two parts, for which there is room.
pub record Forks (t : Ty) (lent : List ℕ) : Type 0 where
  pub fork : Fork t
  pub room : size t ≤ length lent

-- They are planned one after the other, behind its root.
module _ {t : Ty} {lent : List ℕ} (written : ℕ) (forks : Forks t lent) where
  fork : Fork t
  fork = forks.fork

  room : size t ≤ length lent
  room = forks.room

  pub total : size t ≡ suc (size (first_part t) + size (second_part t))
  total = fork-size t fork

  begun : Begun (written ∷ []) lent (set lent 0 written) 1
  begun = begins {lent = lent} written (some t lent room)

  pub first_room : size (first_part t) ≤ length (part 1 (set lent 0 written))
  first_room = omega (arith, total, room, room_left begun)

  module _ {once : List ℕ} {first : Planned} (first_done : PlansFront (first_part t) (part 1 (set lent 0 written)) once first) where
    -- Where the first part ends, and where its plan does.
    pub middle : 1 + first.end ≡ 1 + size (first_part t)
    middle = omega (arith, first_done.ends)

    pub first_begun : Begun (written ∷ plan (first_part t) []) lent (back 1 (set lent 0 written) once) (1 + first.end)
    first_begun = goes_on begun (plan (first_part t) []) first_done.plans.buffer (omega (arith, first_done.ends, plan_length (first_part t) []))

    pub behind_within : 1 + first.end ≤ length (back 1 (set lent 0 written) once)
    behind_within = omega (arith, length_kept first_begun (omega (arith, middle, total, room)), middle, total, room)

    pub second_room : size (second_part t) ≤ length (part (1 + first.end) (back 1 (set lent 0 written) once))
    second_room = omega (arith, total, room, middle, room_left first_begun)

    module _ {twice : List ℕ} {second : Planned}
        (second_done : PlansFront (second_part t) (part (1 + first.end) (back 1 (set lent 0 written) once)) twice second) where
      abbrev now : List ℕ
      now = back (1 + first.end) (back 1 (set lent 0 written) once) twice

      pub both_begun : now ≡ at_front (written ∷ plan (first_part t) [] ++ plan (second_part t) []) lent
      both_begun = (goes_on first_begun (plan (second_part t) []) second_done.plans.buffer refl).buffer

      pub both_kept : length now ≡ length lent
      both_kept =
          ap length both_begun
          ∙ front_length (written ∷ plan (first_part t) [] ++ plan (second_part t) []) lent
          (omega (
            arith,
            length-append (plan (first_part t) []) (plan (second_part t) []),
            plan_length (first_part t) [],
            plan_length (second_part t) [],
            total,
            room,
          ))

      pub ends_both : 1 + first.end + second.end ≡ size t
      ends_both = omega (arith, second_done.ends, middle, total)

      -- The widths can be added.
      module _ (small : Small t) where
        pub first_few : first.width ≤ 511
        first_few = omega (arith, first_done.plans.wide, longest_short (first_part t) (omega (arith, small, total)))

        pub second_few : second.width ≤ 511
        second_few = omega (arith, second_done.plans.wide, longest_short (second_part t) (omega (arith, small, total)))

        -- Both parts of an either are there for the choice.
        pub choice_due : ChoiceDue first.width second.width (1 + first.end) now
        choice_due =
            record {
              first_few = omega (arith, first_few);
              second_few = omega (arith, second_few);
              first_there = omega (arith, both_kept, total, room, size_positive (first_part t));
              second_there = omega (arith, both_kept, total, room, middle, size_positive (second_part t));
            }

      -- A sequence or two sides: all of both is written.
      pub both_planned : written ≡ longest_kind (kind t) → (kind t ≡ 5 → ⊥)
          → PlansFront t lent now (record { end = 1 + first.end + second.end; width = 1 + first.width + second.width })
      both_planned is other =
          let both = both_plan t fork other in
          record {
            ends = ends_both;
            plans =
                record {
                  wide = omega (arith, both.1, first_done.plans.wide, second_done.plans.wide);
                  buffer =
                      both_begun
                      ∙ ap (λ l. at_front l lent) (ap (λ k. k ∷ plan (first_part t) [] ++ plan (second_part t) []) is ∙ both.0);
                };
          }

      -- An either: one of its parts is passed over.
      pub choice_planned : written ≡ longest_kind (kind t) → kind t ≡ 5 → {after : List ℕ} {width : ℕ}
          → Chooses first.width second.width (1 + first.end) now after width
          → PlansFront t lent after (record { end = 1 + first.end + second.end; width = width })
      choice_planned is five {after} {width} chosen =
          record { ends = ends_both; plans = go (leb second.width first.width) refl }
        where
          a : List ℕ
          a = plan (first_part t) []

          b : List ℕ
          b = plan (second_part t) []

          nine : written ≡ 9
          nine = is ∙ ap longest_kind five

          place : 1 + first.end ≡ 1 + length a
          place = omega (arith, middle, plan_length (first_part t) [])

          go : (c : Bool) → leb second.width first.width ≡ c → PlansLongest t lent after width
          go true e =
              let h = leb-true second.width first.width e in
              let p = first_plan t five (omega (arith, first_done.plans.wide, second_done.plans.wide)) in
              let made = chosen.takes_first h in
              record {
                wide = omega (arith, made.0, p.1, first_done.plans.wide);
                buffer =
                    made.1
                    ∙ ap (λ l. set l (1 + first.end) 255) both_begun
                    ∙ ap (λ n. set (at_front (written ∷ a ++ b) lent) n 255) place
                    ∙ over_second written a b lent (omega (arith, plan_length (second_part t) [], size_positive (second_part t)))
                    ∙ ap (λ l. at_front l lent) (ap (λ k. k ∷ a ++ passed_over b) nine ∙ p.0);
              }
          go false e =
              let h = leb-false second.width first.width e in
              let p = second_plan t five (omega (arith, first_done.plans.wide, second_done.plans.wide)) in
              let made = chosen.takes_second h in
              record {
                wide = omega (arith, made.0, p.1, second_done.plans.wide);
                buffer =
                    made.1
                    ∙ ap (λ l. set (set l 0 10) 1 255) both_begun
                    ∙ over_first written (a ++ b) lent
                    (omega (arith, length-append a b, plan_length (first_part t) [], size_positive (first_part t)))
                    ∙ ap (λ l. at_front l lent) p.0;
              }
