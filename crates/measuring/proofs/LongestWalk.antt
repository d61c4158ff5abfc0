-- The longest prefix of a type written by one loop over its plan: the types that are still to be gone through, each to be written or to
-- be passed over, as they are in the types' bytes, in the plan, and in what is still to be written.
use mathlib.Core.Path.{◌≡◌, refl, sym, ap, ap₂, ◌∙◌}
use mathlib.Core.Bool.{Bool, true, false}
use mathlib.Core.List.{List, [], ◌∷◌, ◌++◌, append_assoc, append-nil}
use Prim.Native.Nat.{ℕ, suc, ◌+◌, ◌≤◌, ◌<◌}
use native.Mathlib.Omega.{arith}
use lib.Dec.{leb}
use lib.ListN.{length, get_or, set, drop, length-append, length-drop}
use lib.Seq.{drop-drop, get_or-drop}
use native.Mathlib.Nat.{add-zero}
use Rattle.stream.specs.Types.{Ty, empty, cue, level, seq, par, either, size, type_limit, kind}
use Rattle.stream.proofs.Types.Laws.{size_positive}
use Rattle.stream.proofs.Levels.Laws.{value_append}
use Rattle.stream.specs.Buffers.{at_front}
use Rattle.stream.specs.TypeFiles.{type_bytes}
use Rattle.stream.specs.SliceFiles.{prefix_bytes}
use Rattle.stream.specs.Longest.{byte_count, chosen, largest_level, longest_prefix}
use Rattle.reading.specs.declared.fronts.TypeFront.{TypeFront}
use Rattle.reading.specs.Fronts.{front_tree}
use Rattle.reading.proofs.TypeFronts.{type_at}
use Rattle.reading.specs.TypeReads.{TypeAt, SomeTypeAt, TypeEnds}
use Rattle.reading.specs.TypeReads.Laws.{type_drop, starts_inside}
use Rattle.writing.specs.Tasks.{Task, passed, written, type_of, several, sizes, several_append, sizes_append}
use Rattle.writing.specs.Writing.{Begun}
use Rattle.writing.specs.Writing.Laws.{part, back, byte_on, goes_on, length_kept}
use Rattle.measuring.specs.Planning.{largest_value, passed_over, plan_choice, plan, IsPlan}
use Rattle.measuring.specs.Planning.Laws.{plan_length, plan_drop, passed_over_length, passed_over_drop}

-- The plans of several types, and then r.
abbrev plan_one : Task → List ℕ → List ℕ
plan_one (passed t) r = passed_over (plan t r)
plan_one (written t) r = plan t r

abbrev plans : List Task → List ℕ → List ℕ
plans [] r = r
plans (x ∷ xs) r = plan_one x (plans xs r)

-- The bytes that are still to be written for one of them, and then r; and for several.
abbrev owing_one : Task → List ℕ → List ℕ
owing_one (passed t) r = r
owing_one (written t) r = prefix_bytes (longest_prefix t) r

abbrev owing : List Task → List ℕ → List ℕ
owing [] r = r
owing (x ∷ xs) r = owing_one x (owing xs r)

-- A type that is written: a byte for its root, the value behind it, and its parts.
record Opened (t : Ty) : Type 0 where
  byte : ℕ
  value : List ℕ
  parts : List Task
  listed : byte ≤ 10
  valued : byte ≡ 4 → value ≡ largest_value
  unvalued : (byte ≡ 4 → ⊥) → value ≡ []
  types : (r : List ℕ) → type_bytes t r ≡ kind t ∷ several parts r
  planned : (r : List ℕ) → plan t r ≡ byte ∷ plans parts r
  owes : (r : List ℕ) → prefix_bytes (longest_prefix t) r ≡ byte ∷ value ++ owing parts r
  total : size t ≡ suc (sizes parts)

-- The same where no value is behind the byte.
unvalued_root : {t : Ty} (byte : ℕ) (parts : List Task) → byte ≤ 10 → (byte ≡ 4 → ⊥) → ((r : List ℕ) → type_bytes t r ≡ kind t ∷ several parts r)
    → ((r : List ℕ) → plan t r ≡ byte ∷ plans parts r) → ((r : List ℕ) → prefix_bytes (longest_prefix t) r ≡ byte ∷ owing parts r)
    → size t ≡ suc (sizes parts) → Opened t
unvalued_root byte parts small other types planned owes total =
    record {
      byte = byte;
      value = [];
      parts = parts;
      listed = small;
      valued = λ four. absurd (other four);
      unvalued = λ h. refl;
      types = types;
      planned = planned;
      owes = owes;
      total = total;
    }

-- Of an either one part is written, and the other passed over.
either_opened : (s t : Ty) (first : Bool) → leb (byte_count (longest_prefix t)) (byte_count (longest_prefix s)) ≡ first → Opened (either s t)
unfolding type_bytes plan prefix_bytes longest_prefix size
either_opened s t true is =
    unvalued_root 9 (written s ∷ passed t ∷ []) (omega arith) (λ h. omega arith) (λ r. refl) (λ r. ap (λ b. plan_choice b (plan s) (plan t) r) is)
    (λ r. ap (λ b. prefix_bytes (chosen b (longest_prefix s) (longest_prefix t)) r) is) (omega arith)
either_opened s t false is =
    unvalued_root 10 (passed s ∷ written t ∷ []) (omega arith) (λ h. omega arith) (λ r. refl) (λ r. ap (λ b. plan_choice b (plan s) (plan t) r) is)
    (λ r. ap (λ b. prefix_bytes (chosen b (longest_prefix s) (longest_prefix t)) r) is) (omega arith)

opened : (t : Ty) → Opened t
unfolding type_bytes plan prefix_bytes longest_prefix size
opened empty = unvalued_root 0 [] (omega arith) (λ h. omega arith) (λ r. refl) (λ r. refl) (λ r. refl) refl
opened cue = unvalued_root 2 [] (omega arith) (λ h. omega arith) (λ r. refl) (λ r. refl) (λ r. refl) refl
opened level =
    record {
      byte = 4;
      value = largest_value;
      parts = [];
      listed = omega arith;
      valued = λ h. refl;
      unvalued = λ h. absurd (h refl);
      types = λ r. refl;
      planned = λ r. refl;
      owes = λ r. ap (λ l. 4 ∷ l) (value_append largest_level [] r);
      total = refl;
    }
opened (seq s t) =
    unvalued_root 6 (written s ∷ written t ∷ []) (omega arith) (λ h. omega arith) (λ r. refl) (λ r. refl) (λ r. refl) (omega arith)
opened (par s t) =
    unvalued_root 7 (written s ∷ written t ∷ []) (omega arith) (λ h. omega arith) (λ r. refl) (λ r. refl) (λ r. refl) (omega arith)
opened (either s t) = either_opened s t (leb (byte_count (longest_prefix t)) (byte_count (longest_prefix s))) refl

-- Two lists of types, one behind the other.

plans_append : (xs ys : List Task) (r : List ℕ) → plans (xs ++ ys) r ≡ plans xs (plans ys r)
plans_append [] ys r = refl
plans_append (x ∷ xs) ys r = ap (plan_one x) (plans_append xs ys r)

owing_append : (xs ys : List Task) (r : List ℕ) → owing (xs ++ ys) r ≡ owing xs (owing ys r)
owing_append [] ys r = refl
owing_append (x ∷ xs) ys r = ap (owing_one x) (owing_append xs ys r)

-- Where the loop is: the types still to be gone through begin at `at`, as do their plans, and what is to be written is what has been
-- written and what they still owe.
module _ (types planned lent whole now : List ℕ) (at count : ℕ) where
  record Stage (tasks : List Task) : Type 0 where
    rest : List ℕ
    behind : List ℕ
    here : drop at types ≡ several tasks rest
    plan_here : drop at planned ≡ plans tasks behind
    small : sizes tasks ≤ type_limit
    bytes : List ℕ
    so_far : Begun bytes lent now count
    all : whole ≡ bytes ++ owing tasks []
    fits : length whole ≤ length lent

  pub record Writing : Type 0 where
    tasks : List Task
    stage : Stage tasks

  -- The first of the types.
  record First : Type 0 where
    task : Task
    others : List Task
    stage : Stage (task ∷ others)

-- All that is to be written.
abbrev pub to_write : TypeFront → List ℕ
to_write f = prefix_bytes (longest_prefix (front_tree f)) []

pub starts : (f : TypeFront) {planned lent : List ℕ} → IsPlan (front_tree f) planned → byte_count (longest_prefix (front_tree f)) ≤ length lent
    → Writing f.bytes.now planned lent (to_write f) lent 0 0
starts f {planned} is_planned room =
    record {
      tasks = written (front_tree f) ∷ [];
      stage =
          record {
            rest = (type_at f).rest;
            behind = drop (size (front_tree f)) planned;
            here = (type_at f).here;
            plan_here = is_planned;
            small = omega (arith, f.small);
            bytes = [];
            so_far = record { long = refl; buffer = refl };
            all = refl;
            fits = room;
          };
    }

module _ {types planned lent whole now : List ℕ} {at count : ℕ} where
  -- As many bytes are written and owed as there are to be.
  total : (xs : List Task) → Stage types planned lent whole now at count xs → length whole ≡ count + length (owing xs [])
  total xs stage = omega (arith, ap length stage.all, length-append stage.bytes (owing xs []), stage.so_far.long)

  module _ (writing : Writing types planned lent whole now at count) where
    -- The lent list is as long as it was.
    pub kept : length now ≡ length lent
    kept = length_kept writing.stage.so_far (omega (arith, total writing.tasks writing.stage, writing.stage.fits))

    -- All has been written.
    pub finished : length whole ≤ count → now ≡ at_front whole lent
    finished full = go (owing writing.tasks []) writing.stage.all (total writing.tasks writing.stage)
      where
        go : (owed : List ℕ) → whole ≡ writing.stage.bytes ++ owed → length whole ≡ count + length owed → now ≡ at_front whole lent
        go [] all long =
            let same : whole ≡ writing.stage.bytes = all ∙ append-nil writing.stage.bytes in
            rw same writing.stage.so_far.buffer
        go (k ∷ owed) all long = absurd (omega arith)

    module _ (wanted : count < length whole) where
      first : First types planned lent whole now at count
      first = go writing.tasks writing.stage
        where
          go : (xs : List Task) → Stage types planned lent whole now at count xs → First types planned lent whole now at count
          go [] stage = absurd (omega (arith, total [] stage))
          go (x ∷ xs) stage = record { task = x; others = xs; stage = stage }

      abbrev root : Ty
      root = type_of first.task

      pub stands : SomeTypeAt types at
      stands =
          record {
            type = root;
            stands = record { rest = several first.others first.stage.rest; here = first.stage.here; small = omega (arith, first.stage.small) };
          }

      pub inside : at < length types
      inside = starts_inside stands.stands

      pub further : {end : ℕ} → TypeEnds types at end → at < end
      further found = omega (arith, found.each stands.type stands.stands, size_positive stands.type)

      -- The byte of the plan at `at`.
      abbrev planned_byte : ℕ
      planned_byte = get_or planned at 0

      byte_at : (k : ℕ) (l : List ℕ) → drop at planned ≡ k ∷ l → planned_byte ≡ k
      byte_at k l e = sym (rw add-zero at (get_or-drop at planned 0 0)) ∙ ap (λ x. get_or x 0 0) e

      pub plan_inside : at < length planned
      plan_inside = go first.task first.stage.plan_here
        where
          go : (x : Task) → drop at planned ≡ plan_one x (plans first.others first.stage.behind) → at < length planned
          go (passed t) e =
              let l = plans first.others first.stage.behind in
              omega (arith, ap length e, length-drop at planned, passed_over_length (plan t l), plan_length t l, size_positive t)
          go (written t) e =
              let l = plans first.others first.stage.behind in
              omega (arith, ap length e, length-drop at planned, plan_length t l, size_positive t)

      -- A type that is passed over is marked by 255, and another is not.
      pub passed_on : planned_byte ≡ 255 → {end : ℕ} → TypeEnds types at end → Writing types planned lent whole now end count
      passed_on mark {end} found = go first.task first.stage
        where
          xs : List Task
          xs = first.others

          go : (x : Task) → Stage types planned lent whole now at count (x ∷ xs) → Writing types planned lent whole now end count
          go (written t) stage =
              let o = opened t in
              let b = byte_at o.byte (plans o.parts (plans xs stage.behind)) (stage.plan_here ∙ o.planned (plans xs stage.behind)) in
              absurd (omega (arith, o.listed))
          go (passed t) stage =
              let stood : TypeAt types at t = record { rest = several xs stage.rest; here = stage.here; small = omega (arith, stage.small) } in
              let ends : end ≡ at + size t = found.each t stood in
              record {
                tasks = xs;
                stage =
                    record {
                      rest = stage.rest;
                      behind = stage.behind;
                      here = rw (ends, ← drop-drop (size t) at types, stage.here) (type_drop t (several xs stage.rest));
                      plan_here =
                          rw (ends, ← drop-drop (size t) at planned, stage.plan_here)
                          (passed_over_drop (size t) (plan t (plans xs stage.behind)) (size_positive t) ∙ plan_drop t (plans xs stage.behind));
                      small = omega (arith, stage.small);
                      bytes = stage.bytes;
                      so_far = stage.so_far;
                      all = stage.all;
                      fits = stage.fits;
                    };
              }

      -- A type that is written.
      module _ (other : planned_byte ≡ 255 → ⊥) where
        record Due : Type 0 where
          type : Ty
          others : List Task
          stage : Stage types planned lent whole now at count (written type ∷ others)

        is_due : Due
        is_due = go first.task first.stage
          where
            go : (x : Task) → Stage types planned lent whole now at count (x ∷ first.others) → Due
            go (written t) stage = record { type = t; others = first.others; stage = stage }
            go (passed t) stage =
                let l = plans first.others stage.behind in
                absurd (other (byte_at 255 _ (stage.plan_here ∙ ap passed_over ((opened t).planned l))))

        open_type : Opened is_due.type
        open_type = opened is_due.type

        byte_is : planned_byte ≡ open_type.byte
        byte_is =
            let l = plans is_due.others is_due.stage.behind in
            byte_at open_type.byte (plans open_type.parts l) (is_due.stage.plan_here ∙ open_type.planned l)

        -- Its byte and its value have room.
        room : count + 1 + length open_type.value ≤ length now
        room =
            omega (
              arith,
              kept,
              is_due.stage.fits,
              total (written is_due.type ∷ is_due.others) is_due.stage,
              ap length (open_type.owes (owing is_due.others [])),
              length-append open_type.value (owing open_type.parts (owing is_due.others [])),
            )

        -- They are written, and its parts take its place.
        node : {after : List ℕ} {end : ℕ} → Begun ((is_due.stage.bytes ++ planned_byte ∷ []) ++ open_type.value) lent after end
            → Writing types planned lent whole after (at + 1) end
        node {after} {end} so_far =
            let stage = is_due.stage in
            let o = open_type in
            let xs = is_due.others in
            record {
              tasks = o.parts ++ xs;
              stage =
                  record {
                    rest = stage.rest;
                    behind = stage.behind;
                    here =
                        rw (← drop-drop 1 at types, stage.here, o.types (several xs stage.rest))
                        (sym (several_append o.parts xs stage.rest));
                    plan_here =
                        rw (← drop-drop 1 at planned, stage.plan_here, o.planned (plans xs stage.behind))
                        (sym (plans_append o.parts xs stage.behind));
                    small = omega (arith, sizes_append o.parts xs, o.total, stage.small);
                    bytes = (stage.bytes ++ planned_byte ∷ []) ++ o.value;
                    so_far = so_far;
                    all =
                        stage.all
                        ∙ ap (λ l. stage.bytes ++ l) (o.owes (owing xs []) ∙ ap₂ (λ k l. k ∷ o.value ++ l) (sym byte_is) (sym (owing_append o.parts xs [])))
                        ∙ sym (append_assoc stage.bytes (planned_byte ∷ []) (o.value ++ owing (o.parts ++ xs) []))
                        ∙ sym (append_assoc (stage.bytes ++ planned_byte ∷ []) o.value (owing (o.parts ++ xs) []));
                    fits = stage.fits;
                  };
            }

        -- The byte alone, where no value is behind it.
        pub byte_room : count < length now
        byte_room = omega (arith, room)

        byte_written : Begun (is_due.stage.bytes ++ planned_byte ∷ []) lent (set now count planned_byte) (count + 1)
        byte_written = byte_on is_due.stage.so_far planned_byte (omega (arith, byte_room, kept))

        pub without_value : (planned_byte ≡ 4 → ⊥) → Writing types planned lent whole (set now count planned_byte) (at + 1) (count + 1)
        without_value n =
            let none : open_type.value ≡ [] = open_type.unvalued (λ four. n (byte_is ∙ four)) in
            node (rw (none, append-nil (is_due.stage.bytes ++ planned_byte ∷ [])) byte_written)

        -- And with a value.
        module _ (four : planned_byte ≡ 4) where
          value_is : open_type.value ≡ largest_value
          value_is = open_type.valued (sym byte_is ∙ four)

          pub value_room : count + 1 + length largest_value ≤ length now
          value_room = omega (arith, room, ap length value_is)

          pub with_value : {end : ℕ} {y : List ℕ} → end ≡ count + 1 + length largest_value → y ≡ at_front largest_value (part (count + 1) (set now count planned_byte))
              → Writing types planned lent whole (back (count + 1) (set now count planned_byte) y) (at + 1) end
          with_value long copied = rw long (node (rw value_is (goes_on byte_written largest_value copied refl)))
