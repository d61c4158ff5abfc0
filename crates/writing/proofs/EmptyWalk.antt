-- The empty prefix of a type written by one loop: the types that are still to be gone through, each to be written or to be
-- passed over, as they stand in the types' bytes, on the stack of marks, and in what is still to be written.
use mathlib.Core.Path.{◌≡◌, refl, sym, ap, ◌∙◌, subst}
use mathlib.Core.List.{List, [], ◌∷◌, ◌++◌, append_assoc, append-nil}
use Prim.Native.Nat.{ℕ, suc, ◌+◌, ◌-◌, ◌≤◌, ◌<◌}
use native.Mathlib.Omega.{arith}
use lib.ListN.{length, get_or, set, drop, length-append, length-set}
use lib.Seq.{drop-drop, get_or-set_same, get_or-set_other}
use Rattle.stream.specs.Types.{Ty, empty, cue, level, seq, par, either, size, type_limit, kind}
use Rattle.stream.proofs.Types.Laws.{size_positive, limit_is}
use Rattle.stream.specs.Buffers.{at_front}
use Rattle.stream.specs.Prefixes.{empty_prefix}
use Rattle.stream.specs.Prefixes.Kinds.{prefix_arity}
use Rattle.stream.specs.TypeFiles.{type_bytes}
use Rattle.stream.specs.SliceFiles.{prefix_bytes}
use Rattle.reading.specs.TypeReads.{TypeAt, SomeTypeAt, TypeEnds}
use Rattle.reading.specs.TypeReads.Laws.{type_drop, kind_at, starts_inside}
use Rattle.reading.specs.SliceReads.{prefix_width}
use Rattle.reading.specs.SliceReads.Laws.{prefix_bytes_length, width_positive}
use Rattle.reading.specs.declared.fronts.TypeFront.{TypeFront}
use Rattle.reading.specs.Fronts.{front_tree}
use Rattle.reading.proofs.TypeFronts.{type_at}
use Rattle.writing.specs.Writing.{empty_kind}
use Rattle.writing.specs.Tasks.{Task, passed, written, type_of, several, sizes, sizes_many}
use Rattle.writing.specs.Appending.Laws.{WrittenSoFar, nothing_written, written_on}
use Rattle.writing.proofs.RoomBehind.{appended_byte}

-- The mark of a type on the stack.
abbrev mark : Task → ℕ
mark (passed t) = 0
mark (written t) = 1

-- The bytes that are still to be written for one of them, and then r; and for all.
abbrev owing_one : Task → List ℕ → List ℕ
owing_one (passed t) r = r
owing_one (written t) r = prefix_bytes (empty_prefix t) r

abbrev owing : List Task → List ℕ
owing [] = []
owing (x ∷ xs) = owing_one x (owing xs)

-- The marks lie on the stack, the first task's on top.
abbrev Marked : List ℕ → List Task → Type 0
Marked stack [] = Unit
Marked stack (x ∷ xs) = (get_or stack (length xs) 0 ≡ mark x) × Marked stack xs

-- A store above them leaves them.
marked_above : (stack : List ℕ) (xs : List Task) (i k : ℕ) → length xs ≤ i → Marked stack xs → Marked (set stack i k) xs
marked_above stack [] i k h m = tt
marked_above stack (x ∷ xs) i k h m = (
  get_or-set_other stack i (length xs) k 0 (λ e. omega arith) ∙ m.0,
  marked_above stack xs i k (omega arith) m.1,
)

-- Two more are put on the stack, the upper one to be written.
marked_two : (stack : List ℕ) (t : Ty) (x : Task) (xs : List Task) (i : ℕ) → i ≡ length xs → i + 1 < length stack → Marked stack xs
    → Marked (set (set stack i (mark x)) (i + 1) 1) (written t ∷ x ∷ xs)
marked_two stack t x xs i e h m = (
  ap (λ n. get_or both n 0) upper ∙ get_or-set_same once (i + 1) 1 0 (simp length-set h),
  (
    ap (λ n. get_or both n 0) (sym e) ∙ get_or-set_other once (i + 1) i 1 0 (λ same. omega arith) ∙ get_or-set_same stack i (mark x) 0 (omega arith),
    marked_above once xs (i + 1) 1 (omega arith) (marked_above stack xs i (mark x) (omega arith) m),
  ),
)
  where
    once : List ℕ
    once = set stack i (mark x)

    both : List ℕ
    both = set once (i + 1) 1

    upper : suc (length xs) ≡ i + 1
    upper = omega arith

-- How many parts the empty prefix of a type has, by the type's kind.
abbrev empty_parts : ℕ → ℕ
empty_parts k = prefix_arity (empty_kind k)

-- An empty prefix without parts is one byte, and the whole type under it is passed.
leaf_owes : (t : Ty) → empty_parts (kind t) ≡ 0 → (r : List ℕ) → prefix_bytes (empty_prefix t) r ≡ empty_kind (kind t) ∷ r
unfolding empty_prefix prefix_bytes
leaf_owes empty h r = refl
leaf_owes cue h r = refl
leaf_owes level h r = refl
leaf_owes (seq s t) h r = absurd (omega arith)
leaf_owes (par s t) h r = absurd (omega arith)
leaf_owes (either s t) h r = refl

-- A type whose empty prefix has parts is a kind byte, for which one byte is written, and two parts: the first is written, and the
-- second if the empty prefix has it.
record Forked (t : Ty) : Type 0 where
  first : Ty
  second : Task
  marks : empty_parts (kind t) - 1 ≡ mark second
  bytes : (r : List ℕ) → type_bytes t r ≡ kind t ∷ type_bytes first (type_bytes (type_of second) r)
  owes : (xs : List Task) → owing (written t ∷ xs) ≡ empty_kind (kind t) ∷ owing (written first ∷ second ∷ xs)
  total : size t ≡ suc (size first + size (type_of second))

forked : (t : Ty) → 0 < empty_parts (kind t) → Forked t
unfolding type_bytes size empty_prefix prefix_bytes
forked empty h = absurd (omega arith)
forked cue h = absurd (omega arith)
forked level h = absurd (omega arith)
forked (seq s t) h = record { first = s; second = passed t; marks = refl; bytes = λ r. refl; owes = λ xs. refl; total = refl }
forked (par s t) h = record { first = s; second = written t; marks = refl; bytes = λ r. refl; owes = λ xs. refl; total = refl }
forked (either s t) h = absurd (omega arith)

module _ (v : TypeFront) (lent now stack : List ℕ) (depth next count : ℕ) where
  -- Where the loop is: the types still to be gone through stand at `next`, their marks lie on the stack, and the empty prefix of
  -- the front's type is what has been written and what they still owe.
  record Stage (tasks : List Task) : Type 0 where
    room : prefix_width (empty_prefix (front_tree v)) ≤ length lent
    rest : List ℕ
    here : drop next v.bytes.now ≡ several tasks rest
    small : sizes tasks ≤ type_limit
    deep : depth ≡ length tasks
    marked : Marked stack tasks
    bytes : List ℕ
    so_far : WrittenSoFar bytes lent now count
    whole : prefix_bytes (empty_prefix (front_tree v)) [] ≡ bytes ++ owing tasks

  -- The same, whichever types are still to be gone through; `tall` is how many marks the stack holds.
  pub record Emptying : Type 0 where
    tasks : List Task
    stage : Stage tasks
    tall : length stack ≡ 255

  -- The first of the types, whose mark lies on top.
  record First : Type 0 where
    task : Task
    others : List Task
    stage : Stage (task ∷ others)
    top : depth - 1 ≡ length others
    on_top : get_or stack (depth - 1) 0 ≡ mark task

-- At first there is the type at the front, to be written.
pub starts : (v : TypeFront) {lent stack : List ℕ} → prefix_width (empty_prefix (front_tree v)) ≤ length lent → get_or stack 0 0 ≡ 1 → length stack ≡ 255
    → Emptying v lent lent stack 1 0 0
starts v {lent} room top tall =
    record {
      tasks = written (front_tree v) ∷ [];
      stage =
          record {
            room = room;
            rest = (type_at v).rest;
            here = (type_at v).here;
            small = omega (arith, v.small);
            deep = refl;
            marked = (top, tt);
            bytes = [];
            so_far = nothing_written lent;
            whole = refl;
          };
      tall = tall;
    }

module _ {v : TypeFront} {lent now stack : List ℕ} {depth next count : ℕ} where
  -- What is owed has room behind what has been written.
  room : (xs : List Task) → Stage v lent now stack depth next count xs → count + length (owing xs) ≤ length lent
  room xs stage =
      omega (
        arith,
        ap length stage.whole,
        length-append stage.bytes (owing xs),
        prefix_bytes_length (empty_prefix (front_tree v)) [],
        stage.room,
        stage.so_far.long,
      )

  -- The first of the types stands at `next`.
  first_at : (x : Task) (xs : List Task) → Stage v lent now stack depth next count (x ∷ xs) → TypeAt v.bytes.now next (type_of x)
  first_at x xs stage = record { rest = several xs stage.rest; here = stage.here; small = omega (arith, stage.small) }

  -- Behind it stand the others.
  behind_first : (x : Task) (xs : List Task) (stage : Stage v lent now stack depth next count (x ∷ xs)) {end : ℕ} → TypeEnds v.bytes.now next end
      → drop end v.bytes.now ≡ several xs stage.rest
  behind_first x xs stage found =
      rw (found.each (type_of x) (first_at x xs stage), ← drop-drop (size (type_of x)) next v.bytes.now, stage.here)
      (type_drop (type_of x) (several xs stage.rest))

  -- The lent list is as long as it was.
  pub kept : Emptying v lent now stack depth next count → length now ≡ length lent
  kept emptying = emptying.stage.so_far.holds.long

  -- The marks have room on the stack.
  pub not_deep : Emptying v lent now stack depth next count → depth ≤ 255
  not_deep emptying = omega (arith, sizes_many emptying.tasks, emptying.stage.deep, emptying.stage.small, limit_is)

  -- All have been gone through.
  pub ends : Emptying v lent now stack depth next count → depth ≡ 0
      → (count ≡ prefix_width (empty_prefix (front_tree v))) × (now ≡ at_front (prefix_bytes (empty_prefix (front_tree v)) []) lent)
  ends emptying none = go emptying.tasks emptying.stage
    where
      go : (xs : List Task) → Stage v lent now stack depth next count xs
          → (count ≡ prefix_width (empty_prefix (front_tree v))) × (now ≡ at_front (prefix_bytes (empty_prefix (front_tree v)) []) lent)
      go [] stage =
          let all : prefix_bytes (empty_prefix (front_tree v)) [] ≡ stage.bytes = stage.whole ∙ append-nil stage.bytes in (
            omega (arith, stage.so_far.long, ap length all, prefix_bytes_length (empty_prefix (front_tree v)) []),
            rw all (stage.so_far.holds.in_front (omega (arith, stage.so_far.long, room [] stage))),
          )
      go (x ∷ xs) stage = absurd (omega (arith, stage.deep))

  -- While one is left, it is the first or one of the others.
  first : Emptying v lent now stack depth next count → 0 < depth → First v lent now stack depth next count
  first emptying wanted = go emptying.tasks emptying.stage
    where
      go : (xs : List Task) → Stage v lent now stack depth next count xs → First v lent now stack depth next count
      go [] stage = absurd (omega (arith, stage.deep))
      go (x ∷ xs) stage =
          let e : depth - 1 ≡ length xs = omega (arith, stage.deep) in
          record { task = x; others = xs; stage = stage; top = e; on_top = ap (λ n. get_or stack n 0) e ∙ stage.marked.0 }

  module _ (emptying : Emptying v lent now stack depth next count) (wanted : 0 < depth) where
    -- A type stands at `next`, so a byte does, and its end lies further on.
    pub stands : SomeTypeAt v.bytes.now next
    stands =
        let f = first emptying wanted in
        record { type = type_of f.task; stands = first_at f.task f.others f.stage }

    pub inside : next < length v.bytes.now
    inside = starts_inside stands.stands

    pub further : {end : ℕ} → TypeEnds v.bytes.now next end → next < end
    further found = omega (arith, found.each stands.type stands.stands, size_positive stands.type)

    -- A type that is passed over.
    pub passed_over : {end : ℕ} → get_or stack (depth - 1) 0 ≡ 0 → TypeEnds v.bytes.now next end → Emptying v lent now stack (depth - 1) end count
    passed_over {end} none found = go f.task f.stage f.on_top
      where
        f : First v lent now stack depth next count
        f = first emptying wanted

        go : (x : Task) → Stage v lent now stack depth next count (x ∷ f.others) → get_or stack (depth - 1) 0 ≡ mark x
            → Emptying v lent now stack (depth - 1) end count
        go (written t) stage one = absurd (omega arith)
        go (passed t) stage e =
            record {
              tasks = f.others;
              stage =
                  record {
                    room = stage.room;
                    rest = stage.rest;
                    here = behind_first (passed t) f.others stage found;
                    small = omega (arith, stage.small);
                    deep = f.top;
                    marked = stage.marked.1;
                    bytes = stage.bytes;
                    so_far = stage.so_far;
                    whole = stage.whole;
                  };
              tall = emptying.tall;
            }

    -- A type that is written.
    module _ (other : get_or stack (depth - 1) 0 ≡ 0 → ⊥) where
      -- The first of the types is to be written.
      record Due : Type 0 where
        type : Ty
        others : List Task
        stage : Stage v lent now stack depth next count (written type ∷ others)
        top : depth - 1 ≡ length others

      is_due : Due
      is_due = go f.task f.stage f.on_top
        where
          f : First v lent now stack depth next count
          f = first emptying wanted

          go : (x : Task) → Stage v lent now stack depth next count (x ∷ f.others) → get_or stack (depth - 1) 0 ≡ mark x → Due
          go (passed t) stage none = absurd (other none)
          go (written t) stage one = record { type = t; others = f.others; stage = stage; top = f.top }

      -- Its kind byte stands at `next`, and there is room for the byte that is written for it.
      kind_is : get_or v.bytes.now next 0 ≡ kind is_due.type
      kind_is = kind_at (first_at (written is_due.type) is_due.others is_due.stage)

      pub has_room : count < length now
      has_room =
          let t = is_due.type in
          omega (
            arith,
            room (written t ∷ is_due.others) is_due.stage,
            prefix_bytes_length (empty_prefix t) (owing is_due.others),
            width_positive (empty_prefix t),
            kept emptying,
          )

      -- That byte is written, and `tasks` are to be gone through then.
      node : (tasks : List Task) {stack_after : List ℕ} {depth_after end : ℕ} → length stack_after ≡ 255 → drop end v.bytes.now ≡ several tasks is_due.stage.rest
          → sizes tasks ≤ type_limit → depth_after ≡ length tasks → Marked stack_after tasks
          → owing (written is_due.type ∷ is_due.others) ≡ empty_kind (kind is_due.type) ∷ owing tasks
          → Emptying v lent (set now count (empty_kind (get_or v.bytes.now next 0))) stack_after depth_after end (count + 1)
      node tasks tall here small deep marked owes =
          let k = empty_kind (get_or v.bytes.now next 0) in
          let stage = is_due.stage in
          record {
            tasks = tasks;
            stage =
                record {
                  room = stage.room;
                  rest = stage.rest;
                  here = here;
                  small = small;
                  deep = deep;
                  marked = marked;
                  bytes = stage.bytes ++ k ∷ [];
                  so_far = written_on stage.so_far (appended_byte now count k has_room);
                  whole =
                      stage.whole
                      ∙ ap (λ l. stage.bytes ++ l) (owes ∙ rw kind_is)
                      ∙ sym (append_assoc stage.bytes (k ∷ []) (owing tasks));
                };
            tall = tall;
          }

      -- Where the empty prefix is a leaf the others are left, behind the whole type.
      pub leaf : empty_parts (get_or v.bytes.now next 0) ≡ 0 → {end : ℕ} → TypeEnds v.bytes.now next end
          → Emptying v lent (set now count (empty_kind (get_or v.bytes.now next 0))) stack (depth - 1) end (count + 1)
      leaf none found =
          let t = is_due.type in
          let xs = is_due.others in
          node xs emptying.tall (behind_first (written t) xs is_due.stage found) (omega (arith, is_due.stage.small)) is_due.top
          is_due.stage.marked.1 (leaf_owes t (rw kind_is at none) (owing xs))

      -- Where it has parts the marks of the type's parts take the place of its own.
      module _ (fork : 0 < empty_parts (get_or v.bytes.now next 0)) where
        is_forked : Forked is_due.type
        is_forked = forked is_due.type (rw kind_is at fork)

        pub stack_room : depth - 1 + 1 < 255
        stack_room =
            omega (
              arith,
              is_forked.total,
              size_positive is_forked.first,
              size_positive (type_of is_forked.second),
              sizes_many is_due.others,
              is_due.stage.small,
              is_due.top,
              limit_is,
            )

        pub two_parts : {many : ℕ} → many ≡ empty_parts (get_or v.bytes.now next 0)
            → Emptying v lent (set now count (empty_kind (get_or v.bytes.now next 0))) (set (set stack (depth - 1) (many - 1)) (depth - 1 + 1) 1)
            (depth - 1 + 2) (next + 1) (count + 1)
        two_parts {many = many} counted =
            let f = is_forked in
            let xs = is_due.others in
            let stage = is_due.stage in
            let mark_is : many - 1 ≡ mark f.second = rw (counted, kind_is) f.marks in
            node (written f.first ∷ f.second ∷ xs) (simp length-set emptying.tall)
            (rw (← drop-drop 1 next v.bytes.now, stage.here, f.bytes (several xs stage.rest)))
            (omega (arith, f.total, stage.small)) (omega (arith, is_due.top))
            (subst (λ (k : ℕ). Marked (set (set stack (depth - 1) k) (depth - 1 + 1) 1) (written f.first ∷ f.second ∷ xs)) (sym mark_is)
            (marked_two stack f.first f.second xs (depth - 1) is_due.top (omega (arith, stack_room, emptying.tall)) stage.marked.1))
            (f.owes xs)
