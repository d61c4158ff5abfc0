-- The join of two prefixes of which the first is a leaf, in their bytes: one of the two is copied.
use mathlib.Core.Path.{◌≡◌}
use mathlib.Core.Bool.{true, false}
use mathlib.Core.List.{List, []}
use Prim.Native.Nat.{ℕ, ◌+◌, ◌≤◌}
use native.Mathlib.Omega.{arith}
use lib.ListN.{get_or}
use Rattle.stream.specs.Prefixes.Kinds.{prefix_arity}
use Rattle.reading.specs.SliceReads.{is_unfinished}
use Rattle.reading.specs.SliceReads.Laws.{prefix_bytes_length, kind_at}
use Rattle.writing.specs.Writing.{PrefixDue, PrefixWritten, ConcatDue, ConcatWritten}
use Rattle.writing.proofs.PrefixKinds.{kind_listed, Awaited, awaited, Come, come, empty_wide}

module _ {first second : List ℕ} {first_place second_place : ℕ} {lent : List ℕ} where
  module _ (leaf : prefix_arity (get_or first first_place 0) ≡ 0) where
    -- A leaf still awaited gives way to the second prefix.
    module _ (unfinished : is_unfinished (get_or first first_place 0) ≡ true) where
      is_awaited : (due : ConcatDue first first_place second second_place lent) → Awaited due.one
      is_awaited due =
          let k = kind_at due.follows.first_at in
          awaited due.one (rw k at leaf) (rw k at unfinished)

      pub awaited_due : ConcatDue first first_place second second_place lent → PrefixDue second second_place lent
      awaited_due due =
          record { prefix = due.other; stands = due.follows.second_at; room = rw ((is_awaited due).gives_way due.other) at due.room }

      pub awaited_written : {lent_after : List ℕ} {written : ℕ} → PrefixWritten second second_place lent lent_after written
          → ConcatWritten first first_place second second_place lent lent_after (record { first = first_place + 1; second = second_place + written; written = written })
      unfolding awaited_due
      awaited_written done =
          record {
            each = λ due.
                let w = is_awaited due in
                let d = done.each (awaited_due due) in
                record {
                  first = omega (arith, w.wide);
                  second = omega (arith, d.0);
                  written = rw (w.gives_way due.other) (omega (arith, d.0, prefix_bytes_length due.other []));
                  buffer = rw (w.gives_way due.other) d.1;
                };
          }

    -- After one that has come there is nothing left but the empty type.
    module _ (finished : is_unfinished (get_or first first_place 0) ≡ false) where
      is_come : (due : ConcatDue first first_place second second_place lent) → Come due.type due.one
      is_come due =
          let k = kind_at due.follows.first_at in
          come due.follows.is_first (rw k at leaf) (rw k at finished)

      pub come_due : ConcatDue first first_place second second_place lent → PrefixDue first first_place lent
      come_due due =
          record { prefix = due.one; stands = due.follows.first_at; room = rw ((is_come due).stays due.other) at due.room }

      pub come_written : {lent_after : List ℕ} {written : ℕ} → PrefixWritten first first_place lent lent_after written
          → ConcatWritten first first_place second second_place lent lent_after (record { first = first_place + written; second = second_place + 1; written = written })
      unfolding come_due
      come_written done =
          record {
            each = λ due.
                let w = is_come due in
                let d = done.each (come_due due) in
                record {
                  first = omega (arith, d.0);
                  second = omega (arith, empty_wide (rw w.leaves at due.follows.is_second));
                  written = rw (w.stays due.other) (omega (arith, d.0, prefix_bytes_length due.one []));
                  buffer = rw (w.stays due.other) d.1;
                };
          }

  -- A kind above 10 does not stand there.
  pub unlisted : 11 ≤ get_or first first_place 0 → ConcatDue first first_place second second_place lent → ⊥
  unlisted h due = omega (arith, kind_at due.follows.first_at, kind_listed due.one)
