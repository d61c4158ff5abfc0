-- `write_concat` meets its contract: the kinds of the two prefixes say which parts meet (`Meets`), each call writes its piece
-- on the part of what was lent that is behind the pieces before it (`Begun`), and each starts further on in the first prefix.
use Rattle.std.proofs.Common.{refl, arith, length-set}
use Rattle.writing.proofs.JoiningLeaf.{unlisted}
use Rattle.writing.proofs.JoiningParts.{inside, settled, joins_first, started, coming_written, crossing_due, crossing_written, aside_due, aside_written, copies_first, copied, behind_due, behind_written}
use Rattle.writing.proofs.JoiningChoice.{chosen_due, chosen_written}
use Rattle.writing.proofs.+write_concat.Goals as goal

pub bounds-first-first_place : goal.bounds-first-first_place
bounds-first-first_place t c = omega (arith, inside _ _ _ _ _ c.requires)

-- A first prefix whose first part is still coming.

pub bounds-second-second_place : goal.bounds-second-second_place
bounds-second-second_place t c = omega (arith, inside _ _ _ _ _ c.requires)

pub bounds-out-0 : goal.bounds-out-0
bounds-out-0 t c = omega (arith, inside _ _ _ _ _ c.requires)

pub overflow_add-second_place : goal.overflow_add-second_place
overflow_add-second_place t c = omega (arith, inside _ _ _ _ _ c.requires)

pub slice_bounds-write_concat-count : goal.slice_bounds-write_concat-count
slice_bounds-write_concat-count t c = simp length-set (omega (arith, inside _ _ _ _ _ c.requires))

pub slice_bounds-write_concat-start : goal.slice_bounds-write_concat-start
slice_bounds-write_concat-start t c = slice_bounds-write_concat-count t c

pub write_concat-part-requires : goal.write_concat-part-requires
write_concat-part-requires t c = (
  omega (arith, inside _ _ _ _ _ c.requires),
  joins_first _ _ _ _ _ _ c.requires (rw c.in-5.is (omega arith)) (omega (arith, c.in-5.is)) (λ six. omega (arith, c.in-5.is)),
)

pub onward-requires : goal.onward-requires
onward-requires t c =
    omega (
      arith,
      settled _ _ _ _ _ c.requires (coming_written _ _ _ _ _ _ c.write_concat-part.ensures refl c.in-5.is c.if-kind-eq5.true),
    )

pub returns-then-kind-eq5 : goal.returns-then-kind-eq5
returns-then-kind-eq5 t c =
    rw c.onward.ensures (coming_written _ _ _ _ _ _ c.write_concat-part.ensures refl c.in-5.is c.if-kind-eq5.true)

-- The second prefix brings the crossing.

pub overflow_add-written : goal.overflow_add-written
overflow_add-written t c =
    omega (
      arith,
      started _ _ _ _ _ _ c.write_concat-part.ensures c.requires (rw c.in-5.is (omega arith)) (omega (arith, c.in-5.is))
          (λ six. omega (arith, c.in-5.is)),
    )

pub slice_bounds-copy_prefix-count : goal.slice_bounds-copy_prefix-count
slice_bounds-copy_prefix-count t c =
    omega (
      arith,
      started _ _ _ _ _ _ c.write_concat-part.ensures c.requires (rw c.in-5.is (omega arith)) (omega (arith, c.in-5.is))
          (λ six. omega (arith, c.in-5.is)),
    )

pub slice_bounds-copy_prefix-start : goal.slice_bounds-copy_prefix-start
slice_bounds-copy_prefix-start t c = slice_bounds-copy_prefix-count t c

pub copy_prefix-copied-requires : goal.copy_prefix-copied-requires
copy_prefix-copied-requires t c = crossing_due _ _ _ _ _ _ c.write_concat-part.ensures refl c.in-5.is c.if-kind-eq5.false c.requires

pub overflow_add-result : goal.overflow_add-result
overflow_add-result t c =
    omega (
      arith,
      settled _ _ _ _ _ c.requires
          (crossing_written _ _ _ _ _ _ c.write_concat-part.ensures refl c.in-5.is c.if-kind-eq5.false c.copy_prefix-copied.ensures),
    )

pub overflow_add-result-in-5 : goal.overflow_add-result-in-5
overflow_add-result-in-5 t c =
    omega (
      arith,
      settled _ _ _ _ _ c.requires
          (crossing_written _ _ _ _ _ _ c.write_concat-part.ensures refl c.in-5.is c.if-kind-eq5.false c.copy_prefix-copied.ensures),
    )

pub returns-else-kind-eq5 : goal.returns-else-kind-eq5
returns-else-kind-eq5 t c =
    crossing_written _ _ _ _ _ _ c.write_concat-part.ensures refl c.in-5.is c.if-kind-eq5.false c.copy_prefix-copied.ensures

-- A first prefix that has crossed.

pub bounds-out-0-in-6 : goal.bounds-out-0-in-6
bounds-out-0-in-6 t c = omega (arith, inside _ _ _ _ _ c.requires)

pub slice_bounds-copy_prefix-count-in-6 : goal.slice_bounds-copy_prefix-count-in-6
slice_bounds-copy_prefix-count-in-6 t c = simp length-set (omega (arith, inside _ _ _ _ _ c.requires))

pub slice_bounds-copy_prefix-start-in-6 : goal.slice_bounds-copy_prefix-start-in-6
slice_bounds-copy_prefix-start-in-6 t c = slice_bounds-copy_prefix-count-in-6 t c

pub copy_prefix-written-requires : goal.copy_prefix-written-requires
copy_prefix-written-requires t c = copies_first _ _ _ _ _ c.in-6.is c.requires

pub overflow_add-written-in-6 : goal.overflow_add-written-in-6
overflow_add-written-in-6 t c = omega (arith, copied _ _ _ _ _ c.in-6.is c.copy_prefix-written.ensures c.requires)

pub overflow_add-first_place-in-6-2 : goal.overflow_add-first_place-in-6-2
overflow_add-first_place-in-6-2 t c = omega (arith, copied _ _ _ _ _ c.in-6.is c.copy_prefix-written.ensures c.requires)

pub slice_bounds-write_concat-count-in-6 : goal.slice_bounds-write_concat-count-in-6
slice_bounds-write_concat-count-in-6 t c = omega (arith, copied _ _ _ _ _ c.in-6.is c.copy_prefix-written.ensures c.requires)

pub slice_bounds-write_concat-start-in-6 : goal.slice_bounds-write_concat-start-in-6
slice_bounds-write_concat-start-in-6 t c = slice_bounds-write_concat-count-in-6 t c

pub write_concat-rest-requires : goal.write_concat-rest-requires
write_concat-rest-requires t c = (
  omega (arith, inside _ _ _ _ _ c.requires, copied _ _ _ _ _ c.in-6.is c.copy_prefix-written.ensures c.requires),
  behind_due _ _ _ _ _ c.in-6.is c.copy_prefix-written.ensures c.requires,
)

pub onward-requires-in-6 : goal.onward-requires-in-6
onward-requires-in-6 t c =
    omega (
      arith,
      settled _ _ _ _ _ c.requires (behind_written _ _ _ _ _ c.in-6.is c.copy_prefix-written.ensures c.write_concat-rest.ensures),
    )

pub returns-in-6 : goal.returns-in-6
returns-in-6 t c =
    rw c.onward-in-6.ensures (behind_written _ _ _ _ _ c.in-6.is c.copy_prefix-written.ensures c.write_concat-rest.ensures)

-- Two prefixes side by side.

pub bounds-out-0-in-7 : goal.bounds-out-0-in-7
bounds-out-0-in-7 t c = omega (arith, inside _ _ _ _ _ c.requires)

pub overflow_add-second_place-in-7 : goal.overflow_add-second_place-in-7
overflow_add-second_place-in-7 t c = omega (arith, inside _ _ _ _ _ c.requires)

pub slice_bounds-write_concat-count-in-7 : goal.slice_bounds-write_concat-count-in-7
slice_bounds-write_concat-count-in-7 t c = simp length-set (omega (arith, inside _ _ _ _ _ c.requires))

pub slice_bounds-write_concat-start-in-7 : goal.slice_bounds-write_concat-start-in-7
slice_bounds-write_concat-start-in-7 t c = slice_bounds-write_concat-count-in-7 t c

pub write_concat-part-requires-in-7 : goal.write_concat-part-requires-in-7
write_concat-part-requires-in-7 t c = (
  omega (arith, inside _ _ _ _ _ c.requires),
  joins_first _ _ _ _ _ _ c.requires (rw c.in-7.is (omega arith)) (omega (arith, c.in-7.is)) (λ six. omega (arith, c.in-7.is)),
)

pub overflow_add-written-in-7 : goal.overflow_add-written-in-7
overflow_add-written-in-7 t c =
    omega (
      arith,
      started _ _ _ _ _ _ c.write_concat-part-in-7.ensures c.requires (rw c.in-7.is (omega arith)) (omega (arith, c.in-7.is))
          (λ six. omega (arith, c.in-7.is)),
    )

pub slice_bounds-write_concat-count-in-7-2 : goal.slice_bounds-write_concat-count-in-7-2
slice_bounds-write_concat-count-in-7-2 t c =
    omega (
      arith,
      started _ _ _ _ _ _ c.write_concat-part-in-7.ensures c.requires (rw c.in-7.is (omega arith)) (omega (arith, c.in-7.is))
          (λ six. omega (arith, c.in-7.is)),
    )

pub slice_bounds-write_concat-start-in-7-2 : goal.slice_bounds-write_concat-start-in-7-2
slice_bounds-write_concat-start-in-7-2 t c = slice_bounds-write_concat-count-in-7-2 t c

pub write_concat-rest-requires-in-7 : goal.write_concat-rest-requires-in-7
write_concat-rest-requires-in-7 t c = (
  omega (
    arith,
    inside _ _ _ _ _ c.requires,
    started _ _ _ _ _ _ c.write_concat-part-in-7.ensures c.requires (rw c.in-7.is (omega arith)) (omega (arith, c.in-7.is))
        (λ six. omega (arith, c.in-7.is)),
  ),
  aside_due _ _ _ _ _ _ c.write_concat-part-in-7.ensures refl c.in-7.is c.requires,
)

pub onward-requires-in-7 : goal.onward-requires-in-7
onward-requires-in-7 t c =
    omega (
      arith,
      settled _ _ _ _ _ c.requires
          (aside_written _ _ _ _ _ _ c.write_concat-part-in-7.ensures refl c.in-7.is c.write_concat-rest-in-7.ensures),
    )

pub returns-in-7 : goal.returns-in-7
returns-in-7 t c =
    rw c.onward-in-7.ensures
    (aside_written _ _ _ _ _ _ c.write_concat-part-in-7.ensures refl c.in-7.is c.write_concat-rest-in-7.ensures)

-- A choice: the second prefix is joined with the slice behind the mark.

pub bounds-out-0-in-9-to-10 : goal.bounds-out-0-in-9-to-10
bounds-out-0-in-9-to-10 t c = omega (arith, inside _ _ _ _ _ c.requires)

pub slice_bounds-write_concat-count-in-9-to-10 : goal.slice_bounds-write_concat-count-in-9-to-10
slice_bounds-write_concat-count-in-9-to-10 t c = simp length-set (omega (arith, inside _ _ _ _ _ c.requires))

pub slice_bounds-write_concat-start-in-9-to-10 : goal.slice_bounds-write_concat-start-in-9-to-10
slice_bounds-write_concat-start-in-9-to-10 t c = slice_bounds-write_concat-count-in-9-to-10 t c

pub write_concat-part-requires-in-9-to-10 : goal.write_concat-part-requires-in-9-to-10
write_concat-part-requires-in-9-to-10 t c = (omega (arith, inside _ _ _ _ _ c.requires), chosen_due _ _ _ _ (omega arith) c.requires)

pub onward-requires-in-9-to-10 : goal.onward-requires-in-9-to-10
onward-requires-in-9-to-10 t c =
    omega (
      arith,
      settled _ _ _ _ _ c.requires (chosen_written _ _ _ _ (omega arith) c.write_concat-part-in-9-to-10.ensures),
    )

pub returns-in-9-to-10 : goal.returns-in-9-to-10
returns-in-9-to-10 t c =
    rw c.onward-in-9-to-10.ensures (chosen_written _ _ _ _ (omega arith) c.write_concat-part-in-9-to-10.ensures)

-- A kind above 10 does not stand there.

pub returns-in-11-to-255 : goal.returns-in-11-to-255
returns-in-11-to-255 t c = record { each = λ due. absurd (unlisted (omega arith) due) }
