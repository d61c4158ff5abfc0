-- The file of a join: the count of its bytes, and behind it the bytes.
use mathlib.Core.Path.{◌≡◌}
use mathlib.Core.List.{List, []}
use Prim.Native.Nat.{ℕ}
use native.Mathlib.Omega.{arith}
use Rattle.writing.specs.declared.Moved.{Moved}
use Rattle.stream.specs.Prefixes.Functions.{concat}
use Rattle.stream.specs.SliceFiles.{prefix_bytes, slice_file_bytes}
use Rattle.reading.specs.SliceReads.Laws.{prefix_bytes_length}
use Rattle.stream.specs.Buffers.{at_front}
use Rattle.writing.specs.Writing.{ConcatDue, ConcatWritten, JoinedFileDue, JoinedFileWritten}
use Rattle.writing.specs.Writing.Laws.{part, back, count_bytes, room_behind_count, section_written}

module _ {first second : List ℕ} {joined : ℕ} {lent y : List ℕ} (counted : y ≡ at_front (count_bytes joined) lent) where
  abbrev pub body_due : JoinedFileDue first second joined lent → ConcatDue first 2 second 2 (part 2 y)
  body_due due =
      record {
        type = due.type;
        one = due.one;
        other = due.other;
        follows = due.follows;
        room = omega (arith, room_behind_count joined lent y counted, due.measured, due.room);
      }

  pub joined_file_written : {z : List ℕ} {moved : Moved} → ConcatWritten first 2 second 2 (part 2 y) z moved
      → JoinedFileWritten first second joined lent (back 2 y z)
  unfolding slice_file_bytes
  joined_file_written {z} written = record { each = go }
    where
      go : (due : JoinedFileDue first second joined lent) → back 2 y z ≡ at_front (slice_file_bytes (concat due.one due.other)) lent
      go due =
          section_written joined lent y counted (prefix_bytes (concat due.one due.other) []) z
          (omega (arith, due.measured, prefix_bytes_length (concat due.one due.other) []))
          (written.each (body_due due)).buffer
