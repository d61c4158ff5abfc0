-- The file of the longest prefix: the count of its bytes, and behind it the bytes.
use Rattle.std.proofs.Common.{◌≡◌, List, [], ℕ, ◌+◌, ◌≤◌, length, arith}
use Rattle.stream.specs.Types.{Ty, Small}
use Rattle.stream.specs.Buffers.{at_front}
use Rattle.stream.specs.SliceFiles.{prefix_bytes, slice_file_bytes}
use Rattle.stream.specs.Longest.{byte_count, longest_prefix}
use Rattle.writing.specs.Writing.Laws.{part, back, count_bytes, room_behind_count, section_written}
use Rattle.measuring.specs.Planning.Laws.{longest_short}

module _ (t : Ty) {width : ℕ} (measured : width ≡ byte_count (longest_prefix t)) where
  pub countable : Small t → width ≤ 511
  countable small = omega (arith, longest_short t small)

  module _ (lent : List ℕ) {y : List ℕ} (counted : y ≡ at_front (count_bytes width) lent) where
    pub body_room : 2 + width ≤ length lent → width ≤ length (part 2 y)
    body_room room = omega (arith, room_behind_count width lent y counted)

    pub file_written : {z : List ℕ} → z ≡ at_front (prefix_bytes (longest_prefix t) []) (part 2 y)
        → back 2 y z ≡ at_front (slice_file_bytes (longest_prefix t)) lent
    unfolding slice_file_bytes
    file_written {z} written = section_written width lent y counted (prefix_bytes (longest_prefix t) []) z measured written
