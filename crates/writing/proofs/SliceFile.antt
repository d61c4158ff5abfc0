-- A slice file: what is answered and what has been written, by how the walk through its section ends.
use mathlib.Core.Path.{◌≡◌, sym, ap, ◌∙◌}
use mathlib.Core.Bool.{false}
use mathlib.Core.List.{List, []}
use Prim.Native.Nat.{ℕ, ◌+◌, ◌-◌, ◌≤◌, ◌<◌}
use native.Mathlib.Omega.{arith}
use lib.ListN.{length, take, drop}
use Rattle.stream.specs.declared.Fault.{Fault}
use Rattle.stream.specs.declared.Fault.TheVariants.{SliceCutShort, SliceLeftOver}
use Rattle.reading.specs.declared.prefixes.Known.{Known}
use Rattle.stream.specs.Types.{Ty, type_limit, Small}
use Rattle.stream.specs.Prefixes.{Prefix, derivative}
use Rattle.stream.specs.Reading.{Bytes, Reading, read, fault, accepted, refused}
use Rattle.stream.proofs.Reading.Laws.{bytes_drop, bytes_take}
use Rattle.stream.specs.Reading.Walking.{count, body}
use Rattle.stream.specs.TypeFiles.{type_bytes}
use Rattle.stream.specs.SliceFiles.{read_prefix, slice_file}
use Rattle.reading.specs.SliceReads.{known, slice_read, read_owed, Walks}
use Rattle.reading.specs.Sections.Laws.{body_length}
use Rattle.writing.specs.Appending.{Holds}
use Rattle.writing.specs.Leaving.{LeftBy, Leaves, SliceReadLeaving}
use Rattle.writing.proofs.SectionFile as section
use Rattle.writing.proofs.SliceWalk.{failed, came}
use Rattle.std.specs.Prelude.{Err, Ok, Result}

-- What is answered where the file is a slice file of t.
abbrev pub Answers : Ty → List ℕ → Result Known Fault → Type 0
Answers t s answer = answer ≡ slice_read t (slice_file t s)

module _ (t : Ty) (s : List ℕ) where
  refuses : (e : Fault) → slice_file t s ≡ refused e → Answers t s (Err e)
  unfolding slice_read
  refuses e h = sym (ap (slice_read t) h)

  pub count_missing : length s < 2 → Answers t s (Err SliceCutShort)
  unfolding slice_file
  count_missing h = refuses SliceCutShort (section.count_missing SliceCutShort SliceLeftOver (read_prefix t) s h)

  pub section_short : length s - 2 < count s → Answers t s (Err SliceCutShort)
  unfolding slice_file
  section_short h = refuses SliceCutShort (section.section_short SliceCutShort SliceLeftOver (read_prefix t) s h)

  module _ (small : Small t) (two : 2 ≤ length s) (fits : count s ≤ length s - 2) where
    pub walk_failed : (e : Fault) → Walks t (body s) false (fault e) → Answers t s (Err e)
    unfolding slice_file read_prefix read_owed
    walk_failed e w =
        refuses e (section.tree_failed SliceCutShort SliceLeftOver (read_prefix t) s two fits e (failed type_limit small e w))

    module _ (bytes : Bytes s) {rest : List ℕ} {knowledge : Known} (walked : Walks t (body s) false (read knowledge rest)) where
      held : (h : section.Holds SliceCutShort SliceLeftOver (read_prefix t) s (count s - length rest)) × (knowledge ≡ known t h.tree) × (length rest ≤ count s)
      unfolding read_prefix read_owed
      held =
          let b = bytes_take (count s) (drop 2 s) (bytes_drop 2 s bytes) in
          let c = came type_limit small b walked in
          let within : length rest ≤ count s = omega (arith, c.inside, body_length s two fits) in
          (record { tree = c.prefix; rest = rest; reads = c.reads; place = omega arith }, c.knows, within)

      pub left_inside : 0 < length rest → Answers t s (Err SliceLeftOver)
      unfolding slice_file
      left_inside l =
          refuses SliceLeftOver (section.left_inside SliceCutShort SliceLeftOver (read_prefix t) s two fits held.0 (omega (arith, held.2)))

      module _ (all_read : length rest ≡ 0) where
        filled : count s ≤ count s - length rest
        filled = omega arith

        pub left_behind : 2 + count s < length s → Answers t s (Err SliceLeftOver)
        unfolding slice_file
        left_behind l = refuses SliceLeftOver (section.left_behind SliceCutShort SliceLeftOver (read_prefix t) s two fits held.0 filled l)

        pub file_whole : length s ≤ 2 + count s → Answers t s (Ok knowledge)
        unfolding slice_file slice_read
        file_whole l =
            ap Ok held.1
            ∙ sym (ap (slice_read t) (section.file_whole SliceCutShort SliceLeftOver (read_prefix t) s two fits held.0 filled l))

-- What has been written

module _ {t : Ty} {lent now : List ℕ} where
  -- The walk went through the section.
  pub section_walked : (s : List ℕ) (n : ℕ) → n ≡ count s → {answer : Reading Known} → Leaves t (take n (drop 2 s)) false lent now answer
      → Leaves t (body s) false lent now answer
  section_walked s n long walked = rw long at walked

  module _ {s : List ℕ} where
    pub refused_leaving : {e : Fault} → Answers t s (Err e) → length now ≡ length lent → SliceReadLeaving t s lent now (Err e)
    unfolding slice_read
    refused_leaving reads long =
        record {
          reads = reads;
          long = long;
          left = λ p is_accepted.
              let z : Err _ ≡ Ok (known t p) = reads ∙ ap (slice_read t) is_accepted in
              let contradiction : ◌≡◌ {A = ℕ} 0 1 = cc in
              absurd (omega arith);
        }

    module _ (small : Small t) (two : 2 ≤ length s) (fits : count s ≤ length s - 2) (bytes : Bytes s) {rest : List ℕ} {knowledge : Known}
        (all_read : length rest ≡ 0) where
      pub whole_leaving : length s ≤ 2 + count s → Leaves t (body s) false lent now (read knowledge rest)
          → SliceReadLeaving t s lent now (Ok knowledge)
      unfolding slice_file read_prefix read_owed LeftBy
      whole_leaving l walked =
          record { reads = file_whole t s small two fits bytes walked.walks all_read l; long = walked.long; left = go }
        where
          go : (p : Prefix) → slice_file t s ≡ accepted p → Holds (type_bytes (derivative t p) []) lent now
          go p is_accepted =
              let h = (held t s small two fits bytes walked.walks).0 in
              let found : accepted h.tree ≡ accepted p =
              sym (section.file_whole SliceCutShort SliceLeftOver (read_prefix t) s two fits h (omega arith) l) ∙ is_accepted in
              let same : h.tree ≡ p = cc in
              rw same at (rw h.reads at (walked.left type_limit small))
