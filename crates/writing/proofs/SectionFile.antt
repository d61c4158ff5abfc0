-- A file that is one section, by its counts: what reading it comes to, by where the tree in the section ends.
use mathlib.Core.Path.{◌≡◌, ap, ◌∙◌}
use mathlib.Core.List.{List}
use Prim.Native.Nat.{ℕ, ◌+◌, ◌-◌, ◌≤◌, ◌<◌}
use native.Mathlib.Omega.{arith}
use lib.ListN.{length, drop}
use Rattle.stream.specs.declared.Fault.{Fault}
use Rattle.stream.specs.Reading.{Reading, read, fault, Result, accepted, refused, whole, section}
use Rattle.stream.specs.Reading.Walking.{count, body}
use Rattle.stream.proofs.Reading.Walking.{no_count, body_short}
use Rattle.reading.specs.Sections.Laws as sections

module _ {A : Type 0} (cut_short left_over : Fault) (contents : List ℕ → Reading A) where
  -- What becomes of the file.
  abbrev pub file : List ℕ → Result A
  file s = whole left_over (section cut_short left_over contents s)

  -- The section holds a tree of k bytes, and then the bytes `rest`.
  pub record Holds (s : List ℕ) (k : ℕ) : Type 0 where
    pub tree : A
    pub rest : List ℕ
    pub reads : contents (body s) ≡ read tree rest
    pub place : k + length rest ≡ count s

  module _ (s : List ℕ) where
    pub count_missing : length s < 2 → file s ≡ refused cut_short
    count_missing h = rw (no_count cut_short left_over contents s h)

    pub section_short : length s - 2 < count s → file s ≡ refused cut_short
    section_short h = rw (body_short cut_short left_over contents s h)

    module _ (two : 2 ≤ length s) (fits : count s ≤ length s - 2) where
      pub tree_failed : (e : Fault) → contents (body s) ≡ fault e → file s ≡ refused e
      tree_failed e h = rw (sections.tree_failed cut_short left_over contents s two fits e h)

      module _ {k : ℕ} (holds : Holds s k) where
        pub left_inside : k < count s → file s ≡ refused left_over
        left_inside l =
            rw (sections.left_inside cut_short left_over contents s two fits holds.reads (omega (arith, holds.place)))

        module _ (filled : count s ≤ k) where
          behind : file s ≡ whole left_over (read holds.tree (drop (2 + count s) s))
          behind =
              ap (whole left_over) (sections.section_read cut_short left_over contents s two fits holds.reads (omega (arith, holds.place)))

          pub left_behind : 2 + count s < length s → file s ≡ refused left_over
          left_behind l = behind ∙ sections.byte_behind left_over holds.tree s (2 + count s) l

          pub file_whole : length s ≤ 2 + count s → file s ≡ accepted holds.tree
          file_whole l = behind ∙ sections.none_behind left_over holds.tree s (2 + count s) l
