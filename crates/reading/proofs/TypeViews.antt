-- What the bytes of a view say of its tree, and where the bytes of its parts stand in them.
use Rattle.std.specs.Prelude.{◌≡◌, refl, ◌↔◌, ◌&&◌, List, [], ◌++◌, ℕ, ◌+◌, ◌-◌, ◌<◌, length, get_or, take, drop}
use Rattle.std.specs.List.{list_all}
use Rattle.std.proofs.Common.{sym, ap, ◌∙◌, arith, drop-drop, take_at, length-drop, take_all}
use Rattle.std.proofs.Math.Bool.{and_assoc, and-true}
use Rattle.std.proofs.Math.Seq.{drop-append_seam}
use Rattle.stream.specs.Types.{Ty, empty, cue, level, seq, par, either, size, kind, first_part, second_part, nullable}
use Rattle.stream.specs.Types.Kinds.{Fork, fork-size}
use Rattle.stream.specs.TypeFiles.{type_bytes, type_of}
use Rattle.stream.proofs.Types.Laws.{size_positive}
use Rattle.stream.proofs.TypeFiles.Laws.{type_length}
use Rattle.stream.proofs.TypeFiles.Held.{Holds, type_head, forked, type_width, type_before}
use Rattle.reading.specs.declared.types.TypeView.{TypeView}
use Rattle.reading.specs.Views.{tree}
use Rattle.reading.specs.Scans.{is_silent}

module _ (v : TypeView) where
  pub size_is : length v.bytes.now ≡ size (tree v)
  size_is = omega (arith, ap length v.whole, type_length (tree v) [])

  pub not_empty : 0 < length v.bytes.now
  not_empty = omega (arith, size_is, size_positive (tree v))

  pub kind_is : get_or v.bytes.now 0 0 ≡ kind (tree v)
  kind_is = let e = type_head (tree v) [] in rw v.whole at e

-- Two views have the same type exactly if they have the same bytes.
pub same_types : (v w : TypeView) → (v.bytes.now ≡ w.bytes.now) ↔ (tree v ≡ tree w)
same_types v w = (ap type_of, λ e. sym v.whole ∙ ap (λ t. type_bytes t []) e ∙ w.whole)

-- Of two parts, of which the first ends at `end`.
module _ (v : TypeView) (fork : Fork (tree v)) {end : ℕ} (ends : end ≡ 1 + size (first_part (tree v))) where
  abbrev a : Ty
  a = first_part (tree v)

  abbrev b : Ty
  b = second_part (tree v)

  under : drop 1 v.bytes.now ≡ type_bytes a [] ++ type_bytes b []
  under = ap (drop 1) (sym v.whole ∙ forked (tree v) [] fork) ∙ type_before a (type_bytes b [])

  behind : drop end v.bytes.now ≡ type_bytes b []
  behind =
      let e : end ≡ 1 + length (type_bytes a []) = omega (arith, type_width a) in
      rw (e, ← drop-drop (length (type_bytes a [])) 1 v.bytes.now, under) (drop-append_seam (type_bytes a []) (type_bytes b []))

  pub inside : end < length v.bytes.now
  inside = omega (arith, size_is v, fork-size (tree v) fork, size_positive b)

  pub first_held : Holds (take (end - 1) (drop 1 v.bytes.now)) a
  first_held =
      record {
        bytes = rw under (take_at (type_bytes a []) (type_bytes b []) (end - 1) (omega (arith, type_width a)));
        small = omega (arith, v.small, fork-size (tree v) fork);
      }

  pub second_held : Holds (take (length v.bytes.now - end) (drop end v.bytes.now)) b
  second_held =
      record {
        bytes = take_all (length v.bytes.now - end) (drop end v.bytes.now) (omega (arith, length-drop end v.bytes.now)) ∙ behind;
        small = omega (arith, v.small, fork-size (tree v) fork);
      }

-- A type is nullable if each of its bytes is 0 or 4.

scan : (t : Ty) (r : List ℕ) → list_all is_silent (type_bytes t r) ≡ (nullable t && list_all is_silent r)
unfolding type_bytes nullable
scan empty r = refl
scan cue r = refl
scan level r = refl
scan (seq s t) r = refl
scan (par s t) r = scan s (type_bytes t r) ∙ ap (λ b. nullable s && b) (scan t r) ∙ sym (and_assoc (nullable s) (nullable t) (list_all is_silent r))
scan (either s t) r = refl

pub nullable_scan : (v : TypeView) → list_all is_silent v.bytes.now ≡ nullable (tree v)
nullable_scan v = ap (list_all is_silent) (sym v.whole) ∙ scan (tree v) [] ∙ simp and-true
