-- Where s, t and r are in the bytes of a type (s, t), r, which are 3 3 s t r.
use Rattle.std.specs.Prelude.{◌≡◌, true, false, List, ℕ, ◌+◌, ◌-◌, ◌<◌, length, get_or, take, drop}
use Rattle.std.proofs.Common.{refl, ◌∙◌, arith}
use Rattle.std.proofs.Math.Bool.{and-false}
use Rattle.stream.specs.Types.{Ty, size, kind, first_part, second_part, has_kind}
use Rattle.stream.specs.Types.Kinds.{Fork, fork-size}
use Rattle.stream.proofs.TypeFiles.Held.{Holds}
use Rattle.reading.specs.TypeReads.{TypeAt, SomeTypeAt, TypeEnds}
use Rattle.reading.specs.TypeReads.Laws as types
use Rattle.reading.specs.Nesting.Laws.{other_shape, same_shape, is_fork}
use Rattle.reading.specs.declared.types.TypeView.{TypeView}
use Rattle.reading.specs.Views.{tree, nests_first}
use Rattle.reading.proofs.TypeViews.{size_is, kind_is}
use Rattle.reading.proofs.PlaceViews.{view_in}

held : {bytes : List ℕ} {at n : ℕ} {t : Ty} → TypeAt bytes at t → n ≡ size t → Holds (take n (drop at bytes)) t
held stands is = record { bytes = rw is (types.bytes_at stands); small = stands.small }

some : {bytes : List ℕ} {at : ℕ} {t : Ty} → TypeAt bytes at t → SomeTypeAt bytes at
some {t = t} stands = record { type = t; stands = stands }

module _ (v : TypeView) (root : kind (tree v) ≡ 3) where
  at_root : TypeAt v.bytes.now 0 (tree v)
  at_root = (view_in v).stands

  is_sequence : get_or v.bytes.now 0 0 ≡ 3
  is_sequence = kind_is v ∙ root

  forks : Fork (tree v)
  forks = is_fork at_root is_sequence refl

  first_at : TypeAt v.bytes.now 1 (first_part (tree v))
  first_at = types.first_at at_root forks

  pub kind_inside : 1 < length v.bytes.now
  kind_inside = types.starts_inside first_at

  pub not_nested : (get_or v.bytes.now 1 0 ≡ 3 → ⊥) → nests_first (tree v) ≡ false
  not_nested other = rw (other_shape first_at other) (and-false (has_kind 3 (tree v)))

  module _ (below : get_or v.bytes.now 1 0 ≡ 3) where
    pub is_nested : nests_first (tree v) ≡ true
    is_nested = rw (same_shape at_root is_sequence, same_shape first_at below) refl

    first_forks : Fork (first_part (tree v))
    first_forks = is_fork first_at below refl

    s_at : TypeAt v.bytes.now 2 (first_part (first_part (tree v)))
    s_at = types.first_at first_at first_forks

    pub some_s : SomeTypeAt v.bytes.now 2
    some_s = some s_at

    module _ {second : ℕ} (s_ends : TypeEnds v.bytes.now 2 second) where
      pub second_is : second ≡ 2 + size (first_part (first_part (tree v)))
      second_is = s_ends.each _ s_at

      pub s_held : Holds (take (second - 2) (drop 2 v.bytes.now)) (first_part (first_part (tree v)))
      s_held = held s_at (omega (arith, second_is))

      t_at : TypeAt v.bytes.now second (second_part (first_part (tree v)))
      t_at = types.second_behind first_at first_forks s_ends

      pub some_t : SomeTypeAt v.bytes.now second
      some_t = some t_at

      module _ {third : ℕ} (t_ends : TypeEnds v.bytes.now second third) where
        pub third_is : third ≡ second + size (second_part (first_part (tree v)))
        third_is = t_ends.each _ t_at

        pub t_held : Holds (take (third - second) (drop second v.bytes.now)) (second_part (first_part (tree v)))
        t_held = held t_at (omega (arith, third_is))

        pub r_is : length v.bytes.now ≡ third + size (second_part (tree v))
        r_is = omega (arith, size_is v, second_is, third_is, fork-size (tree v) forks, fork-size (first_part (tree v)) first_forks)

        r_at : TypeAt v.bytes.now third (second_part (tree v))
        r_at =
            let e : third ≡ 1 + size (first_part (tree v))
            = omega (arith, second_is, third_is, fork-size (first_part (tree v)) first_forks) in
            rw e (types.second_at at_root forks)

        pub r_held : Holds (take (length v.bytes.now - third) (drop third v.bytes.now)) (second_part (tree v))
        r_held = held r_at (omega (arith, r_is))
