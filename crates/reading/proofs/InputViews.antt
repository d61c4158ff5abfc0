-- What the bytes of an input say of its prefix, and where the bytes of its parts stand in them.
use Rattle.std.specs.Prelude.{◌≡◌, true, [], ℕ, ◌+◌, ◌*◌, ◌-◌, ◌≤◌, ◌<◌, length, get_or, take, drop}
use Rattle.std.proofs.Common.{sym, ap, ◌∙◌, arith, length-drop, take_all, drop-drop}
use Rattle.stream.specs.Types.{Ty, size, first_part, second_part, Small}
use Rattle.stream.specs.Bounds.{slice_file_limit}
use Rattle.stream.proofs.Types.Laws.{limit_is}
use Rattle.stream.specs.Types.Kinds.{Fork, fork-size}
use Rattle.stream.specs.Prefixes.{IsPrefix}
use Rattle.stream.specs.Prefixes.Kinds.{prefix_kind, prefix_arity, piece}
use Rattle.stream.specs.Prefixes.Functions.{fits}
use Rattle.stream.specs.SliceFiles.{prefix_bytes}
use Rattle.stream.proofs.Prefixes.Laws.{complete_sound}
use Rattle.stream.proofs.Prefixes.Fits.{fits_sound}
use Rattle.stream.proofs.SliceFiles.Laws.{prefix_length, nodes_within}
use Rattle.stream.proofs.SliceFiles.Held.{Holds}
use Rattle.reading.specs.declared.types.TypeView.{TypeView}
use Rattle.reading.specs.declared.inputs.Input.{Input}
use Rattle.reading.specs.SliceReads.{prefix_width, PrefixAt, SomePrefixAt, PrefixIn, PrefixEnds, CompleteAt, CompleteEnds}
use Rattle.reading.specs.SliceReads.Laws.{prefix_bytes_length, width_positive, kind_at, prefix_inside, prefix_taken, behind_prefix}
use Rattle.reading.specs.Views.{tree}
use Rattle.reading.specs.InputViews.{type, prefix, all}
use Rattle.reading.proofs.PrefixCuts.{crossing_is, Cut, cut, Halved, halved, one_bytes}

module _ (i : Input) where
  pub is_prefix : IsPrefix (type i) (prefix i)
  is_prefix = fits_sound (type i) (prefix i) i.is_prefix

  stands : PrefixAt i.slice.now 0 (prefix i)
  stands = record { rest = []; here = sym i.whole }

  pub not_empty : 0 < length i.slice.now
  not_empty = omega (arith, prefix_inside stands, width_positive (prefix i))

  pub kind_is : get_or i.slice.now 0 0 ≡ prefix_kind (prefix i)
  kind_is = kind_at stands

  -- A type has no more bytes than nodes, and a prefix of it at most twice as many and one.
  pub slice_short : length i.slice.now ≤ 2 * size (type i) + 1
  slice_short = omega (arith, ap length i.whole, prefix_length (prefix i) [], nodes_within is_prefix)

  -- All of its bytes, as a place in them.
  pub prefix_in : PrefixIn i.slice.now (all i) (prefix i)
  prefix_in = record { stands = stands; ends = omega (arith, ap length i.whole, prefix_bytes_length (prefix i) []) }

  pub slice_few : length i.slice.now ≤ slice_file_limit
  slice_few = omega (arith, slice_short, i.ty.small, limit_is)

  -- Two parts of it, of which the first ends at `stop`.
  module _ (two : prefix_arity (prefix_kind (prefix i)) ≡ 2) where
    abbrev h : Halved (type i) (prefix i)
    h = halved is_prefix two

    pub fork : Fork (type i)
    fork = h.fork

    abbrev first_stands : PrefixAt i.slice.now 1 (piece 0 (prefix i))
    first_stands = record { rest = prefix_bytes (piece 1 (prefix i)) []; here = ap (drop 1) (sym i.whole ∙ h.bytes) }

    pub first_there : SomePrefixAt i.slice.now 1
    first_there = record { prefix = piece 0 (prefix i); stands = first_stands }

    pub stops : {stop : ℕ} → PrefixEnds i.slice.now 1 stop → stop ≡ 1 + prefix_width (piece 0 (prefix i))
    stops ends = ends.each _ first_stands

    -- A crossed part is complete, so that its type may tell how wide it is.
    pub crossed_there : (v : TypeView) → tree v ≡ first_part (type i) → prefix_kind (prefix i) ≡ 6 → CompleteAt (tree v) i.slice.now 1
    crossed_there v of_part six =
        record {
          prefix = piece 0 (prefix i);
          is_prefix = rw of_part h.first;
          is_complete = complete_sound (piece 0 (prefix i)) (crossing_is (rw six at (cut is_prefix))).2;
          stands = first_stands;
        }

    pub crossed_stops : (v : TypeView) (of_part : tree v ≡ first_part (type i)) (six : prefix_kind (prefix i) ≡ 6) {stop : ℕ}
        → CompleteEnds (tree v) i.slice.now 1 stop → stop ≡ 1 + prefix_width (piece 0 (prefix i))
    unfolding crossed_there
    crossed_stops v of_part six ends = ends.each (crossed_there v of_part six)

    module _ {stop : ℕ} (stops : stop ≡ 1 + prefix_width (piece 0 (prefix i))) where
      pub inside : stop ≤ length i.slice.now
      inside = omega (arith, stops, prefix_inside first_stands)

      pub first_held : Holds (first_part (type i)) (take (stop - 1) (drop 1 i.slice.now)) (piece 0 (prefix i))
      first_held =
          record {
            bytes = prefix_taken (stop - 1) first_stands (omega (arith, stops));
            is = h.first;
            small = omega (arith, i.ty.small, fork-size (type i) fork);
          }

      behind : drop stop i.slice.now ≡ prefix_bytes (piece 1 (prefix i)) []
      behind = rw (stops, ← drop-drop (prefix_width (piece 0 (prefix i))) 1 i.slice.now, first_stands.here) (behind_prefix (piece 0 (prefix i)) (prefix_bytes (piece 1 (prefix i)) []))

      pub second_held : Holds (second_part (type i)) (take (length i.slice.now - stop) (drop stop i.slice.now)) (piece 1 (prefix i))
      second_held =
          record {
            bytes = take_all (length i.slice.now - stop) (drop stop i.slice.now) (omega (arith, length-drop stop i.slice.now)) ∙ behind;
            is = h.second;
            small = omega (arith, i.ty.small, fork-size (type i) fork);
          }

  -- One part, of the type t.
  module _ (one : prefix_arity (prefix_kind (prefix i)) ≡ 1) {t : Ty} (of_part : fits t (piece 0 (prefix i)) ≡ true) (small : Small t) where
    pub only_held : Holds t (take (length i.slice.now - 1) (drop 1 i.slice.now)) (piece 0 (prefix i))
    only_held =
        record {
          bytes =
              take_all (length i.slice.now - 1) (drop 1 i.slice.now) (omega (arith, length-drop 1 i.slice.now))
              ∙ ap (drop 1) (sym i.whole ∙ one_bytes (prefix i) one);
          is = fits_sound t (piece 0 (prefix i)) of_part;
          small = small;
        }

  -- What its kind says of it.
  pub by_kind : {k : ℕ} → prefix_kind (prefix i) ≡ k → Cut k (type i) (prefix i)
  by_kind e = rw e at (cut is_prefix)
