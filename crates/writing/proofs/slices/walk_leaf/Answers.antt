-- `walk_leaf` meets its contract: it tries whether the kind's bytes are there, and has written what the leaf leaves.
use Rattle.std.proofs.Common.{◌≡◌, ap, ◌∙◌, Bool, not, cond, ℕ, List, ◌<◌, ◌≤◌, length, drop, arith, refl}
use borrow.Author.Tests.{le-leb, lt-leb}
use Rattle.stream.specs.declared.Fault.TheVariants.{SliceCutShort}
use Rattle.stream.specs.Types.{size}
use Rattle.stream.specs.Reading.{Reading, read, fault}
use Rattle.stream.specs.Prefixes.Kinds.{root_width, root_arrivals}
use Rattle.reading.specs.declared.prefixes.Known.{Known}
use Rattle.reading.specs.Fronts.{front_tree}
use Rattle.reading.proofs.TypeFronts.{whole_inside, from_on}
use Rattle.reading.specs.SliceReads.{is_unfinished, leaf_walked}
use Rattle.writing.proofs.SliceLeft.{leaf-size, leaf-within}
use Rattle.writing.proofs.slices.walk_leaf.Goals.{After-write_leaf_left-nodes}
use Rattle.writing.proofs.slices.walk_leaf.Goals as goal

-- No more than the fault is known of a leaf that is cut short.
abbrev failed : Reading Known
failed = fault SliceCutShort

module _ (nodes k width : ℕ) (s : List ℕ) (wide : width ≡ root_width k) where
  cut : length s < width → failed ≡ leaf_walked nodes k s
  unfolding leaf_walked
  cut h = rw (lt-leb (root_width k) (length s) (omega arith))

  come : (many arrived : ℕ) (u : Bool) (rest : List ℕ) → u ≡ is_unfinished k → arrived ≡ root_arrivals k → many ≡ nodes → rest ≡ drop width s → width ≤ length s
      → read (record { complete = not u; remains = many; arrived = arrived; overlap = 1 }) rest ≡ leaf_walked nodes k s
  unfolding leaf_walked
  come many arrived u rest f a e r h = rw (le-leb (root_width k) (length s) (omega arith), e, r, wide, f, a)

stood : (c : After-write_leaf_left-nodes) → c.write_leaf_left-nodes.result ≡ cond c.is_unfinished-awaited.result (size (front_tree c.args.ty)) 1
stood c = c.write_leaf_left-nodes.ensures.stands_on ∙ leaf-size c.is_unfinished-awaited.result (front_tree c.args.ty)

pub returns-then-slice-width : goal.returns-then-slice-width
returns-then-slice-width c =
    record {
      walks = cut _ _ _ _ c.root_width-width.ensures c.if-slice-width.true;
      behind = tt;
      long = refl;
      left = λ there. absurd (omega (arith, c.root_width-width.ensures));
    }

pub slice_bounds-result-count : goal.slice_bounds-result-count
slice_bounds-result-count c =
    omega (
      arith,
      c.write_leaf_left-nodes.ensures.stands_on,
      leaf-within c.is_unfinished-awaited.result (front_tree c.args.ty),
      whole_inside c.args.ty,
    )

pub slice_bounds-result-start : goal.slice_bounds-result-start
slice_bounds-result-start c = slice_bounds-result-count c

pub returns : goal.returns
returns c =
    let leaf = c.write_leaf_left-nodes.ensures in
    let stood_is = stood (goal.at.returns c).After-write_leaf_left-nodes ∙ ap (λ u. cond u (size (front_tree c.args.ty)) 1) c.is_unfinished-awaited.ensures in
    record {
      walks =
          come _ _ _ _ c.root_width-width.ensures _ _ _ _ c.is_unfinished-awaited.ensures c.arrivals_of.ensures stood_is
          (from_on c.root_width-width.result c.args.slice.now) (omega arith);
      behind = from_on c.write_leaf_left-nodes.result c.args.ty.bytes.now ∙ ap (λ n. drop n c.args.ty.bytes.now) stood_is;
      long = leaf.left.long;
      left = λ there. rw c.is_unfinished-awaited.ensures at leaf.left;
    }
