-- `copy_prefix` meets its contract: from `place` up to where `skip_prefix` says that the prefix ends stand its bytes.
use Rattle.std.proofs.Common.{◌≡◌, ◌-◌, arith}
use Rattle.reading.specs.SliceReads.{prefix_width}
use Rattle.reading.specs.SliceReads.Laws.{prefix_inside, prefix_taken}
use Rattle.writing.proofs.copy_prefix.Goals as goal

pub slice_bounds-copy-end : goal.slice_bounds-copy-end
slice_bounds-copy-end c =
    let due = c.requires in
    omega (arith, c.skip_prefix-end.ensures.each due.prefix due.stands, prefix_inside due.stands)

pub returns : goal.returns
returns c =
    let many = c.skip_prefix-end.result - c.args.place in
    record {
      each = λ due.
          let wide : many ≡ prefix_width due.prefix = omega (arith, c.skip_prefix-end.ensures.each due.prefix due.stands) in
          (wide, rw (prefix_taken many due.stands wide) at c.copy.ensures);
    }
