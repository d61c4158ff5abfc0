-- `type_end` meets its contract: the byte at `at` says how many parts its root owes, or why no type stands there.
use Rattle.std.proofs.Common.{◌+◌, get_or, sym, arith}
use Rattle.stream.specs.declared.Fault.TheVariants.{CutShort, Unlisted, TypeTooLarge}
use Rattle.stream.specs.Types.{type_limit}
use Rattle.stream.proofs.Types.Laws.{limit_is}
use Rattle.stream.specs.TypeFiles.{type_root, read_type}
use Rattle.reading.specs.Sections.Walking.{starts, too_many, stops, goes_on, ends}
use Rattle.reading.specs.TypeReads.Laws.{arity_small}
use Rattle.reading.proofs.TypeWalk.{makes_one, cut_short_at, unlisted_at, owes_at}
use Rattle.reading.proofs.types.type_end.Goals as goal

pub loop-owed-init : goal.loop-owed-init
loop-owed-init c = starts TypeTooLarge type_root type_limit makes_one _

pub returns-then-at-eq-MAX_NODES : goal.returns-then-at-eq-MAX_NODES
unfolding read_type
returns-then-at-eq-MAX_NODES c = sym (too_many c.loop-owed.invariant (omega arith) (omega (arith, limit_is)))

pub returns-then-at-bytes : goal.returns-then-at-bytes
unfolding read_type
returns-then-at-bytes c =
    sym (stops c.loop-owed.invariant (omega arith) (omega (arith, limit_is)) CutShort (cut_short_at _ _ c.if-at-bytes.true))

pub returns-then-kind-gt5 : goal.returns-then-kind-gt5
unfolding read_type
returns-then-kind-gt5 c =
    sym (stops c.loop-owed.invariant (omega arith) (omega (arith, limit_is)) Unlisted (unlisted_at c.args.bytes.now c.loop-owed.at (omega arith) (omega arith)))

pub loop-owed-smaller : goal.loop-owed-smaller
loop-owed-smaller c = omega (arith, limit_is)

pub loop-owed-preserved : goal.loop-owed-preserved
loop-owed-preserved c =
    rw c.type_arity.ensures
    (goes_on c.loop-owed.invariant (omega arith) (omega (arith, limit_is)) _ (c.loop-owed.at + 1)
    (arity_small (get_or c.args.bytes.now c.loop-owed.at 0)) (omega arith) (owes_at c.args.bytes.now c.loop-owed.at (omega arith) (omega arith)))

pub returns : goal.returns
unfolding read_type
returns c = sym (ends c.loop-owed.invariant (omega arith))
