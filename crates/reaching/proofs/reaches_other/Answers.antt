-- `reaching::reaches_other` meets its contract. The loop's invariant: the walk is under way, with the rows of the first `head` passed. Assumes nothing.
use Rattle.std.proofs.Common.{arith}
use Rattle.table.proofs.RowLaws.{row_lies}
use Rattle.reaching.proofs.SpreadLaws.{tail_most}
use Rattle.reaching.proofs.ReachLaws.{walk_begins, queued_below, next_spreadable, next_holds, none_left, walks_on}
use Rattle.reaching.proofs.reaches_other.Goals as goal

pub loop-head-init : goal.loop-head-init
loop-head-init c = walk_begins c.requires

pub offset_bounds-queue-head : goal.offset_bounds-queue-head
offset_bounds-queue-head c = omega (arith, tail_most c.loop-head.invariant.queued)

pub bounds-queue-head : goal.bounds-queue-head
bounds-queue-head c = omega (arith, tail_most c.loop-head.invariant.queued)

pub row-requires : goal.row-requires
row-requires c = let asked = c.requires.asked in
    rw c.from-v.ensures (row_lies _ _ asked.well_formed.starts_fit _ (queued_below asked c.loop-head.invariant c.loop-head.head c.loop-head-test.true))

pub spread-requires : goal.spread-requires
spread-requires c = rw (c.row.ensures, c.from-v.ensures) (next_spreadable c.requires.asked c.loop-head.invariant c.loop-head-test.true)

pub returns-in_default : goal.returns-in_default
returns-in_default c = next_holds c.requires.asked c.loop-head.invariant c.loop-head-test.true (rw (c.row.ensures, c.from-v.ensures) at c.in_default.ensures)

pub loop-head-smaller : goal.loop-head-smaller
loop-head-smaller c = omega (arith, tail_most c.loop-head.invariant.queued, c.loop-head-test.true)

pub loop-head-preserved : goal.loop-head-preserved
loop-head-preserved c = walks_on c.requires.asked c.loop-head.invariant c.loop-head-test.true (rw (c.row.ensures, c.from-v.ensures) at c.in-Some.ensures)

pub returns : goal.returns
returns c = none_left c.requires.asked c.loop-head.invariant c.loop-head-test.false
