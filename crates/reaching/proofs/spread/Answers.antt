-- `reaching::spread` meets its contract. The loop's invariant: what stands before the index is passed. Assumes nothing.
use Rattle.std.proofs.Common.{arith}
use Rattle.reaching.proofs.SpreadLaws.{room, spread_marked, spread_more}
use Rattle.reaching.proofs.spread.Goals as goal
use Rattle.reaching.proofs.spread.Goals.{then-marks-u-eq0, else-marks-u-eq0}

pub offset_bounds-queue-end : goal.offset_bounds-queue-end
offset_bounds-queue-end c = omega (arith, room c.loop-v.invariant.queued (c.requires.below c.loop-v.v-index c.loop-v-test.true) c.if-marks-u-eq0.true)

pub bounds-queue-end : goal.bounds-queue-end
bounds-queue-end c = room c.loop-v.invariant.queued (c.requires.below c.loop-v.v-index c.loop-v-test.true) c.if-marks-u-eq0.true

pub overflow_add-end : goal.overflow_add-end
overflow_add-end c = omega (arith, room c.loop-v.invariant.queued (c.requires.below c.loop-v.v-index c.loop-v-test.true) c.if-marks-u-eq0.true)

pub loop-v-preserved : goal.loop-v-preserved
loop-v-preserved c = let on = c.loop-v.invariant in let below = c.requires.below c.loop-v.v-index c.loop-v-test.true in
    elim c.if-marks-u-eq0.branch [
      | then-marks-u-eq0 w ↦ rw (w.marks-is, w.queue-is, w.end-is) (spread_more on c.if-v-to.false c.loop-v-test.true below w.if-marks-u-eq0.true)
      | else-marks-u-eq0 w ↦ rw (w.marks-is, w.queue-is, w.end-is) (spread_marked on c.if-v-to.false w.if-marks-u-eq0.false)
    ]
