-- `parents::tally` meets its contract: each count has room for one more, and one number more is passed. Assumes nothing.
use Rattle.std.proofs.Common.{arith}
use Rattle.parents.proofs.TallyLaws.{tally_fits, tally_more}
use Rattle.parents.proofs.tally.Goals as goal

pub overflow_add-counts : goal.overflow_add-counts
overflow_add-counts c = omega (arith, tally_fits c.loop-v.v-index (omega arith) c.requires c.loop-v.invariant)

pub loop-v-preserved : goal.loop-v-preserved
loop-v-preserved c =
    tally_more c.args.vertices.now c.loop-v.v-index (omega arith) (c.requires.below c.loop-v.v-index (omega arith)) c.loop-v.invariant
