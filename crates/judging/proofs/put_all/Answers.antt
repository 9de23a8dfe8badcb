-- `judging::put_all` meets its contract: one vertex more is added. Assumes nothing.
use Rattle.std.proofs.Common.{arith}
use Rattle.judging.proofs.CountLaws.{added_more}
use Rattle.judging.proofs.put_all.Goals as goal

pub loop-v-preserved : goal.loop-v-preserved
loop-v-preserved c = added_more c.args.vertices.now c.loop-v.v-index (omega arith) c.loop-v.invariant c.put.ensures
