-- `turns::copy_counts` meets its contract: one count more is copied, and in the end all are. Assumes nothing.
use Rattle.std.proofs.Common.{arith}
use Rattle.parents.proofs.CopyLaws.{copied_none, copied_more, copied_all}
use Rattle.turns.proofs.copy_counts.Goals as goal

pub loop-v-init : goal.loop-v-init
loop-v-init c = copied_none

pub loop-v-preserved : goal.loop-v-preserved
loop-v-preserved c =
    let at = c.loop-v in
    copied_more (omega (arith, c.requires, at.invariant.same, c.loop-v-test.true)) (omega (arith, c.loop-v-test.true)) at.invariant

pub returns : goal.returns
returns c = copied_all c.requires (omega (arith, c.loop-v-test.false)) c.loop-v.invariant
