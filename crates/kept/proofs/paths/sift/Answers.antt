-- `kept::paths::sift` meets its contract. The loop's invariant: the visited vertices up to this one are passed. Assumes nothing.
use Rattle.std.proofs.Common.{arith}
use Rattle.children.proofs.ChoiceLaws.{after_first}
use Rattle.kept.proofs.PassLaws.{sift_one, sift_partable, sift_more}
use Rattle.kept.proofs.paths.sift.Goals as goal

pub loop-v-init : goal.loop-v-init
loop-v-init c = sift_one c.requires c.args.rowless

pub keep_or_drop-along-requires : goal.keep_or_drop-along-requires
keep_or_drop-along-requires c =
    rw (after_first c.args.visited.now c.loop-v.v-index) (sift_partable c.requires c.loop-v.invariant (omega arith) (omega arith))

pub loop-v-preserved : goal.loop-v-preserved
loop-v-preserved c =
    let step = rw (after_first c.args.visited.now c.loop-v.v-index) at c.keep_or_drop-along.ensures in
    sift_more c.requires c.loop-v.invariant (omega arith) step
