-- `walking::walk` meets its contract: the queue has room for the next target, and one edge more is passed. Assumes nothing.
use Rattle.std.proofs.Common.{arith}
use Rattle.walking.proofs.WalkLaws.{walk_none, walk_passable, walk_more}
use Rattle.walking.proofs.walk.Goals as goal

pub loop-u-init : goal.loop-u-init
loop-u-init c = walk_none c.requires

pub pass_edge-at-requires : goal.pass_edge-at-requires
pass_edge-at-requires c = walk_passable c.requires c.loop-u.invariant (omega arith)

pub loop-u-preserved : goal.loop-u-preserved
loop-u-preserved c = walk_more c.requires c.loop-u.invariant (omega arith) c.pass_edge-at.ensures
