-- `visiting::visit` meets its contract. The loop's invariant, `OnWay`: the turns of the path lead from the root to v, and what is passed is safe. A step down leaves one unvisited vertex less and
-- a step back one vertex less on the path, so that twice the former and the latter together fall. Assumes nothing.
use Rattle.std.proofs.Common.{◌+◌, ◌*◌}
use Rattle.table.specs.Table.{vertices}
use Rattle.visiting.proofs.CountLaws.{unvisited}
use Rattle.visiting.proofs.DepthLaws.{OnWay}
use Rattle.visiting.proofs.visit.Given as goal

abbrev pub invariant-loop-open : goal.invariant-loop-open
invariant-loop-open l = OnWay l.rows.starts l.rows.targets l.fn.colours l.from l.to l.root l.colours l.path l.depth l.v l.place

abbrev pub decreases-loop-open : goal.decreases-loop-open
decreases-loop-open l = 2 * unvisited (vertices l.rows.starts) l.colours + l.depth
