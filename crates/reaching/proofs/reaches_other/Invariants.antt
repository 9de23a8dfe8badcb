-- `reaching::reaches_other` meets its contract. The loop's invariant: the walk is under way, with the rows of the first `head` passed. Assumes nothing.
use Rattle.std.proofs.Common.{◌-◌}
use Rattle.table.specs.Limits.{vertex_limit}
use Rattle.reaching.proofs.ReachLaws.{Underway}
use Rattle.reaching.proofs.reaches_other.Given as goal

abbrev pub invariant-loop-head : goal.invariant-loop-head
invariant-loop-head l = Underway l.rows.starts l.rows.targets l.from l.to l.marks l.queue l.head l.tail

abbrev pub decreases-loop-head : goal.decreases-loop-head
decreases-loop-head l = vertex_limit - l.head
