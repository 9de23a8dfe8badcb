-- `cycle::has_cycle_within` meets its contract. The loop's invariant: each of the first v vertices is done, and no vertex is on the path. Assumes nothing.
use Rattle.cycle.proofs.RootLaws.{FirstDone}
use Rattle.cycle.proofs.has_cycle_within.Given as goal

abbrev pub invariant-loop-v : goal.invariant-loop-v
invariant-loop-v l = FirstDone l.rows.starts l.rows.targets l.fn.colours l.from l.to l.colours l.path l.v
