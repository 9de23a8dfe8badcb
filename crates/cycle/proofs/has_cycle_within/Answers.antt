-- `cycle::has_cycle_within` meets its contract. The loop's invariant: each of the first v vertices is done, and no vertex is on the path. Assumes nothing.
use Rattle.std.proofs.Common.{arith}
use Rattle.cycle.proofs.RootLaws.{cycle_found, visited_too, none_closes}
use Rattle.cycle.proofs.has_cycle_within.Goals as goal

pub returns-then-visit : goal.returns-then-visit
returns-then-visit c = cycle_found c.requires.none_on_path c.loop-v.invariant c.if-visit.ensures

pub loop-v-preserved : goal.loop-v-preserved
loop-v-preserved c = visited_too c.requires.none_on_path c.loop-v.invariant c.if-visit.ensures

pub returns : goal.returns
returns c = none_closes c.requires.none_on_path c.loop-v.invariant (omega arith)
