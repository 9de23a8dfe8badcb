-- `cycle::has_cycle` meets its contract: it is the walk over all vertices that passes over no edge. Assumes nothing.
use Rattle.cycle.proofs.ClearLaws.{all_followed}
use Rattle.cycle.proofs.has_cycle.Goals as goal

pub returns : goal.returns
returns c = all_followed c.requires c.vertices-n.ensures c.clear.ensures 0 c.has_cycle_within.result c.has_cycle_within.ensures
