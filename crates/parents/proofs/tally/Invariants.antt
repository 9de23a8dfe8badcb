-- `parents::tally` meets its contract. The loop's invariant: the counts are larger by the numbers passed. Assumes nothing.
use Rattle.std.proofs.Common.{take}
use Rattle.parents.specs.Parents.{Tallied}
use Rattle.parents.proofs.tally.Given as goal

abbrev pub invariant-loop-v : goal.invariant-loop-v
invariant-loop-v l = Tallied (take l.v-index l.vertices) l.initial.counts l.counts
