-- `reaching::spread` meets its contract. The loop's invariant: what stands before the index is passed. Assumes nothing.
use Rattle.reaching.specs.Steps.{Spread}
use Rattle.reaching.proofs.spread.Given as goal

abbrev pub invariant-loop-v : goal.invariant-loop-v
invariant-loop-v l = Spread l.row l.fn.queue l.tail l.to l.v-index l.marks l.queue l.end
