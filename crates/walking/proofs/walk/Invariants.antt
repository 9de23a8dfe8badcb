-- `walking::walk` meets its contract. The loop's invariant: the edges before this one were passed. Assumes nothing.
use Rattle.walking.specs.Walking.{Walked}
use Rattle.walking.proofs.walk.Given as goal

abbrev pub invariant-loop-u : goal.invariant-loop-u
invariant-loop-u l = Walked l.row l.parents l.initial.pending l.initial.order l.initial.at.tail l.u-index l.pending l.order l.at.tail l.at.waiting
