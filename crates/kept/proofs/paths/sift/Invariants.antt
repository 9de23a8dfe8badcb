-- `kept::paths::sift` meets its contract. The loop's invariant: the visited vertices up to this one are passed. Assumes nothing.
use Rattle.std.proofs.Common.{◌+◌}
use Rattle.kept.specs.Steps.{Sifted}
use Rattle.kept.proofs.paths.sift.Given as goal

abbrev pub invariant-loop-v : goal.invariant-loop-v
invariant-loop-v l = Sifted l.counts l.visited l.initial.next l.initial.out l.rowless (l.v-index + 1) l.next l.out l.along
