-- `turns::copy_counts` meets its contract. The loop's invariant: the counts passed are copied. Assumes nothing.
use Rattle.parents.proofs.CopyLaws.{Copied}
use Rattle.turns.proofs.copy_counts.Given as goal

abbrev pub invariant-loop-v : goal.invariant-loop-v
invariant-loop-v l = Copied l.counts l.initial.out l.v l.out
