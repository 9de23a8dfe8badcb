-- `staying::copy_row` meets its contract. The loop's invariant: so many of the row's targets are written over the slice. Assumes nothing.
use Rattle.std.proofs.Common.{◌≡◌}
use lib.Seq.{paste}
use Rattle.staying.proofs.copy_row.Given as goal

abbrev pub invariant-loop-k : goal.invariant-loop-k
invariant-loop-k l = l.out ≡ paste l.initial.out l.at l.row l.k
