-- `staying::write_table` meets its contract. The loop's invariant: the new rows of the vertices passed, and their starts, stand at the fronts. Assumes nothing.
use Rattle.staying.proofs.TableLaws.{RowsWritten}
use Rattle.staying.proofs.write_table.Given as goal

abbrev pub invariant-loop-v : goal.invariant-loop-v
invariant-loop-v l = RowsWritten l.rows l.next (record { starts = l.initial.starts2; targets = l.initial.targets2 })
    (record { starts = l.starts2; targets = l.targets2 }) l.at l.v
