-- `search::visits::undo` meets its contract. The loop's invariant: the first k of the order are visited. Assumes nothing.
use Rattle.search.specs.Steps.{Lowered}
use Rattle.search.proofs.visits.undo.Given as goal

abbrev pub invariant-loop-k : goal.invariant-loop-k
invariant-loop-k l = Lowered l.rows.starts l.rows.targets l.pending l.order l.k
