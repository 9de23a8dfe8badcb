-- `candidates::finding::find` meets its contract. The loop's invariant: the entrances below s are passed. Assumes nothing.
use Rattle.std.proofs.Common.{◌≡◌, length}
use Rattle.candidates.specs.Steps.{Scan}
use Rattle.candidates.proofs.finding.find.Given as goal

abbrev pub invariant-loop-s : goal.invariant-loop-s
invariant-loop-s l = (length l.order ≡ length l.initial.order) × Scan l.rings l.rows l.parents l.pending l.order l.exits l.s
