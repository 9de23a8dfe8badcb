-- `listing::list_with` meets its contract. The loop's invariant: the superbubbles of the entrances passed stand at the front. Assumes nothing.
use Rattle.listing.proofs.ScanLaws.{Scan}
use Rattle.listing.proofs.list_with.Given as goal

abbrev pub invariant-loop-s : goal.invariant-loop-s
invariant-loop-s l = Scan l.rows l.parents l.pending l.order l.initial.out l.out l.found l.s
