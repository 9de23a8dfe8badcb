-- `search::visits::visit` meets its contract. The loop's invariant: the search is under way. Assumes nothing.
use Rattle.std.proofs.Common.{◌-◌, ◌≡◌, length}
use Rattle.table.specs.Table.{size}
use Rattle.search.proofs.Going.{Going}
use Rattle.search.proofs.visits.visit.Given as goal

abbrev pub invariant-loop-head : goal.invariant-loop-head
invariant-loop-head l = record {
  same : length l.order ≡ length l.initial.order;
  going : Going l.rows.starts l.rows.targets l.parents l.pending l.order l.s l.head l.front.tail l.front.waiting;
}

abbrev pub decreases-loop-head : goal.decreases-loop-head
decreases-loop-head l = size l.rows - l.head
