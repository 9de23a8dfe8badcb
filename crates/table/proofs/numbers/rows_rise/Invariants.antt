-- `table::numbers::rows_rise` meets its contract. The loop's invariant: the row of each vertex passed rises strictly. Assumes nothing.
use Rattle.std.proofs.Common.{ℕ, ◌+◌, ◌<◌, ◌≤◌, ◌≡◌, length}
use Rattle.table.specs.Table.{Rises, row}
use Rattle.table.proofs.numbers.rows_rise.Given as goal

abbrev pub invariant-loop-v : goal.invariant-loop-v
invariant-loop-v g l = (l.v-end ≡ length (g.S.Numbers.list l.starts)) × (1 ≤ l.v) × ((u : ℕ) → u + 1 < l.v → Rises (row (g.S.Numbers.list l.starts) (g.T.Numbers.list l.targets) u))
