-- `table::numbers::numbers_rise` meets its contract. The loop's invariant: each number passed is above the one before it. Assumes nothing.
use Rattle.std.proofs.Common.{ℕ, ◌+◌, ◌<◌, ◌≤◌, ◌≡◌, length, get_or}
use Rattle.table.proofs.numbers.numbers_rise.Given as goal

abbrev pub invariant-loop-k : goal.invariant-loop-k
invariant-loop-k g l = (l.k-end ≡ length (g.N.Numbers.list l.row)) × (1 ≤ l.k) × ((j : ℕ) → j + 1 < l.k → get_or (g.N.Numbers.list l.row) j 0 < get_or (g.N.Numbers.list l.row) (j + 1) 0)
