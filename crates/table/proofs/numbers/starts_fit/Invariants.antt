-- `table::numbers::starts_fit` meets its contract. The loop's invariant: no start passed is below the one before it. Assumes nothing.
use Rattle.std.proofs.Common.{ℕ, ◌+◌, ◌<◌, ◌≤◌, ◌≡◌, length, get_or}
use Rattle.table.proofs.numbers.starts_fit.Given as goal

abbrev pub invariant-loop-v : goal.invariant-loop-v
invariant-loop-v g l = (l.v-end ≡ length (g.S.Numbers.list l.starts)) × (1 ≤ l.v) × ((j : ℕ) → j + 1 < l.v → get_or (g.S.Numbers.list l.starts) j 0 ≤ get_or (g.S.Numbers.list l.starts) (j + 1) 0)
