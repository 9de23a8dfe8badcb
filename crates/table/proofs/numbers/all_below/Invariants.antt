-- `table::numbers::all_below` meets its contract. The loop's invariant: each number passed is below n. Assumes nothing.
use Rattle.std.proofs.Common.{ℕ, ◌<◌, ◌≡◌, length, get_or}
use Rattle.table.proofs.numbers.all_below.Given as goal

abbrev pub invariant-loop-k : goal.invariant-loop-k
invariant-loop-k g l = (l.k-end ≡ length (g.N.Numbers.list l.numbers)) × ((j : ℕ) → j < l.k → get_or (g.N.Numbers.list l.numbers) j 0 < l.n)
