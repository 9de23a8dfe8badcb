-- `table::numbers::numbers_sum_fits` meets its contract. The loop's invariant: what is spare and the counts passed come to the limit. Assumes nothing.
use Rattle.std.proofs.Common.{◌+◌, ◌≡◌, length, take}
use Rattle.table.specs.Limits.{read_limit}
use Rattle.table.specs.Table.{count_sum}
use Rattle.table.proofs.numbers.numbers_sum_fits.Given as goal

abbrev pub invariant-loop-v : goal.invariant-loop-v
invariant-loop-v g l = (l.v-end ≡ length (g.N.Numbers.list l.counts)) × (l.spare + count_sum (take l.v (g.N.Numbers.list l.counts)) ≡ read_limit)
