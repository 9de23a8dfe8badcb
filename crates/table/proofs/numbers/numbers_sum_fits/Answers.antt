-- `table::numbers::numbers_sum_fits` meets its contract: a count above what is spare takes the sum past the limit. Assumes nothing.
use Rattle.std.proofs.Common.{arith, rules, ◌+◌}
use Rattle.table.proofs.SumLaws.{passed_more, passed_least}
use Rattle.table.proofs.numbers.numbers_sum_fits.Goals as goal

pub returns-then-count-spare : goal.returns-then-count-spare
returns-then-count-spare g c = λ fits.
    let xs = g.N.Numbers.list c.args.counts in
    let v = c.loop-v.v in
    let more = passed_more xs v (search rules) in
    let most = passed_least (v + 1) xs in
    omega (arith, more, most, fits, c.loop-v.invariant, c.at-count.ensures)
