-- `walking::pass_edge` meets its contract. Assumes nothing.
use Rattle.std.proofs.Common.{◌-◌, arith, get_or}
use Rattle.walking.proofs.WaitLaws.{ready_most, waits_most}
use Rattle.walking.proofs.pass_edge.Goals as goal

pub overflow_add-result : goal.overflow_add-result
overflow_add-result c = omega (arith, c.ready.ensures, ready_most (get_or c.args.pending.now c.args.u 0))

pub overflow_add-result-2 : goal.overflow_add-result-2
overflow_add-result-2 c = omega (arith, c.requires.few, c.waits.ensures, waits_most (get_or c.args.pending.now c.args.u 0 - 1) (get_or c.args.parents.now c.args.u 0))
