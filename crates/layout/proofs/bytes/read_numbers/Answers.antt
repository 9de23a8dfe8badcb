-- `layout::bytes::read_numbers` meets its contract: one number more. Assumes nothing.
use Rattle.std.proofs.Common.{rules}
use Rattle.layout.proofs.ByteLaws.{read_more}
use Rattle.layout.proofs.bytes.read_numbers.Goals as goal

pub loop-k-preserved : goal.loop-k-preserved
loop-k-preserved g c = read_more g.met.T.Wide.each _ _ _ _ (search rules) c.loop-k.invariant (search rules) (rw c.WIDTH.ensures at c.read_at.ensures)
