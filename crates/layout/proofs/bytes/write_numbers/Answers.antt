-- `layout::bytes::write_numbers` meets its contract: one number more. Assumes nothing.
use Rattle.layout.proofs.ByteLaws.{write_more}
use Rattle.layout.proofs.bytes.write_numbers.Goals as goal

pub loop-k-preserved : goal.loop-k-preserved
loop-k-preserved g c =
    write_more g.met.T.Wide.each _ _ _ _ c.loop-k-test.true c.index-numbers-k.is c.requires c.loop-k.invariant (rw c.WIDTH.ensures at c.put_at.ensures)
