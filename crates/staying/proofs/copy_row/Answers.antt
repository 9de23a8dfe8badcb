-- `staying::copy_row` meets its contract: one target more is written over the slice. Assumes nothing.
use Rattle.std.proofs.Common.{arith}
use native.Mathlib.Numerals.{add-one}
use lib.Seq.{paste-suc}
use Rattle.staying.proofs.copy_row.Goals as goal

pub loop-k-preserved : goal.loop-k-preserved
loop-k-preserved c = let at = c.loop-k in
    rw (at.invariant, add-one at.k) (paste-suc c.args.out.now c.args.at c.args.row.now at.k 0 (omega arith) (omega arith))
