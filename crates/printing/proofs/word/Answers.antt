-- `printing::word` meets its contract: one byte more is put, and at the end all of them. Assumes nothing.
use Rattle.std.proofs.Common.{arith}
use Rattle.printing.proofs.PutLaws.{put_none, put_more, put_all}
use Rattle.printing.proofs.word.Goals as goal

pub loop-k-init : goal.loop-k-init
loop-k-init c = put_none

pub loop-k-preserved : goal.loop-k-preserved
loop-k-preserved c =
    let at = c.loop-k in
    put_more c.args.bytes.now at.k (omega arith) (omega (arith, c.requires, at.invariant.as_long)) at.invariant

pub returns : goal.returns
returns c = put_all c.args.bytes.now c.loop-k.k (omega arith) c.loop-k.invariant
