-- `show_bytes::put_successors` meets its contract: there is room for one successor more, and with it the text is one longer. Assumes nothing.
use Rattle.std.proofs.Common.{arith}
use Rattle.show_bytes.proofs.Long.{successors_within}
use Rattle.show_bytes.proofs.PutContents.{put_successor}
use Rattle.show_bytes.proofs.put_successors.Goals as goal

pub next_number-place-requires : goal.next_number-place-requires
next_number-place-requires c = let at = c.loop-successor in
    rw c.from.ensures (omega (arith, c.requires, at.invariant, successors_within c.args.row.now at.successor-index (omega arith)))

pub loop-successor-preserved : goal.loop-successor-preserved
loop-successor-preserved c = let at = c.loop-successor in
    put_successor c.args.row.now at.successor-index at.invariant (omega arith) (rw c.from.ensures at c.next_number-place.ensures)
