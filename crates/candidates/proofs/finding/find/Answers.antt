-- `candidates::finding::find` meets its contract. The loop's invariant: the entrances below s are passed. Assumes nothing.
use Rattle.std.proofs.Common.{arith}
use Rattle.candidates.proofs.ScanLaws.{scan_done}
use Rattle.candidates.proofs.finding.find.Goals as goal

pub returns : goal.returns
returns c = scan_done c.loop-s.invariant.1 (omega (arith, c.vertices-s-end.ensures)) c.count.ensures
