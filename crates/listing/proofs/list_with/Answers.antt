-- `listing::list_with` meets its contract: one entrance more is passed, and in the end all are. Assumes nothing.
use Rattle.std.proofs.Common.{arith}
use Rattle.listing.proofs.ScanLaws.{scan_more, scan_done}
use Rattle.listing.proofs.list_with.Goals as goal

pub loop-s-preserved : goal.loop-s-preserved
loop-s-preserved c =
    scan_more c.loop-s.invariant c.search-exit.result (omega (arith, c.loop-s-test.true)) c.search-exit.ensures c.write_line-found.ensures

pub returns : goal.returns
returns c = scan_done c.loop-s.invariant (omega (arith, c.loop-s-test.false))
