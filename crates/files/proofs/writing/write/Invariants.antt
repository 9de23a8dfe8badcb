-- Each turn leaves less to write. Assumes nothing.
use Rattle.std.proofs.Common.{length}
use Rattle.files.proofs.writing.write.Given as goal

abbrev pub decreases-loop-rest : goal.decreases-loop-rest
decreases-loop-rest g l = length l.rest
