-- `candidates::finding::rule_out` meets its contract. The loop's invariant: the vertices passed are ruled out. Assumes nothing.
use Rattle.std.proofs.Common.{arith}
use Rattle.candidates.proofs.RuleOutLaws.{ruled_more}
use Rattle.candidates.proofs.finding.rule_out.Goals as goal

pub loop-v-preserved : goal.loop-v-preserved
loop-v-preserved c = let k = c.loop-v.v-index in
    ruled_more _ _ _ _ k (omega arith) (c.requires k (omega arith)) c.loop-v.invariant
