-- `candidates::finding::rule_out` meets its contract. The loop's invariant: the vertices passed are ruled out. Assumes nothing.
use Rattle.std.proofs.Common.{take}
use Rattle.candidates.specs.Steps.{RuledOut}
use Rattle.candidates.proofs.finding.rule_out.Given as goal

abbrev pub invariant-loop-v : goal.invariant-loop-v
invariant-loop-v l = RuledOut (take l.v-index l.interior) l.initial.exits l.exits l.none
