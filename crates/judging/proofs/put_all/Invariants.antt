-- `judging::put_all` meets its contract. The loop's invariant: the vertices before this one were added. Assumes nothing.
use Rattle.std.proofs.Common.{take}
use Rattle.judging.specs.Steps.{AllAdded}
use Rattle.judging.proofs.put_all.Given as goal

abbrev pub invariant-loop-v : goal.invariant-loop-v
invariant-loop-v l = AllAdded l.initial.words l.words (take l.v-index l.vertices)
