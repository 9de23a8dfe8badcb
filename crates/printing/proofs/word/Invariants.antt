-- `printing::word` meets its contract. The loop's invariant: the first k bytes stand behind the place. Assumes nothing.
use Rattle.std.proofs.Common.{◌+◌, take}
use Rattle.printing.specs.Put.{Put}
use Rattle.printing.proofs.word.Given as goal

abbrev pub invariant-loop-k : goal.invariant-loop-k
invariant-loop-k l = Put l.initial.out l.at (take l.k l.bytes) l.out (l.at + l.k)
