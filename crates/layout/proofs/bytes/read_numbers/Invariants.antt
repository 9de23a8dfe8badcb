-- `layout::bytes::read_numbers` meets its contract. The loop's invariant: so many numbers stand at the front. Assumes nothing.
use Rattle.std.proofs.Common.{◌≡◌, ◌++◌, drop}
use Rattle.layout.specs.Bytes.{numbers_of}
use Rattle.layout.proofs.bytes.read_numbers.Given as goal

abbrev pub invariant-loop-k : goal.invariant-loop-k
invariant-loop-k g l = g.T.Wide.values l.out ≡ numbers_of g.T.Number.WIDTH l.k (drop l.at l.bytes) ++ drop l.k (g.T.Wide.values l.initial.out)
