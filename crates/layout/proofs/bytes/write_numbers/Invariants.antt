-- `layout::bytes::write_numbers` meets its contract. The loop's invariant: so many numbers are written over the slice. Assumes nothing.
use Rattle.std.proofs.Common.{◌≡◌, take}
use Rattle.layout.specs.Bytes.{spelled, over}
use Rattle.layout.proofs.bytes.write_numbers.Given as goal

abbrev pub invariant-loop-k : goal.invariant-loop-k
invariant-loop-k g l = l.out ≡ over l.initial.out l.at (spelled g.T.Number.WIDTH (take l.k (g.T.Wide.values l.numbers)))
