-- `children::choose` meets its contract. The loop's invariant: of the children passed this one is chosen. Assumes nothing.
use Rattle.std.proofs.Common.{◌+◌}
use Rattle.children.specs.Children.{Chosen}
use Rattle.children.proofs.choose.Given as goal

abbrev pub invariant-loop-u : goal.invariant-loop-u
invariant-loop-u l = Chosen l.by l.row l.counts l.best l.t l.end (l.u-index + 1) l.chosen.child l.chosen.gain
