-- `kept::paths::settle` meets its contract. The loop's invariant: the visited vertices from place k on are settled. Assumes nothing.
use Rattle.std.proofs.Common.{◌≡◌, length}
use Rattle.kept.specs.Steps.{SettledFrom}
use Rattle.kept.proofs.paths.settle.Given as goal

abbrev pub invariant-loop-k : goal.invariant-loop-k
invariant-loop-k l = (length l.best ≡ length l.initial.best) × (length l.next ≡ length l.initial.next)
    × SettledFrom l.by l.table l.visited l.t l.bound l.initial.next l.k l.best l.next
