-- `entrances::fold_all` meets its contract. The loop's invariant: the entrances below s are passed, and the room is as the search takes it. Assumes nothing.
use Rattle.std.proofs.Common.{◌≡◌, length}
use Rattle.rule.specs.Way.{the_fold}
use Rattle.entrances.specs.Turns.{Turning}
use Rattle.entrances.specs.Steps.{Room}
use Rattle.entrances.proofs.fold_all.Given as goal

abbrev pub invariant-loop-s : goal.invariant-loop-s
invariant-loop-s l = Room l.table l.parents l.pending l.order l.best l.next l.out × Turning (the_fold l.mode) l.table l.exits l.next l.out l.budget l.s l.folded
    × (length l.order ≡ length l.initial.order) × (length l.best ≡ length l.initial.best)
