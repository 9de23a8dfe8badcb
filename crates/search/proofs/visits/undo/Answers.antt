-- `search::visits::undo` meets its contract: the row of the last vertex visited is given back. Assumes nothing.
use Rattle.std.proofs.Common.{arith, ◌≡◌, ◌+◌, ◌-◌}
use Rattle.table.proofs.RowLaws.{row_lies}
use Rattle.search.proofs.UndoLaws.{undo_tallying, undo_more}
use Rattle.search.proofs.visits.undo.Goals as goal

pub row-requires : goal.row-requires
row-requires c = row_lies _ _ c.requires.well_formed.starts_fit _ (c.loop-k.invariant.below (c.loop-k.k - 1) (omega arith))

pub tally-requires : goal.tally-requires
tally-requires c = let k = c.loop-k.k in
    let one : k ≡ (k - 1) + 1 = omega arith in
    rw c.row.ensures (undo_tallying (k - 1) c.requires.well_formed (rw one at c.loop-k.invariant))

pub loop-k-preserved : goal.loop-k-preserved
loop-k-preserved c = let k = c.loop-k.k in
    let one : k ≡ (k - 1) + 1 = omega arith in
    undo_more (k - 1) c.requires.well_formed (rw one at c.loop-k.invariant) (rw c.row.ensures at c.tally.ensures)
