-- `folding::folds::fold_in` meets its contract: the first n of each slice are lent to the turns, and the new table is written. Assumes nothing.
use Rattle.std.proofs.Common.{ap, arith}
use Rattle.table.specs.Table.{Table}
use Rattle.rule.proofs.TheFold.{the_fold_lawful}
use Rattle.folding.proofs.DoneLaws.{turned_writable, folded_most, folded_at}
use Rattle.folding.proofs.folds.fold_in.Goals as goal

pub write_table-edges-requires : goal.write_table-edges-requires
write_table-edges-requires c =
    let pre = c.requires in
    rw (ap (λ (t : Table). t.rows) c.table.view_is)
    (turned_writable (the_fold_lawful c.args.mode) pre.counted pre.kind c.turn-turned.ensures pre.room.0 pre.room.1)

pub overflow_sub-result : goal.overflow_sub-result
overflow_sub-result c =
    let pre = c.requires in
    omega (arith, folded_most (the_fold_lawful c.args.mode) pre.counted pre.kind c.turn-turned.ensures)

pub returns : goal.returns
returns c =
    let pre = c.requires in
    let same = ap (λ (t : Table). t.rows) c.table.view_is in
    rw (c.vertices-n.ensures, same)
    (folded_at (the_fold_lawful c.args.mode) pre.counted pre.kind c.turn-turned.ensures (rw same at c.write_table-edges.ensures))
