-- `staying::write_table` meets its contract. The loop's invariant: the new rows of the vertices passed, and their starts, stand at the fronts. Assumes nothing.
use Rattle.std.proofs.Common.{◌<◌, ◌≤◌, arith}
use Rattle.table.specs.Table.{size}
use Rattle.table.proofs.RowLaws.{row_lies}
use Rattle.staying.proofs.TableLaws.{place_most, row_room, written_more, written_all}
use Rattle.staying.proofs.write_table.Goals as goal

pub overflow_cast-starts2 : goal.overflow_cast-starts2
overflow_cast-starts2 c = omega (arith, place_most c.requires c.loop-v.invariant, c.requires.well_formed)

pub row-requires : goal.row-requires
row-requires c = row_lies _ _ c.requires.well_formed.starts_fit c.loop-v.v (omega (arith, c.vertices-n.ensures))

pub write_row-at-requires : goal.write_row-at-requires
write_row-at-requires c =
    let inside : c.loop-v.v < size c.args.rows.now = omega (arith, c.vertices-n.ensures) in
    rw (c.row.ensures, c.vertices-n.ensures) (row_room c.requires c.loop-v.invariant inside)

pub loop-v-preserved : goal.loop-v-preserved
loop-v-preserved c =
    let inside : c.loop-v.v < size c.args.rows.now = omega (arith, c.vertices-n.ensures) in
    written_more c.requires c.loop-v.invariant inside (rw (c.row.ensures, c.vertices-n.ensures) at c.write_row-at.ensures)

pub returns : goal.returns
returns c =
    let all : size c.args.rows.now ≤ c.loop-v.v = omega (arith, c.vertices-n.ensures) in
    rw c.vertices-n.ensures (written_all c.requires c.loop-v.invariant all)
