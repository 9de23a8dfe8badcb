-- `visiting::visit` meets its contract. The loop's invariant, `OnWay`: the turns of the path lead from the root to v, and what is passed is safe. A step down leaves one unvisited vertex less and
-- a step back one vertex less on the path, so that twice the former and the latter together fall. Assumes nothing.
use Rattle.std.proofs.Common.{get_or, arith}
use Rattle.table.specs.Table.{vertices}
use Rattle.table.proofs.RowLaws.{row_lies, row_below}
use Rattle.visiting.proofs.CountLaws.{enter_unvisited, leave_unvisited}
use Rattle.visiting.proofs.DepthLaws.{walk_begins, coloured, opened, row_ends, closes, goes_down, comes_back, visit_ends}
use Rattle.visiting.proofs.visit.Goals as goal

pub loop-open-init : goal.loop-open-init
loop-open-init c = walk_begins c.requires c.if-colours-root-ne0.false

pub row-row-requires : goal.row-row-requires
row-row-requires c = let at = c.loop-open.invariant in row_lies _ _ at.well_formed.starts_fit c.loop-open.v at.last_row.vertex

pub next_open-requires-clause-below : goal.next_open-requires-clause-below
next_open-requires-clause-below c = let at = c.loop-open.invariant in
    rw c.row-row.ensures (λ k l. omega (arith, row_below c.args.rows.now.starts c.args.rows.now.targets at.well_formed.targets_below c.loop-open.v k l, at.colours_room))

pub offset_bounds-row-open : goal.offset_bounds-row-open
offset_bounds-row-open c = let found = opened c.loop-open.invariant c.passed_over.result c.row-row.ensures c.passed_over.ensures c.in-Some.ensures in omega (arith, found.few)

pub bounds-colours-next : goal.bounds-colours-next
bounds-colours-next c = let found = opened c.loop-open.invariant c.passed_over.result c.row-row.ensures c.passed_over.ensures c.in-Some.ensures in
    omega (arith, found.vertex, found.on_way.colours_room)

pub returns-then-colours-next-eq1 : goal.returns-then-colours-next-eq1
returns-then-colours-next-eq1 c = let found = opened c.loop-open.invariant c.passed_over.result c.row-row.ensures c.passed_over.ensures c.in-Some.ensures in
    closes found.on_way found.edge found.vertex c.if-colours-next-eq1.true

pub bounds-colours-next-in-Some : goal.bounds-colours-next-in-Some
bounds-colours-next-in-Some c = let found = opened c.loop-open.invariant c.passed_over.result c.row-row.ensures c.passed_over.ensures c.in-Some.ensures in
    omega (arith, found.vertex, found.on_way.colours_room)

pub overflow_cast-path : goal.overflow_cast-path
overflow_cast-path c = let at = c.loop-open.invariant in omega (arith, at.last_row.vertex, at.well_formed.most_vertices)

pub overflow_cast-path-in-Some : goal.overflow_cast-path-in-Some
overflow_cast-path-in-Some c = let found = opened c.loop-open.invariant c.passed_over.result c.row-row.ensures c.passed_over.ensures c.in-Some.ensures in omega (arith, found.few)

pub loop-open-smaller-in-Some : goal.loop-open-smaller-in-Some
loop-open-smaller-in-Some c = let found = opened c.loop-open.invariant c.passed_over.result c.row-row.ensures c.passed_over.ensures c.in-Some.ensures in
    omega (
      arith,
      enter_unvisited (vertices c.args.rows.now.starts) c.loop-open.colours (get_or c.row-row.result.now c.in-Some.open 0) found.vertex
          (omega (arith, found.vertex, found.on_way.colours_room)) (omega (arith, found.not_done, c.if-colours-next-eq1.false)),
    )

pub loop-open-preserved-in-Some : goal.loop-open-preserved-in-Some
loop-open-preserved-in-Some c = let found = opened c.loop-open.invariant c.passed_over.result c.row-row.ensures c.passed_over.ensures c.in-Some.ensures in
    goes_down found.on_way found.edge found.vertex (omega (arith, found.not_done, c.if-colours-next-eq1.false))

pub returns-then-depth-eq0 : goal.returns-then-depth-eq0
returns-then-depth-eq0 c = visit_ends (row_ends c.loop-open.invariant c.passed_over.result c.row-row.ensures c.passed_over.ensures c.in-None.ensures) (omega arith) c.if-depth-eq0.true

pub loop-open-smaller : goal.loop-open-smaller
loop-open-smaller c = let at = c.loop-open in
    omega (arith, c.if-depth-eq0.false, leave_unvisited (vertices c.args.rows.now.starts) at.colours at.v (coloured at.invariant))

pub loop-open-preserved : goal.loop-open-preserved
loop-open-preserved c = let ends = row_ends c.loop-open.invariant c.passed_over.result c.row-row.ensures c.passed_over.ensures c.in-None.ensures in
    rw (c.from-v.ensures, c.from-place.ensures) (comes_back ends (omega arith) (omega (arith, c.if-depth-eq0.false)))
