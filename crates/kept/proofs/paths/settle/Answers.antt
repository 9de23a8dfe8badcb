-- `kept::paths::settle` meets its contract. The loop's invariant: the visited vertices from place k on are settled. Assumes nothing.
use Rattle.std.proofs.Common.{ℕ, suc, ◌-◌, ◌<◌, ◌≡◌, List, length-set, arith}
use Rattle.table.specs.Table.{Table}
use Rattle.table.proofs.RowLaws.{row_lies}
use Rattle.rule.specs.declared.Choosing.{Choosing}
use Rattle.kept.specs.Steps.{SettledFrom}
use Rattle.kept.proofs.OrderLaws.{visited_below}
use Rattle.kept.proofs.SettleLaws.{settle_choosable, settle_more}
use Rattle.kept.proofs.paths.settle.Goals as goal

-- those after the vertex of this turn are settled
later : {by : Choosing} {table : Table} {visited : List ℕ} {t bound : ℕ} {next best' next' : List ℕ} (k : ℕ) → 0 < k
    → SettledFrom by table visited t bound next k best' next' → SettledFrom by table visited t bound next (suc (k - 1)) best' next'
later k some s = let one : suc (k - 1) ≡ k = omega arith in rw one s

pub row-requires : goal.row-requires
row-requires c = let p = rw (← c.table.view_is) at c.requires in
    row_lies _ _ p.counted.well_formed.starts_fit _ (visited_below p.order (c.loop-k.k - 1) (omega arith))

pub choose-choice-requires : goal.choose-choice-requires
choose-choice-requires c = let p = rw (← c.table.view_is) at c.requires in
    let at = c.loop-k in
    let settled = rw (← c.table.view_is) at (later at.k (omega arith) at.invariant.2) in
    rw c.row.ensures (settle_choosable p (at.k - 1) (omega arith) settled (omega (arith, p.best_room, at.invariant.0)) (omega (arith, p.next_room, at.invariant.1)))

pub loop-k-preserved : goal.loop-k-preserved
loop-k-preserved c = let p = rw (← c.table.view_is) at c.requires in
    let at = c.loop-k in
    let settled = rw (← c.table.view_is) at (later at.k (omega arith) at.invariant.2) in
    let chosen = rw (c.row.ensures, c.end_from-end.ensures) at c.choose-choice.ensures in (
      simp length-set at.invariant.0,
      simp length-set at.invariant.1,
      rw (← c.table.view_is) (settle_more p (at.k - 1) (omega arith) settled (omega (arith, p.best_room, at.invariant.0)) (omega (arith, p.next_room, at.invariant.1)) chosen),
    )
