-- `search::visits::visit` meets its contract: what holds before a visit holds before the next, and at each end. Assumes nothing.
use Rattle.std.proofs.Common.{arith, rules, ap, ◌≡◌, ◌≢◌, ℕ, List, Option, length, set, refl, ◌∙◌, length-set}
use Rattle.table.specs.Table.{In, Rows}
use Rattle.table.proofs.RowLaws.{row_lies}
use Rattle.search.specs.declared.Exit.{Exit}
use Rattle.search.specs.Search.{Searched}
use Rattle.search.specs.Steps.{Ran}
use Rattle.search.proofs.Going.{Going, going_none, tail_most, going_lowered, no_back, some_child}
use Rattle.search.proofs.TurnLaws.{turn_walkable, turn_more}
use Rattle.search.proofs.EndLaws.{end_found, end_none}
use Rattle.search.proofs.visits.visit.Goals as goal

-- the two slices that are taken out of the table
starts_are : {a b : Rows} → a ≡ b → a.starts ≡ b.starts
starts_are e = ap (λ (t : Rows). t.starts) e

targets_are : {a b : Rows} → a ≡ b → a.targets ≡ b.targets
targets_are e = ap (λ (t : Rows). t.targets) e

-- what an answer leaves
ended : {starts targets parents pending order order' : List ℕ} {s head tail waiting : ℕ} (exit : Option Exit) →
    length order' ≡ length (set order 0 s) → Going starts targets parents pending order' s head tail waiting → Searched starts targets s exit order' →
    Ran starts targets pending order order' s exit head
ended {order = order} {s = s} exit q g answer = record { same = q ∙ length-set order 0 s; searched = answer; lowered = going_lowered g }

pub loop-head-init : goal.loop-head-init
loop-head-init c = record { same = refl; going = going_none c.requires }

pub offset_bounds-order-head : goal.offset_bounds-order-head
offset_bounds-order-head c = let g = c.loop-head.invariant.going in omega (arith, tail_most g, g.room)

pub bounds-order-head : goal.bounds-order-head
bounds-order-head c = let g = c.loop-head.invariant.going in omega (arith, tail_most g, g.room)

pub row-row-requires : goal.row-row-requires
row-row-requires c = let g = c.loop-head.invariant.going in
    rw (starts_are c.rows.view_is, targets_are c.rows.view_is) (row_lies _ _ g.well_formed.starts_fit _ (g.below c.loop-head.head (omega arith)))

pub returns-then-holds : goal.returns-then-holds
returns-then-holds c = let g = c.loop-head.invariant.going in
    let back : In c.args.s c.row-row.result.now = rw c.if-holds.true at c.holds.ensures in
    ended _ c.loop-head.invariant.same g (λ t b. no_back g b.bubbloid (omega arith) (rw (rw (starts_are c.rows.view_is, targets_are c.rows.view_is) at c.row-row.ensures) at back))

pub returns-then-alone : goal.returns-then-alone
returns-then-alone c = let g = c.loop-head.invariant.going in
    let forward : In c.args.s c.row-row.result.now → ⊥ = rw c.if-holds.false at c.holds.ensures in
    let lone = rw c.if-alone.true at c.alone.ensures in
    ended _ c.loop-head.invariant.same g (end_found g lone (rw (rw (starts_are c.rows.view_is, targets_are c.rows.view_is) at c.row-row.ensures) at forward))

pub returns-then-is_empty : goal.returns-then-is_empty
returns-then-is_empty c = let g = c.loop-head.invariant.going in
    let none : length c.row-row.result.now ≡ 0 = search rules in
    let still = rw c.if-alone.false at c.alone.ensures in
    ended _ c.loop-head.invariant.same g (λ t b. some_child g b.bubbloid (omega arith) still (rw (rw (starts_are c.rows.view_is, targets_are c.rows.view_is) at c.row-row.ensures) at none))

pub walk-front-requires : goal.walk-front-requires
walk-front-requires c = let g = c.loop-head.invariant.going in
    let forward : In c.args.s c.row-row.result.now → ⊥ = rw c.if-holds.false at c.holds.ensures in
    let row_is = rw (starts_are c.rows.view_is, targets_are c.rows.view_is) at c.row-row.ensures in
    rw row_is (turn_walkable g (omega arith) (rw row_is at forward))

pub loop-head-smaller : goal.loop-head-smaller
loop-head-smaller c = omega (arith, tail_most c.loop-head.invariant.going)

pub loop-head-preserved : goal.loop-head-preserved
loop-head-preserved c = let g = c.loop-head.invariant.going in
    let row_is = rw (starts_are c.rows.view_is, targets_are c.rows.view_is) at c.row-row.ensures in
    let forward : In c.args.s c.row-row.result.now → ⊥ = rw c.if-holds.false at c.holds.ensures in
    let some : length c.row-row.result.now ≢ 0 = search rules in
    let still = rw c.if-alone.false at c.alone.ensures in
    let w = c.walk-front.ensures in
    record {
      same = w.same_order ∙ c.loop-head.invariant.same;
      going = turn_more g (omega arith) (rw row_is at forward) still (rw row_is at some) (rw row_is at w);
    }

pub returns : goal.returns
returns c = let g = c.loop-head.invariant.going in ended _ c.loop-head.invariant.same g (λ t b. end_none g (omega arith) b.bubbloid)
