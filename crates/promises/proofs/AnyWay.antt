-- What the contract of fold gives for every lawful way of folding: a table of its kind, with room, is folded by its rule; the next call accepts what the last one left;
-- and calls in turn end as one call with the sum. `Demand2` and `Demand3` say it of the fold of today. Assumes nothing.
use Prim.Native.Nat.{ℕ, ◌+◌, ◌≤◌}
use mathlib.Core.Path.{◌≡◌, sym, ◌∙◌}
use mathlib.Core.List.{List}
use native.Mathlib.Omega.{arith}
use lib.ListN.{length}
use Rattle.table.specs.Table.{count_sum, Table, size, edges, SoundTable}
use Rattle.table.specs.Lent.{AtFronts}
use Rattle.table.proofs.FrontLaws.{fronts_are}
use Rattle.rule.specs.Lists.{Listing}
use Rattle.rule.specs.Fold.{Entrance, budgets_sum}
use Rattle.rule.specs.Tables.{TableFolded, TablesInTurn, TablesInTurn.once, TablesInTurn.then}
use Rattle.rule.specs.Way.{Way}
use Rattle.rule.specs.Laws.{WayLaws}
use Rattle.rule.proofs.TableDemand as demand
use Rattle.folding.specs.Folding.{FoldedAt}
use Rattle.folding.proofs.Demand.{fold_accepts, left_accepted}
use Rattle.promises.specs.Calls.{FoldCall, CallsInTurn, CallsInTurn.once, CallsInTurn.then}

module _ {way : Way} (laws : WayLaws way) where
  module _ {table table' : Table} {budget : ℕ} (ok : SoundTable table) (kind : way.Kind (edges table.rows)) (call : FoldCall way table budget table') where
    -- the call is accepted
    pub call_accepted : call.answer.number ≡ 0
    call_accepted = fold_accepts laws ok kind call.room call.done

    at : FoldedAt way table budget call.lent call.after call.answer
    at = call.done.taken call_accepted

    -- the table that the contract speaks of stands at the fronts of the slices
    result_left : table' ≡ at.result
    result_left =
        let size-stays = at.table_folded.same_size in
        let long-starts : length at.result.rows.starts ≡ size table.rows + 1 = omega (arith, size-stays.as_many_vertices, ok.well_formed.some) in
        let long-counts : length at.result.counts ≡ size table.rows = omega (arith, size-stays.as_many_counts, ok.count_each) in
        call.leaves ∙ fronts_are at.at_fronts long-starts (sym at.edge_count) long-counts

    -- it is the first one folded by the rule,
    pub call_by_rule : TableFolded way.candidates way.rule table budget table' call.answer.folded call.answer.left
    call_by_rule = rw result_left at.table_folded

    -- with as many edges as are returned,
    pub call_edges : call.answer.edges ≡ length table'.rows.targets
    call_edges = rw result_left at.edge_count

    -- what stands behind it is as it was,
    pub call_rest : AtFronts (size table.rows) call.answer.edges table' call.lent call.after
    call_rest = rw result_left at.at_fronts

    -- and the next call accepts it
    pub call_leaves : SoundTable table' × way.Kind (edges table'.rows)
    call_leaves = left_accepted laws ok kind call_by_rule

  -- calls in turn are folds in turn
  tables_in_turn : {table table' : Table} {budgets : List ℕ} → SoundTable table → way.Kind (edges table.rows) → CallsInTurn way table budgets table'
      → TablesInTurn way.candidates way.rule table budgets table'
  tables_in_turn ok kind (once call) = once (call_by_rule ok kind call)
  tables_in_turn ok kind (then call calls) = let (ok', kind') = call_leaves ok kind call in then (call_by_rule ok kind call) (tables_in_turn ok' kind' calls)

  -- and what they leave can be folded again
  pub calls_leave : {table table' : Table} {budgets : List ℕ} → SoundTable table → way.Kind (edges table.rows) → CallsInTurn way table budgets table'
      → SoundTable table' × way.Kind (edges table'.rows)
  calls_leave ok kind (once call) = call_leaves ok kind call
  calls_leave ok kind (then call calls) = let (ok', kind') = call_leaves ok kind call in calls_leave ok' kind' calls

  module _ {table table' : Table} {budgets : List ℕ} (ok : SoundTable table) (kind : way.Kind (edges table.rows)) (calls : CallsInTurn way table budgets table') where
    pub turns : TablesInTurn way.candidates way.rule table budgets table'
    turns = tables_in_turn ok kind calls

    -- calls in turn end as one call with the sum
    pub calls_as_one : {table'' : Table} → FoldCall way table (budgets_sum budgets) table'' → table' ≡ table''
    calls_as_one one = demand.in_turn_as_once laws kind turns (call_by_rule ok kind one)

    -- the total of the counts does not move
    pub total_stays : count_sum table'.counts ≡ count_sum table.counts
    total_stays = demand.count_sum_stays laws kind turns ok

    -- once the budgets reach the number of the candidates, a further call gives back its input
    pub further_call : {candidates : List ℕ} → Listing (Entrance way.candidates (edges table.rows)) candidates → length candidates ≤ budgets_sum budgets
        → {budget : ℕ} {table'' : Table} → FoldCall way table' budget table'' → table'' ≡ table'
    further_call listed reached call =
        let (ok', kind') = calls_leave ok kind calls in
        demand.further_fold_gives_back laws kind turns listed reached (call_by_rule ok' kind' call)
