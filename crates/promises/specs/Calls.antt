-- Calls of fold as a user makes them: with room for the result, and one after another, each on the table that the last one left. Assumes nothing.
use Rattle.std.specs.Prelude.{ℕ, ◌≡◌, List, [], ◌∷◌}
use Rattle.table.specs.Table.{Table, size, edges, SoundTable}
use Rattle.table.specs.Lent.{fronts}
use Rattle.bubble.specs.Cycle.{Cyclic}
use Rattle.rule.specs.Way.{Way}
use Rattle.folding.specs.Folding.{Outcome, fold_room, FoldDone}

-- a table that demand 3 speaks of: well-formed with its counts, and without a directed cycle
pub record Foldable (table : Table) : Type 0 where
  pub sound : SoundTable table
  pub acyclic : Cyclic (edges table.rows) → ⊥

-- a call of fold: its contract, room for the result, and the table and counts that it leaves at the fronts of the slices lent
pub record FoldCall (way : Way) (table : Table) (budget : ℕ) (table' : Table) : Type 0 where
  pub lent : Table
  pub room : (fold_room table lent).met
  pub after : Table
  pub answer : Outcome
  pub done : FoldDone way table budget lent after answer
  pub leaves : table' ≡ fronts (size table.rows) answer.edges after

-- folding by one or more budgets in turn, each on the table that the last one left
pub data CallsInTurn (way : Way) : Table → List ℕ → Table → Type 0 where
  once : {table table' : Table} {budget : ℕ} → FoldCall way table budget table' → CallsInTurn way table (budget ∷ []) table'
  then : {table table' table'' : Table} {budgets : List ℕ} {budget : ℕ}
      → FoldCall way table budget table' → CallsInTurn way table' budgets table'' → CallsInTurn way table (budget ∷ budgets) table''
