-- Rings refused or taken: a fold of a table without a directed cycle is one where rings are taken. Assumes nothing.
use Rattle.std.proofs.Common.{ℕ, [], ◌∷◌, ◌++◌}
use Rattle.table.specs.Table.{Table, edges}
use Rattle.table.specs.Numbers.{counted_demands}
use Rattle.table.proofs.VerdictLaws.{met_is_passed}
use Rattle.bubble.specs.Cycle.{Cyclic}
use Rattle.rule.specs.Fold.{Rule}
use Rattle.rule.specs.Way.{no_cycle_demand, fold_with}
use Rattle.rule.specs.declared.Rings.TheVariants.{Refused, Taken}
use Rattle.rule.proofs.TheFold.{acyclic_folds}
use Rattle.rule.proofs.WithoutCycle.{table_folded_ring}
use Rattle.folding.specs.Folding.{Outcome, fold_room, FoldDone}

-- what a fold states of a table without a directed cycle where rings are refused holds where they are taken
pub done_without_cycle : {R : Rule} {table lent after : Table} {budget : ℕ} {answer : Outcome} → (Cyclic (edges table.rows) → ⊥)
    → FoldDone (fold_with Refused R) table budget lent after answer → FoldDone (fold_with Taken R) table budget lent after answer
done_without_cycle {table = table} {lent = lent} {answer = answer} none done =
    record {
      verdict = met_is_passed (counted_demands table ++ fold_room table lent ∷ []) (no_cycle_demand table.rows) [] answer.number none done.verdict;
      taken = λ e. let at = done.taken e in
          record { result = at.result; table_folded = table_folded_ring (acyclic_folds none) at.table_folded; edge_count = at.edge_count; at_fronts = at.at_fronts };
      refused = done.refused;
    }
