-- Demand 3, of all that the contract of fold allows, for any rule that meets `RuleLaws` (docs/PROMISES.md has them in words). It holds for every list of budgets, so for
-- those whose sum is a budget. Assumes nothing.
use Prim.Native.Nat.{ℕ, ◌≤◌}
use mathlib.Core.Path.{◌≡◌}
use mathlib.Core.List.{List}
use lib.ListN.{length}
use Rattle.table.specs.Table.{count_sum, Table, edges}
use Rattle.table.proofs.RowLaws.{edges_below}
use Rattle.bubble.specs.Superbubble.{Interior, Superbubble}
use Rattle.rule.specs.Lists.{Listing}
use Rattle.rule.specs.Fold.{Rule, Candidate, kept_shares, Entrance, budgets_sum}
use Rattle.rule.specs.Way.{fold_with}
use Rattle.rule.specs.Laws.{RuleLaws}
use Rattle.rule.specs.declared.Choosing.{Choosing}
use Rattle.rule.specs.declared.Rings.TheVariants.{Refused}
use Rattle.rule.proofs.BestLaws.{kept_shares_laws}
use Rattle.rule.proofs.CandidatesListed.{candidates_listed}
use Rattle.rule.proofs.TableDemand.{no_interior_left}
use Rattle.rule.proofs.TheFold.{fold_with_lawful}
use Rattle.promises.specs.Calls.{Foldable, FoldCall, CallsInTurn}
use Rattle.promises.proofs.Decided.{edge_decided}
use Rattle.promises.proofs.AnyWay.{turns, calls_as_one, total_stays, further_call}
use Rattle.promises.proofs.Demand2.{foldable_kind}

-- The outermost superbubbles with an interior in the first table can be listed, so that they have a number.
pub first_candidates : {table : Table} → Foldable table → (candidates : List ℕ) × Listing (Entrance Candidate (edges table.rows)) candidates
first_candidates {table} ok = candidates_listed (edge_decided table.rows) (edges_below ok.sound.well_formed) Refused

-- Both versions' rules are such, by their scores alone (`ScoreLaws`).
pub both_lawful : (by : Choosing) → RuleLaws (kept_shares by)
both_lawful = kept_shares_laws

module _ {R : Rule} (lawful : RuleLaws R) {table table' : Table} {budgets : List ℕ} (ok : Foldable table) (calls : CallsInTurn (fold_with Refused R) table budgets table') where
  -- Folding by them in turn, each on the table the last one left, ends in the same table and counts as one fold with the sum.
  pub in_turn_as_one : {table'' : Table} → FoldCall (fold_with Refused R) table (budgets_sum budgets) table'' → table' ≡ table''
  in_turn_as_one = calls_as_one (fold_with_lawful Refused lawful) ok.sound (foldable_kind ok) calls

  -- The total of the counts never moves.
  pub total_never_moves : count_sum table'.counts ≡ count_sum table.counts
  total_never_moves = total_stays (fold_with_lawful Refused lawful) ok.sound (foldable_kind ok) calls

  -- Once the budgets reach the number of outermost superbubbles with an interior in the first table,
  module _ {candidates : List ℕ} (listed : Listing (Entrance Candidate (edges table.rows)) candidates) (reached : length candidates ≤ budgets_sum budgets) where
    -- no superbubble with an interior is left,
    pub no_interior : (s t : ℕ) → Superbubble (edges table'.rows) s t → (v : ℕ) → Interior (edges table'.rows) s t v → ⊥
    no_interior = no_interior_left lawful ok.sound (foldable_kind ok) (turns (fold_with_lawful Refused lawful) ok.sound (foldable_kind ok) calls) listed reached

    -- and a further fold gives back its input.
    pub further_fold : {budget : ℕ} {table'' : Table} → FoldCall (fold_with Refused R) table' budget table'' → table'' ≡ table'
    further_fold = further_call (fold_with_lawful Refused lawful) ok.sound (foldable_kind ok) calls listed reached
