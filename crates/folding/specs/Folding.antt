-- What fold states: the number, every field, and all memory lent, on a refusal too. Assumes nothing.
use Rattle.std.specs.Prelude.{ℕ, ◌≡◌, List, ◌∷◌, ◌++◌, Result, Ok, Err, length}
use Rattle.table.specs.Verdict.{Demand, Verdict}
use Rattle.table.specs.Table.{Table, size}
use Rattle.table.specs.Numbers.{counted_demands, room_for}
use Rattle.table.specs.Lent.{AtFronts}
use Rattle.rule.specs.Way.{Way}
use Rattle.rule.specs.Tables.{TableFolded}
use Rattle.table.specs.declared.refusal.Refusal.{Refusal}
use Rattle.table.specs.Refusals.{number}
use Rattle.folding.specs.declared.folds.Folded.{Folded}

-- what fold answers: the number, how many were folded, how many candidates remain in the new table, and the new edge count
pub record Outcome : Type 0 where
  pub number : ℕ
  pub folded : ℕ
  pub left : ℕ
  pub edges : ℕ

-- the same, of what the call hands out: 0 and what was folded, or the number of a refusal, with every other field 0
abbrev pub outcome_of : Result Folded Refusal → Outcome
outcome_of (Ok folded) = record { number = 0; folded = folded.folded; left = folded.left; edges = folded.edges }
outcome_of (Err refusal) = record { number = number refusal; folded = 0; left = 0; edges = 0 }

-- 8: output starts, targets, counts below n+1, m, n
abbrev pub fold_room : Table → Table → Demand
fold_room table lent = room_for (size table.rows) (length table.rows.targets) lent

-- 1 to 8, and what the way asks: all that fold asks
abbrev pub fold_demands : Way → Table → Table → List Demand
fold_demands way table lent = counted_demands table ++ fold_room table lent ∷ way.asked table.rows

-- the three slices, before and after, with the folded table and its counts at their fronts
pub record FoldedAt (way : Way) (table : Table) (budget : ℕ) (lent after : Table) (answer : Outcome) : Type 0 where
  pub result : Table
  pub table_folded : TableFolded way.candidates way.rule table budget result answer.folded answer.left
  pub edge_count : answer.edges ≡ length result.rows.targets
  pub at_fronts : AtFronts (size table.rows) answer.edges result lent after

-- what fold states: number, folded, left, edges, and the three slices before and after
pub record FoldDone (way : Way) (table : Table) (budget : ℕ) (lent after : Table) (answer : Outcome) : Type 0 where
  pub verdict : Verdict (fold_demands way table lent) answer.number
  pub taken : answer.number ≡ 0 → FoldedAt way table budget lent after answer
  pub refused : (answer.number ≡ 0 → ⊥) → (answer.folded ≡ 0) × (answer.left ≡ 0) × (answer.edges ≡ 0) × (after ≡ lent)
