-- What folding the first candidates of a table states: how many there are and how many were folded, the one number a vertex that says its new row, and the new
-- counts. Assumes nothing.
use Rattle.std.specs.Prelude.{ℕ, ◌≡◌, List, length}
use Rattle.table.specs.Table.{Table, size, edges, SoundTable}
use Rattle.rule.specs.Way.{Way}
use Rattle.candidates.specs.Candidates.{entrances, CandidatesFound}
use Rattle.entrances.specs.Turns.{Turns}
use Rattle.turns.specs.declared.Turned.{Turned}

-- what is handed over: a table with its counts that the way folds, and a number and a count for each vertex
pub record FoldReady (way : Way) (table : Table) (next out : List ℕ) : Type 0 where
  pub counted : SoundTable table
  pub kind : way.Kind (edges table.rows)
  pub next_long : length next ≡ size table.rows
  pub out_long : length out ≡ size table.rows

-- what is left: how many candidates there are, all entrances passed, and a number and a count for each vertex
pub record TurnDone (way : Way) (table : Table) (budget : ℕ) (next out : List ℕ) (answer : Turned) : Type 0 where
  pub exits : List ℕ
  pub candidates : CandidatesFound way.candidates table.rows exits
  pub number : answer.found ≡ length (entrances exits)
  pub turns : Turns way table exits next out budget (size table.rows) answer.folded
  pub next_long : length next ≡ size table.rows
  pub out_long : length out ≡ size table.rows
