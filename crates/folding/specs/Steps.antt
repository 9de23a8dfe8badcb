-- What the steps of fold state between themselves. Assumes nothing.
use Rattle.std.specs.Prelude.{ℕ, ◌≡◌, List, length}
use Rattle.table.specs.Limits.{vertex_limit}
use Rattle.table.specs.Table.{Table, edges, SoundTable}
use Rattle.bubble.specs.Cycle.{Cyclic}
use Rattle.rule.specs.Lists.{Graph}
use Rattle.rule.specs.Way.{Way}
use Rattle.rule.specs.declared.Rings.{Rings}
use Rattle.rule.specs.declared.Rings.TheVariants.{Refused, Taken}
use Rattle.folding.specs.Folding.{fold_room}

-- rings are refused, and a graph has a directed cycle
abbrev pub Refuses : Rings → Graph → Type 0
Refuses Refused E = Cyclic E
Refuses Taken E = ⊥

-- what is handed over: a table with its counts that the way folds, an array with room for the number of every vertex, and room for the result
pub record FoldRoom (way : Way) (table : Table) (next : List ℕ) (lent : Table) : Type 0 where
  pub counted : SoundTable table
  pub kind : way.Kind (edges table.rows)
  pub next_long : length next ≡ vertex_limit
  pub room : (fold_room table lent).met
