-- What the steps over the entrances state between themselves. Assumes nothing.
use Rattle.std.specs.Prelude.{ℕ, ◌≤◌, ◌<◌, ◌≡◌, List, length}
use Rattle.table.specs.Table.{Table, size, edges, SoundTable}
use Rattle.parents.specs.Parents.{Parents}
use Rattle.search.specs.Search.{Visited}
use Rattle.rule.specs.Lists.{CandidateSet}
use Rattle.rule.specs.Fold.{Rule, Entrance}
use Rattle.kept.specs.Keeping.{KeptDone}

-- what the search and the keeping of paths take: a table with its counts, the parents' counts, once to read and once to work on, and room for each vertex
pub record Room (table : Table) (parents pending order best next out : List ℕ) : Type 0 where
  pub counted : SoundTable table
  pub parents_counted : Parents (size table.rows) table.rows.targets parents
  pub whole : pending ≡ parents
  pub order_room : size table.rows ≤ length order
  pub best_room : size table.rows ≤ length best
  pub next_long : length next ≡ size table.rows
  pub out_long : length out ≡ size table.rows

-- s is the entrance of a candidate
pub record CandidateAt (C : CandidateSet) (table : Table) (s : ℕ) : Type 0 where
  pub vertex : s < size table.rows
  pub entrance : Entrance C (edges table.rows) s

-- the candidate with the entrance s is folded: its exit, the visiting order of its U less the exit, and what is kept of it
pub record EntranceFolded (C : CandidateSet) (R : Rule) (table : Table) (s : ℕ) (parents best next out pending' order' best' next' out' : List ℕ) : Type 0 where
  pub exit : ℕ
  pub visited : ℕ
  pub candidate : C (edges table.rows) s exit
  pub order : Visited table.rows.starts table.rows.targets order' s exit visited
  pub kept : KeptDone C R table s exit best next out best' next' out'
  pub room : Room table parents pending' order' best' next' out'
