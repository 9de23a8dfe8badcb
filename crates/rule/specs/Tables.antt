-- The fold of a table with its counts: the fold of its graph, and as many vertices. Assumes nothing.
use Rattle.std.specs.Prelude.{ℕ, ◌≡◌, List, [], ◌∷◌, length, get_or}
use Rattle.table.specs.Table.{Table, edges, Sound}
use Rattle.rule.specs.Lists.{CandidateSet}
use Rattle.rule.specs.Fold.{Rule, GraphFolded}

-- the count of each vertex
abbrev pub count_of : List ℕ → ℕ → ℕ
count_of counts v = get_or counts v 0

-- a well-formed table with as many vertices, and as many counts
pub record SameSize (table table' : Table) : Type 0 where
  pub well_formed : Sound table'.rows
  pub as_many_vertices : length table'.rows.starts ≡ length table.rows.starts
  pub as_many_counts : length table'.counts ≡ length table.counts

module _ (C : CandidateSet) (R : Rule) where
  -- the second table and its counts are the first ones folded
  pub record TableFolded (table : Table) (budget : ℕ) (table' : Table) (folded left : ℕ) : Type 0 where
    pub same_size : SameSize table table'
    pub graph_folded :
        GraphFolded C R (edges table.rows) (count_of table.counts) budget (edges table'.rows) (count_of table'.counts) folded left

  -- folding with one or more budgets in turn, each on what the last left
  pub data TablesInTurn : Table → List ℕ → Table → Type 0 where
    once : {table table' : Table} {budget folded left : ℕ} → TableFolded table budget table' folded left → TablesInTurn table (budget ∷ []) table'
    then : {table table' table'' : Table} {budgets : List ℕ} {budget folded left : ℕ}
        → TableFolded table budget table' folded left → TablesInTurn table' budgets table'' → TablesInTurn table (budget ∷ budgets) table''
