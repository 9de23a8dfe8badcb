-- What is asked for where a vertex is to be reached from another. Assumes nothing.
use Rattle.std.specs.Prelude.{ℕ, ◌<◌, List}
use Rattle.table.specs.Table.{vertices, WellFormed}

-- a well-formed table, and two of its vertices
pub record Askable (starts targets : List ℕ) (from to : ℕ) : Type 0 where
  pub well_formed : WellFormed starts targets
  pub from_vertex : from < vertices starts
  pub to_vertex : to < vertices starts
