-- What the cycle test asks for, and what clearing the colours leaves. Assumes nothing.
use Rattle.std.specs.Prelude.{ℕ, ◌≤◌, ◌<◌, ◌≡◌, List, length, get_or}
use Rattle.table.specs.Table.{vertices, WellFormed}

-- a table can be tested: it is well-formed, and each vertex has room for its colour
pub record Testable (starts targets colours : List ℕ) : Type 0 where
  pub well_formed : WellFormed starts targets
  pub room : vertices starts ≤ length colours

-- the first n colours are 0, and there are as many colours as before
pub record Unvisited (n : ℕ) (colours colours' : List ℕ) : Type 0 where
  pub same : length colours' ≡ length colours
  pub unvisited : (v : ℕ) → v < n → get_or colours' v 0 ≡ 0
