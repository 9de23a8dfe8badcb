-- What the steps of judge state between themselves. Assumes nothing.
use Rattle.std.specs.Prelude.{ℕ, ◌<◌, ◌≡◌, ◌↔◌, ◌⊎◌, List, length}
use Rattle.table.specs.Table.{In, Rows, size, Sound}
use Rattle.vertices.specs.Vertices.{Member, Words}

-- what is handed to the judging: a well-formed table, two of its vertices, and slices of n to work on
pub record JudgeReady (rows : Rows) (s t : ℕ) (parents pending order : List ℕ) : Type 0 where
  pub sound : Sound rows
  pub entrance : s < size rows
  pub exit : t < size rows
  pub parents_long : length parents ≡ size rows
  pub pending_long : length pending ≡ size rows
  pub order_long : length order ≡ size rows

-- each of the vertices was added to the set
pub record AllAdded (words words' vertices : List ℕ) : Type 0 where
  pub still : Words words'
  pub members : (x : ℕ) → Member words' x ↔ (Member words x ⊎ In x vertices)
