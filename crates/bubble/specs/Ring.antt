-- A ring of n vertices: one edge from each vertex to the next, and from the last to 0. Assumes nothing.
use Rattle.std.specs.Prelude.{ℕ, suc, ◌<◌, ◌≡◌}
use Rattle.std.proofs.Math.Logic.{ite}
use Rattle.std.proofs.Math.Decide.{ℕ_discrete}

-- the vertex after u on a ring of n
unfoldable pub after : ℕ → ℕ → ℕ
after n u = ite (ℕ_discrete (suc u) n) 0 (suc u)

-- the edges of a ring of n
abbrev pub Ring : ℕ → ℕ → ℕ → Type 0
Ring n u v = (u < n) × (v ≡ after n u)
