-- What is asked of an exit that a search found, and what is left of it where rings are taken. Assumes nothing.
use Rattle.std.specs.Prelude.{ℕ, ◌≤◌, ◌<◌, List, Option, Some, None}
use Rattle.table.specs.Table.{vertices, WellFormed}
use Rattle.bubble.specs.Superbubble.{Reaches}
use Rattle.search.specs.declared.Exit.{Exit}
use Rattle.rule.specs.Lists.{Graph}
use Rattle.rule.specs.declared.Rings.{Rings}
use Rattle.rule.specs.declared.Rings.TheVariants.{Refused, Taken}

-- two vertices of a well-formed table
pub record Pair (starts targets : List ℕ) (s t : ℕ) : Type 0 where
  pub well_formed : WellFormed starts targets
  pub entrance : s < vertices starts
  pub exit : t < vertices starts

-- a bare edge, and a way back
pub record LeadsBack (E : Graph) (s t : ℕ) : Type 0 where
  pub bare_edge : E s t
  pub way_back : Reaches E t s

-- and an interior: more than the entrance was visited on the way to the exit
pub record Skips (E : Graph) (s t visited : ℕ) : Type 0 where
  pub inner : 2 ≤ visited
  pub leads_back : LeadsBack E s t

-- what a search from s found: an exit that is a vertex, or nothing
abbrev pub Found : List ℕ → List ℕ → ℕ → Option Exit → Type 0
Found starts targets s (Some exit) = Pair starts targets s exit.vertex
Found starts targets s None = Unit {0}

-- what is left of it: where rings are refused all, and where they are taken all but what is skipped
pub data Admitted (E : Graph) (s : ℕ) : Rings → Option Exit → Option Exit → Type 0 where
  unasked : {exit : Option Exit} → Admitted E s Refused exit exit
  nothing : Admitted E s Taken None None
  passed : {exit : Exit} → (Skips E s exit.vertex exit.visited → ⊥) → Admitted E s Taken (Some exit) (Some exit)
  skipped : {exit : Exit} → Skips E s exit.vertex exit.visited → Admitted E s Taken (Some exit) None
