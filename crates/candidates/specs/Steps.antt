-- What the steps of finding the candidates state between themselves. Assumes nothing.
use Rattle.std.specs.Prelude.{ℕ, ◌-◌, ◌≤◌, ◌<◌, ◌≡◌, ◌≢◌, List, Option, Some, None, length, get_or, take, drop, set}
use Rattle.table.specs.Limits.{vertex_limit}
use Rattle.table.specs.Table.{In, Below, Rows, size, edges, Sound}
use Rattle.bubble.specs.Superbubble.{Interior, Superbubble}
use Rattle.search.specs.declared.Exit.{Exit}
use Rattle.parents.specs.Parents.{Parents}
use Rattle.rule.specs.Lists.{Graph, CandidateSet}
use Rattle.rule.specs.Rings.{Passable}
use Rattle.rule.specs.Way.{candidates_of}
use Rattle.rule.specs.declared.Rings.{Rings}
use Rattle.rule.specs.declared.Rings.TheVariants.{Refused, Taken}
use Rattle.candidates.specs.Candidates.{no_exit}

-- the vertices listed have the mark for none, the others are as they were
pub record RuledOut (list exits exits' : List ℕ) (none : ℕ) : Type 0 where
  pub same : length exits' ≡ length exits
  pub out : (v : ℕ) → In v list → get_or exits' v 0 ≡ none
  pub others : (v : ℕ) → (In v list → ⊥) → get_or exits' v 0 ≡ get_or exits v 0

-- the first k of the order but for the entrance, which stands first
abbrev pub inner : List ℕ → ℕ → List ℕ
inner order k = take (k - 1) (drop 1 order)

-- the exit of s can be set where k vertices were visited
pub record ExitSettable (order exits : List ℕ) (s k : ℕ) : Type 0 where
  pub vertex : s < length exits
  pub few : length exits ≤ vertex_limit
  pub room : k ≤ length order
  pub below : Below (length exits) (inner order k)

-- s has no exit where only s was visited, else the exit t, and the others that were visited are ruled out
pub record ExitSet (order exits exits' : List ℕ) (s t k : ℕ) : Type 0 where
  pub empty : k < 2 → exits' ≡ set exits s (no_exit (length exits))
  pub taken : 2 ≤ k → RuledOut (inner order k) (set exits s t) exits' (no_exit (length exits))

-- what is left of what a search from s found can be noted
abbrev pub Notable : List ℕ → List ℕ → ℕ → Option Exit → Type 0
Notable order exits s (Some exit) = ExitSettable order exits s exit.visited
Notable order exits s None = (s < length exits) × (length exits ≤ vertex_limit)

-- and was noted
abbrev pub Noted : List ℕ → List ℕ → List ℕ → ℕ → Option Exit → Type 0
Noted order exits exits' s (Some exit) = ExitSet order exits exits' s exit.vertex exit.visited
Noted order exits exits' s None = exits' ≡ set exits s (no_exit (length exits))

-- s, t is a superbubble with an interior
pub record Filled (E : Graph) (s t : ℕ) : Type 0 where
  pub superbubble : Superbubble E s t
  pub interior : (v : ℕ) × Interior E s t v

-- the superbubbles that are taken, of which the outermost are the candidates: those with an interior; where rings are taken, those of them that are not skipped
abbrev pub taken_of : Rings → CandidateSet
taken_of Refused = Filled
taken_of Taken = Passable

-- v is interior to a superbubble that is taken and whose entrance is below s
pub record Enclosed (P : CandidateSet) (E : Graph) (s v : ℕ) : Type 0 where
  pub entrance : ℕ
  pub exit : ℕ
  pub passed : entrance < s
  pub taken : P E entrance exit
  pub inside : Interior E entrance exit v

-- the entrances below s are passed, of a graph with n vertices
pub record Passed (rings : Rings) (E : Graph) (n s : ℕ) (exits : List ℕ) : Type 0 where
  pub each : length exits ≡ n
  -- one that is not ruled out has the exit of a superbubble that is taken
  pub taken : (v : ℕ) → v < s → get_or exits v 0 ≢ no_exit n → (get_or exits v 0 < n) × taken_of rings E v (get_or exits v 0)
  -- one that is ruled out begins no candidate
  pub none : (v : ℕ) → v < s → get_or exits v 0 ≡ no_exit n → (t : ℕ) → candidates_of rings E v t → ⊥
  -- whatever is interior to one that they begin and that is taken is ruled out
  pub out : (v : ℕ) → Enclosed (taken_of rings) E s v → get_or exits v 0 ≡ no_exit n
  -- and of the entrances to come nothing else
  pub enclosed : (v : ℕ) → s ≤ v → v < n → get_or exits v 0 ≡ no_exit n → Enclosed (taken_of rings) E s v

-- the same of a table, and what the search needs is as it was
pub record Scan (rings : Rings) (rows : Rows) (parents pending order exits : List ℕ) (s : ℕ) : Type 0 where
  pub well_formed : Sound rows
  pub counted : Parents (size rows) rows.targets parents
  pub whole : pending ≡ parents
  pub room : size rows ≤ length order
  pub passed : Passed rings (edges rows) (size rows) s exits
