-- What the search from an entrance states: its exit, if it has one, and the visiting order of U less the exit. Assumes nothing.
use Rattle.std.specs.Prelude.{ℕ, ◌<◌, ◌≤◌, ◌≡◌, ◌↔◌, List, Option, Some, None, length, get_or, take}
use Rattle.table.specs.Table.{vertices, In, Edge, WellFormed}
use Rattle.bubble.specs.Superbubble.{F, Superbubble}
use Rattle.parents.specs.Parents.{Parents}
use Rattle.search.specs.declared.Exit.{Exit}

-- what the search is handed: a well-formed table, one of its vertices, the parents' counts, once to read and once to work on, and room for the order
pub record Searchable (starts targets parents pending order : List ℕ) (s : ℕ) : Type 0 where
  pub well_formed : WellFormed starts targets
  pub vertex : s < vertices starts
  pub counted : Parents (vertices starts) targets parents
  pub whole : pending ≡ parents
  pub room : vertices starts ≤ length order

-- s and t are a superbubble, and the first k of the order are U less t: each once, s first, and every edge among them goes forward
pub record Visited (starts targets order : List ℕ) (s t k : ℕ) : Type 0 where
  pub superbubble : Superbubble (Edge starts targets) s t
  pub some : 0 < k
  pub room : k ≤ length order
  pub first : get_or order 0 0 ≡ s
  pub apart : (i j : ℕ) → i < k → j < k → get_or order i 0 ≡ get_or order j 0 → i ≡ j
  pub whole : (v : ℕ) → In v (take k order) ↔ (F (Edge starts targets) s t v × (v ≡ t → ⊥))
  pub forward : (i j : ℕ) → i < k → j < k → Edge starts targets (get_or order i 0) (get_or order j 0) → i < j

-- an exit exactly if there is one
abbrev pub Searched : List ℕ → List ℕ → ℕ → Option Exit → List ℕ → Type 0
Searched starts targets s (Some exit) order = Visited starts targets order s exit.vertex exit.visited
Searched starts targets s None order = (t : ℕ) → Superbubble (Edge starts targets) s t → ⊥

-- what a search leaves: its answer, the parents' counts whole again, and an order as long as before
pub record Sought (starts targets pending order pending' order' : List ℕ) (s : ℕ) (exit : Option Exit) : Type 0 where
  pub searched : Searched starts targets s exit order'
  pub whole : pending' ≡ pending
  pub room : length order' ≡ length order
