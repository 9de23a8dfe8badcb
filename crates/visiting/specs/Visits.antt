-- What a visit asks for, and what it leaves.
-- The colour of a vertex is 0 where it is unvisited, 1 where it is on the path, and 2 or more where it is done. What is done before a visit is outside: it is not entered.
-- Assumes nothing.
use Rattle.std.specs.Prelude.{ℕ, ◌≤◌, ◌<◌, ◌≡◌, ◌⊎◌, Bool, true, false, List, length, get_or}
use Rattle.table.specs.Table.{vertices, Edge, WellFormed}
use Rattle.bubble.specs.Superbubble.{Reaches, Walk}
use Rattle.bubble.specs.Cycle.{Anywhere}
use Rattle.visiting.specs.declared.Turn.{Turn}

-- the edges that are followed: those between unvisited vertices, but for the edge from>to
pub record Followed (starts targets colours : List ℕ) (from to u v : ℕ) : Type 0 where
  pub edge : Edge starts targets u v
  pub leaves : get_or colours u 0 ≡ 0
  pub enters : get_or colours v 0 ≡ 0
  pub other : u ≡ from → v ≡ to → ⊥

-- visits can be made: the table is well-formed, each vertex has room for its colour and for its turn of the path, and none is on the path
pub record Prepared (starts targets colours : List ℕ) (path : List Turn) : Type 0 where
  pub well_formed : WellFormed starts targets
  pub colours_room : vertices starts ≤ length colours
  pub path_room : vertices starts ≤ length path
  pub none_on_path : (v : ℕ) → v < vertices starts → (get_or colours v 0 ≡ 0) ⊎ (2 ≤ get_or colours v 0)

-- r is the vertex that is passed over in the row of v: `to` in the row of `from`, and none in any other
pub record PassedOver (v from to none r : ℕ) : Type 0 where
  pub here : v ≡ from → r ≡ to
  pub elsewhere : (v ≡ from → ⊥) → r ≡ none

-- r is the first place of a row, from `place` on, with a vertex that is neither done nor passed over, or the row's length where there is none
pub record NextOpen (row colours : List ℕ) (place over r : ℕ) : Type 0 where
  pub reached : place ≤ r
  pub within : r ≤ length row
  pub passed : (k : ℕ) → place ≤ k → k < r → (2 ≤ get_or colours (get_or row k 0) 0) ⊎ (get_or row k 0 ≡ over)
  pub not_done : r < length row → get_or colours (get_or row r 0) 0 < 2
  pub not_over : r < length row → get_or row r 0 ≡ over → ⊥

-- each successor is safe: every walk from a safe vertex ends
pub data Safe (E : ℕ → ℕ → Type 0) : ℕ → Type 0 where
  safe : {v : ℕ} → ((w : ℕ) → E v w → Safe E w) → Safe E v

-- a vertex can be visited
pub record Visitable (starts targets colours : List ℕ) (path : List Turn) (root : ℕ) : Type 0 where
  pub prepared : Prepared starts targets colours path
  pub vertex : root < vertices starts

-- the root is done, and what became done with it is safe; what was done stays so, and none is on the path
pub record RootDone (starts targets colours : List ℕ) (from to root : ℕ) (colours' : List ℕ) (path' : List Turn) : Type 0 where
  pub prepared : Prepared starts targets colours' path'
  pub stays : (v : ℕ) → 2 ≤ get_or colours v 0 → 2 ≤ get_or colours' v 0
  pub done : 2 ≤ get_or colours' root 0
  pub done_safe : (v : ℕ) → v < vertices starts → get_or colours v 0 ≡ 0 → 2 ≤ get_or colours' v 0 → Safe (Followed starts targets colours from to) v

-- a vertex leads to a cycle: it reaches one that has a walk back to itself
pub record LeadsToCycle (E : ℕ → ℕ → Type 0) (root : ℕ) : Type 0 where
  pub vertex : ℕ
  pub reached : Reaches E root vertex
  pub back : Walk E Anywhere vertex vertex

-- the answer of a visit: true where the root leads to a cycle, false where it is done
abbrev pub VisitAnswer : Bool → List ℕ → List ℕ → List ℕ → ℕ → ℕ → ℕ → List ℕ → List Turn → Type 0
VisitAnswer true starts targets colours from to root colours' path' = LeadsToCycle (Followed starts targets colours from to) root
VisitAnswer false starts targets colours from to root colours' path' = RootDone starts targets colours from to root colours' path'
