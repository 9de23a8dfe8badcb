-- The twelve graphs of docs/RULES.md, Twelve graphs, as tables, each with the list printed for it there: entrance and exit, by rising entrance. Assumes nothing.
use Rattle.std.specs.Prelude.{ℕ, ◌*◌, ◌≤◌, ◌≡◌, List, [], ◌∷◌, length, take}
use Rattle.table.specs.Table.{Rows, size, edges, Sound}
use Rattle.bubble.specs.Superbubble.{Superbubble}
use Rattle.listing.specs.Listing.{Found, Listed, ListDone}

-- a table, and the list printed for it
pub record Example : Type 0 where
  pub rows : Rows
  pub pairs : List (ℕ × ℕ)

-- n=0
abbrev pub graph_A : Example
graph_A = record { rows = record { starts = 0 ∷ []; targets = [] }; pairs = [] }

-- n=1
abbrev pub graph_B : Example
graph_B = record { rows = record { starts = 0 ∷ 0 ∷ []; targets = [] }; pairs = [] }

-- 0>1
abbrev pub graph_C : Example
graph_C = record { rows = record { starts = 0 ∷ 1 ∷ 1 ∷ []; targets = 1 ∷ [] }; pairs = (0, 1) ∷ [] }

-- 0>1 0>2 1>3 2>3
abbrev pub graph_D : Example
graph_D = record { rows = record { starts = 0 ∷ 2 ∷ 3 ∷ 4 ∷ 4 ∷ []; targets = 1 ∷ 2 ∷ 3 ∷ 3 ∷ [] }; pairs = (0, 3) ∷ [] }

-- 0>1 1>0
abbrev pub graph_E : Example
graph_E = record { rows = record { starts = 0 ∷ 1 ∷ 2 ∷ []; targets = 1 ∷ 0 ∷ [] }; pairs = [] }

-- 0>1 1>2 2>0
abbrev pub graph_F : Example
graph_F = record { rows = record { starts = 0 ∷ 1 ∷ 2 ∷ 3 ∷ []; targets = 1 ∷ 2 ∷ 0 ∷ [] }; pairs = (0, 1) ∷ (1, 2) ∷ (2, 0) ∷ [] }

-- 0>1 1>1
abbrev pub graph_G : Example
graph_G = record { rows = record { starts = 0 ∷ 1 ∷ 2 ∷ []; targets = 1 ∷ 1 ∷ [] }; pairs = [] }

-- D with 3>0
abbrev pub graph_H : Example
graph_H = record { rows = record { starts = 0 ∷ 2 ∷ 3 ∷ 4 ∷ 5 ∷ []; targets = 1 ∷ 2 ∷ 3 ∷ 3 ∷ 0 ∷ [] }; pairs = (3, 0) ∷ [] }

-- 0>1 1>2 2>0 2>4 3>0
abbrev pub graph_I : Example
graph_I = record { rows = record { starts = 0 ∷ 1 ∷ 2 ∷ 4 ∷ 5 ∷ 5 ∷ []; targets = 1 ∷ 2 ∷ 0 ∷ 4 ∷ 0 ∷ [] }; pairs = (0, 1) ∷ (1, 2) ∷ [] }

-- 0>1 0>5 1>2 1>3 2>4 3>4 4>6 5>6
abbrev pub graph_J : Example
graph_J =
    record {
      rows = record { starts = 0 ∷ 2 ∷ 4 ∷ 5 ∷ 6 ∷ 7 ∷ 8 ∷ 8 ∷ []; targets = 1 ∷ 5 ∷ 2 ∷ 3 ∷ 4 ∷ 4 ∷ 6 ∷ 6 ∷ [] };
      pairs = (0, 6) ∷ (1, 4) ∷ [];
    }

-- 0>1 0>2 1>3 2>3 3>4 3>5 4>6 5>6
abbrev pub graph_K : Example
graph_K =
    record {
      rows = record { starts = 0 ∷ 2 ∷ 3 ∷ 4 ∷ 6 ∷ 7 ∷ 8 ∷ 8 ∷ []; targets = 1 ∷ 2 ∷ 3 ∷ 3 ∷ 4 ∷ 5 ∷ 6 ∷ 6 ∷ [] };
      pairs = (0, 3) ∷ (3, 6) ∷ [];
    }

-- 0>1 0>2 1>2
abbrev pub graph_L : Example
graph_L = record { rows = record { starts = 0 ∷ 2 ∷ 3 ∷ 3 ∷ []; targets = 1 ∷ 2 ∷ 2 ∷ [] }; pairs = (0, 2) ∷ [] }

-- pairs in one list, entrance and exit in turn, as list writes them
abbrev pub flat : List (ℕ × ℕ) → List ℕ
flat [] = []
flat (p ∷ ps) = p.0 ∷ p.1 ∷ flat ps

abbrev pub graphs : List Example
graphs =
    graph_A ∷ graph_B ∷ graph_C ∷ graph_D ∷ graph_E ∷ graph_F ∷ graph_G ∷ graph_H ∷ graph_I ∷ graph_J ∷ graph_K ∷ graph_L ∷ []

-- the table is well-formed, and the list printed for it is that of its superbubbles
abbrev pub RightlyListed : Example → Type 0
RightlyListed g = Sound g.rows × Listed (Superbubble (edges g.rows)) (flat g.pairs) (length g.pairs)

-- list accepts the table where it has room for the list, and writes the list printed for it
abbrev pub AsPrinted : Example → Type 0
AsPrinted g =
    (out out' : List ℕ) (answer : Found) → 2 * size g.rows ≤ length out → ListDone g.rows out out' answer
    → (answer.number ≡ 0) × (answer.found ≡ length g.pairs) × (take (2 * answer.found) out' ≡ flat g.pairs)

-- P of each graph
abbrev pub Each : (Example → Type 0) → List Example → Type 0
Each P [] = Unit {0}
Each P (g ∷ rest) = P g × Each P rest
