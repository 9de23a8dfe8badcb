-- A graph table in the words of docs/RULES.md, The table: vertices, rows, edges, what is well-formed, and the sum of the counts.
-- Starts, targets and counts are the lists of the slices handed in. Assumes nothing.
use Rattle.std.specs.Prelude.{ℕ, ◌+◌, ◌-◌, ◌≤◌, ◌<◌, ◌≡◌, List, [], ◌∷◌, length, get_or, take, drop}
use Rattle.table.specs.Limits.{start_limit, edge_limit, read_limit}

-- n: the vertices are 0 to n-1
abbrev pub vertices : List ℕ → ℕ
vertices starts = length starts - 1

-- the row of v: the targets from start v up to, not including, start v+1
abbrev pub row : List ℕ → List ℕ → ℕ → List ℕ
row starts targets v = take (get_or starts (v + 1) 0 - get_or starts v 0) (drop (get_or starts v 0) targets)

-- the row of v lies within the targets
pub record RowLies (starts targets : List ℕ) (v : ℕ) : Type 0 where
  pub vertex : v + 1 < length starts
  pub ordered : get_or starts v 0 ≤ get_or starts (v + 1) 0
  pub within : get_or starts (v + 1) 0 ≤ length targets

-- x stands in the list
pub record In (x : ℕ) (xs : List ℕ) : Type 0 where
  pub place : ℕ
  pub inside : place < length xs
  pub stands : get_or xs place 0 ≡ x

-- an edge u>v: u is a vertex, and v stands in its row
pub record Edge (starts targets : List ℕ) (u v : ℕ) : Type 0 where
  pub vertex : u < vertices starts
  pub listed : In v (row starts targets u)

-- each number is larger than the one before it
abbrev pub Rises : List ℕ → Type 0
Rises xs = (k : ℕ) → k + 1 < length xs → get_or xs k 0 < get_or xs (k + 1) 0

-- each number is below n
abbrev pub Below : ℕ → List ℕ → Type 0
Below n xs = (k : ℕ) → k < length xs → get_or xs k 0 < n

-- starts begin with 0, never fall, and end with m
pub record StartsFit (starts : List ℕ) (m : ℕ) : Type 0 where
  pub begins : get_or starts 0 0 ≡ 0
  pub climbs : (v : ℕ) → v + 1 < length starts → get_or starts v 0 ≤ get_or starts (v + 1) 0
  pub ends : get_or starts (vertices starts) 0 ≡ m

-- each row rises strictly, so that an edge stands once
abbrev pub RowsRise : List ℕ → List ℕ → Type 0
RowsRise starts targets = (v : ℕ) → v < vertices starts → Rises (row starts targets v)

-- a well-formed table without its counts, as list and judge take it
pub record WellFormed (starts targets : List ℕ) : Type 0 where
  pub some : 0 < length starts
  pub most_vertices : length starts ≤ start_limit
  pub most_edges : length targets ≤ edge_limit
  pub starts_fit : StartsFit starts (length targets)
  pub targets_below : Below (vertices starts) targets
  pub rows_rise : RowsRise starts targets

-- the exact sum of the counts
abbrev pub count_sum : List ℕ → ℕ
count_sum [] = 0
count_sum (x ∷ xs) = x + count_sum xs

-- a well-formed table with its counts
pub record Counted (starts targets counts : List ℕ) : Type 0 where
  pub well_formed : WellFormed starts targets
  pub count_each : length counts ≡ vertices starts
  pub sum_fits : count_sum counts ≤ read_limit

-- ---- The same by named parts, as contracts and promises speak of it.

-- a table without its counts, as list and judge take it
pub record Rows : Type 0 where
  pub starts : List ℕ
  pub targets : List ℕ

-- a table with the reads on each vertex
pub record Table : Type 0 where
  pub rows : Rows
  pub counts : List ℕ

-- n
abbrev pub size : Rows → ℕ
size rows = vertices rows.starts

-- the edges of a table
abbrev pub edges : Rows → ℕ → ℕ → Type 0
edges rows = Edge rows.starts rows.targets

-- starts and targets are well-formed
abbrev pub Sound : Rows → Type 0
Sound rows = WellFormed rows.starts rows.targets

-- and so are the counts
abbrev pub SoundTable : Table → Type 0
SoundTable table = Counted table.rows.starts table.rows.targets table.counts
