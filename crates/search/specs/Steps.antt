-- What the parts of the search do: the vertices visited so far, and where the visits end. Assumes nothing.
use Rattle.std.specs.Prelude.{ℕ, zero, suc, ◌+◌, ◌<◌, ◌≤◌, ◌≡◌, List, Option, length, get_or, take}
use Rattle.table.specs.Table.{vertices, row}
use Rattle.parents.specs.Parents.{occurrences}
use Rattle.walking.specs.Walking.{sum_below}
use Rattle.search.specs.declared.Exit.{Exit}
use Rattle.search.specs.Search.{Searched}

-- y, unless something stands before it
abbrev pub unless : ℕ → ℕ → ℕ
unless zero y = y
unless (suc x) y = 0

-- how many edges lead to v from vertices that are not visited
abbrev pub unvisited : List ℕ → List ℕ → List ℕ → ℕ → ℕ
unvisited starts targets visited v = sum_below (vertices starts) (λ u. unless (occurrences u visited) (occurrences v (row starts targets u)))

-- the first k of the order are visited: each vertex's pending parents are those that are not among them
pub record Lowered (starts targets pending order : List ℕ) (k : ℕ) : Type 0 where
  pub each : length pending ≡ vertices starts
  pub room : k ≤ length order
  pub below : (i : ℕ) → i < k → get_or order i 0 < vertices starts
  pub apart : (i j : ℕ) → i < k → j < k → get_or order i 0 ≡ get_or order j 0 → i ≡ j
  pub counted : (v : ℕ) → get_or pending v 0 ≡ unvisited starts targets (take k order) v

-- the vertex at the head is not the entrance, and no other is reached but not visited
pub record Alone (head tail waiting : ℕ) : Type 0 where
  pub later : 0 < head
  pub last : tail ≡ head + 1
  pub nowhere : waiting ≡ 0

-- where the visits end: the answer, and the pending parents
pub record Ran (starts targets pending order order' : List ℕ) (s : ℕ) (exit : Option Exit) (visited : ℕ) : Type 0 where
  pub same : length order' ≡ length order
  pub searched : Searched starts targets s exit order'
  pub lowered : Lowered starts targets pending order' visited
