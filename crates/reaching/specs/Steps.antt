-- What the parts of the walk do: the vertices met so far, and a row passed. Assumes nothing.
use Rattle.std.specs.Prelude.{ℕ, ◌≤◌, ◌<◌, ◌≡◌, List, length, get_or, Option, Some, None}
use Rattle.table.specs.Limits.{vertex_limit}
use Rattle.table.specs.Table.{In, Below}
use Rattle.reaching.specs.Reaching.{Askable}

-- a vertex is marked
abbrev pub Marked : List ℕ → ℕ → Type 0
Marked marks v = get_or marks v 0 ≡ 0 → ⊥

-- each vertex has a mark and room in the queue, whose first `tail` are different vertices: those that are marked
pub record Queued (marks queue : List ℕ) (tail : ℕ) : Type 0 where
  pub marks_room : length marks ≡ vertex_limit
  pub queue_room : length queue ≡ vertex_limit
  pub below : (i : ℕ) → i < tail → get_or queue i 0 < vertex_limit
  pub apart : (i j : ℕ) → i < tail → j < tail → get_or queue i 0 ≡ get_or queue j 0 → i ≡ j
  pub marked : (i : ℕ) → i < tail → Marked marks (get_or queue i 0)
  pub whole : (v : ℕ) → Marked marks v → (i : ℕ) × (i < tail) × (get_or queue i 0 ≡ v)

-- a row of vertices can be passed
pub record Spreadable (row marks queue : List ℕ) (tail : ℕ) : Type 0 where
  pub some : 0 < tail
  pub below : Below vertex_limit row
  pub queued : Queued marks queue tail

-- the first k of a row were passed, and none of them is `to`: they are marked, and those that were not stand in the queue behind the others
pub record Spread (row queue : List ℕ) (tail to k : ℕ) (marks' queue' : List ℕ) (tail' : ℕ) : Type 0 where
  pub queued : Queued marks' queue' tail'
  pub longer : tail ≤ tail'
  pub kept : (i : ℕ) → i < tail → get_or queue' i 0 ≡ get_or queue i 0
  pub listed : (i : ℕ) → tail ≤ i → i < tail' → In (get_or queue' i 0) row
  pub passed : (j : ℕ) → j < k → Marked marks' (get_or row j 0)
  pub unmet : (j : ℕ) → j < k → get_or row j 0 ≡ to → ⊥

-- nothing where the row holds `to`, and else how far the queue reaches behind the whole row
abbrev pub Spreads : List ℕ → List ℕ → ℕ → ℕ → List ℕ → List ℕ → Option ℕ → Type 0
Spreads row queue tail to marks' queue' None = In to row
Spreads row queue tail to marks' queue' (Some end) = Spread row queue tail to (length row) marks' queue' end

-- a walk from one vertex to another one can begin: nothing is marked
pub record WalkReady (starts targets marks queue : List ℕ) (from to : ℕ) : Type 0 where
  pub asked : Askable starts targets from to
  pub others : from ≡ to → ⊥
  pub marks_room : length marks ≡ vertex_limit
  pub queue_room : length queue ≡ vertex_limit
  pub unmarked : (v : ℕ) → get_or marks v 0 ≡ 0
