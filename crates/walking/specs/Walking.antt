-- What walking a row does: one edge passed, and a row passed. Assumes nothing.
use Rattle.std.specs.Prelude.{ℕ, zero, suc, ◌+◌, ◌-◌, ◌<◌, ◌≤◌, ◌≡◌, cond, List, length, get_or, take, set, eqb, ltb}
use Rattle.table.specs.Table.{In, Rises, Below}
use Rattle.parents.specs.Parents.{occurrences}

-- f 0 + f 1 + .. + f (n - 1)
abbrev pub sum_below : ℕ → (ℕ → ℕ) → ℕ
sum_below zero f = 0
sum_below (suc n) f = sum_below n f + f n

-- 1 for a vertex whose last parent is visited next
unfoldable pub ready : ℕ → ℕ
ready pending = cond (eqb pending 1) 1 0

-- 1 for a vertex with some but not all of its parents visited
unfoldable pub waits : ℕ → ℕ → ℕ
waits pending parents = cond (eqb pending 0) 0 (cond (ltb pending parents) 1 0)

-- how many vertices wait
abbrev pub waiters : List ℕ → List ℕ → ℕ
waiters pending parents = sum_below (length pending) (λ v. waits (get_or pending v 0) (get_or parents v 0))

-- an edge to u can be passed
pub record EdgePassable (parents pending order : List ℕ) (u tail waiting : ℕ) : Type 0 where
  pub vertex : u < length pending
  pub counted : length pending ≡ length parents
  pub unpassed : 0 < get_or pending u 0
  pub waited : waits (get_or pending u 0) (get_or parents u 0) ≤ waiting
  pub few : waiting ≤ length pending
  pub room : tail < length order

-- an edge to u was passed
pub record EdgePassed (parents pending order pending' order' : List ℕ) (u tail waiting tail' waiting' : ℕ) : Type 0 where
  pub lowered : pending' ≡ set pending u (get_or pending u 0 - 1)
  pub queued : order' ≡ set order tail u
  pub longer : tail' ≡ tail + ready (get_or pending u 0)
  pub waited : waiting' + waits (get_or pending u 0) (get_or parents u 0) ≡ waiting + waits (get_or pending u 0 - 1) (get_or parents u 0)

-- a row can be passed: none of its vertices is queued, and each has a parent pending
pub record Walkable (row parents pending order : List ℕ) (tail waiting : ℕ) : Type 0 where
  pub rises : Rises row
  pub below : Below (length pending) row
  pub counted : length pending ≡ length parents
  pub unpassed : (v : ℕ) → occurrences v row ≤ get_or pending v 0
  pub room : length pending ≤ length order
  pub vertices : (i : ℕ) → i < tail → get_or order i 0 < length pending
  pub apart : (i j : ℕ) → i < tail → j < tail → get_or order i 0 ≡ get_or order j 0 → i ≡ j
  pub new : (i : ℕ) → i < tail → In (get_or order i 0) row → ⊥
  pub waited : waiting ≡ waiters pending parents

-- the first k edges of a row were passed: their targets with no parent pending are queued behind the others
pub record Walked (row parents pending order : List ℕ) (tail k : ℕ) (pending' order' : List ℕ) (tail' waiting' : ℕ) : Type 0 where
  pub same_pending : length pending' ≡ length pending
  pub same_order : length order' ≡ length order
  pub lowered : (v : ℕ) → get_or pending' v 0 + occurrences v (take k row) ≡ get_or pending v 0
  pub longer : tail ≤ tail'
  pub kept : (i : ℕ) → i < tail → get_or order' i 0 ≡ get_or order i 0
  pub apart : (i j : ℕ) → i < tail' → j < tail' → get_or order' i 0 ≡ get_or order' j 0 → i ≡ j
  pub listed : (i : ℕ) → tail ≤ i → i < tail' → In (get_or order' i 0) (take k row)
  pub none_pending : (i : ℕ) → tail ≤ i → i < tail' → get_or pending' (get_or order' i 0) 0 ≡ 0
  pub whole : (v : ℕ) → In v (take k row) → get_or pending' v 0 ≡ 0 → (i : ℕ) × (i < tail') × (get_or order' i 0 ≡ v)
  pub waited : waiting' ≡ waiters pending' parents
