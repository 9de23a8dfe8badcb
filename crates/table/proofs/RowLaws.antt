-- Laws of rows: where starts fit, each vertex's row lies within the targets, right behind the rows before it, and leads to vertices. Assumes nothing.
use Prim.Native.Nat.{ℕ, zero, suc, ◌+◌, ◌-◌, ◌≤◌, ◌<◌, min}
use mathlib.Core.Path.{◌≡◌, ap, ◌∙◌}
use mathlib.Core.List.{List, ◌++◌}
use native.Mathlib.Nat.{le_refl, le_trans}
use native.Mathlib.Omega.{arith}
use lib.ListN.{length, get_or, take, drop, length-take, length-drop}
use lib.Seq.{get_or-take, get_or-drop, take-add}
use Rattle.table.specs.Table.{vertices, row, RowLies, In, Edge, Rises, Below, StartsFit, WellFormed}

-- starts that never fall rise from v over any number of steps
climb : (starts : List ℕ) (m : ℕ) → StartsFit starts m → (v steps : ℕ) → v + steps < length starts → get_or starts v 0 ≤ get_or starts (v + steps) 0
climb starts m fit v zero h = rw (native.Mathlib.Nat.add-zero v) (le_refl _)
climb starts m fit v (suc k) h =
    let here : v + suc k ≡ (v + k) + 1 = omega arith in
    rw here (le_trans (climb starts m fit v k (omega arith)) (fit.climbs (v + k) (omega arith)))

-- no start is above the last
pub start_most : (starts : List ℕ) (m : ℕ) → StartsFit starts m → (v : ℕ) → v < length starts → get_or starts v 0 ≤ m
start_most starts m fit v h =
    let last : v + (length starts - 1 - v) ≡ length starts - 1 = omega arith in
    rw (← fit.ends) (rw last at (climb starts m fit v (length starts - 1 - v) (omega arith)))

-- the row of each vertex lies within the targets
pub row_lies : (starts targets : List ℕ) → StartsFit starts (length targets) → (v : ℕ) → v < vertices starts → RowLies starts targets v
row_lies starts targets fit v h =
    record {
      vertex = omega arith;
      ordered = fit.climbs v (omega arith);
      within = start_most starts (length targets) fit (v + 1) (omega arith);
    }

module _ {starts targets : List ℕ} (w : WellFormed starts targets) (v : ℕ) (h : v < vertices starts) where
  -- a row is as long as from its start to the next
  pub next_start : get_or starts (v + 1) 0 ≡ get_or starts v 0 + length (row starts targets v)
  next_start = let l = row_lies starts targets w.starts_fit v h in simp (length-take, length-drop) (omega (arith, l.ordered, l.within))

  -- and stands behind the targets before it
  pub targets_to_next : take (get_or starts (v + 1) 0) targets ≡ take (get_or starts v 0) targets ++ row starts targets v
  targets_to_next =
      let l = row_lies starts targets w.starts_fit v h in
      let q : get_or starts (v + 1) 0 ≡ get_or starts v 0 + (get_or starts (v + 1) 0 - get_or starts v 0) = omega (arith, l.ordered) in
      ap (λ (n : ℕ). take n targets) q ∙ take-add (get_or starts v 0) (get_or starts (v + 1) 0 - get_or starts v 0) targets

-- where each target is a vertex, so is each target of a row
pub row_below : (starts targets : List ℕ) → Below (vertices starts) targets → (u : ℕ) → Below (vertices starts) (row starts targets u)
row_below starts targets below u k h =
    let from = get_or starts u 0 in
    let count = get_or starts (u + 1) 0 - from in
    let size : k < min count (length targets - from) = rw (length-take count (drop from targets), length-drop from targets) at h in
    rw (get_or-take count (drop from targets) k 0 (omega arith), get_or-drop from targets k 0) (below (from + k) (omega arith))

-- what stands in a row is a vertex
pub in_row_below : (starts targets : List ℕ) → Below (vertices starts) targets → (u v : ℕ) → In v (row starts targets u) → v < vertices starts
in_row_below starts targets below u v i = rw i.stands at (row_below starts targets below u i.place i.inside)

-- and an edge leads to a vertex
pub edge_below : (starts targets : List ℕ) → Below (vertices starts) targets → (u v : ℕ) → Edge starts targets u v → v < vertices starts
edge_below starts targets below u v e = in_row_below starts targets below u v e.listed

-- the edges of a well-formed table join vertices
pub edges_below : {starts targets : List ℕ} → WellFormed starts targets → (u v : ℕ) → Edge starts targets u v → (u < vertices starts) × (v < vertices starts)
edges_below {starts} {targets} ok u v e = (e.vertex, edge_below starts targets ok.targets_below u v e)

-- a list that rises does so over any number of steps
rises_on : (xs : List ℕ) → Rises xs → (i steps : ℕ) → i + suc steps < length xs → get_or xs i 0 < get_or xs (i + suc steps) 0
rises_on xs r i zero h = r i h
rises_on xs r i (suc steps) h =
    let q : i + suc (suc steps) ≡ (i + suc steps) + 1 = omega arith in
    rw q (omega (arith, rises_on xs r i steps (omega arith), r (i + suc steps) (omega arith)))

-- so a later number is larger
pub rises_before : (xs : List ℕ) → Rises xs → (i k : ℕ) → i < k → k < length xs → get_or xs i 0 < get_or xs k 0
rises_before xs r i k h l =
    let e : i + suc (k - suc i) ≡ k = omega arith in
    rw e at (rises_on xs r i (k - suc i) (omega arith))
