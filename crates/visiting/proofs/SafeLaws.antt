-- Laws of safe vertices and of cycles, in any graph: no cycle goes through a safe vertex. Assumes nothing.
use Rattle.std.proofs.Common.{ℕ, ◌⊎◌, ⊎_elim}
use Rattle.bubble.specs.Superbubble.{Reaches, Reaches.none, Reaches.then, Walk}
use Rattle.bubble.proofs.Walks.{reaches_walk, walk_first}
use Rattle.bubble.proofs.Fewer.{walk_fewer}
use Rattle.bubble.specs.Cycle.{Anywhere, Cyclic}
use Rattle.visiting.specs.Visits.{Safe, Safe.safe, LeadsToCycle}

module _ {E : ℕ → ℕ → Type 0} where
  -- each successor of a safe vertex is safe
  safe_next : {v : ℕ} → Safe E v → (w : ℕ) → E v w → Safe E w
  safe_next (safe h) = h

  -- no walk leads from a safe vertex back to it
  safe_no_return : {v : ℕ} → Safe E v → Walk E Anywhere v v → ⊥
  safe_no_return (safe h) w = let (x, e, r) = walk_first w in safe_no_return (h x e) (reaches_walk (λ y. tt) r e)

  -- what a safe vertex reaches is safe
  safe_reached : {u v : ℕ} → Safe E u → Reaches E u v → Safe E v
  safe_reached s none = s
  safe_reached s (then {v = v} r e) = safe_next (safe_reached s r) v e

  -- so it leads to no cycle
  pub safe_leads_to_none : {v : ℕ} → Safe E v → LeadsToCycle E v → ⊥
  safe_leads_to_none s cycle = safe_no_return (safe_reached s cycle.reached) cycle.back

  -- where each vertex with an edge is safe, there is no cycle
  pub safe_no_cycle : ((v w : ℕ) → E v w → Safe E v) → Cyclic E → ⊥
  safe_no_cycle h cycle = let (x, e, r) = walk_first cycle.back in safe_no_return (h cycle.vertex x e) cycle.back

-- a vertex leads to a cycle only where there is one
pub leads_cyclic : {E : ℕ → ℕ → Type 0} {v : ℕ} → LeadsToCycle E v → Cyclic E
leads_cyclic cycle = record { vertex = cycle.vertex; back = cycle.back }

-- a cycle of a graph is a cycle of every graph that has its edges
pub cyclic_fewer : {E E' : ℕ → ℕ → Type 0} → ((u v : ℕ) → E' u v → E u v) → Cyclic E' → Cyclic E
cyclic_fewer fewer cycle = record { vertex = cycle.vertex; back = walk_fewer fewer (λ x p. p) cycle.back }

-- a vertex that is safe in a part of a graph is safe in the graph, where each edge that leaves a vertex of the part lies in the part or leads to a safe vertex
pub safe_beyond : {E part : ℕ → ℕ → Type 0} {P : ℕ → Type 0} → ((u w : ℕ) → P u → E u w → (part u w × P w) ⊎ Safe E w) → {v : ℕ} → P v → Safe part v → Safe E v
safe_beyond step {v} p (safe h) = safe (λ w e. ⊎_elim (λ x. safe_beyond step x.1 (h w x.0)) (λ s. s) (step v w p e))
