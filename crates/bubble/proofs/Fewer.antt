-- Paths and walks of a graph are paths and walks of every graph that has its edges; the interior in two graphs. Assumes nothing.
use Prim.Native.Nat.{ℕ}
use Rattle.bubble.specs.Superbubble.{F, F.start, F.on, B, B.end, B.from, Interior, Walk, Walk.edge, Walk.more, Reaches, Reaches.none, Reaches.then}

module _ {E E' : ℕ → ℕ → Type 0} (fewer : (u v : ℕ) → E' u v → E u v) where
  pub F-fewer : {x y v : ℕ} → F E' x y v → F E x y v
  F-fewer start = start
  F-fewer (on {u = u} {v = v} f n e) = on (F-fewer f) n (fewer u v e)

  pub B-fewer : {x y v : ℕ} → B E' x y v → B E x y v
  B-fewer end = end
  B-fewer (from {u = u} {v = v} e n b) = from (fewer u v e) n (B-fewer b)

  pub reaches_fewer : {u v : ℕ} → Reaches E' u v → Reaches E u v
  reaches_fewer none = none
  reaches_fewer (then {u = u} {v = v} r e) = then (reaches_fewer r) (fewer u v e)

  pub walk_fewer : {P Q : ℕ → Type 0} {u v : ℕ} → ((x : ℕ) → P x → Q x) → Walk E' P u v → Walk E Q u v
  walk_fewer {u = u} {v = v} h (edge p e q) = edge (h u p) (fewer u v e) (h v q)
  walk_fewer {v = w} h (more {v = v} p e q) = more (walk_fewer h p) (fewer v w e) (h w q)

-- interior in one graph, and in U of the other, is interior there
pub interior_also : {E E' : ℕ → ℕ → Type 0} {s t v : ℕ} → Interior E s t v → F E' s t v → Interior E' s t v
interior_also i f = record { inside = f; not_entrance = i.not_entrance; not_exit = i.not_exit }
