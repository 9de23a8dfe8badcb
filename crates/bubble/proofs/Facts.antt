-- The facts of a bubbloid with entrance s, exit t and set U = F s t: first by entrance, then their twins by exit, in the graph turned round. Assumes nothing.
use Prim.Native.Nat.{ℕ}
use mathlib.Core.Path.{refl}
use mathlib.Core.Logic.{◌≢◌}
use Rattle.bubble.specs.Superbubble.{F, F.start, F.on, B, B.from, Bubbloid}
use Rattle.bubble.proofs.Walks.{reaches_exit, F-no-return}
use Rattle.bubble.proofs.Reversal.{F-reversed, inside_reversed, bubbloid_reversed}

-- the last edge of a path that is not empty
pub last_edge : {E : ℕ → ℕ → Type 0} {s t v : ℕ} → F E s t v → v ≢ s → (u : ℕ) × F E s t u × (u ≢ t) × E u v
last_edge start h = absurd (h refl)
last_edge (on {u = u} f n e) h = (u, f, n, e)

-- the first edge of a path that is not empty
pub first_edge : {E : ℕ → ℕ → Type 0} {s t u : ℕ} → B E s t u → u ≢ t → (v : ℕ) × B E s t v × (v ≢ s) × E u v
first_edge b h = let (v, f, n, e) = last_edge (F-reversed.1 b) h in (v, F-reversed.0 f, n, e)

module _ {E : ℕ → ℕ → Type 0} {s t : ℕ} (b : Bubbloid E s t) where
  pub exit_inside : F E s t t
  exit_inside = reaches_exit.0 b.reachability

  -- an edge into U comes to the entrance
  pub closed_backward : {u v : ℕ} → F E s t v → v ≢ s → E u v → F E s t u
  closed_backward {u} {v} f n e = (b.matching u).1 (from e n ((b.matching v).0 f))

  pub no_edge_to_entrance : {u : ℕ} → F E s t u → E u s → ⊥
  no_edge_to_entrance = F-no-return (λ x f. f) b.acyclicity

  pub predecessor : {v : ℕ} → F E s t v → v ≢ s → (u : ℕ) × F E s t u × E u v
  predecessor f n = let (u, g, m, e) = last_edge f n in (u, g, e)

-- the twins, by exit
module _ {E : ℕ → ℕ → Type 0} {s t : ℕ} (b : Bubbloid E s t) where
  pub no_edge_from_exit : {v : ℕ} → F E s t v → E t v → ⊥
  no_edge_from_exit f = no_edge_to_entrance (bubbloid_reversed.0 b) ((inside_reversed b).0 f)

  pub successor : {u : ℕ} → F E s t u → u ≢ t → (v : ℕ) × F E s t v × E u v
  successor f n = let (v, g, e) = predecessor (bubbloid_reversed.0 b) ((inside_reversed b).0 f) n in (v, (inside_reversed b).1 g, e)
