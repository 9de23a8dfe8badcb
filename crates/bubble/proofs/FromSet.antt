-- From a set to a bubbloid: a set that is closed but at its two ends, and has no cycle, is the set of one. Assumes nothing.
use Prim.Native.Nat.{ℕ}
use mathlib.Core.Logic.{◌≢◌, ◌↔◌}
use Rattle.bubble.specs.Superbubble.{F, F.start, F.on, B, B.end, B.from, Walk, Bubbloid}
use Rattle.bubble.proofs.Walks.{walk_widen}
use Rattle.bubble.proofs.Reversal.{B-reaches}

-- F within B, B within F and no cycle make a bubbloid: reachability follows from matching
pub make_bubbloid : {E : ℕ → ℕ → Type 0} {s t : ℕ} → s ≢ t → ((v : ℕ) → F E s t v → B E s t v) → ((v : ℕ) → B E s t v → F E s t v) → ((v : ℕ) → Walk E (F E s t) v v → ⊥) → Bubbloid E s t
make_bubbloid {s = s} h f g a = record { distinct = h; reachability = B-reaches (f s start); matching = λ v. (f v, g v); acyclicity = a }

-- U holds s and t, an edge leaves it only from t and enters it only at s, each of its vertices lies on both kinds of path, and it has no cycle
pub record Enclosed (E : ℕ → ℕ → Type 0) (U : ℕ → Type 0) (s t : ℕ) : Type 0 where
  pub distinct : s ≢ t
  pub entrance : U s
  pub exit : U t
  pub forward : {u v : ℕ} → U u → u ≢ t → E u v → U v
  pub backward : {u v : ℕ} → U v → v ≢ s → E u v → U u
  pub reached : (v : ℕ) → U v → F E s t v
  pub reaching : (v : ℕ) → U v → B E s t v
  pub acyclic : (v : ℕ) → Walk E U v v → ⊥

module _ {E : ℕ → ℕ → Type 0} {U : ℕ → Type 0} {s t : ℕ} (c : Enclosed E U s t) where
  forward_inside : {v : ℕ} → F E s t v → U v
  forward_inside start = c.entrance
  forward_inside (on f n e) = c.forward (forward_inside f) n e

  backward_inside : {v : ℕ} → B E s t v → U v
  backward_inside end = c.exit
  backward_inside (from e n b) = c.backward (backward_inside b) n e

  pub enclosed_set : {v : ℕ} → F E s t v ↔ U v
  enclosed_set {v} = (forward_inside, c.reached v)

  pub enclosed_bubbloid : Bubbloid E s t
  enclosed_bubbloid = make_bubbloid c.distinct (λ v f. c.reaching v (forward_inside f)) (λ v b. c.reached v (backward_inside b)) (λ v w. c.acyclic v (walk_widen (λ x. forward_inside) w))
