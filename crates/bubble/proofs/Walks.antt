-- Walks and paths in any graph: how they are joined, carried over and cut. Assumes nothing.
use Prim.Native.Nat.{ℕ}
use mathlib.Core.Path.{◌≡◌, refl}
use mathlib.Core.Logic.{◌↔◌, ◌⊎◌, inl, inr, ⊎_elim}
use native.Mathlib.Decide.{ℕ_discrete}
use Rattle.bubble.specs.Superbubble.{Reaches, Reaches.none, Reaches.then, F, F.start, F.on, Walk, Walk.edge, Walk.more}

module _ {E : ℕ → ℕ → Type 0} where
  -- a walk grows at its front
  pub walk_before : {P : ℕ → Type 0} {u v w : ℕ} → P u → E u v → Walk E P v w → Walk E P u w
  walk_before p e (edge q f r) = more (edge p e q) f r
  walk_before p e (more w f r) = more (walk_before p e w) f r

  pub walk_append : {P : ℕ → Type 0} {u v w : ℕ} → Walk E P u v → Walk E P v w → Walk E P u w
  walk_append w (edge q f r) = more w f r
  walk_append w (more x f r) = more (walk_append w x) f r

  pub walk_end : {P : ℕ → Type 0} {u v : ℕ} → Walk E P u v → P v
  walk_end (edge p e q) = q
  walk_end (more w e q) = q

  pub walk_widen : {P Q : ℕ → Type 0} {u v : ℕ} → ((x : ℕ) → P x → Q x) → Walk E P u v → Walk E Q u v
  walk_widen {u = u} {v = v} h (edge p e q) = edge (h u p) e (h v q)
  walk_widen {v = v} h (more w e q) = more (walk_widen h w) e (h v q)

  -- a path grows at its front
  pub reaches_before : {u v w : ℕ} → E u v → Reaches E v w → Reaches E u w
  reaches_before e none = then none e
  reaches_before e (then r f) = then (reaches_before e r) f

  -- one path behind another is a path
  pub reaches_append : {u v w : ℕ} → Reaches E u v → Reaches E v w → Reaches E u w
  reaches_append r none = r
  reaches_append r (then k e) = then (reaches_append r k) e

  -- a path and an edge behind it are a walk inside a set that holds every vertex
  pub reaches_walk : {P : ℕ → Type 0} {u v w : ℕ} → ((x : ℕ) → P x) → Reaches E u v → E v w → Walk E P u w
  reaches_walk {u = u} {w = w} all none e = edge (all u) e (all w)
  reaches_walk {w = w} all (then r f) e = more (reaches_walk all r f) e (all w)

  -- a walk is its first edge and a path behind it
  pub walk_first : {P : ℕ → Type 0} {u v : ℕ} → Walk E P u v → (w : ℕ) × E u w × Reaches E w v
  walk_first {v = v} (edge p e q) = (v, e, none)
  walk_first (more w f q) = let (x, e, r) = walk_first w in (x, e, then r f)

  pub F-reaches : {s t v : ℕ} → F E s t v → Reaches E s v
  F-reaches start = none
  F-reaches (on f n e) = then (F-reaches f) e

  -- a path from s to v has t nowhere but at the last place, or can be cut at its first t
  reaches_cut : {s v : ℕ} (t : ℕ) → Reaches E s v → F E s t v ⊎ F E s t t
  reaches_cut t none = inl start
  reaches_cut t (then {u = u} r e) = ⊎_elim (λ f. elim (ℕ_discrete u t) [ yes q ↦ inr (rw q at f) | no n ↦ inl (on f n e) ]) inr (reaches_cut t r)

  -- t is reachable from s exactly if t is in F
  pub reaches_exit : {s t : ℕ} → Reaches E s t ↔ F E s t t
  reaches_exit {t = t} = (λ r. ⊎_elim (λ f. f) (λ f. f) (reaches_cut t r), F-reaches)

  -- a path from s is empty, or a walk inside every set that holds F
  F-walk : {s t v : ℕ} {P : ℕ → Type 0} → ((x : ℕ) → F E s t x → P x) → F E s t v → (v ≡ s) ⊎ Walk E P s v
  F-walk h start = inl refl
  F-walk {s = s} {v = v} h (on f n e) =
      ⊎_elim (λ q. inr (edge (h s start) (rw q at e) (h v (on f n e)))) (λ w. inr (more w e (h v (on f n e)))) (F-walk h f)

  -- where a set that holds F has no cycle, no edge leads from F back to s
  pub F-no-return : {s t v : ℕ} {P : ℕ → Type 0} → ((x : ℕ) → F E s t x → P x) → ((x : ℕ) → Walk E P x x → ⊥) → F E s t v → E v s → ⊥
  F-no-return {s = s} h a f e = ⊎_elim (λ q. a s (edge (h s start) (rw q at e) (h s start))) (λ w. a s (more w e (h s start))) (F-walk h f)

  -- F from a vertex of F, up to the same t, is part of F
  pub F-onward : {s t m v : ℕ} → F E s t m → F E m t v → F E s t v
  F-onward f start = f
  F-onward f (on g n e) = on (F-onward f g) n e

  -- if t is not in F s m, then F s m is part of F s t
  pub F-within : {s t m v : ℕ} → (F E s m t → ⊥) → F E s m v → F E s t v
  F-within h start = start
  F-within h (on f n e) = on (F-within h f) (λ q. h (rw q at f)) e
