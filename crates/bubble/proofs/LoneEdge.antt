-- An edge that is the only one out of its tail and the only one into its head, and has none back, is a superbubble with no interior. Assumes nothing.
use Prim.Native.Nat.{ℕ}
use mathlib.Core.Path.{◌≡◌, refl, sym}
use mathlib.Core.Logic.{◌≢◌, ◌↔◌, ◌⊎◌, inl, inr, ⊎_elim}
use Rattle.bubble.specs.Superbubble.{F, F.start, F.on, B.end, B.from, Walk, Walk.edge, Walk.more, Superbubble}
use Rattle.bubble.proofs.FromSet.{Enclosed, enclosed_set, enclosed_bubbloid}

-- the edge s, t is the only one out of s and into t, and none leads back
pub record Lone (E : ℕ → ℕ → Type 0) (s t : ℕ) : Type 0 where
  pub distinct : s ≢ t
  pub joined : E s t
  pub only_out : (v : ℕ) → E s v → v ≡ t
  pub only_in : (u : ℕ) → E u t → u ≡ s
  pub not_back : E t s → ⊥

module _ {E : ℕ → ℕ → Type 0} {s t : ℕ} (c : Lone E s t) where
  abbrev Either : ℕ → Type 0
  Either v = (v ≡ s) ⊎ (v ≡ t)

  -- no edge leads from t to s or t
  none_from_exit : {v : ℕ} → Either v → E t v → ⊥
  none_from_exit (inl q) e = c.not_back (rw q at e)
  none_from_exit (inr q) e = c.distinct (sym (c.only_in t (rw q at e)))

  -- a walk among s and t goes from s to t
  whole_walk : {u v : ℕ} → Walk E Either u v → (u ≡ s) × (v ≡ t)
  whole_walk {v = v} (edge (inl q) e r) = (q, c.only_out v (rw q at e))
  whole_walk (edge (inr q) e r) = absurd (none_from_exit r (rw q at e))
  whole_walk (more w e r) = absurd (none_from_exit r (rw (whole_walk w).1 at e))

  lone_enclosed : Enclosed E Either s t
  lone_enclosed = record {
    distinct = c.distinct;
    entrance = inl refl;
    exit = inr refl;
    forward = λ {u} {v} p n e. inr (c.only_out v (rw (⊎_elim (λ q. q) (λ q. absurd (n q)) p) at e));
    backward = λ {u} {v} p n e. inl (c.only_in u (rw (⊎_elim (λ q. absurd (n q)) (λ q. q) p) at e));
    reached = λ v p. ⊎_elim (λ q. rw q start) (λ q. rw q (on start c.distinct c.joined)) p;
    reaching = λ v p. ⊎_elim (λ q. rw q (from c.joined (λ r. c.distinct (sym r)) end)) (λ q. rw q end) p;
    acyclic = λ v w. let (p, q) = whole_walk w in c.distinct (rw p at q);
  }

  pub lone_set : {v : ℕ} → F E s t v ↔ ((v ≡ s) ⊎ (v ≡ t))
  lone_set = enclosed_set lone_enclosed

  pub lone_superbubble : Superbubble E s t
  lone_superbubble = record { bubbloid = enclosed_bubbloid lone_enclosed; minimality = λ x f n b. ⊎_elim (λ q. b.distinct (sym q)) n (lone_set.0 f) }
