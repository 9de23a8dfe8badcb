-- From an order to a bubbloid: the vertices at the places 0 to k of a list in which children stand later and parents earlier are the set of one. Assumes nothing.
use Prim.Native.Nat.{ℕ, zero, suc, ◌+◌, ◌≤◌, ◌<◌}
use mathlib.Core.Path.{◌≡◌, refl, sym}
use mathlib.Core.Logic.{◌≢◌, ◌↔◌}
use native.Mathlib.Omega.{arith}
use native.Mathlib.Decide.{ℕ_discrete}
use Rattle.bubble.specs.Superbubble.{F, F.start, F.on, B, B.end, B.from, Walk, Walk.edge, Walk.more, Bubbloid}
use Rattle.bubble.proofs.Walks.{walk_end}
use Rattle.bubble.proofs.FromSet.{Enclosed, enclosed_set, enclosed_bubbloid}

-- v stands at a place up to k
pub record Placed (place : ℕ → ℕ) (k v : ℕ) : Type 0 where
  pub at : ℕ
  pub bound : at ≤ k
  pub same : place at ≡ v

-- the places 0 to k hold different vertices; those before k have their children among the places, at least one,
-- and those after 0 their parents at places before, at least one; no edge leads back to place 0
pub record Rising (E : ℕ → ℕ → Type 0) (place : ℕ → ℕ) (k : ℕ) : Type 0 where
  pub several : 0 < k
  pub apart : (i j : ℕ) → i ≤ k → j ≤ k → place i ≡ place j → i ≡ j
  pub children : (i : ℕ) {v : ℕ} → i < k → E (place i) v → Placed place k v
  pub parents : (i : ℕ) {u : ℕ} → 0 < i → i ≤ k → E u (place i) → (j : ℕ) × (j < i) × (place j ≡ u)
  pub child : (i : ℕ) → i < k → (v : ℕ) × E (place i) v
  pub parent : (i : ℕ) → 0 < i → i ≤ k → (u : ℕ) × E u (place i)
  pub none_back : (i : ℕ) → i ≤ k → E (place i) (place 0) → ⊥

module _ {E : ℕ → ℕ → Type 0} {place : ℕ → ℕ} {k : ℕ} (r : Rising E place k) where
  -- an edge among the places rises
  rises : (i j : ℕ) → i ≤ k → j ≤ k → E (place i) (place j) → i < j
  rises i j h l e =
      elim (ℕ_discrete j 0) [
        | yes q ↦ absurd (r.none_back i h (rw q at e))
        | no n ↦
            let (x, a, q) = r.parents j (omega arith) l e in
            omega (arith, r.apart x i (omega arith) h q)
      ]

  -- a place before the last has an edge to a later one
  later : (i : ℕ) → i < k → (j : ℕ) × (i < j) × (j ≤ k) × E (place i) (place j)
  later i h =
      let (v, e) = r.child i h in
      let p = r.children i h e in
      let g : E (place i) (place p.at) = rw p.same e in
      (p.at, rises i p.at (omega arith) p.bound g, p.bound, g)

  -- a place after the first has an edge from an earlier one
  earlier : (i : ℕ) → 0 < i → i ≤ k → (j : ℕ) × (j < i) × E (place j) (place i)
  earlier i h l =
      let (u, e) = r.parent i h l in
      let (j, a, q) = r.parents i h l e in
      (j, a, rw q e)

  before_exit : (i : ℕ) → i < k → place i ≢ place k
  before_exit i h q = omega (arith, r.apart i k (omega arith) (omega arith) q)

  after_entrance : (i : ℕ) → 0 < i → i ≤ k → place i ≢ place 0
  after_entrance i h l q = omega (arith, r.apart i 0 l (omega arith) q)

  -- each place up to d is reached from the first
  reached_place : (d i : ℕ) → i ≤ d → i ≤ k → F E (place 0) (place k) (place i)
  reached_place zero i h l = let q : i ≡ 0 = omega arith in rw q start
  reached_place (suc d) i h l =
      elim (ℕ_discrete i 0) [
        | yes q ↦ rw q start
        | no n ↦
            let (j, a, e) = earlier i (omega arith) l in
            on (reached_place d j (omega arith) (omega arith)) (before_exit j (omega arith)) e
      ]

  -- each place at most d before the last reaches it
  reaching_place : (d i : ℕ) → i ≤ k → k ≤ i + d → B E (place 0) (place k) (place i)
  reaching_place zero i l h = let q : i ≡ k = omega arith in rw q end
  reaching_place (suc d) i l h =
      elim (ℕ_discrete i k) [
        | yes q ↦ rw q end
        | no n ↦
            let (j, a, m, e) = later i (omega arith) in
            from e (after_entrance j (omega arith) m) (reaching_place d j m (omega arith))
      ]

  rising_edge : {u v : ℕ} → (p : Placed place k u) (q : Placed place k v) → E u v → p.at < q.at
  rising_edge p q e = rises p.at q.at p.bound q.bound (rw (p.same, q.same) e)

  -- so does a walk among the places
  rising_walk : {u v : ℕ} → (p : Placed place k u) (q : Placed place k v) → Walk E (Placed place k) u v → p.at < q.at
  rising_walk p q (edge a e b) = rising_edge p q e
  rising_walk p q (more w e b) = let m = walk_end w in omega (arith, rising_walk p m w, rising_edge m q e)

  rising_enclosed : Enclosed E (Placed place k) (place 0) (place k)
  rising_enclosed = record {
    distinct = before_exit 0 r.several;
    entrance = record { at = 0; bound = omega arith; same = refl };
    exit = record { at = k; bound = omega arith; same = refl };
    forward = λ p n e. let m : p.at ≢ k = λ q. n (rw q at (sym p.same)) in r.children p.at (omega arith) (rw p.same e);
    backward = λ {u} {v} p n e.
        let m : p.at ≢ 0 = λ q. n (rw q at (sym p.same)) in
        let l : p.at ≤ k = p.bound in
        let (j, a, q) = r.parents p.at {u = u} (omega arith) l (rw p.same e) in
        record { at = j; bound = omega arith; same = q };
    reached = λ v p. rw p.same at (reached_place p.at p.at (omega arith) p.bound);
    reaching = λ v p. rw p.same at (reaching_place k p.at p.bound (omega arith));
    acyclic = λ v w. let p = walk_end w in omega (arith, rising_walk p p w);
  }

  pub rising_bubbloid : Bubbloid E (place 0) (place k)
  rising_bubbloid = enclosed_bubbloid rising_enclosed

  pub rising_set : {v : ℕ} → F E (place 0) (place k) v ↔ Placed place k v
  rising_set = enclosed_set rising_enclosed
