-- There is an arm, each interior vertex lies on one, and each path from entrance to exit that repeats neither is an arm. Assumes nothing.
use Prim.Native.Nat.{ℕ}
use mathlib.Core.Path.{refl, sym}
use mathlib.Core.Logic.{◌≢◌, ⊎_elim}
use mathlib.Core.List.Memᴰ
use mathlib.Core.List.{List, [], ◌∷◌, Memᴰ}
use native.Mathlib.Decide.{ℕ_discrete}
use Rattle.bubble.specs.Superbubble.{F, F.start, F.on, B, B.end, B.from, Walk, Walk.edge, Bubbloid, Interior}
use Rattle.bubble.proofs.Walks.{walk_before}
use Rattle.rule.specs.Lists.{Graph}
use Rattle.rule.specs.Kept.{Via, Via.bare, Via.then, Arm}
use Rattle.rule.specs.Fold.{NoCycle}
use Rattle.rule.proofs.Arms.{via_walk}

-- a path from u to t whose inner vertices are interior to s, t
record Tail (E : Graph) (s t u : ℕ) : Type 0 where
  inner : List ℕ
  path : Via E t u inner
  inside : (v : ℕ) → Memᴰ v inner → Interior E s t v

module _ {E : Graph} {s t : ℕ} (b : Bubbloid E s t) where
  -- one more vertex in front
  longer : {u v : ℕ} → E u v → Interior E s t v → Tail E s t v → Tail E s t u
  longer {u} {v} e i r = record { inner = v ∷ r.inner; path = then e r.path; inside = λ w m. ⊎_elim (λ q. rw q i) (r.inside w) (Memᴰ.cases_cons m) }

  to_exit : {u : ℕ} → B E s t u → u ≢ t → Tail E s t u
  to_exit end n = absurd (n refl)
  to_exit (from {v = v} e n c) m =
      elim (ℕ_discrete v t) [
        | yes q ↦ record { inner = []; path = bare (rw q at e); inside = λ w k. absurd (Memᴰ.not-nil k) }
        | no k ↦ longer e (record { inside = (b.matching v).1 c; not_entrance = n; not_exit = k }) (to_exit c k)
      ]

  -- a tail from v reaches back to s, and keeps its vertices
  from_entrance : {v w : ℕ} → F E s t v → Interior E s t v → (r : Tail E s t v) → Memᴰ w (v ∷ r.inner) → (k : Tail E s t s) × Memᴰ w k.inner
  unfolding longer
  from_entrance start i r m = absurd (i.not_entrance refl)
  from_entrance (on {u = u} f n e) i r m =
      elim (ℕ_discrete u s) [
        | yes q ↦ (longer (rw q at e) i r, m)
        | no k ↦ from_entrance f (record { inside = f; not_entrance = k; not_exit = n }) (longer e i r) (Memᴰ.tail m)
      ]

  -- a tail from s is an arm
  tail_arm : (r : Tail E s t s) → Arm E s t r.inner
  tail_arm r = record { path = r.path; inner = r.inside }

  pub arm_through : {v : ℕ} → Interior E s t v → (l : List ℕ) × Arm E s t l × Memᴰ v l
  arm_through {v} i =
      let (r, m) = from_entrance i.inside i (to_exit ((b.matching v).0 i.inside) i.not_exit) (Memᴰ.head refl) in
      (r.inner, tail_arm r, m)

  pub some_arm : (l : List ℕ) × Arm E s t l
  some_arm = let r = to_exit ((b.matching s).0 start) b.distinct in (r.inner, tail_arm r)

-- a path to t that does not come to t before its end stays in F
forward : {E : Graph} {s t u v : ℕ} {l : List ℕ} → F E s t u → Via E t u l → u ≢ t → (Memᴰ t l → ⊥) → Memᴰ v l → F E s t v
forward f (bare e) n out m = absurd (Memᴰ.not-nil m)
forward f (then e p) n out m =
    let g = on f n e in
    ⊎_elim (λ q. rw q g) (forward g p (λ q. out (Memᴰ.head (sym q))) (λ i. out (Memᴰ.tail i))) (Memᴰ.cases_cons m)

-- a path from entrance to exit that repeats neither lies in U
pub path_arm : {E : Graph} {s t : ℕ} {l : List ℕ} → Via E t s l → s ≢ t → (Memᴰ s l → ⊥) → (Memᴰ t l → ⊥) → Arm E s t l
path_arm p distinct once-s once-t = record {
  path = p;
  inner = λ v m. record { inside = forward start p distinct once-t m; not_entrance = λ q. once-s (rw q at m); not_exit = λ q. once-t (rw q at m) };
}

-- in a graph without a cycle every path from one vertex to another repeats neither
module _ {E : Graph} (a : NoCycle E) where
  -- each vertex of a path to t leads to t
  leads : {t u v : ℕ} {l : List ℕ} → Via E t u l → Memᴰ v (u ∷ l) → Walk E (λ x. Unit {0}) v t
  leads (bare e) m = let q = Memᴰ.eq_of_singleton m in rw q (edge tt e tt)
  leads (then e p) m = ⊎_elim (λ q. rw q (walk_before tt e (leads p (Memᴰ.head refl)))) (leads p) (Memᴰ.cases_cons m)

  pub acyclic_path_arm : {s t : ℕ} {l : List ℕ} → Via E t s l → Arm E s t l
  acyclic_path_arm {s} {t} p =
      path_arm p (λ q. a t (rw q at (leads p (Memᴰ.head refl)))) (λ m. a s (via_walk tt (λ x i. tt) p (Memᴰ.append_left (t ∷ []) m)))
      (λ m. a t (leads p (Memᴰ.tail m)))
