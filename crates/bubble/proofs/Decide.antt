-- In a finite graph F, B, bubbloid and superbubble are decided, by tests that compute. Assumes nothing.
use Prim.Native.Nat.{ℕ}
use mathlib.Core.Path.{◌≡◌, refl}
use mathlib.Core.Logic.{◌≢◌, ◌↔◌, ◌⊎◌, inl, inr, ⊎_elim}
use mathlib.Core.Bool.{Bool, not, ◌&&◌, ◌||◌}
use mathlib.Core.List.{List, ◌∷◌, Memᴰ}
use native.Mathlib.Decide.{ℕ_discrete}
use lib.Dec.{eqb}
use Rattle.bubble.specs.Superbubble.{F, F.start, F.on, B, Walk, Walk.edge, Walk.more, Bubbloid, Superbubble}
use Rattle.bubble.proofs.Walks.{walk_end}
use Rattle.bubble.proofs.Reversal.{F-reversed}
use Rattle.bubble.proofs.FromSet.{make_bubbloid}
use Rattle.bubble.proofs.Number.{Below}
use Rattle.bubble.proofs.Reflect.{Decides, decided, decides_if, same_test, decides_not, decides_and, decides_or, test, decides_test, decides_equal, member, decides_member, every, decides_every}
use Rattle.bubble.proofs.Closure.{Any, closure, decides_closure}

-- F s t, listed
unfoldable forward_set : (ℕ → ℕ → Bool) → ℕ → ℕ → ℕ → List ℕ
unfolding closure
forward_set e n s t = s ∷ closure (λ u v. not (eqb u t) && e u v) n s

-- B s t, listed
unfoldable backward_set : (ℕ → ℕ → Bool) → ℕ → ℕ → ℕ → List ℕ
unfolding forward_set
backward_set e n s t = forward_set (λ u v. e v u) n t s

-- does no walk inside the listed vertices close
unfoldable acyclic_test : (ℕ → ℕ → Bool) → ℕ → List ℕ → Bool
unfolding every closure
acyclic_test e n l = every (λ v. not (member v (closure (λ u w. member u l && (e u w && member w l)) n v))) l

-- are F s t and B s t the same
unfoldable match_test : (ℕ → ℕ → Bool) → ℕ → ℕ → ℕ → Bool
unfolding backward_set every
match_test e n s t =
    let f = forward_set e n s t in
    let b = backward_set e n s t in
    let back = every (λ v. member v f) b in
    every (λ v. member v b) f && back

unfoldable bubbloid_test : (ℕ → ℕ → Bool) → ℕ → ℕ → ℕ → Bool
unfolding match_test acyclic_test
bubbloid_test e n s t =
    let acyclic = acyclic_test e n (forward_set e n s t) in
    let rest = match_test e n s t && acyclic in
    not (eqb s t) && rest

-- is s, x for no listed x other than t a bubbloid
unfoldable minimal_test : (ℕ → ℕ → Bool) → ℕ → ℕ → ℕ → Bool
unfolding bubbloid_test
minimal_test e n s t = every (λ x. let other = not (bubbloid_test e n s x) in eqb x t || other) (forward_set e n s t)

unfoldable pub superbubble_test : (ℕ → ℕ → Bool) → ℕ → ℕ → ℕ → Bool
unfolding minimal_test
superbubble_test e n s t =
    let minimal = minimal_test e n s t in
    bubbloid_test e n s t && minimal

-- a walk of steps that themselves keep inside P is a walk inside P
guarded_walk : {E : ℕ → ℕ → Type 0} {P : ℕ → Type 0} {u v : ℕ} → Walk (λ x y. P x × (E x y × P y)) Any u v ↔ Walk E P u v
guarded_walk {E} {P} {u} = (to, back)
  where
    to : {v : ℕ} → Walk (λ x y. P x × (E x y × P y)) Any u v → Walk E P u v
    to (edge a e b) = edge e.0 e.1.0 e.1.1
    to (more w e b) = more (to w) e.1.0 e.1.1

    back : {v : ℕ} → Walk E P u v → Walk (λ x y. P x × (E x y × P y)) Any u v
    back (edge p e q) = edge tt (p, (e, q)) tt
    back (more w e q) = more (back w) (walk_end w, (e, q)) tt

-- F is s and what the steps that leave t alone lead to
F-by-walk : {E : ℕ → ℕ → Type 0} {s t v : ℕ} → ((v ≡ s) ⊎ Walk (λ x y. (x ≢ t) × E x y) Any s v) ↔ F E s t v
F-by-walk {E} {s} {t} = (⊎_elim (λ q. rw q start) to, back)
  where
    to : {v : ℕ} → Walk (λ x y. (x ≢ t) × E x y) Any s v → F E s t v
    to (edge a e b) = on start e.0 e.1
    to (more w e b) = on (to w) e.0 e.1

    back : {v : ℕ} → F E s t v → (v ≡ s) ⊎ Walk (λ x y. (x ≢ t) × E x y) Any s v
    back start = inl refl
    back (on f n e) = inr (⊎_elim (λ q. edge tt (rw q at n, rw q at e) tt) (λ w. more w (n, e) tt) (back f))

-- F is exactly what forward-set lists
decides_F : {E : ℕ → ℕ → Type 0} {e : ℕ → ℕ → Bool} → ((u v : ℕ) → Decides (E u v) (e u v)) → (n : ℕ) → Below E n → (s t v : ℕ) → Decides (F E s t v) (member v (forward_set e n s t))
unfolding forward_set member
decides_F d n below s t v =
    let walked = decides_closure (λ x y. decides_and (decides_not (decides_equal x t)) (d x y)) n (λ x y h. (below x y h.1).1) s v in
    decides_if F-by-walk (decides_or (decides_equal v s) walked)

module _ {E : ℕ → ℕ → Type 0} {e : ℕ → ℕ → Bool} (d : (u v : ℕ) → Decides (E u v) (e u v)) (n : ℕ) (below : Below E n) where
  -- B is exactly what backward-set lists
  decides_B : (s t v : ℕ) → Decides (B E s t v) (member v (backward_set e n s t))
  unfolding backward_set
  decides_B s t v = decides_if F-reversed (decides_F (λ x y. d y x) n (λ x y h. ((below y x h).1, (below y x h).0)) t s v)

  listed_F : (s t v : ℕ) → F E s t v ↔ Memᴰ v (forward_set e n s t)
  listed_F s t v = same_test (decides_F d n below s t v) (decides_member v (forward_set e n s t))

  listed_B : (s t v : ℕ) → B E s t v ↔ Memᴰ v (backward_set e n s t)
  listed_B s t v = same_test (decides_B s t v) (decides_member v (backward_set e n s t))

  decides_cycle : (s t v : ℕ) → Decides (Walk E (F E s t) v v) (member v (closure (λ u w. member u (forward_set e n s t) && (e u w && member w (forward_set e n s t))) n v))
  decides_cycle s t v =
      let inside = decides_F d n below s t in
      decides_if guarded_walk (decides_closure (λ x y. decides_and (inside x) (decides_and (d x y) (inside y))) n (λ x y h. (below x y h.1.0).1) v v)

  -- F within B and B within F, over the listed sets
  abbrev Matched : ℕ → ℕ → Type 0
  Matched s t = ((v : ℕ) → Memᴰ v (forward_set e n s t) → B E s t v) × ((v : ℕ) → Memᴰ v (backward_set e n s t) → F E s t v)

  abbrev Acyclic : ℕ → ℕ → Type 0
  Acyclic s t = (v : ℕ) → Memᴰ v (forward_set e n s t) → Walk E (F E s t) v v → ⊥

  decides_matched : (s t : ℕ) → Decides (Matched s t) (match_test e n s t)
  unfolding match_test
  decides_matched s t = decides_and (decides_every (decides_B s t) (forward_set e n s t)) (decides_every (decides_F d n below s t) (backward_set e n s t))

  decides_acyclic : (s t : ℕ) → Decides (Acyclic s t) (acyclic_test e n (forward_set e n s t))
  unfolding acyclic_test
  decides_acyclic s t = decides_every (λ v. decides_not (decides_cycle s t v)) (forward_set e n s t)

  decides_bubbloid : (s t : ℕ) → Decides (Bubbloid E s t) (bubbloid_test e n s t)
  unfolding bubbloid_test
  decides_bubbloid s t = decides_if (to, back) (decides_and (decides_not (decides_equal s t)) (decides_and (decides_matched s t) (decides_acyclic s t)))
    where
      to : (s ≢ t) × (Matched s t × Acyclic s t) → Bubbloid E s t
      to h =
          let (matched, acyclic) = h.1 in
          make_bubbloid h.0 (λ v f. matched.0 v ((listed_F s t v).0 f)) (λ v b. matched.1 v ((listed_B s t v).0 b)) (λ v w. acyclic v ((listed_F s t v).0 (walk_end w)) w)

      back : Bubbloid E s t → (s ≢ t) × (Matched s t × Acyclic s t)
      back b =
          let matched : Matched s t = (λ v m. (b.matching v).0 ((listed_F s t v).1 m), λ v m. (b.matching v).1 ((listed_B s t v).1 m)) in
          (b.distinct, (matched, λ v m. b.acyclicity v))

  abbrev Minimal : ℕ → ℕ → Type 0
  Minimal s t = (x : ℕ) → Memᴰ x (forward_set e n s t) → (x ≡ t) ⊎ (Bubbloid E s x → ⊥)

  decides_minimal : (s t : ℕ) → Decides (Minimal s t) (minimal_test e n s t)
  unfolding minimal_test
  decides_minimal s t = decides_every (λ x. decides_or (decides_equal x t) (decides_not (decides_bubbloid s x))) (forward_set e n s t)

  pub decides_superbubble : (s t : ℕ) → Decides (Superbubble E s t) (superbubble_test e n s t)
  unfolding superbubble_test
  decides_superbubble s t = decides_if (to, back) (decides_and (decides_bubbloid s t) (decides_minimal s t))
    where
      to : Bubbloid E s t × Minimal s t → Superbubble E s t
      to h = record { bubbloid = h.0; minimality = λ x f k c. ⊎_elim k (λ other. other c) (h.1 x ((listed_F s t x).0 f)) }

      back : Superbubble E s t → Bubbloid E s t × Minimal s t
      back p = (p.bubbloid, λ x m. elim (ℕ_discrete x t) [ yes q ↦ inl q | no k ↦ inr (p.minimality x ((listed_F s t x).1 m) k) ])

module _ {E : ℕ → ℕ → Type 0} (decide : (u v : ℕ) → Dec (E u v)) (n : ℕ) (below : Below E n) where
  tested : (u v : ℕ) → Decides (E u v) (test (decide u v))
  tested u v = decides_test (decide u v)

  pub F-decided : (s t v : ℕ) → Dec (F E s t v)
  F-decided s t v = decided (decides_F tested n below s t v)

  pub superbubble_decided : (s t : ℕ) → Dec (Superbubble E s t)
  superbubble_decided s t = decided (decides_superbubble tested n below s t)
