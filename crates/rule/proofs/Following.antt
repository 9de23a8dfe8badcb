-- What stands right after what on a list. Assumes nothing.
use Prim.Native.Nat.{ℕ}
use mathlib.Core.Path.{◌≡◌, refl, sym, ◌∙◌}
use mathlib.Core.Logic.{◌⊎◌, inl, inr, ⊎_elim}
use mathlib.Core.List.Memᴰ
use mathlib.Core.List.{List, [], ◌∷◌, ◌++◌, Memᴰ}
use Rattle.bubble.specs.Superbubble.{Reaches, Reaches.none, Reaches.then}
use Rattle.bubble.proofs.Walks.{reaches_before}
use Rattle.bubble.specs.Distinct.{Distinct, Distinct.fresh}
use Rattle.rule.specs.Lists.{Graph, Follows, Follows.here, Follows.later}

-- the list begins with v
pub data Begins (v : ℕ) : List ℕ → Type 0 where
  begins : {w : ℕ} {l : List ℕ} → v ≡ w → Begins v (w ∷ l)

begins_one : {u v : ℕ} {l : List ℕ} → Begins u l → Begins v l → u ≡ v
begins_one (begins q) (begins r) = q ∙ sym r

pub follows_cases : {x u v : ℕ} {l : List ℕ} → Follows (x ∷ l) u v → ((u ≡ x) × Begins v l) ⊎ Follows l u v
follows_cases here = inl (refl, begins refl)
follows_cases (later f) = inr f

pub follows_tail : {u v : ℕ} {l : List ℕ} → Follows l u v → Memᴰ u l
follows_tail here = Memᴰ.head refl
follows_tail (later f) = Memᴰ.tail (follows_tail f)

-- what follows is not the first
pub follows_head : {x u v : ℕ} {l : List ℕ} → Follows (x ∷ l) u v → Memᴰ v l
follows_head (later {u = u} {v = v} {l = []} f) = elim f [ ]
follows_head here = Memᴰ.head refl
follows_head (later {l = y ∷ l} f) = Memᴰ.tail (follows_head f)

-- of different entries the first follows none
first_follows_none : {u v : ℕ} {l : List ℕ} → Distinct l → Begins v l → Follows l u v → ⊥
first_follows_none {u = u} {v = v} Rattle.bubble.specs.Distinct.empty x5 f = elim x5 [ ]
first_follows_none (fresh n d) (begins q) f = n (Memᴰ.cast (sym q) (follows_head f))

-- only one follows each
pub one_follows : {u v w : ℕ} {l : List ℕ} → Distinct l → Follows l u v → Follows l u w → v ≡ w
one_follows {u = u} {v = v} {w = w} Rattle.bubble.specs.Distinct.empty f g = elim f [ ]
one_follows {u} {v} {w} (fresh {a = x} {l = l} n d) f g =
    ⊎_elim (λ q. ⊎_elim (λ r. begins_one q.1 r.1) (λ h. absurd (again q.0 h)) (follows_cases g))
    (λ h. ⊎_elim (λ r. absurd (again r.0 h)) (one_follows d h) (follows_cases g)) (follows_cases f)
  where
    again : {z : ℕ} → u ≡ x → Follows l u z → ⊥
    again q h = n (Memᴰ.cast (sym q) (follows_tail h))

-- and each follows only one
pub follows_one : {u v w : ℕ} {l : List ℕ} → Distinct l → Follows l v u → Follows l w u → v ≡ w
follows_one {u = u} {v = v} {w = w} Rattle.bubble.specs.Distinct.empty f g = elim f [ ]
follows_one (fresh n d) f g =
    ⊎_elim (λ q. ⊎_elim (λ r. q.0 ∙ sym r.0) (λ h. absurd (first_follows_none d q.1 h)) (follows_cases g))
    (λ h. ⊎_elim (λ r. absurd (first_follows_none d r.1 h)) (follows_one d h) (follows_cases g)) (follows_cases f)

-- the list leads from its first entry to its last, u to t, through every entry
module _ (t : ℕ) {R : Graph} where
  pub follows_whole : {u : ℕ} (l : List ℕ) → ((v w : ℕ) → Follows (u ∷ l ++ (t ∷ [])) v w → R v w) → Reaches R u t
  follows_whole {u} [] h = then none (h u t here)
  follows_whole {u} (x ∷ l) h = reaches_before (h u x here) (follows_whole l (λ v w f. h v w (later f)))

  pub follows_from : {u v w : ℕ} (l : List ℕ) → ((v w : ℕ) → Follows (u ∷ l ++ (t ∷ [])) v w → R v w) → Follows (u ∷ l ++ (t ∷ [])) v w → Reaches R u v
  follows_from [] h f = ⊎_elim (λ q. rw q.0 none) (λ g. absurd (Memᴰ.not-nil (follows_head g))) (follows_cases f)
  follows_from {u} (x ∷ l) h f = ⊎_elim (λ q. rw q.0 none) (λ g. reaches_before (h u x here) (follows_from l (λ v w k. h v w (later k)) g)) (follows_cases f)

  pub follows_to : {u v w : ℕ} (l : List ℕ) → ((v w : ℕ) → Follows (u ∷ l ++ (t ∷ [])) v w → R v w) → Follows (u ∷ l ++ (t ∷ [])) v w → Reaches R w t
  follows_to [] h f = rw (Memᴰ.eq_of_singleton (follows_head f)) none
  follows_to (x ∷ l) h f =
      ⊎_elim (λ q. rw (begins_one q.1 (begins refl)) (follows_whole l (λ v w k. h v w (later k)))) (follows_to l (λ v w k. h v w (later k))) (follows_cases f)
