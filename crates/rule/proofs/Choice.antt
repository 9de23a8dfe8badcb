-- Of two different paths one beats the other, no path beats itself, and what beats a path that beats another beats that one: so two paths that none beats are the same. Assumes nothing.
use Prim.Native.Nat.{ℕ, ◌<◌}
use mathlib.Core.Path.{◌≡◌, refl, sym, ap₂, ◌∙◌}
use mathlib.Core.Logic.{◌⊎◌, inl, inr, ⊎_elim, ⊎_map}
use mathlib.Core.List.{List, [], ◌∷◌, ◌++◌, Memᴰ}
use native.Mathlib.Omega.{arith}
use native.Mathlib.Decide.{ℕ_discrete, dec_lt}
use Rattle.rule.specs.Lists.{Graph, Counts}
use Rattle.rule.specs.Kept.{Earlier, Earlier.here, Earlier.later, Arm, Beats, Best}

-- the same, or one smaller
compared : (u v : ℕ) → (u ≡ v) ⊎ ((u < v) ⊎ (v < u))
compared u v = elim (ℕ_discrete u v) [ yes q ↦ inl q | no n ↦ elim (dec_lt u v) [ yes h ↦ inr (inl h) | no k ↦ inr (inr (omega arith)) ] ]

-- l and k, each with t after it, are the same, or one is earlier
abbrev Ordered : ℕ → List ℕ → List ℕ → Type 0
Ordered t l k = (l ≡ k) ⊎ (Earlier (l ++ (t ∷ [])) (k ++ (t ∷ [])) ⊎ Earlier (k ++ (t ∷ [])) (l ++ (t ∷ [])))

ordered_next : (t x y : ℕ) (l k : List ℕ) → Ordered t l k → Ordered t (x ∷ l) (y ∷ k)
ordered_next t x y l k h = ⊎_elim same (λ o. inr (⊎_map here here o)) (compared x y)
  where
    same : x ≡ y → Ordered t (x ∷ l) (y ∷ k)
    same q = ⊎_map (λ r. ap₂ {C = List ℕ} (λ a b. a ∷ b) q r) (λ o. rw q (⊎_map later later o)) h

first_difference : (t : ℕ) (l k : List ℕ) → (Memᴰ t l → ⊥) → (Memᴰ t k → ⊥) → Ordered t l k
first_difference t [] [] n m = inl refl
first_difference t [] (y ∷ k) n m = ⊎_elim (λ q. absurd (m (Memᴰ.head q))) (λ h. inr (⊎_map here here h)) (compared t y)
first_difference t (x ∷ l) [] n m = ⊎_elim (λ q. absurd (n (Memᴰ.head (sym q)))) (λ h. inr (⊎_map here here h)) (compared x t)
first_difference t (x ∷ l) (y ∷ k) n m = ordered_next t x y l k (first_difference t l k (λ i. n (Memᴰ.tail i)) (λ i. m (Memᴰ.tail i)))

-- of two different arms one beats the other
one_beats : (score : List ℕ → ℕ) {E : Graph} {s t : ℕ} {l k : List ℕ} → Arm E s t l → Arm E s t k → (l ≡ k) ⊎ (Beats score t l k ⊎ Beats score t k l)
one_beats score {t = t} {l = l} {k = k} a b =
    ⊎_elim (λ q. ⊎_map (λ r. r) (⊎_map (λ o. inr (q, o)) (λ o. inr (sym q, o))) apart) (λ h. inr (⊎_elim (λ o. inr (inl o)) (λ o. inl (inl o)) h))
    (compared (score l) (score k))
  where
    apart : Ordered t l k
    apart = first_difference t l k (λ m. (a.inner t m).not_exit refl) (λ m. (b.inner t m).not_exit refl)

pub best_one : {score : Counts → List ℕ → ℕ} {E : Graph} {c : Counts} {s t : ℕ} {l k : List ℕ} → Best score E c s t l → Best score E c s t k → l ≡ k
best_one {score} {c = c} {l = l} {k = k} a b =
    ⊎_elim (λ q. q) (λ h. absurd (⊎_elim (b.unbeaten l a.arm) (a.unbeaten k b.arm) h)) (one_beats (score c) a.arm b.arm)

-- lists of which one is earlier differ
earlier_differ : {l k : List ℕ} → Earlier l k → l ≡ k → ⊥
earlier_differ (here {u = u} {v = v} {l = l} {k = k} h) q = let r : u ≡ v = cc in omega (arith, r)
earlier_differ (later {v = v} {l = l} {k = k} o) q = let r : l ≡ k = cc in earlier_differ o r

pub earlier_not_self : (l : List ℕ) → Earlier l l → ⊥
earlier_not_self l o = earlier_differ o refl

earlier_on : {l k m : List ℕ} → Earlier l k → Earlier k m → Earlier l m
earlier_on (here {u = u} h) (here {v = v} g) = let i : u < v = omega arith in here i
earlier_on (here h) (later o) = here h
earlier_on (later o) (here g) = here g
earlier_on (later o) (later p) = later (earlier_on o p)

module _ (score : List ℕ → ℕ) (t : ℕ) where
  -- no path beats itself
  pub beats_not_self : (l : List ℕ) → Beats score t l l → ⊥
  beats_not_self l h = ⊎_elim (λ o. omega arith) (λ o. earlier_not_self (l ++ (t ∷ [])) o.1) h

  -- what beats a path that beats another beats that one
  pub beats_on : (l k m : List ℕ) → Beats score t l k → Beats score t k m → Beats score t l m
  beats_on l k m h g =
      ⊎_elim (λ o. inl (⊎_elim (λ p. omega arith) (λ p. omega (arith, p.0)) g))
      (λ o. ⊎_map (λ p. omega (arith, o.0)) (λ p. (o.0 ∙ p.0, earlier_on o.1 p.1)) g) h

  pub beats_decided : {E : Graph} {s : ℕ} {l k : List ℕ} → Arm E s t l → Arm E s t k → Dec (Beats score t l k)
  beats_decided {l = l} {k = k} a b =
      ⊎_elim (λ q. no (λ h. beats_not_self k (rw q at h))) (⊎_elim (λ o. yes o) (λ o. no (λ h. beats_not_self l (beats_on l k l h o)))) (one_beats score a b)
