-- The path by the best children from the entrance is the kept one: by the sum after one round, by the weakest vertex after two. Assumes nothing.
use Prim.Native.Nat.{ℕ, ◌+◌, ◌≤◌, ◌<◌, min}
use mathlib.Core.Path.{◌≡◌, refl, sym, ap, ◌∙◌}
use mathlib.Core.Logic.{◌≢◌, ⊎_elim, if_pos, if_neg}
use mathlib.Core.List.{List, [], ◌∷◌, Memᴰ}
use native.Mathlib.Omega.{arith}
use native.Mathlib.Decide.{ℕ_discrete}
use Rattle.bubble.specs.Superbubble.{F, Bubbloid, Interior}
use Rattle.rule.specs.Lists.{Graph, Counts, sum}
use Rattle.rule.specs.Kept.{Arm, Beats, least, weakest, Kept}
use Rattle.rule.specs.Next.{Settled, end_from, ByNext}
use Rattle.rule.specs.declared.Choosing.TheVariants.{Sum, Weakest}
use Rattle.rule.proofs.ByNext.{along, by_next_arm, by_next_best, arm_most, no_arm_earlier}

pub end_entrance : (s bound : ℕ) → end_from s bound s ≡ 0
unfolding end_from
end_entrance s bound = if_pos (ℕ_discrete s s) refl 0 bound

pub end_other : {s v : ℕ} (bound : ℕ) → v ≢ s → end_from s bound v ≡ bound
unfolding end_from
end_other {s} {v} bound n = if_neg (ℕ_discrete v s) n 0 bound

end_within : (s bound v : ℕ) → end_from s bound v ≤ bound
end_within s bound v =
    elim (ℕ_discrete v s) [
      | yes q ↦ rw q (omega (arith, end_entrance s bound))
      | no n ↦ omega (arith, end_other bound n)
    ]

-- where the end gains nothing, a path comes to its sum
along_sum : (c : Counts) (s v : ℕ) (l : List ℕ) → along Sum c (end_from s 0) v l ≡ sum c l
along_sum c s v [] = omega (arith, end_within s 0 v)
along_sum c s v (u ∷ l) = ap (λ (x : ℕ). c u + x) (along_sum c s u l)

-- no path comes to more than the bound
along_within : (c : Counts) (s bound v : ℕ) (l : List ℕ) → along Weakest c (end_from s bound) v l ≤ bound
along_within c s bound v [] = end_within s bound v
along_within c s bound v (u ∷ l) = omega (arith, along_within c s bound u l)

-- from the entrance it comes to its score, cut at the bound
along_weakest : (c : Counts) (s bound v u : ℕ) (l : List ℕ) → ((w : ℕ) → Memᴰ w (u ∷ l) → w ≢ s)
    → along Weakest c (end_from s bound) v (u ∷ l) ≡ min (weakest c (u ∷ l)) bound
along_weakest c s bound v u [] h = omega (arith, end_other bound (h u (Memᴰ.head refl)))
along_weakest c s bound v u (x ∷ l) h = omega (arith, along_weakest c s bound u x l (λ w m. h w (Memᴰ.tail m)))

module _ (c : Counts) {E : Graph} {s t : ℕ} where
  arm_along : (bound : ℕ) (m : List ℕ) → Arm E s t m → along Weakest c (end_from s bound) s m ≡ min (weakest c m) bound
  arm_along bound [] a = omega (arith, end_entrance s bound)
  arm_along bound (u ∷ l) a = along_weakest c s bound s u l (λ w m. (a.inner w m).not_entrance)

  -- an arm scores at most a bound above the interior counts
  arm_within : {bound : ℕ} → ((w : ℕ) → Interior E s t w → c w < bound) → (m : List ℕ) → Arm E s t m → weakest c m ≤ bound
  arm_within h [] a = omega arith
  arm_within h (u ∷ l) a = omega (arith, h u (a.inner u (Memᴰ.head refl)), least_first u l)
    where
      least_first : (u : ℕ) (l : List ℕ) → least c u l ≤ c u
      least_first u [] = omega arith
      least_first u (x ∷ l) = omega arith

module _ {E : Graph} {c : Counts} {s t : ℕ} (b : Bubbloid E s t) where
  -- by the sum: one round
  pub sum_kept : {best next : ℕ → ℕ} → ((v : ℕ) → F E s t v → v ≢ t → Settled Sum E c t (end_from s 0 v) best next v)
      → {l : List ℕ} → ByNext next t s l → Kept Sum E c s t l
  sum_kept {best} {next} settled {l} r = record {
    arm = by_next_arm b settled r;
    unbeaten = λ k a.
        ⊎_elim (λ h. omega (arith, h, along_sum c s s k, along_sum c s s l, by_next_best b settled r, arm_most b settled a))
        (λ h. no_arm_earlier b settled {Tie = ◌≡◌} (λ v m x p q. q) (λ count x y p q. omega arith) a r (along_sum c s s k ∙ h.0 ∙ sym (along_sum c s s l)) h.1);
  }

  -- by the weakest vertex: the first round, with a bound above every count, finds how much the best path scores, and the second has that as its bound
  pub weakest_kept : {bound : ℕ} {best₁ next₁ best next : ℕ → ℕ} → ((w : ℕ) → Interior E s t w → c w < bound)
      → ((w : ℕ) → F E s t w → w ≢ t → Settled Weakest E c t (end_from s bound w) best₁ next₁ w)
      → {k : List ℕ} → ByNext next₁ t s k
      → ((w : ℕ) → F E s t w → w ≢ t → Settled Weakest E c t (end_from s (best₁ s) w) best next w)
      → {l : List ℕ} → ByNext next t s l → Kept Weakest E c s t l
  weakest_kept {bound} {best₁} {next₁} {best} {next} above first {k} r₁ second {l} r = record { arm = arm; unbeaten = unbeaten }
    where
      arm : Arm E s t l
      arm = by_next_arm b second r

      -- every arm scores at most what the first round finds, and comes to its score in the second
      most : (m : List ℕ) → Arm E s t m → weakest c m ≤ best₁ s
      most m a = omega (arith, arm_along c bound m a, arm_within c above m a, arm_most b first a)

      scores : (m : List ℕ) (a : Arm E s t m) → along Weakest c (end_from s (best₁ s)) s m ≡ weakest c m
      scores m a = omega (arith, arm_along c (best₁ s) m a, most m a)

      -- and the arm of the second scores that much
      full : best₁ s ≤ weakest c l
      full =
          let found : Arm E s t k = by_next_arm b first r₁ in
          omega (arith, arm_along c bound k found, arm_within c above k found, by_next_best b first r₁, scores k found, arm_most b second found, scores l arm, by_next_best b second r)

      unbeaten : (m : List ℕ) → Arm E s t m → Beats (weakest c) t m l → ⊥
      unbeaten m a =
          ⊎_elim (λ h. omega (arith, h, most m a, full))
          (λ h. no_arm_earlier b second {Tie = λ x y. best₁ s ≤ x} (λ w j x p q. omega (arith, along_within c s (best₁ s) w j)) (λ count x y p q. omega arith) a r
          (omega (arith, h.0, scores m a, full)) h.1)
