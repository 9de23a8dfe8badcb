-- A ring of n vertices, n at least 3, has exactly n superbubbles: each vertex with the one after it. Assumes nothing.
use Prim.Native.Nat.{ℕ, suc, ◌≤◌, ◌<◌}
use mathlib.Core.Path.{◌≡◌, refl, sym, ◌∙◌, ap, subst}
use mathlib.Core.Logic.{◌≢◌, ◌↔◌, ◌⊎◌, inl, inr, ⊎_elim, if_pos, if_neg}
use mathlib.Core.List.Memᴰ
use mathlib.Core.List.{List, map, Memᴰ}
use native.Mathlib.Omega.{arith}
use native.Mathlib.Decide.{ℕ_discrete}
use lib.ListN.{length, length-map}
use Rattle.bubble.specs.Superbubble.{F.start, Superbubble}
use Rattle.bubble.specs.Ring.{after, Ring}
use Rattle.bubble.proofs.Facts.{successor}
use Rattle.bubble.proofs.Unique.{exit_unique}
use Rattle.bubble.specs.Distinct.{Distinct}
use Rattle.bubble.proofs.Pigeonhole.{distinct_map, upto, distinct_upto, length_upto, in_upto, upto_below}
use Rattle.bubble.proofs.LoneEdge.{Lone, lone_superbubble}

-- the one after is 0 from the last vertex, and one more from any other
after_cases : (n u : ℕ) → ((suc u ≡ n) × (after n u ≡ 0)) ⊎ ((suc u ≢ n) × (after n u ≡ suc u))
unfolding after
after_cases n u = elim (ℕ_discrete (suc u) n) [ yes q ↦ inl (q, if_pos (ℕ_discrete (suc u) n) q 0 (suc u)) | no k ↦ inr (k, if_neg (ℕ_discrete (suc u) n) k 0 (suc u)) ]

module _ {n : ℕ} (large : 3 ≤ n) where
  after_injective : (u v : ℕ) → u < n → v < n → after n u ≡ after n v → u ≡ v
  after_injective u v h k q = ⊎_elim (λ c. ⊎_elim (λ d. omega arith) (λ d. omega arith) (after_cases n v)) (λ c. ⊎_elim (λ d. omega arith) (λ d. omega arith) (after_cases n v)) (after_cases n u)

  -- two steps do not lead back
  after_twice : (u : ℕ) → u < n → u ≢ after n (after n u)
  after_twice u h q =
      ⊎_elim (λ c. ⊎_elim (λ d. omega arith) (λ d. omega arith) (after_cases n (after n u))) (λ c. ⊎_elim (λ d. omega arith) (λ d. omega arith) (after_cases n (after n u))) (after_cases n u)

  after_lone : (u : ℕ) → u < n → Lone (Ring n) u (after n u)
  after_lone u h = record {
    distinct = ⊎_elim (λ c. omega arith) (λ c. omega arith) (after_cases n u);
    joined = (h, refl);
    only_out = λ v e. e.1;
    only_in = λ v e. after_injective v u e.0 h (sym e.1);
    not_back = λ e. after_twice u h e.1;
  }

  -- the superbubbles are each vertex with the one after it
  pub ring_superbubbles : (s t : ℕ) → Superbubble (Ring n) s t ↔ ((s < n) × (t ≡ after n s))
  ring_superbubbles s t = (
    λ p. let (v, f, e) = successor p.bubbloid start p.bubbloid.distinct in (e.0, exit_unique p (lone_superbubble (after_lone s e.0))),
    λ e. rw e.1 (lone_superbubble (after_lone s e.0)),
  )

  -- exactly n: there is a list of n different pairs that holds the superbubbles and nothing else
  pub ring_exactly : (l : List (ℕ × ℕ)) × Distinct l × (length l ≡ n) × ((p : ℕ × ℕ) → Memᴰ p l ↔ Superbubble (Ring n) p.0 p.1)
  ring_exactly = (map pair (upto n), distinct_map pair (distinct_upto n) (λ u v i j q. ap (λ (p : ℕ × ℕ). p.0) q), length-map (upto n) pair ∙ length_upto n, λ p. (of_list p, in_list p))
    where
      pair : ℕ → ℕ × ℕ
      pair u = (u, after n u)

      of_list : (p : ℕ × ℕ) → Memᴰ p (map pair (upto n)) → Superbubble (Ring n) p.0 p.1
      of_list p m =
          let (u, i, q) = Memᴰ.of_map pair (upto n) m in
          subst (λ (x : ℕ × ℕ). Superbubble (Ring n) x.0 x.1) q ((ring_superbubbles u (after n u)).1 (upto_below n i, refl))

      in_list : (p : ℕ × ℕ) → Superbubble (Ring n) p.0 p.1 → Memᴰ p (map pair (upto n))
      in_list p b = let (h, q) = (ring_superbubbles p.0 p.1).0 b in Memᴰ.cast (λ i. (p.0, q i)) (Memᴰ.map pair (in_upto n h))
