-- All superbubbles of a finite graph, listed by a computation. Assumes nothing.
use Prim.Native.Nat.{ℕ, zero, suc, ◌<◌}
use mathlib.Core.Path.{subst}
use mathlib.Core.Logic.{◌↔◌, ⊎_elim}
use mathlib.Core.Bool.{Bool}
use mathlib.Core.List.Memᴰ
use mathlib.Core.List.{List, [], ◌++◌, map, Memᴰ}
use native.Mathlib.Omega.{arith}
use native.Mathlib.Decide.{ℕ_discrete}
use Rattle.bubble.specs.Superbubble.{Superbubble}
use Rattle.bubble.proofs.Pigeonhole.{upto, in_upto}
use Rattle.bubble.proofs.Number.{Below, entrance_below, exit_below}
use Rattle.bubble.proofs.Reflect.{Decides, sift, in_sift, of_sift}
use Rattle.bubble.proofs.Decide.{superbubble_test, decides_superbubble}

-- s with each of its exits
unfoldable pairs_from : (ℕ → ℕ → Bool) → ℕ → ℕ → List (ℕ × ℕ)
unfolding superbubble_test sift upto
pairs_from e n s = map (λ t. (s, t)) (sift (superbubble_test e n s) (upto n))

-- the superbubbles with an entrance below k
unfoldable pairs_below : (ℕ → ℕ → Bool) → ℕ → ℕ → List (ℕ × ℕ)
unfolding pairs_from
pairs_below e n zero = []
pairs_below e n (suc k) = pairs_below e n k ++ pairs_from e n k

-- the superbubbles, by rising entrance
unfoldable pub superbubbles : (ℕ → ℕ → Bool) → ℕ → List (ℕ × ℕ)
unfolding pairs_below
superbubbles e n = pairs_below e n n

module _ {E : ℕ → ℕ → Type 0} {e : ℕ → ℕ → Bool} (d : (u v : ℕ) → Decides (E u v) (e u v)) (n : ℕ) (below : Below E n) where
  of_pairs_from : (s : ℕ) (p : ℕ × ℕ) → Memᴰ p (pairs_from e n s) → Superbubble E p.0 p.1
  unfolding pairs_from
  of_pairs_from s p m =
      let (t, i, q) = Memᴰ.of_map (λ t. (s, t)) (sift (superbubble_test e n s) (upto n)) m in
      subst (λ (x : ℕ × ℕ). Superbubble E x.0 x.1) q (of_sift (decides_superbubble d n below s) (upto n) i).1

  in_pairs_from : {s t : ℕ} → Superbubble E s t → Memᴰ (s, t) (pairs_from e n s)
  unfolding pairs_from
  in_pairs_from {s} {t} b = Memᴰ.map (λ x. (s, x)) (in_sift (decides_superbubble d n below s) (upto n) (in_upto n (exit_below below b.bubbloid)) b)

  of_pairs_below : (k : ℕ) (p : ℕ × ℕ) → Memᴰ p (pairs_below e n k) → Superbubble E p.0 p.1
  unfolding pairs_below
  of_pairs_below zero p m = absurd (Memᴰ.not-nil m)
  of_pairs_below (suc k) p m = ⊎_elim (of_pairs_below k p) (of_pairs_from k p) (Memᴰ.append_cases (pairs_below e n k) m)

  in_pairs_below : {s t : ℕ} (k : ℕ) → s < k → Superbubble E s t → Memᴰ (s, t) (pairs_below e n k)
  unfolding pairs_below
  in_pairs_below zero h b = absurd (omega arith)
  in_pairs_below {s} {t} (suc k) h b =
      elim (ℕ_discrete s k) [
        | yes q ↦ Memᴰ.append_right (pairs_below e n k) (rw q (in_pairs_from (rw q at b)))
        | no m ↦ Memᴰ.append_left (pairs_from e n k) (in_pairs_below k (omega arith) b)
      ]

  -- the list holds the superbubbles and nothing else
  pub superbubbles_listed : (s t : ℕ) → Memᴰ (s, t) (superbubbles e n) ↔ Superbubble E s t
  unfolding superbubbles
  superbubbles_listed s t = (of_pairs_below n (s, t), λ b. in_pairs_below n (entrance_below below b.bubbloid) b)
