-- In a graph whose edges lie below n the vertices of a superbubble do, and there are at most n superbubbles. Assumes nothing.
use Prim.Native.Nat.{ℕ, ◌≤◌, ◌<◌}
use mathlib.Core.Path.{◌≡◌, sym}
use mathlib.Core.List.Memᴰ
use mathlib.Core.List.{List, map, Memᴰ}
use native.Mathlib.Omega.{arith}
use native.Mathlib.Decide.{ℕ_discrete}
use lib.ListN.{length, length-map}
use Rattle.bubble.specs.Superbubble.{F, F.start, Bubbloid, Superbubble, Interior}
use Rattle.bubble.proofs.Facts.{last_edge, exit_inside, predecessor, successor}
use Rattle.bubble.proofs.Unique.{exit_unique}
use Rattle.bubble.specs.Distinct.{Distinct}
use Rattle.bubble.proofs.Pigeonhole.{distinct_below, distinct_map}

-- every edge of E joins numbers below n
abbrev pub Below : (ℕ → ℕ → Type 0) → ℕ → Type 0
Below E n = (u v : ℕ) → E u v → (u < n) × (v < n)

module _ {E : ℕ → ℕ → Type 0} {n : ℕ} (below : Below E n) where
  pub entrance_below : {s t : ℕ} → Bubbloid E s t → s < n
  entrance_below {s} b = let (v, f, e) = successor b start b.distinct in (below s v e).0

  pub exit_below : {s t : ℕ} → Bubbloid E s t → t < n
  exit_below {t = t} b = let (u, f, e) = predecessor b (exit_inside b) (λ q. b.distinct (sym q)) in (below u t e).1

  -- so are the vertices of U
  pub inside_below : {s t v : ℕ} → s < n → F E s t v → v < n
  inside_below {s} {v = v} h f =
      elim (ℕ_discrete v s) [ yes q ↦ rw q h | no k ↦ let (u, g, m, e) = last_edge f k in (below u v e).1 ]

  pub interior_below : {s t v : ℕ} → Interior E s t v → v < n
  interior_below {v = v} i = let (u, f, m, e) = last_edge i.inside i.not_entrance in (below u v e).1

  pub superbubbles_at_most : (l : List (ℕ × ℕ)) → Distinct l → ((p : ℕ × ℕ) → Memᴰ p l → Superbubble E p.0 p.1) → length l ≤ n
  superbubbles_at_most l d h =
      let entrance : ℕ × ℕ → ℕ = λ p. p.0 in
      let apart : Distinct (map entrance l) = distinct_map entrance d (λ p q i j e. same p q e (exit_unique (h p i) (rw (← e) at (h q j)))) in
      let bounded : (v : ℕ) → Memᴰ v (map entrance l) → v < n = λ v m. let (p, i, e) = Memᴰ.of_map entrance l m in rw e at (entrance_below (h p i).bubbloid) in
      omega (arith, distinct_below n apart bounded, length-map l entrance)
    where
      same : (p q : ℕ × ℕ) → p.0 ≡ q.0 → p.1 ≡ q.1 → p ≡ q
      same p q a b = λ i. (a i, b i)
