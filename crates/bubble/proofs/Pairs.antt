-- When two vertices of known bubbloids form a bubbloid themselves. Assumes nothing.
use Prim.Native.Nat.{ℕ}
use mathlib.Core.Path.{sym}
use mathlib.Core.Logic.{◌≢◌, ◌↔◌}
use native.Mathlib.Decide.{ℕ_discrete}
use Rattle.bubble.specs.Superbubble.{F, F.start, F.on, B, B.end, B.from, Bubbloid}
use Rattle.bubble.proofs.Walks.{walk_widen, F-no-return, F-onward, F-within}
use Rattle.bubble.proofs.Reversal.{F-reversed, B-reversed, B-no-return, B-onward, inside_reversed, bubbloid_reversed}
use Rattle.bubble.proofs.Facts.{last_edge, first_edge, exit_inside, closed_backward, no_edge_to_entrance, no_edge_from_exit}
use Rattle.bubble.proofs.FromSet.{make_bubbloid}

module _ {E : ℕ → ℕ → Type 0} {s t m : ℕ} (b : Bubbloid E s t) (inside : F E s t m) where
  -- the paths to a vertex of U lie in U
  back_inside : (v : ℕ) → B E s m v → F E s t v
  back_inside v c = (b.matching v).1 (B-onward ((b.matching m).0 inside) c)

  cut_forward : (F E s m t → ⊥) → {v : ℕ} → F E s m v → B E s t v → B E s m v
  cut_forward h f end = absurd (h f)
  cut_forward h {v} f (from e n c) = elim (ℕ_discrete v m) [ yes q ↦ rw q end | no k ↦ from e n (cut_forward h (on f k e) c) ]

  cut_backward : {v : ℕ} → B E s m v → F E s t v → F E s m v
  cut_backward c start = start
  cut_backward {v} c (on {u = u} f n e) =
      elim (ℕ_discrete v s) [
        | yes q ↦ rw q start
        | no k ↦ elim (ℕ_discrete u m) [ yes q ↦ absurd (B-no-return back_inside b.acyclicity c (rw q at e)) | no l ↦ on (cut_backward (from e k c) f) l e ]
      ]

  -- a vertex of U other than s and t forms with s a bubbloid exactly if t cannot be reached without it
  cut : m ≢ s → m ≢ t → Bubbloid E s m ↔ (F E s m t → ⊥)
  cut n k = (out, back)
    where
      out : Bubbloid E s m → F E s m t → ⊥
      out c f = let (v, g, l, e) = first_edge ((c.matching t).0 f) (λ q. k (sym q)) in no_edge_from_exit b (back_inside v g) e

      back : (F E s m t → ⊥) → Bubbloid E s m
      back h =
          let forward : (v : ℕ) → F E s m v → B E s m v = λ v f. cut_forward h f ((b.matching v).0 (F-within h f)) in
          make_bubbloid (λ q. n (sym q)) forward (λ v c. cut_backward c (back_inside v c)) (λ v w. b.acyclicity v (walk_widen (λ x. F-within h) w))

-- of bubbloids s, t and m, t with m in U, the front s, m is one
pub front_pair : {E : ℕ → ℕ → Type 0} {s t m : ℕ} → Bubbloid E s t → Bubbloid E m t → F E s t m → m ≢ s → Bubbloid E s m
front_pair {E} {s} {t} {m} b c f n = (cut b f n c.distinct).1 (λ g. outside g (λ q. c.distinct (sym q)) (exit_inside c))
  where
    outside : {v : ℕ} → F E s m v → v ≢ m → F E m t v → ⊥
    outside start k g = let (u, h, l, e) = last_edge g k in no_edge_to_entrance b (F-onward f h) e
    outside (on h l e) k g = outside h l (closed_backward c g k e)

-- of bubbloids s, t and s, m with m in U, the rest m, t is one
pub rest_pair : {E : ℕ → ℕ → Type 0} {s t m : ℕ} → Bubbloid E s t → Bubbloid E s m → F E s t m → m ≢ t → Bubbloid E m t
rest_pair b c f n = bubbloid_reversed.1 (front_pair (bubbloid_reversed.0 b) (bubbloid_reversed.0 c) ((inside_reversed b).0 f) n)

-- one half of `cross`; the other is this in the graph turned round
cross_forward : {E : ℕ → ℕ → Type 0} {s x y v : ℕ} → Bubbloid E x y → F E x y s → F E s y v → B E s y v
cross_forward {E} {s} {x} {y} {v} c f g = along g ((c.matching v).0 (F-onward f g))
  where
    along : {v : ℕ} → F E s y v → B E x y v → B E s y v
    along g end = end
    along {v} g (from e n d) =
        elim (ℕ_discrete v y) [
          | yes q ↦ rw q end
          | no k ↦ from e (λ q. F-no-return (λ x. F-onward f) c.acyclicity g (rw q at e)) (along (on g k e) d)
        ]

-- of bubbloids s, t and x, y, each with an end in the other's U, the pair s, y is one
pub cross : {E : ℕ → ℕ → Type 0} {s t x y : ℕ} → Bubbloid E s t → Bubbloid E x y → F E x y s → F E s t y → s ≢ y → Bubbloid E s y
cross {E} {s} {t} {x} {y} b c f g n = make_bubbloid n (λ v. cross_forward c f) back (λ v w. c.acyclicity v (walk_widen (λ x. F-onward f) w))
  where
    back : (v : ℕ) → B E s y v → F E s y v
    back v h = B-reversed.0 (cross_forward (bubbloid_reversed.0 b) ((inside_reversed b).0 g) (F-reversed.1 h))
