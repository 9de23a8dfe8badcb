-- A list whose entries all stand in another is no longer than it, where they are different. Assumes nothing.
use Rattle.std.proofs.Common.{ℕ, ◌≤◌, ◌<◌, ◌≡◌, sym, ◌∙◌, ap, List, get_or}
use native.Mathlib.Decide.{dec_lt}
use Rattle.bubble.proofs.Pigeonhole.{places_below}

module _ (xs ys : List ℕ) (k l : ℕ) (apart : (i j : ℕ) → i < k → j < k → get_or xs i 0 ≡ get_or xs j 0 → i ≡ j)
    (shown : (i : ℕ) → i < k → (j : ℕ) × (j < l) × (get_or ys j 0 ≡ get_or xs i 0)) where
  place : (i : ℕ) → Dec (i < k) → ℕ
  place i (yes h) = (shown i h).0
  place i (no n) = 0

  place_below : (i : ℕ) (d : Dec (i < k)) → i < k → place i d < l
  unfolding place
  place_below i (yes m) h = (shown i m).1
  place_below i (no n) h = absurd (n h)

  place_shows : (i : ℕ) (d : Dec (i < k)) → i < k → get_or ys (place i d) 0 ≡ get_or xs i 0
  unfolding place
  place_shows i (yes m) h = (shown i m).2
  place_shows i (no n) h = absurd (n h)

  pub shown_most : k ≤ l
  shown_most =
      places_below (λ i. place i (dec_lt i k)) k l (λ i. place_below i (dec_lt i k))
      (λ i j h m q. apart i j h m (sym (place_shows i (dec_lt i k) h) ∙ ap (λ x. get_or ys x 0) q ∙ place_shows j (dec_lt j k) m))
