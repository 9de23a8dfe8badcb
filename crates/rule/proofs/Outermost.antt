-- Where no superbubble with an interior is outermost, none has an interior: one around another has a new entrance, and there are only n vertices. Assumes nothing.
use Prim.Native.Nat.{ℕ, zero, suc, ◌+◌, ◌<◌}
use mathlib.Core.Path.{refl}
use mathlib.Core.Logic.{⊎_elim}
use mathlib.Core.List.Memᴰ
use mathlib.Core.List.{List, [], ◌∷◌, Memᴰ}
use native.Mathlib.Omega.{arith}
use lib.ListN.{length}
use Rattle.bubble.specs.Superbubble.{F, F.start, Interior, Superbubble}
use Rattle.bubble.proofs.Nesting.{Nested}
use Rattle.bubble.specs.Distinct.{Distinct, Distinct.empty, Distinct.fresh}
use Rattle.bubble.proofs.Pigeonhole.{distinct_below}
use Rattle.bubble.proofs.Number.{Below, entrance_below}
use Rattle.rule.specs.Lists.{Graph}
use Rattle.rule.specs.Fold.{Candidate}

module _ {E : Graph} {n : ℕ} (below : Below E n) (none : (s t : ℕ) → Candidate E s t → ⊥) where
  within : {s t x y : ℕ} {l : List ℕ} → Superbubble E x y → Nested E s t x y → ((v : ℕ) → Memᴰ v l → (v < n) × F E s t v) → (v : ℕ)
      → Memᴰ v (x ∷ l) → (v < n) × F E x y v
  within q m f v i = ⊎_elim (λ e. rw e (entrance_below below q.bubbloid, start)) (λ o. ((f v o).0, (m v (f v o).1).inside)) (Memᴰ.cases_cons i)

  -- l holds the entrances met on the way out, all in U; k more may follow
  outward : {s t : ℕ} (k : ℕ) (l : List ℕ) → n < k + length l → Distinct l → ((v : ℕ) → Memᴰ v l → (v < n) × F E s t v) → Superbubble E s t
      → (v : ℕ) × Interior E s t v → ⊥
  outward zero l h d f p i = omega (arith, distinct_below n d (λ v m. (f v m).0))
  outward {s} {t} (suc k) l h d f p i =
      let around : (x y : ℕ) → Superbubble E x y → Nested E s t x y → ⊥ =
      λ x y q m. outward k (x ∷ l) (omega arith) (fresh (λ o. (m x (f x o).1).not_entrance refl) d) (within q m f) q (s, m s start) in
      none s t (record { outermost = record { superbubble = p; in_no_other = around }; interior = i })

  pub no_interior : (s t : ℕ) → Superbubble E s t → (v : ℕ) → Interior E s t v → ⊥
  no_interior s t p v i = outward (suc n) [] (omega arith) empty (λ w m. absurd (Memᴰ.not-nil m)) p (v, i)
