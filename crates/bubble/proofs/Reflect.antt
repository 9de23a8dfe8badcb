-- Tests that compute, and what they decide: equality, order, and, or, not, membership of a list, every entry of a list, the entries that pass. Assumes nothing.
use Prim.Native.Nat.{ℕ, ◌<◌}
use mathlib.Core.Path.{◌≡◌, refl}
use mathlib.Core.Logic.{◌↔◌, ◌⊎◌, inl, inr, ⊎_elim, ⊎_map}
use mathlib.Core.Bool.{Bool, true, false, not, ◌&&◌, ◌||◌}
use mathlib.Core.List.Memᴰ
use mathlib.Core.List.{List, [], ◌∷◌, Memᴰ}
use lib.Dec.{T, eqb, ltb, eqb→eq, eqb_refl, ltb→lt, lt→ltb}
use Rattle.bubble.specs.Distinct.{Distinct, Distinct.empty, Distinct.fresh}

-- the test answers whether P holds
pub data Decides (P : Type 0) : Bool → Type 0 where
  holds : P → Decides P true
  fails : (P → ⊥) → Decides P false

pub decided : {P : Type 0} {b : Bool} → Decides P b → Dec P
decided (holds p) = yes p
decided (fails n) = no n

-- a test that computes to true is a proof
pub proved : {P : Type 0} → Decides P true → P
proved (holds p) = p

pub decides_if : {P Q : Type 0} {b : Bool} → P ↔ Q → Decides P b → Decides Q b
decides_if h (holds p) = holds (h.0 p)
decides_if h (fails n) = fails (λ q. n (h.1 q))

-- what one test answers comes to the same
pub same_test : {P Q : Type 0} {b : Bool} → Decides P b → Decides Q b → P ↔ Q
same_test (holds p) (holds q) = (λ x. q, λ x. p)
same_test (fails n) (fails m) = (λ p. absurd (n p), λ q. absurd (m q))

pub decides_not : {P : Type 0} {b : Bool} → Decides P b → Decides (P → ⊥) (not b)
decides_not (holds p) = fails (λ n. n p)
decides_not (fails n) = holds n

pub decides_and : {P Q : Type 0} {a b : Bool} → Decides P a → Decides Q b → Decides (P × Q) (a && b)
decides_and (holds p) (holds q) = holds (p, q)
decides_and (holds p) (fails n) = fails (λ h. n h.1)
decides_and (fails n) d = fails (λ h. n h.0)

pub decides_or : {P Q : Type 0} {a b : Bool} → Decides P a → Decides Q b → Decides (P ⊎ Q) (a || b)
decides_or (holds p) d = holds (inl p)
decides_or (fails n) (holds q) = holds (inr q)
decides_or (fails n) (fails m) = fails (elim [ inl p ↦ n p | inr q ↦ m q ])

-- the test of a decision
unfoldable pub test : {P : Type 0} → Dec P → Bool
test (yes p) = true
test (no n) = false

pub decides_test : {P : Type 0} (d : Dec P) → Decides P (test d)
unfolding test
decides_test (yes p) = holds p
decides_test (no n) = fails n

pub decides_equal : (m n : ℕ) → Decides (m ≡ n) (eqb m n)
decides_equal m n = go (eqb m n) (eqb→eq m n) (λ q. rw q (eqb_refl n))
  where
    go : (b : Bool) → (T b → m ≡ n) → (m ≡ n → T b) → Decides (m ≡ n) b
    go true f g = holds (f tt)
    go false f g = fails g

pub decides_below : (m n : ℕ) → Decides (m < n) (ltb m n)
decides_below m n = go (ltb m n) (ltb→lt m n) (lt→ltb m n)
  where
    go : (b : Bool) → (T b → m < n) → (m < n → T b) → Decides (m < n) b
    go true f g = holds (f tt)
    go false f g = fails g

unfoldable pub member : ℕ → List ℕ → Bool
member v [] = false
member v (x ∷ xs) = let rest = member v xs in eqb v x || rest

pub decides_member : (v : ℕ) (l : List ℕ) → Decides (Memᴰ v l) (member v l)
unfolding member
decides_member v [] = fails Memᴰ.not-nil
decides_member v (x ∷ xs) = decides_if (elim [ inl q ↦ Memᴰ.head q | inr m ↦ Memᴰ.tail m ], Memᴰ.cases_cons) (decides_or (decides_equal v x) (decides_member v xs))

unfoldable pub every : (ℕ → Bool) → List ℕ → Bool
every p [] = true
every p (x ∷ xs) = let rest = every p xs in p x && rest

pub decides_every : {P : ℕ → Type 0} {p : ℕ → Bool} → ((v : ℕ) → Decides (P v) (p v)) → (l : List ℕ) → Decides ((v : ℕ) → Memᴰ v l → P v) (every p l)
unfolding every
decides_every d [] = holds (λ v m. absurd (Memᴰ.not-nil m))
decides_every {P} d (x ∷ xs) =
    decides_if (λ h v m. ⊎_elim (λ q. rw q h.0) (h.1 v) (Memᴰ.cases_cons m), λ h. (h x (Memᴰ.head refl), λ v m. h v (Memᴰ.tail m)))
    (decides_and (d x) (decides_every d xs))

put : Bool → ℕ → List ℕ → List ℕ
put true x l = x ∷ l
put false x l = l

-- the entries that pass
unfoldable pub sift : (ℕ → Bool) → List ℕ → List ℕ
unfolding put
sift p [] = []
sift p (x ∷ xs) = put (p x) x (sift p xs)

put_first : {P : Type 0} {b : Bool} {v x : ℕ} (l : List ℕ) → Decides P b → P → v ≡ x → Memᴰ v (put b x l)
unfolding put
put_first l (holds p) h q = Memᴰ.head q
put_first l (fails n) h q = absurd (n h)

put_rest : (b : Bool) {v : ℕ} (x : ℕ) {l : List ℕ} → Memᴰ v l → Memᴰ v (put b x l)
unfolding put
put_rest true x m = Memᴰ.tail m
put_rest false x m = m

put_cases : {P : Type 0} {b : Bool} {v : ℕ} (x : ℕ) {l : List ℕ} → Decides P b → Memᴰ v (put b x l) → ((v ≡ x) × P) ⊎ Memᴰ v l
unfolding put
put_cases x (holds p) m = ⊎_map (λ q. (q, p)) (λ k. k) (Memᴰ.cases_cons m)
put_cases x (fails n) m = inr m

put_distinct : (b : Bool) (x : ℕ) {l : List ℕ} → (Memᴰ x l → ⊥) → Distinct l → Distinct (put b x l)
unfolding put
put_distinct true x n d = fresh n d
put_distinct false x n d = d

module _ {P : ℕ → Type 0} {p : ℕ → Bool} (d : (v : ℕ) → Decides (P v) (p v)) where
  pub in_sift : {v : ℕ} (l : List ℕ) → Memᴰ v l → P v → Memᴰ v (sift p l)
  unfolding sift
  in_sift {v = v} [] m h = elim m [ ]
  in_sift (x ∷ xs) (Memᴰ.head q) h = put_first (sift p xs) (d x) (rw q at h) q
  in_sift (x ∷ xs) (Memᴰ.tail m) h = put_rest (p x) x (in_sift xs m h)

  pub of_sift : {v : ℕ} (l : List ℕ) → Memᴰ v (sift p l) → Memᴰ v l × P v
  unfolding sift
  of_sift [] m = absurd (Memᴰ.not-nil m)
  of_sift (x ∷ xs) m = ⊎_elim (λ q. (Memᴰ.head q.0, rw q.0 q.1)) (λ k. let (i, h) = of_sift xs k in (Memᴰ.tail i, h)) (put_cases x (d x) m)

  pub distinct_sift : {l : List ℕ} → Distinct l → Distinct (sift p l)
  unfolding sift
  distinct_sift empty = empty
  distinct_sift (fresh {a = a} {l = l} n k) = put_distinct (p a) a (λ m. n (of_sift l m).0) (distinct_sift k)
