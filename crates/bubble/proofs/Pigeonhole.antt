-- Lists of pairwise different entries, and their places: such a list is no longer than one that holds all its entries, so no longer than n if its entries are numbers below n. Assumes nothing.
use Prim.Native.Nat.{ℕ, zero, suc, ◌≤◌, ◌<◌}
use mathlib.Core.Path.{◌≡◌, refl, sym, ◌∙◌, ap}
use mathlib.Core.Logic.{◌≢◌, ⊎_elim}
use mathlib.Core.List.{List, [], ◌∷◌, ◌++◌, map, Memᴰ}
use native.Mathlib.Nat.{lt_irrefl}
use native.Mathlib.Omega.{arith}
use native.Mathlib.Decide.{ℕ_discrete}
use lib.ListN.{length, get_or, length-map}
use Rattle.bubble.specs.Distinct.{Distinct, Distinct.empty, Distinct.fresh}

-- the numbers below n
unfoldable pub upto : ℕ → List ℕ
upto zero = []
upto (suc n) = n ∷ upto n

pub length_upto : (n : ℕ) → length (upto n) ≡ n
unfolding upto
length_upto zero = refl
length_upto (suc n) = ap suc (length_upto n)

pub in_upto : {v : ℕ} (n : ℕ) → v < n → Memᴰ v (upto n)
unfolding upto
in_upto zero h = absurd (omega arith)
in_upto {v} (suc n) h = elim (ℕ_discrete v n) [ yes q ↦ mathlib.Core.List.Memᴰ.head q | no k ↦ mathlib.Core.List.Memᴰ.tail (in_upto n (omega arith)) ]

pub upto_below : {v : ℕ} (n : ℕ) → Memᴰ v (upto n) → v < n
unfolding upto
upto_below {v = v} zero m = elim m [ ]
upto_below (suc n) (mathlib.Core.List.Memᴰ.head q) = omega arith
upto_below (suc n) (mathlib.Core.List.Memᴰ.tail m) = omega (arith, upto_below n m)

module _ {A : Type 0} where
  -- a list less one entry
  remove : {a : A} (l : List A) → Memᴰ a l → List A
  remove {a = a} [] m = elim m [ ]
  remove (x ∷ xs) (mathlib.Core.List.Memᴰ.head q) = xs
  remove (x ∷ xs) (mathlib.Core.List.Memᴰ.tail m) = x ∷ remove xs m

  length_remove : {a : A} (l : List A) (m : Memᴰ a l) → length l ≡ suc (length (remove l m))
  unfolding remove
  length_remove {a = a} [] m = elim m [ ]
  length_remove (x ∷ xs) (mathlib.Core.List.Memᴰ.head q) = refl
  length_remove (x ∷ xs) (mathlib.Core.List.Memᴰ.tail m) = ap suc (length_remove xs m)

  in_remove : {a b : A} (l : List A) (m : Memᴰ a l) → b ≢ a → Memᴰ b l → Memᴰ b (remove l m)
  unfolding remove
  in_remove {a = a} {b = b} [] m n k = elim m [ ]
  in_remove (x ∷ xs) (mathlib.Core.List.Memᴰ.head q) n (mathlib.Core.List.Memᴰ.head p) = absurd (n (p ∙ sym q))
  in_remove (x ∷ xs) (mathlib.Core.List.Memᴰ.head q) n (mathlib.Core.List.Memᴰ.tail k) = k
  in_remove (x ∷ xs) (mathlib.Core.List.Memᴰ.tail m) n (mathlib.Core.List.Memᴰ.head p) = mathlib.Core.List.Memᴰ.head p
  in_remove (x ∷ xs) (mathlib.Core.List.Memᴰ.tail m) n (mathlib.Core.List.Memᴰ.tail k) = mathlib.Core.List.Memᴰ.tail (in_remove xs m n k)

  -- pairwise different entries that all stand in another list are no more than it has
  pub distinct_within : {l : List A} (k : List A) → Distinct l → ((a : A) → Memᴰ a l → Memᴰ a k) → length l ≤ length k
  distinct_within k empty h = omega arith
  distinct_within k (fresh {a = a} {l = l} n d) h =
      let m = h a (mathlib.Core.List.Memᴰ.head refl) in
      omega (arith, length_remove k m, distinct_within (remove k m) d (λ b i. in_remove k m (λ q. n (mathlib.Core.List.Memᴰ.cast (sym q) i)) (h b (mathlib.Core.List.Memᴰ.tail i))))

-- pairwise different numbers below n are at most n
pub distinct_below : {l : List ℕ} (n : ℕ) → Distinct l → ((v : ℕ) → Memᴰ v l → v < n) → length l ≤ n
distinct_below n d h = omega (arith, length_upto n, distinct_within (upto n) d (λ v m. in_upto n (h v m)))

pub distinct_append : {A : Type 0} {l k : List A} → Distinct l → Distinct k → ((a : A) → Memᴰ a l → Memᴰ a k → ⊥) → Distinct (l ++ k)
distinct_append empty e h = e
distinct_append (fresh {a = a} {l = l} n d) e h =
    fresh (λ m. ⊎_elim n (h a (mathlib.Core.List.Memᴰ.head refl)) (mathlib.Core.List.Memᴰ.append_cases l m)) (distinct_append d e (λ b i. h b (mathlib.Core.List.Memᴰ.tail i)))

-- a function that keeps the entries apart keeps a list distinct
pub distinct_map : {A B : Type 0} {l : List A} (f : A → B) → Distinct l → ((a b : A) → Memᴰ a l → Memᴰ b l → f a ≡ f b → a ≡ b) → Distinct (map f l)
distinct_map f empty h = empty
distinct_map f (fresh {a = a} {l = l} n d) h =
    let new : Memᴰ (f a) (map f l) → ⊥ = λ m. let (b, i, q) = mathlib.Core.List.Memᴰ.of_map f l m in n
    (mathlib.Core.List.Memᴰ.cast (h a b (mathlib.Core.List.Memᴰ.head refl) (mathlib.Core.List.Memᴰ.tail i) (sym q)) i) in
    fresh new (distinct_map f d (λ x y i j. h x y (mathlib.Core.List.Memᴰ.tail i) (mathlib.Core.List.Memᴰ.tail j)))

pub distinct_upto : (n : ℕ) → Distinct (upto n)
unfolding upto
distinct_upto zero = empty
distinct_upto (suc n) = fresh (λ m. lt_irrefl n (upto_below n m)) (distinct_upto n)

-- what stands at a place is an entry
pub getD_in : (l : List ℕ) (j : ℕ) → j < length l → Memᴰ (get_or l j 0) l
getD_in [] j h = absurd (omega arith)
getD_in (x ∷ l) zero h = mathlib.Core.List.Memᴰ.head refl
getD_in (x ∷ l) (suc j) h = mathlib.Core.List.Memᴰ.tail (getD_in l j (omega arith))

-- and each entry stands at a place
pub place_of : {v : ℕ} {l : List ℕ} → Memᴰ v l → (j : ℕ) × (j < length l) × (get_or l j 0 ≡ v)
place_of (mathlib.Core.List.Memᴰ.head q) = (0, omega arith, sym q)
place_of (mathlib.Core.List.Memᴰ.tail m) = let (j, h, q) = place_of m in (suc j, omega arith, q)

-- pairwise different entries stand at different places
pub distinct_apart : {l : List ℕ} → Distinct l → (i j : ℕ) → i < length l → j < length l → get_or l i 0 ≡ get_or l j 0 → i ≡ j
distinct_apart empty i j h g q = absurd (omega arith)
distinct_apart (fresh n d) zero zero h g q = refl
distinct_apart (fresh {l = l} n d) zero (suc j) h g q = absurd (n (mathlib.Core.List.Memᴰ.cast q (getD_in l j (omega arith))))
distinct_apart (fresh {l = l} n d) (suc i) zero h g q = absurd (n (mathlib.Core.List.Memᴰ.cast (sym q) (getD_in l i (omega arith))))
distinct_apart (fresh n d) (suc i) (suc j) h g q = ap suc (distinct_apart d i j (omega arith) (omega arith) q)

-- and what stands at different places is pairwise different
pub apart_distinct : (l : List ℕ) → ((i j : ℕ) → i < length l → j < length l → get_or l i 0 ≡ get_or l j 0 → i ≡ j) → Distinct l
apart_distinct [] h = empty
apart_distinct (x ∷ l) h =
    let new : Memᴰ x l → ⊥ = λ m. let (j, b, q) = place_of m in let e : 0 ≡ suc j = h 0 (suc j) (omega arith) (omega arith) (sym q) in omega arith in
    fresh new (apart_distinct l (λ i j a b q. let e : suc i ≡ suc j = h (suc i) (suc j) (omega arith) (omega arith) q in omega arith))

-- k places that hold pairwise different numbers below n are at most n
pub places_below : (f : ℕ → ℕ) (k n : ℕ) → ((i : ℕ) → i < k → f i < n) → ((i j : ℕ) → i < k → j < k → f i ≡ f j → i ≡ j) → k ≤ n
places_below f k n h g =
    let d = distinct_map f (distinct_upto k) (λ i j a b. g i j (upto_below k a) (upto_below k b)) in
    let b : (v : ℕ) → Memᴰ v (map f (upto k)) → v < n = λ v m. let (i, a, q) = mathlib.Core.List.Memᴰ.of_map f (upto k) m in rw q at (h i (upto_below k a)) in
    omega (arith, distinct_below n d b, length-map (upto k) f, length_upto k)
