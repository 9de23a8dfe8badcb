-- How many numbers a statement holds of: such counts from lists of different numbers, the count of two sets joined, and that there is only one count. Assumes nothing.
use Rattle.std.proofs.Common.{ℕ, ◌+◌, ◌≤◌, ◌≡◌, sym, ◌↔◌, ◌⊎◌, inl, inr, ⊎_elim, List, ◌++◌, map, arith, length, length-append}
use mathlib.Core.List.{Memᴰ}
use lib.ListN.{length-map}
use Rattle.table.specs.Table.{In}
use Rattle.bubble.specs.Distinct.{Distinct}
use Rattle.bubble.proofs.Pigeonhole.{distinct_within, distinct_append, distinct_map, getD_in, place_of, distinct_apart, apart_distinct}
use Rattle.vertices.specs.Vertices.{Numbers}

-- ---- a list's places and its entries

pub in_list : {v : ℕ} {l : List ℕ} → In v l ↔ Memᴰ v l
in_list {v} {l} =
    (λ i. mathlib.Core.List.Memᴰ.cast (sym i.stands) (getD_in l i.place i.inside), λ m. let (j, h, q) = place_of m in record { place = j; inside = h; stands = q })

-- ---- from a list of different numbers, and back

module _ {P : ℕ → Type 0} {k : ℕ} where
  pub numbers_of_list : (l : List ℕ) → length l ≡ k → Distinct l → ((v : ℕ) → Memᴰ v l ↔ P v) → Numbers P k
  numbers_of_list l q d h =
      record {
        listed = l;
        many = q;
        apart = λ i j a b e. distinct_apart d i j (omega arith) (omega arith) e;
        exactly = λ v. (λ r. (h v).0 (in_list.0 r), λ p. in_list.1 ((h v).1 p));
      }

  numbers_distinct : (n : Numbers P k) → Distinct n.listed
  numbers_distinct n = apart_distinct n.listed (λ i j a b e. n.apart i j (omega (arith, n.many)) (omega (arith, n.many)) e)

  numbers_exactly : (n : Numbers P k) (v : ℕ) → Memᴰ v n.listed ↔ P v
  numbers_exactly n v = (λ m. (n.exactly v).0 (in_list.1 m), λ p. in_list.0 ((n.exactly v).1 p))

  -- what holds of the same numbers holds of as many
  pub numbers_same : {Q : ℕ → Type 0} → Numbers P k → ((v : ℕ) → P v ↔ Q v) → Numbers Q k
  numbers_same n h =
      record {
        listed = n.listed;
        many = n.many;
        apart = n.apart;
        exactly = λ v. (λ m. (h v).0 ((n.exactly v).0 m), λ q. (n.exactly v).1 ((h v).1 q));
      }

-- what holds wherever P does holds of as many or more
numbers_most : {P Q : ℕ → Type 0} {k l : ℕ} → Numbers P k → Numbers Q l → ((v : ℕ) → P v → Q v) → k ≤ l
numbers_most n m h =
    omega (
      arith,
      n.many,
      m.many,
      distinct_within m.listed (numbers_distinct n) (λ v i. (numbers_exactly m v).1 (h v ((numbers_exactly n v).0 i))),
    )

-- a statement holds of only one number of numbers
pub numbers_unique : {P : ℕ → Type 0} {k l : ℕ} → Numbers P k → Numbers P l → k ≡ l
numbers_unique n m = omega (arith, numbers_most n m (λ v p. p), numbers_most m n (λ v p. p))

-- the numbers of P, and those of Q carried by f to where none of P's are
pub numbers_joined : {P Q R : ℕ → Type 0} {k l : ℕ} (f : ℕ → ℕ) → Numbers P k → Numbers Q l
    → ((a b : ℕ) → f a ≡ f b → a ≡ b) → ((u : ℕ) → Q u → P (f u) → ⊥)
    → ((v : ℕ) → R v ↔ (P v ⊎ ((u : ℕ) × Q u × (f u ≡ v)))) → Numbers R (k + l)
numbers_joined {P} {Q} {R} f n m one clash all =
    let front = n.listed in
    let back = m.listed in
    numbers_of_list (front ++ map f back)
    (omega (arith, length-append front (map f back), length-map back f, n.many, m.many))
    (distinct_append (numbers_distinct n) (distinct_map f (numbers_distinct m) (λ a b i j. one a b))
    (λ v i j. let (u, g, q) = mathlib.Core.List.Memᴰ.of_map f back j in
    clash u ((numbers_exactly m u).0 g) (rw (← q) at ((numbers_exactly n v).0 i))))
    (λ v. (
      λ i. (all v).1
          (⊎_elim (λ (g : Memᴰ v front). inl ((numbers_exactly n v).0 g))
          (λ (g : Memᴰ v (map f back)). let (u, g', q) = mathlib.Core.List.Memᴰ.of_map f back g in inr (u, (numbers_exactly m u).0 g', q))
          (mathlib.Core.List.Memᴰ.append_cases front i)),
      λ r. ⊎_elim (λ (p : P v). mathlib.Core.List.Memᴰ.append_left (map f back) ((numbers_exactly n v).1 p))
          (λ (s : (u : ℕ) × Q u × (f u ≡ v)).
          mathlib.Core.List.Memᴰ.append_right front (mathlib.Core.List.Memᴰ.cast (sym s.2) (mathlib.Core.List.Memᴰ.map f ((numbers_exactly m s.0).1 s.1))))
          ((all v).0 r),
    ))
