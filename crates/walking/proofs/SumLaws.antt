-- Laws of sums over the numbers below n. Assumes nothing.
use Rattle.std.proofs.Common.{ℕ, zero, suc, ◌+◌, ◌≤◌, ◌<◌, ◌≡◌, refl, ap, ◌≢◌, arith}
use native.Mathlib.Decide.{ℕ_discrete, dec_lt}
use Rattle.walking.specs.Walking.{sum_below}

sum_same : (n : ℕ) (f g : ℕ → ℕ) → ((u : ℕ) → u < n → f u ≡ g u) → sum_below n f ≡ sum_below n g
sum_same zero f g h = refl
sum_same (suc n) f g h = omega (arith, sum_same n f g (λ u l. h u (omega arith)), h n (omega arith))

pub sum_least : (n : ℕ) (f g : ℕ → ℕ) → ((u : ℕ) → f u ≤ g u) → sum_below n f ≤ sum_below n g
sum_least zero f g h = omega arith
sum_least (suc n) f g h = omega (arith, sum_least n f g h, h n)

-- a sum_below changes by what one term changes
pub sum_change : (n : ℕ) (f g : ℕ → ℕ) (v : ℕ) → v < n → ((u : ℕ) → u ≢ v → f u ≡ g u) → sum_below n f + g v ≡ sum_below n g + f v
sum_change zero f g v l h = absurd (omega arith)
sum_change (suc n) f g v l h =
    elim (ℕ_discrete v n) [
      | yes q ↦ omega (arith, sum_same n f g (λ u k. h u (λ e. omega arith)), ap f q, ap g q)
      | no k ↦ omega (arith, sum_change n f g v (omega arith) h, h n (λ e. omega arith))
    ]

-- a sum_below is at least each of its terms
pub sum_term : (n : ℕ) (f : ℕ → ℕ) (v : ℕ) → v < n → f v ≤ sum_below n f
sum_term zero f v l = absurd (omega arith)
sum_term (suc n) f v l = elim (ℕ_discrete v n) [ yes q ↦ rw q (omega arith) | no k ↦ omega (arith, sum_term n f v (omega arith)) ]

-- a sum_below of terms up to 1 is at most n
pub sum_most : (n : ℕ) (f : ℕ → ℕ) → ((u : ℕ) → f u ≤ 1) → sum_below n f ≤ n
sum_most zero f h = omega arith
sum_most (suc n) f h = omega (arith, sum_most n f h, h n)

pub sum_zero : (n : ℕ) (f : ℕ → ℕ) → ((u : ℕ) → u < n → f u ≡ 0) → sum_below n f ≡ 0
sum_zero zero f h = refl
sum_zero (suc n) f h = omega (arith, sum_zero n f (λ u l. h u (omega arith)), h n (omega arith))

-- a sum_below that is not 0 has a term that is not 0
pub sum_some : (n : ℕ) (f : ℕ → ℕ) → 0 < sum_below n f → (u : ℕ) × (u < n) × (0 < f u)
sum_some zero f h = absurd (omega arith)
sum_some (suc n) f h =
    elim (dec_lt 0 (f n)) [
      | yes l ↦ (n, omega arith, l)
      | no k ↦ let (u, l, m) = sum_some n f (omega arith) in (u, omega arith, m)
    ]

-- a smaller sum_below has a smaller term
pub sum_less : (n : ℕ) (f g : ℕ → ℕ) → sum_below n f < sum_below n g → (u : ℕ) × (u < n) × (f u < g u)
sum_less zero f g h = absurd (omega arith)
sum_less (suc n) f g h =
    elim (dec_lt (f n) (g n)) [
      | yes l ↦ (n, omega arith, l)
      | no k ↦ let (u, l, m) = sum_less n f g (omega arith) in (u, omega arith, m)
    ]

-- a smaller term makes a smaller sum_below
pub less_sum : (n : ℕ) (f g : ℕ → ℕ) (v : ℕ) → v < n → ((u : ℕ) → f u ≤ g u) → f v < g v → sum_below n f < sum_below n g
less_sum zero f g v l h m = absurd (omega arith)
less_sum (suc n) f g v l h m =
    elim (ℕ_discrete v n) [
      | yes q ↦ omega (arith, sum_least n f g h, rw q at m)
      | no k ↦ omega (arith, less_sum n f g v (omega arith) h m, h n)
    ]
