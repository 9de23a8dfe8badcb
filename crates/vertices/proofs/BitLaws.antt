-- Laws of a word's bits: place by place, those of 2 ^ j, those of two words by `|`, and how many are 1. Assumes nothing.
use Rattle.std.proofs.Common.{ℕ, zero, suc, ◌*◌, ◌/◌, ◌%◌, ◌^◌, ◌≤◌, ◌<◌, max, ◌≡◌, refl, sym, ap, ◌∙◌}
use Rattle.std.proofs.Common.{◌↔◌, ◌⊎◌, inl, inr, ⊎_elim, [], ◌∷◌, lt_of_lt_of_le, add-one, one-add, arith, pow_mono, shr-shr, shr_lt, bit_or}
use mathlib.Core.List.Memᴰ
use native.Mathlib.Nat.{zero-div, div-eq_of_lt}
use native.Mathlib.Decide.{ℕ_discrete, dec_lt}
use lib.Arith.{lt-one}
use lib.Bits.{or_shr, or_step, shifted_half, shifted_even}
use lib.Count.{ones, ones_step}
use Rattle.bubble.specs.Distinct.{Distinct}
use Rattle.vertices.specs.Vertices.{bit_at, Numbers}
use Rattle.vertices.proofs.NumberLaws.{numbers_of_list, numbers_joined}

-- ---- one bit

pub bit_first : (w : ℕ) → bit_at w 0 ≡ w % 2
bit_first w = omega arith

pub bit_next : (w k : ℕ) → bit_at w (suc k) ≡ bit_at (w / 2) k
bit_next w k = ap (λ (x : ℕ). w / 2 ^ x % 2) (sym (one-add k)) ∙ ap (λ (x : ℕ). x % 2) (sym (shr-shr w 1 k))

pub bit_of_zero : (k : ℕ) → bit_at 0 k ≡ 0
bit_of_zero k = rw (zero-div (2 ^ k))

-- a word of d bits has none from place d on
pub bit_below : (d w k : ℕ) → w < 2 ^ d → bit_at w k ≡ 1 → k < d
bit_below d w k h q = elim (dec_lt k d) [
  | yes l ↦ l
  | no n ↦
      let g : d ≤ k = omega arith in
      let none : w / 2 ^ k ≡ 0 = div-eq_of_lt (lt_of_lt_of_le h (pow_mono g)) in
      absurd (omega arith)
]

-- 2 ^ j has its bit of place j, and no other
pub power_has : (j : ℕ) → bit_at (1 * 2 ^ j) j ≡ 1
power_has zero = refl
power_has (suc j) = bit_next (1 * 2 ^ suc j) j ∙ rw (shifted_half 1 j) (power_has j)

pub power_only : (j k : ℕ) → bit_at (1 * 2 ^ j) k ≡ 1 → k ≡ j
power_only zero zero q = refl
power_only zero (suc k) q = absurd (omega (arith, bit_next 1 k, bit_of_zero k))
power_only (suc j) zero q = absurd (omega (arith, bit_first (1 * 2 ^ suc j), shifted_even 1 j))
power_only (suc j) (suc k) q =
    ap suc (power_only j k (ap (λ (x : ℕ). bit_at x k) (sym (shifted_half 1 j)) ∙ sym (bit_next (1 * 2 ^ suc j) k) ∙ q))

-- the bits of two words together
or_odd : (a b : ℕ) → bit_or a b % 2 ≡ max (a % 2) (b % 2)
or_odd a b = omega (arith, or_step a b)

bit_at-bit_or : (a b k : ℕ) → bit_at (bit_or a b) k ≡ max (bit_at a k) (bit_at b k)
bit_at-bit_or a b k = ap (λ (x : ℕ). x % 2) (or_shr a b k) ∙ or_odd (a / 2 ^ k) (b / 2 ^ k)

pub or_has : (a b k : ℕ) → (bit_at (bit_or a b) k ≡ 1) ↔ ((bit_at a k ≡ 1) ⊎ (bit_at b k ≡ 1))
or_has a b k = (
  λ q. elim (ℕ_discrete (bit_at a k) 1) [ yes p ↦ inl p | no n ↦ inr (omega (arith, bit_at-bit_or a b k)) ],
  ⊎_elim (λ p. omega (arith, bit_at-bit_or a b k)) (λ p. omega (arith, bit_at-bit_or a b k)),
)

-- ---- how many bits of a word are 1

none_of_zero : Numbers (λ k. bit_at 0 k ≡ 1) (ones 0)
unfolding ones
none_of_zero = numbers_of_list [] refl Distinct.empty (λ k. (λ m. absurd (Memᴰ.not-nil m), λ q. absurd (omega (arith, bit_of_zero k))))

first_bit : (b : ℕ) → b < 2 → Numbers (λ k. (k ≡ 0) × (b ≡ 1)) b
first_bit b h = elim (ℕ_discrete b 1) [
  | yes q ↦ numbers_of_list (0 ∷ []) (sym q) (Distinct.fresh (λ m. Memᴰ.not-nil m) Distinct.empty)
      (λ k. (λ m. (Memᴰ.eq_of_singleton m, q), λ p. Memᴰ.head p.0))
  | no n ↦ numbers_of_list [] (omega arith) Distinct.empty (λ k. (λ m. absurd (Memᴰ.not-nil m), λ p. absurd (n p.1)))
]

-- a bit that is 1 is the first, or one of the half's
by_half : (w k : ℕ) → (bit_at w k ≡ 1) ↔ (((k ≡ 0) × (w % 2 ≡ 1)) ⊎ ((u : ℕ) × (bit_at (w / 2) u ≡ 1) × (suc u ≡ k)))
by_half w k = (there k, back)
  where
    there : (k : ℕ) → bit_at w k ≡ 1 → ((k ≡ 0) × (w % 2 ≡ 1)) ⊎ ((u : ℕ) × (bit_at (w / 2) u ≡ 1) × (suc u ≡ k))
    there zero q = inl (refl, omega arith)
    there (suc u) q = inr (u, sym (bit_next w u) ∙ q, refl)

    back : ((k ≡ 0) × (w % 2 ≡ 1)) ⊎ ((u : ℕ) × (bit_at (w / 2) u ≡ 1) × (suc u ≡ k)) → bit_at w k ≡ 1
    back (inl p) = rw p.0 (bit_first w ∙ p.1)
    back (inr s) = rw (← s.2) (bit_next w s.0 ∙ s.1)

-- the word's count of ones is the number of its bits that are 1
pub bits_numbered : (d w : ℕ) → w < 2 ^ d → Numbers (λ k. bit_at w k ≡ 1) (ones w)
bits_numbered zero w h = rw (lt-one h) none_of_zero
bits_numbered (suc d) w h =
    let half : w / 2 < 2 ^ d = shr_lt d 1 (rw (add-one d) h) in
    rw (ones_step w)
    (numbers_joined suc (first_bit (w % 2) (omega arith)) (bits_numbered d (w / 2) half) (λ a b q. omega arith)
    (λ u q p. omega arith) (by_half w))
