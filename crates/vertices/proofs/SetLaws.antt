-- Laws of the set: the empty one, one with a vertex added, and the number of its members. Assumes nothing.
use Rattle.std.proofs.Common.{ℕ, zero, suc, ◌+◌, ◌-◌, ◌*◌, ◌/◌, ◌%◌, ◌^◌, ◌≤◌, ◌<◌, ◌≡◌, refl, sym, ap, ◌∙◌, ◌↔◌, ◌⊎◌}
use Rattle.std.proofs.Common.{inl, inr, ⊎_elim, List, [], ◌∷◌, arith, shl_exact, bit_or, All, sum_by, length, get_or, set, replicate, length-set, get_or-set_same, get_or-set_other}
use mathlib.Core.List.Memᴰ
use native.Mathlib.Decide.{ℕ_discrete, dec_lt}
use lib.Bits.{or_lt}
use lib.Count.{ones, ones-le}
use Rattle.std.proofs.lemmas.List.Elements.{All-from_get_or}
use Rattle.std.proofs.lemmas.List.Sums.{sum_by-le, sum_by-cons}
use lib.ListN.{length-replicate}
use Rattle.table.specs.Limits.{vertex_limit}
use Rattle.table.specs.Table.{Below}
use Rattle.bubble.specs.Distinct.{Distinct}
use Rattle.vertices.specs.Vertices.{bit_at, Member, ones_of, Numbers, set_words, Words, Added, Size}
use Rattle.vertices.proofs.BitLaws.{bit_of_zero, bit_below, power_has, power_only, or_has, bits_numbered}
use Rattle.vertices.proofs.NumberLaws.{numbers_of_list, numbers_joined}

-- ---- the empty set

zeros : (n i : ℕ) → ◌≡◌ {A = ℕ} (get_or (replicate n 0) i 0) 0
zeros zero i = refl
zeros (suc n) zero = refl
zeros (suc n) (suc i) = zeros n i

-- nothing is in words that are all 0
pub empty : (n v : ℕ) → Member (replicate n 0) v → ⊥
empty n v m = let z : bit_at (get_or (replicate n 0) (v / 64) 0) (v % 64) ≡ 0 = rw (zeros n (v / 64)) (bit_of_zero (v % 64)) in omega arith

empty_each : (n : ℕ) → Below (2 ^ 64) (replicate n 0)
empty_each n i h = omega (arith, zeros n i)

pub empty_words : Words (replicate set_words 0)
empty_words = record { many = length-replicate {A = ℕ} set_words 0; each = empty_each set_words }

-- ---- a vertex added

module _ {words : List ℕ} (v : ℕ) (sound : Words words) (vertex : v < vertex_limit) where
  abbrev bit : ℕ
  bit = (1 * 2 ^ (v % 64)) % 2 ^ 64

  abbrev word : ℕ
  word = bit_or (get_or words (v / 64) 0) bit

  abbrev after : List ℕ
  after = set words (v / 64) word

  inside : v / 64 < length words
  inside = omega (arith, sound.many)

  word_small : word < 2 ^ 64
  word_small = or_lt 64 (get_or words (v / 64) 0) bit (sound.each (v / 64) inside) (omega arith)

  word_has : (k : ℕ) → (bit_at word k ≡ 1) ↔ ((bit_at (get_or words (v / 64) 0) k ≡ 1) ⊎ (k ≡ v % 64))
  word_has k =
      let exact : bit ≡ 1 * 2 ^ (v % 64) = shl_exact 1 (v % 64) 64 (omega arith) (omega arith) in
      let h = or_has (get_or words (v / 64) 0) bit k in (
        λ q. ⊎_elim (λ (p : bit_at (get_or words (v / 64) 0) k ≡ 1). inl p)
            (λ (p : bit_at bit k ≡ 1). inr (power_only (v % 64) k (ap (λ (x : ℕ). bit_at x k) (sym exact) ∙ p))) (h.0 q),
        ⊎_elim (λ (p : bit_at (get_or words (v / 64) 0) k ≡ 1). h.1 (inl p))
            (λ (p : k ≡ v % 64). h.1 (inr (rw (exact, p) (power_has (v % 64))))),
      )

  after_each : Below (2 ^ 64) after
  after_each i h = elim (ℕ_discrete i (v / 64)) [
    | yes q ↦ rw (q, get_or-set_same words (v / 64) word 0 inside) word_small
    | no n ↦ rw (get_or-set_other words (v / 64) i word 0 n) (sound.each i (omega (arith, length-set words (v / 64) word)))
  ]

  member_added : (x : ℕ) → Member after x ↔ (Member words x ⊎ (x ≡ v))
  member_added x = elim (ℕ_discrete (x / 64) (v / 64)) [
    | yes q ↦
        let here : get_or after (x / 64) 0 ≡ word = rw q (get_or-set_same words (v / 64) word 0 inside) in
        let was : get_or words (v / 64) 0 ≡ get_or words (x / 64) 0 = ap (λ (i : ℕ). get_or words i 0) (sym q) in (
          λ m. ⊎_elim (λ (p : bit_at (get_or words (v / 64) 0) (x % 64) ≡ 1). inl (rw was at p))
              (λ (p : x % 64 ≡ v % 64). inr (omega arith)) ((word_has (x % 64)).0 (rw here at m)),
          ⊎_elim (λ (m : Member words x). rw here ((word_has (x % 64)).1 (inl (rw was m))))
              (λ (p : x ≡ v). rw here ((word_has (x % 64)).1 (inr (omega arith)))),
        )
    | no n ↦
        let here : get_or after (x / 64) 0 ≡ get_or words (x / 64) 0 = get_or-set_other words (v / 64) (x / 64) word 0 n in
        (λ m. inl (rw here at m), ⊎_elim (λ (m : Member words x). rw here m) (λ (p : x ≡ v). absurd (n (ap (λ (y : ℕ). y / 64) p))))
  ]

  pub added : Added words after v
  added = record { still = record { many = length-set words (v / 64) word ∙ sound.many; each = after_each }; members = member_added }

-- ---- the number of members

-- each word has at most 64 ones, so their sum is small
pub ones_fit : {words : List ℕ} → Words words → sum_by ones words < 4294967296
ones_fit {words} sound =
    let each : All (λ w. ones w ≤ 64) words = All-from_get_or (λ w. ones w ≤ 64) words 0 (λ i h. ones-le 64 (get_or words i 0) (sound.each i h)) in
    omega (arith, sum_by-le ones 64 words each, sound.many)

-- the library's sum is that of the words one by one
sum_is : (words : List ℕ) → sum_by ones words ≡ ones_of words
sum_is [] = refl
sum_is (w ∷ words) = sum_by-cons ones w words ∙ ap (λ (x : ℕ). ones w + x) (sum_is words)

-- the set of the words but the first, 64 further on
member_next : (w : ℕ) (words : List ℕ) (u : ℕ) → bit_at (get_or (w ∷ words) ((64 + u) / 64) 0) ((64 + u) % 64) ≡ bit_at (get_or words (u / 64) 0) (u % 64)
member_next w words u =
    let place : (64 + u) / 64 ≡ suc (u / 64) = omega arith in
    let digit : (64 + u) % 64 ≡ u % 64 = omega arith in
    rw (place, digit)

-- a member is a bit of the first word, or 64 further on than one of the others
by_word : (w : ℕ) (words : List ℕ) (v : ℕ) → w < 2 ^ 64 → Member (w ∷ words) v ↔ ((bit_at w v ≡ 1) ⊎ ((u : ℕ) × Member words u × (64 + u ≡ v)))
by_word w words v h = elim (dec_lt v 64) [
  | yes l ↦
      let place : v / 64 ≡ zero = omega arith in
      let digit : v % 64 ≡ v = omega arith in
      let here : bit_at (get_or (w ∷ words) (v / 64) 0) (v % 64) ≡ bit_at w v = rw (place, digit) in
      (λ m. inl (sym here ∙ m), ⊎_elim (λ (p : bit_at w v ≡ 1). here ∙ p) (λ (s : (u : ℕ) × Member words u × (64 + u ≡ v)). absurd (omega (arith, s.2))))
  | no n ↦
      let far : v ≡ 64 + (v - 64) = omega arith in (
        λ m. inr (v - 64, sym (member_next w words (v - 64)) ∙ (rw (← far) m), sym far),
        ⊎_elim (λ (p : bit_at w v ≡ 1). absurd (omega (arith, bit_below 64 w v h p)))
            (λ (s : (u : ℕ) × Member words u × (64 + u ≡ v)). rw (← s.2) (member_next w words s.0 ∙ s.1)),
      )
]

-- each word's ones are its members, and the words' members are different
pub members_numbered : (words : List ℕ) → Below (2 ^ 64) words → Numbers (Member words) (ones_of words)
members_numbered [] h =
    numbers_of_list [] refl Distinct.empty
    (λ v. (λ m. absurd (Memᴰ.not-nil m), λ q. absurd (omega (arith, bit_of_zero (v % 64)))))
members_numbered (w ∷ words) h =
    let first : w < 2 ^ 64 = h zero (omega arith) in
    numbers_joined (λ u. 64 + u) (bits_numbered 64 w first) (members_numbered words (λ k g. h (suc k) (omega arith))) (λ a b q. omega arith)
    (λ u q p. omega (arith, bit_below 64 w (64 + u) first p)) (λ v. by_word w words v first)

-- the sum over all words is the size
pub summed : {words : List ℕ} → Words words → {r : ℕ} → r ≡ sum_by ones words → Size words r
summed {words} sound q =
    let all = q ∙ sum_is words in
    record { sum = all; number = rw all (members_numbered words sound.each) }
