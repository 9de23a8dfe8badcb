-- Laws of what stands among the first of a list. Assumes nothing.
use Rattle.std.proofs.Common.{ℕ, ◌≤◌, ◌<◌, ◌≡◌, sym, ◌∙◌, ◌≢◌, List, arith, length, get_or, take, length-take, get_or-take, length-take-le, ext_get_or}
use native.Mathlib.Decide.{dec_lt}
use Rattle.table.specs.Table.{In}
use Rattle.parents.specs.Parents.{occurrences}
use Rattle.parents.proofs.OccurrenceLaws.{occurs_in}

-- a place below k, as a place of the first k
pub in_take : (xs : List ℕ) (k i : ℕ) → i < k → k ≤ length xs → In (get_or xs i 0) (take k xs)
in_take xs k i h l = record { place = i; inside = omega (arith, length-take k xs); stands = get_or-take k xs i 0 h }

-- what stands among the first k has a place below k
pub take_in : (v : ℕ) (xs : List ℕ) (k : ℕ) → k ≤ length xs → In v (take k xs) → (i : ℕ) × (i < k) × (get_or xs i 0 ≡ v)
take_in v xs k l i =
    let h : i.place < k = omega (arith, length-take k xs, i.inside) in
    (i.place, h, rw (get_or-take k xs i.place 0 h) at i.stands)

-- lists that agree below k have the same first k
pub take_same : (xs ys : List ℕ) (k : ℕ) → k ≤ length xs → k ≤ length ys → ((i : ℕ) → i < k → get_or xs i 0 ≡ get_or ys i 0) → take k xs ≡ take k ys
take_same xs ys k l m h =
    ext_get_or 0 (take k xs) (take k ys) (length-take-le k xs l ∙ sym (length-take-le k ys m))
    (λ i b. let n : i < k = omega (arith, length-take-le k xs l) in get_or-take k xs i 0 n ∙ h i n ∙ sym (get_or-take k ys i 0 n))

-- where the first k and the next are apart, the next does not occur among the first k
pub apart_new : (xs : List ℕ) (k : ℕ) → k < length xs → ((i : ℕ) → i < k → get_or xs i 0 ≢ get_or xs k 0) → occurrences (get_or xs k 0) (take k xs) ≡ 0
apart_new xs k l h =
    elim (dec_lt 0 (occurrences (get_or xs k 0) (take k xs))) [
      | yes m ↦ let (i, b, q) = take_in (get_or xs k 0) xs k (omega arith) (occurs_in (get_or xs k 0) (take k xs) m) in absurd (h i b q)
      | no n ↦ omega arith
    ]
