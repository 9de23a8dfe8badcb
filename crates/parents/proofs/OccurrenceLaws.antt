-- Laws of how often a vertex stands in a list. Assumes nothing.
use Rattle.std.proofs.Common.{ℕ, zero, suc, ◌+◌, ◌≤◌, ◌<◌, ◌≡◌, ◌≢◌, cond, List, [], ◌∷◌, ◌++◌, not-suc-le-zero, le_of_suc-le-suc, add-one, arith, eq-eqb, ne_eqb, length, get_or, take, take-suc, eqb}
use native.Mathlib.Decide.{ℕ_discrete, dec_lt}
use Rattle.table.specs.Table.{In}
use Rattle.parents.specs.Parents.{occurrences}

-- 1 if x is v, else 0
abbrev pub same : ℕ → ℕ → ℕ
same x v = cond (eqb x v) 1 0

pub same_yes : (x v : ℕ) → x ≡ v → same x v ≡ 1
same_yes x v q = rw (eq-eqb x v q)

pub same_no : (x v : ℕ) → x ≢ v → same x v ≡ 0
same_no x v n = rw (ne_eqb x v n)

pub occurrences_append : (v : ℕ) (xs ys : List ℕ) → occurrences v (xs ++ ys) ≡ occurrences v xs + occurrences v ys
occurrences_append v [] ys = omega arith
occurrences_append v (x ∷ xs) ys = omega (arith, occurrences_append v xs ys)

pub occurrences_most : (v : ℕ) (xs : List ℕ) → occurrences v xs ≤ length xs
occurrences_most v [] = omega arith
occurrences_most v (x ∷ xs) =
    elim (ℕ_discrete x v) [
      | yes q ↦ omega (arith, same_yes x v q, occurrences_most v xs)
      | no n ↦ omega (arith, same_no x v n, occurrences_most v xs)
    ]

-- one number more of a list
pub occurrences_more : (v : ℕ) (xs : List ℕ) (k : ℕ) → k < length xs → occurrences v (take (k + 1) xs) ≡ occurrences v (take k xs) + same (get_or xs k 0) v
occurrences_more v xs k h = rw (add-one k, take-suc xs k 0 h, occurrences_append) (omega arith)

-- the first k of a list have no more than the list
pub occurrences_least : (v k : ℕ) (xs : List ℕ) → occurrences v (take k xs) ≤ occurrences v xs
occurrences_least v zero xs = omega arith
occurrences_least v (suc k) [] = omega arith
occurrences_least v (suc k) (x ∷ xs) = omega (arith, occurrences_least v k xs)

-- what stands in a list occurs in it
pub in_occurs : {v : ℕ} {xs : List ℕ} → In v xs → 0 < occurrences v xs
in_occurs {v} {xs} i = at xs i.place i.inside i.stands
  where
    at : (xs : List ℕ) (k : ℕ) → k < length xs → get_or xs k 0 ≡ v → 0 < occurrences v xs
    at [] k h q = absurd (not-suc-le-zero h)
    at (x ∷ xs) zero h q = omega (arith, same_yes x v q)
    at (x ∷ xs) (suc k) h q = omega (arith, at xs k (le_of_suc-le-suc h) q)

-- what occurs in a list stands in it
pub occurs_in : (v : ℕ) (xs : List ℕ) → 0 < occurrences v xs → In v xs
occurs_in v [] h = absurd (omega arith)
occurs_in v (x ∷ xs) h =
    elim (ℕ_discrete x v) [
      | yes q ↦ record { place = 0; inside = omega arith; stands = q }
      | no n ↦
          let i = occurs_in v xs (omega (arith, same_no x v n)) in
          record { place = suc i.place; inside = omega (arith, i.inside); stands = i.stands }
    ]

-- so it is decided whether it does
pub in_decided : (v : ℕ) (list : List ℕ) → Dec (In v list)
in_decided v list =
    elim (dec_lt 0 (occurrences v list)) [
      | yes h ↦ yes (occurs_in v list h)
      | no n ↦ no (λ i. n (in_occurs i))
    ]
