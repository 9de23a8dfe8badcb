-- Laws of the counts' sum over the counts passed so far. Assumes nothing.
use Prim.Native.Nat.{ℕ, zero, suc, ◌+◌, ◌≤◌, ◌<◌, zero-le}
use mathlib.Core.Path.{◌≡◌}
use mathlib.Core.List.{List, [], ◌∷◌}
use native.Mathlib.Nat.{not-suc-le-zero, le_of_suc-le-suc}
use native.Mathlib.Numerals.{add-one}
use native.Mathlib.Omega.{arith}
use lib.ListN.{length, get_or, take}
use Rattle.table.specs.Table.{count_sum}

passed_suc : (xs : List ℕ) (v : ℕ) → v < length xs → count_sum (take (suc v) xs) ≡ count_sum (take v xs) + get_or xs v 0
passed_suc [] v h = absurd (not-suc-le-zero h)
passed_suc (x ∷ xs) zero h = omega arith
passed_suc (x ∷ xs) (suc v) h = omega (arith, passed_suc xs v (le_of_suc-le-suc h))

-- one count more
pub passed_more : (xs : List ℕ) (v : ℕ) → v < length xs → count_sum (take (v + 1) xs) ≡ count_sum (take v xs) + get_or xs v 0
passed_more xs v h = rw (add-one v) (passed_suc xs v h)

-- what was passed is no more than the whole
pub passed_least : (v : ℕ) (xs : List ℕ) → count_sum (take v xs) ≤ count_sum xs
passed_least zero xs = zero-le
passed_least (suc v) [] = zero-le
passed_least (suc v) (x ∷ xs) = omega (arith, passed_least v xs)

-- no count is above the sum
pub count_most : (xs : List ℕ) (v : ℕ) → v < length xs → get_or xs v 0 ≤ count_sum xs
count_most xs v h = omega (arith, passed_more xs v h, passed_least (v + 1) xs)
