-- Laws of the counts of different vertices: their sum is at most that of all counts. Assumes nothing.
use Rattle.std.proofs.Common.{ℕ, zero, suc, ◌+◌, ◌≤◌, ◌<◌, ◌≡◌, refl, sym, ap, List, [], ◌∷◌}
use Rattle.std.proofs.Common.{not-suc-le-zero, le_of_suc-le-suc, arith, length, get_or, set, drop, length-set, drop-cons, get_or-set_other}
use mathlib.Core.List.Memᴰ
use mathlib.Core.List.{Memᴰ}
use Rattle.table.specs.Table.{count_sum}
use Rattle.bubble.specs.Distinct.{Distinct, Distinct.empty, Distinct.fresh}
use Rattle.rule.specs.Lists.{Counts, sum}
use Rattle.rule.specs.Tables.{count_of}
use Rattle.rule.proofs.Sums.{sum_same}

-- the sum less one count
taken_out : (counts : List ℕ) (v : ℕ) → v < length counts → count_sum counts ≡ get_or counts v 0 + count_sum (set counts v 0)
taken_out [] v h = absurd (not-suc-le-zero h)
taken_out (x ∷ xs) zero h = omega arith
taken_out (x ∷ xs) (suc v) h = omega (arith, taken_out xs v (le_of_suc-le-suc h))

pub distinct_sum : (counts : List ℕ) {l : List ℕ} → Distinct l → ((v : ℕ) → Memᴰ v l → v < length counts) → sum (count_of counts) l ≤ count_sum counts
distinct_sum counts empty h = omega arith
distinct_sum counts (fresh {a = a} {l = l} n d) h =
    let less = set counts a 0 in
    let same : sum (count_of counts) l ≡ sum (count_of less) l = sum_same l (λ v m. sym (get_or-set_other counts a v 0 0 (λ q. n (Memᴰ.cast (sym q) m)))) in
    let rest : sum (count_of less) l ≤ count_sum less = distinct_sum less d (λ v m. rw (length-set counts a 0) (h v (Memᴰ.tail m))) in
    omega (arith, same, rest, taken_out counts a (h a (Memᴰ.head refl)))

-- the sum from a place on: that place's count and the rest
pub sum_from : (c : Counts) (l : List ℕ) (j : ℕ) → j < length l → sum c (drop j l) ≡ c (get_or l j 0) + sum c (drop (suc j) l)
sum_from c l j h = ap (sum c) (drop-cons l j 0 h)

-- a later start has no more
pub sum_later : (c : Counts) (l : List ℕ) (i j : ℕ) → i ≤ j → sum c (drop j l) ≤ sum c (drop i l)
sum_later c l zero zero h = omega arith
sum_later c [] zero (suc j) h = omega arith
sum_later c (x ∷ l) zero (suc j) h = omega (arith, sum_later c l zero j (omega arith))
sum_later c l (suc i) zero h = absurd (not-suc-le-zero h)
sum_later c [] (suc i) (suc j) h = omega arith
sum_later c (x ∷ l) (suc i) (suc j) h = sum_later c l i j (le_of_suc-le-suc h)
