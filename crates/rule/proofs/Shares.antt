-- Laws of sharing a dropped sum over the inner vertices of a kept path: the first places, as many as the remainder, get one more than the others, and the portions come to the whole.
-- Assumes nothing.
use Prim.Native.Nat.{ℕ, zero, suc, ◌+◌, ◌*◌, ◌/◌, ◌%◌, ◌≤◌, ◌<◌}
use mathlib.Core.Path.{◌≡◌}
use mathlib.Core.Logic.{if_pos, if_neg}
use native.Mathlib.Nat.{suc-mul, mul_comm, mod-lt, div-add-mod'}
use native.Mathlib.Omega.{arith}
use native.Mathlib.Decide.{ℕ_discrete, dec_lt}
use Rattle.rule.specs.Lists.{Counts, total}
use Rattle.rule.specs.Fold.{one_more, to_each}

pub one_more_first : (r j : ℕ) → j < r → one_more r j ≡ 1
unfolding one_more
one_more_first r j h = if_pos (dec_lt j r) h 1 0

pub one_more_after : (r j : ℕ) → r ≤ j → one_more r j ≡ 0
unfolding one_more
one_more_after r j h = if_neg (dec_lt j r) (λ l. omega (arith, l)) 1 0

-- n places that each get q and one more
all_first : (q r n : ℕ) → n ≤ r → total (λ j. q + one_more r j) n ≡ n * q + n
all_first q r zero h = omega arith
all_first q r (suc n) h = omega (arith, one_more_first r n h, all_first q r n (omega arith), suc-mul n q)

-- n places that each get q, and the first r of them one more
some_first : (q r n : ℕ) → r ≤ n → total (λ j. q + one_more r j) n ≡ n * q + r
some_first q r zero h = omega arith
some_first q r (suc n) h =
    elim (dec_lt n r) [
      | yes l ↦ omega (arith, all_first q r (suc n) l)
      | no m ↦ omega (arith, one_more_after r n (omega arith), some_first q r n (omega arith), suc-mul n q)
    ]

-- the portions come to the whole
pub to_each_whole : (d k : ℕ) → 0 < k → total (to_each d k) k ≡ d
to_each_whole d k h = omega (arith, some_first (d / k) (d % k) k (omega (arith, mod-lt d h)), div-add-mod' d k, mul_comm k (d / k))

part_most : (p : Counts) (j n : ℕ) → j < n → p j ≤ total p n
part_most p j zero h = absurd (omega arith)
part_most p j (suc n) h = elim (ℕ_discrete j n) [ yes q ↦ rw q (omega arith) | no m ↦ omega (arith, part_most p j n (omega arith)) ]

-- and none is more than the whole
pub to_each_most : (d k j : ℕ) → j < k → to_each d k j ≤ d
to_each_most d k j h = omega (arith, part_most (to_each d k) j k h, to_each_whole d k (omega arith))
