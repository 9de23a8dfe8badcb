-- What a child is worth, and how a gain grows with what follows. Assumes nothing.
use Prim.Native.Nat.{ℕ, ◌+◌, ◌≤◌}
use mathlib.Core.Path.{◌≡◌, sym, ap, ◌∙◌}
use mathlib.Core.Logic.{◌≢◌, if_pos, if_neg}
use native.Mathlib.Omega.{arith}
use native.Mathlib.Decide.{ℕ_discrete}
use Rattle.rule.specs.Lists.{Counts}
use Rattle.rule.specs.Next.{gain, worth}
use Rattle.rule.specs.declared.Choosing.{Choosing}
use Rattle.rule.specs.declared.Choosing.TheVariants.{Sum, Weakest}

pub worth_exit : (by : Choosing) (c : Counts) (end : ℕ) (best : ℕ → ℕ) {t u : ℕ} → u ≡ t → worth by c t end best u ≡ end
unfolding worth
worth_exit by c end best {t} {u} q = if_pos (ℕ_discrete u t) q end (gain by (c u) (best u))

pub worth_other : (by : Choosing) (c : Counts) (end : ℕ) (best : ℕ → ℕ) {t u : ℕ} → u ≢ t → worth by c t end best u ≡ gain by (c u) (best u)
unfolding worth
worth_other by c end best {t} {u} n = if_neg (ℕ_discrete u t) n end (gain by (c u) (best u))

-- it rests on the best from u alone
pub worth_same : (by : Choosing) (c : Counts) (end : ℕ) {t u : ℕ} (best best' : ℕ → ℕ) → (u ≢ t → best u ≡ best' u) → worth by c t end best u ≡ worth by c t end best' u
worth_same by c end {t} {u} best best' h =
    elim (ℕ_discrete u t) [
      | yes q ↦ worth_exit by c end best q ∙ sym (worth_exit by c end best' q)
      | no n ↦ worth_other by c end best n ∙ ap (gain by (c u)) (h n) ∙ sym (worth_other by c end best' n)
    ]

pub gain_grows : (by : Choosing) (count : ℕ) {a b : ℕ} → a ≤ b → gain by count a ≤ gain by count b
gain_grows Sum count h = omega arith
gain_grows Weakest count h = omega arith

-- a gain is at most the count and what follows
pub gain_most : (by : Choosing) (count best : ℕ) → gain by count best ≤ count + best
gain_most Sum count best = omega arith
gain_most Weakest count best = omega arith
