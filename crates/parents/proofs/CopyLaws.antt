-- Laws of a loop that copies numbers one by one. Assumes nothing.
use Rattle.std.proofs.Common.{ℕ, ◌+◌, ◌≤◌, ◌<◌, ◌≡◌, refl, sym, ◌∙◌, List, arith, length, get_or, set, length-set, get_or-set_same, get_or-set_other, ext_get_or}
use native.Mathlib.Decide.{ℕ_discrete}

-- the first k numbers are copied, over a list as long as before
pub record Copied (from out : List ℕ) (k : ℕ) (out' : List ℕ) : Type 0 where
  pub same : length out' ≡ length out
  pub copied : (i : ℕ) → i < k → get_or out' i 0 ≡ get_or from i 0

pub copied_none : {from out : List ℕ} → Copied from out 0 out
copied_none = record { same = refl; copied = λ i l. omega arith }

-- one number more, at a place i that is the next one
pub copied_more : {from out out' : List ℕ} {i k : ℕ} → i < length out' → i ≡ k → Copied from out k out' → Copied from out (k + 1) (set out' i (get_or from i 0))
copied_more {from} {out} {out'} {i} {k} h next c =
    record {
      same = length-set out' i (get_or from i 0) ∙ c.same;
      copied = λ j l. elim (ℕ_discrete i j) [
        | yes q ↦ rw (← q) (get_or-set_same out' i (get_or from i 0) 0 h)
        | no n ↦ get_or-set_other out' i j (get_or from i 0) 0 (λ e. n (sym e)) ∙ c.copied j (omega (arith, next, n))
      ];
    }

-- all numbers
pub copied_all : {from out out' : List ℕ} {k : ℕ} → length out ≡ length from → length from ≤ k → Copied from out k out' → out' ≡ from
copied_all {from} {out} {out'} same all c = ext_get_or 0 out' from (c.same ∙ same) (λ i l. c.copied i (omega (arith, c.same)))
