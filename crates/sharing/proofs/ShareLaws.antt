-- Laws of sharing: the next vertex of the path has room for its portion, and with it one place more is shared. Assumes nothing.
use Rattle.std.proofs.Common.{ℕ, zero, suc, ◌+◌, ◌≤◌, ◌<◌, ◌≡◌, refl, sym, ap, ◌∙◌, List, ◌∷◌, add-one, arith, length, get_or, set, length-set, get_or-set_same, get_or-set_other}
use native.Mathlib.Decide.{ℕ_discrete}
use Rattle.table.specs.Limits.{read_limit}
use Rattle.table.proofs.SumLaws.{count_most}
use Rattle.bubble.proofs.Pigeonhole.{getD_in}
use Rattle.rule.specs.Fold.{to_each}
use Rattle.rule.proofs.Shares.{to_each_most}
use Rattle.sharing.specs.Sharing.{onward, Shareable, Shared}

pub length_onward : (next : List ℕ) (v k : ℕ) → length (onward next v k) ≡ k
length_onward next v zero = refl
length_onward next v (suc k) = omega (arith, length_onward next (get_or next v 0) k)

-- each is the next of the one before it
pub onward_next : (next : List ℕ) (v k j : ℕ) → j < k → get_or (onward next v k) j 0 ≡ get_or next (get_or (v ∷ onward next v k) j 0) 0
onward_next next v zero j h = absurd (omega arith)
onward_next next v (suc k) zero h = refl
onward_next next v (suc k) (suc j) h = onward_next next (get_or next v 0) k j (omega arith)

module _ {counts next out : List ℕ} {s k d : ℕ} (p : Shareable counts next out s k d) (j : ℕ) (h : j < k) where
  abbrev here : ℕ
  here = get_or (onward next s k) j 0

  -- where the path stands before place j, and the vertex of place j
  pub before_below : get_or (s ∷ onward next s k) j 0 < length counts
  before_below = p.below j (omega (arith, length_onward next s k))

  pub here_below : here < length counts
  here_below = p.below (suc j) (omega (arith, length_onward next s k))

  -- a count and the portion of this place fit
  pub portion_fits : (v : ℕ) → v < length counts → get_or counts v 0 + to_each d k j ≤ read_limit + read_limit
  portion_fits v l = omega (arith, to_each_most d k j h, p.dropped_fits, count_most counts v l, p.sum_fits)

  -- it stands one place after where the path stood before
  pub here_stands : here ≡ get_or (s ∷ onward next s k) (j + 1) 0
  here_stands = sym (ap (λ x. get_or (s ∷ onward next s k) x 0) (add-one j))

  pub share_more : {out₁ : List ℕ} {v r : ℕ} → v ≡ here → r ≡ to_each d k j → Shared counts next out s k d j out₁ → Shared counts next out s k d (j + 1) (set out₁ v (get_or counts v 0 + r))
  share_more {out₁} q e w = rw (q, e) (record {
    added = λ i l.
        elim (ℕ_discrete i j) [
          | yes z ↦ rw z (get_or-set_same out₁ here more 0 (omega (arith, here_below, p.out_room, w.same_out)))
          | no n ↦ get_or-set_other out₁ here (get_or (onward next s k) i 0) more 0 (λ z. n (p.apart i j (omega arith) h z)) ∙ w.added i (omega arith)
        ];
    elsewhere = λ x n. get_or-set_other out₁ here x more 0 (λ z. n (rw z (getD_in (onward next s k) j (omega (arith, length_onward next s k))))) ∙ w.elsewhere x n;
    same_out = length-set out₁ here more ∙ w.same_out;
  })
    where
      more : ℕ
      more = get_or counts here 0 + to_each d k j
