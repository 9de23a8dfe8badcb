-- Two walks over one row coincide: what is pending, how many vertices wait, and how far the queue reaches. Assumes nothing.
use Rattle.std.proofs.Common.{ℕ, ◌≤◌, ◌<◌, ◌≡◌, sym, ◌∙◌, ap, List, arith, get_or, ext_get_or}
use native.Mathlib.Decide.{dec_lt}
use Rattle.walking.specs.Walking.{waiters, Walked}
use Rattle.walking.proofs.ShownLaws.{shown_most}

module _ {row parents pending order : List ℕ} {tail k : ℕ} {pending₁ order₁ : List ℕ} {tail₁ waiting₁ : ℕ} {pending₂ order₂ : List ℕ} {tail₂ waiting₂ : ℕ}
    (a : Walked row parents pending order tail k pending₁ order₁ tail₁ waiting₁) (b : Walked row parents pending order tail k pending₂ order₂ tail₂ waiting₂) where
  pub pending_same : pending₁ ≡ pending₂
  pending_same = ext_get_or 0 pending₁ pending₂ (a.same_pending ∙ sym b.same_pending) (λ v l. omega (arith, a.lowered v, b.lowered v))

  -- each vertex of the one queue has a place in the other
  shown : (i : ℕ) → i < tail₁ → (j : ℕ) × (j < tail₂) × (get_or order₂ j 0 ≡ get_or order₁ i 0)
  shown i l =
      elim (dec_lt i tail) [
        | yes m ↦ (i, omega (arith, b.longer), b.kept i m ∙ sym (a.kept i m))
        | no n ↦
            let v = get_or order₁ i 0 in
            b.whole v (a.listed i (omega arith) l) (ap (λ xs. get_or xs v 0) (sym pending_same) ∙ a.none_pending i (omega arith) l)
      ]

  no_more : tail₁ ≤ tail₂
  no_more = shown_most order₁ order₂ tail₁ tail₂ a.apart shown

-- all but the order, of which the queued vertices have a place in both
pub walk_determined : {row parents pending order : List ℕ} {tail k : ℕ} {pending₁ order₁ : List ℕ} {tail₁ waiting₁ : ℕ} {pending₂ order₂ : List ℕ} {tail₂ waiting₂ : ℕ}
    → Walked row parents pending order tail k pending₁ order₁ tail₁ waiting₁ → Walked row parents pending order tail k pending₂ order₂ tail₂ waiting₂
    → (pending₁ ≡ pending₂) × (tail₁ ≡ tail₂) × (waiting₁ ≡ waiting₂)
walk_determined {parents = parents} a b =
    let same = pending_same a b in
    (same, omega (arith, no_more a b, no_more b a), a.waited ∙ ap (λ xs. waiters xs parents) same ∙ sym b.waited)
