-- Folding keeps what reaches what, for vertices that are not interior to the folded superbubble. Assumes nothing.
use Prim.Native.Nat.{ℕ}
use mathlib.Core.Logic.{inl, ⊎_elim}
use Rattle.bubble.specs.Superbubble.{Reaches, Reaches.none, Reaches.then, Interior}
use Rattle.bubble.proofs.Walks.{reaches_append}
use Rattle.rule.specs.Lists.{Graph}
use Rattle.rule.proofs.Thread.{Thread}
use Rattle.rule.proofs.Carry.{stays, Met, met_step}

module _ {E E' : Graph} {s t : ℕ} {N : Graph} (k : Thread E E' s t N) where
  thread_reaches : {u v : ℕ} → Reaches N u v → Reaches E' u v
  thread_reaches none = none
  thread_reaches (then r n) = then (thread_reaches r) (stays k n)

  still : {u v : ℕ} → (Interior E s t u → ⊥) → Reaches E u v → Met k (Reaches E' u) (Reaches E' u s) v
  still out none = inl (none, out)
  still {u} out (then r e) =
      met_step k (Reaches E' u) (Reaches E' u) e (λ e' h p q. then h e') (λ q h. rw q at h)
      (λ q h. rw q (reaches_append h (thread_reaches k.whole))) (still out r)

  pub still_reaches : {u v : ℕ} → (Interior E s t u → ⊥) → (Interior E s t v → ⊥) → Reaches E u v → Reaches E' u v
  still_reaches out far r = ⊎_elim (λ h. h.0) (λ h. absurd (far h.0)) (still out r)
