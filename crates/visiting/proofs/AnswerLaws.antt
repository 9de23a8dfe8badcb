-- The answer of a visit is determined by what was handed in. Assumes nothing.
use Rattle.std.proofs.Common.{ℕ, ◌≡◌, refl, ⊎_elim, Bool, true, false, List, arith}
use Rattle.visiting.specs.Visits.{Followed, Safe, Safe.safe, Visitable, RootDone, LeadsToCycle, VisitAnswer}
use Rattle.visiting.specs.declared.Turn.{Turn}
use Rattle.visiting.proofs.SafeLaws.{safe_leads_to_none}

module _ {starts targets colours : List ℕ} {path : List Turn} {root : ℕ} (can : Visitable starts targets colours path root) (from to : ℕ) where
  -- a root that is visited is safe: no edge of one that was done is followed
  root_safe : {colours' : List ℕ} {path' : List Turn} → RootDone starts targets colours from to root colours' path' → Safe (Followed starts targets colours from to) root
  root_safe was =
      ⊎_elim (λ q. was.done_safe root can.vertex q was.done) (λ h. safe {v = root} (λ w e. absurd (omega (arith, e.leaves, h)))) (can.prepared.none_on_path root can.vertex)

  -- so it leads to no cycle
  none_led_to : {colours' : List ℕ} {path' : List Turn} → LeadsToCycle (Followed starts targets colours from to) root → RootDone starts targets colours from to root colours' path' → ⊥
  none_led_to cycle was = safe_leads_to_none (root_safe was) cycle

  -- whatever is left in the room to work in
  pub visit_answer_unique : (colours₁ : List ℕ) (path₁ : List Turn) (colours₂ : List ℕ) (path₂ : List Turn) (r₁ r₂ : Bool) → VisitAnswer r₁ starts targets colours from to root colours₁ path₁
      → VisitAnswer r₂ starts targets colours from to root colours₂ path₂ → r₁ ≡ r₂
  visit_answer_unique colours₁ path₁ colours₂ path₂ true true a b = refl
  visit_answer_unique colours₁ path₁ colours₂ path₂ true false a b = absurd (none_led_to a b)
  visit_answer_unique colours₁ path₁ colours₂ path₂ false true a b = absurd (none_led_to b a)
  visit_answer_unique colours₁ path₁ colours₂ path₂ false false a b = refl
