-- Folding with one or more budgets in turn is folding once with their sum. Assumes nothing.
use Prim.Native.Nat.{ℕ}
use mathlib.Core.Path.{refl}
use mathlib.Core.List.{List}
use native.Mathlib.Nat.{add-zero}
use lib.ListN.{length, drop}
use Rattle.rule.specs.Lists.{Graph, CandidateSet, Counts}
use Rattle.rule.specs.Fold.{Rule, Applied, GraphFolded, InTurn, InTurn.once, InTurn.then, budgets_sum}
use Rattle.rule.specs.Laws.{RuleLaws, CandidateLaws}
use Rattle.rule.proofs.Remaining.{remaining_listed}
use Rattle.rule.proofs.Compose.{budgets_add}

module _ {G : Graph → Type 0} {C : CandidateSet} {R : Rule} (L : CandidateLaws G C) (M : RuleLaws R) where
  -- what a fold returns is determined by what it does
  pub folded_of : {E E' : Graph} {c c' : Counts} {b : ℕ} → G E → (a : Applied C R E c b E' c')
      → GraphFolded C R E c b E' c' (length a.items) (length (drop b a.candidates))
  folded_of {b = b} g a = record { applied = a; how_many = refl; remaining = (drop b a.candidates, remaining_listed L M g a, refl) }

  -- the kind of graph stays
  pub applied_kind : {E E' : Graph} {c c' : Counts} {b : ℕ} → G E → Applied C R E c b E' c' → G E'
  applied_kind g a = L.fewer (λ u v e. ((a.edges u v).0 e).0) g

  pub in_turn_applied : {E E' : Graph} {c c' : Counts} {budgets : List ℕ} → G E → InTurn C R E c budgets E' c' → Applied C R E c (budgets_sum budgets) E' c'
  in_turn_applied g (once f) = rw add-zero f.applied
  in_turn_applied g (then f r) = budgets_add L M g f.applied (in_turn_applied (applied_kind g f.applied) r)
