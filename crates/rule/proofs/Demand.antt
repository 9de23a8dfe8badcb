-- Demand 3, for every lawful rule and set of candidates, and for those of docs/RULES.md, Fold, in every graph without a cycle whose edges lie below n. Assumes nothing.
use Prim.Native.Nat.{ℕ, ◌≤◌}
use mathlib.Core.Path.{◌≡◌}
use mathlib.Core.List.{List}
use lib.ListN.{length}
use Rattle.bubble.specs.Superbubble.{Interior, Superbubble}
use Rattle.bubble.proofs.Number.{Below}
use Rattle.rule.specs.Lists.{Graph, CandidateSet, Counts, Listing, total, Same}
use Rattle.rule.specs.Fold.{Rule, NoCycle, Candidate, Entrance, GraphFolded, InTurn, budgets_sum}
use Rattle.rule.specs.Laws.{RuleLaws, CandidateLaws}
use Rattle.rule.proofs.Coincide.{applied_same}
use Rattle.rule.proofs.Budgets.{in_turn_applied}
use Rattle.rule.proofs.Total.{total_kept}
use Rattle.rule.proofs.Ends.{none_left, nothing_changes}
use Rattle.rule.proofs.Candidates.{candidate_laws}
use Rattle.rule.proofs.Outermost.{no_interior}

module _ {G : Graph → Type 0} {C : CandidateSet} {R : Rule} (L : CandidateLaws G C) (M : RuleLaws R) {E E' : Graph} {c c' : Counts} {budgets : List ℕ}
    (kind : G E) (turns : InTurn C R E c budgets E' c') where
  -- folding with any budgets in turn gives the same as one fold with their sum
  pub as_once : {E'' : Graph} {c'' : Counts} {folded left : ℕ} → GraphFolded C R E c (budgets_sum budgets) E'' c'' folded left → Same E' E'' c' c''
  as_once f = applied_same L M (in_turn_applied L M kind turns) f.applied

  -- the total never moves
  pub total_stays : (n : ℕ) → Below E n → total c' n ≡ total c n
  total_stays = total_kept L M kind (in_turn_applied L M kind turns)

  -- once the budgets reach the number of candidates of the first graph no candidate is left
  pub no_candidate : {l : List ℕ} → Listing (Entrance C E) l → length l ≤ budgets_sum budgets → (s t : ℕ) → C E' s t → ⊥
  no_candidate = none_left L M kind (in_turn_applied L M kind turns)

  -- and a further fold with any budget gives back its input
  pub gives_back : {l : List ℕ} → Listing (Entrance C E) l → length l ≤ budgets_sum budgets
      → {E'' : Graph} {c'' : Counts} {budget folded left : ℕ} → GraphFolded C R E' c' budget E'' c'' folded left → Same E'' E' c'' c'
  gives_back k h f = nothing_changes (no_candidate k h) f.applied

-- the candidates of docs/RULES.md, Fold
module _ {R : Rule} (M : RuleLaws R) {E E' : Graph} {c c' : Counts} {budgets : List ℕ} (n : ℕ) (below : Below E n) (acyclic : NoCycle E)
    (turns : InTurn Candidate R E c budgets E' c') where
  -- Once the budgets reach the number of outermost superbubbles with an interior of the first graph, no superbubble with an interior is left,
  pub none_with_interior : {l : List ℕ} → Listing (Entrance Candidate E) l → length l ≤ budgets_sum budgets → (s t : ℕ) → Superbubble E' s t → (v : ℕ)
      → Interior E' s t v → ⊥
  none_with_interior k h =
      let fewer : Below E' n = λ u v e. below u v (((in_turn_applied candidate_laws M acyclic turns).edges u v).0 e).0 in
      no_interior fewer (no_candidate candidate_laws M acyclic turns k h)
