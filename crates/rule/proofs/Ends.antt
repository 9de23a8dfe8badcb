-- Where a fold ends: with a budget of all candidates none is left, and a fold where there is none, or with budget 0, gives back its input. Assumes nothing.
use Prim.Native.Nat.{ℕ, ◌≤◌}
use mathlib.Core.Path.{◌≡◌}
use mathlib.Core.List.{List, Memᴰ}
use lib.ListN.{length, drop, drop_of_length-le}
use Rattle.rule.specs.Lists.{Graph, CandidateSet, Counts, Listing, Same}
use Rattle.rule.specs.Fold.{Rule, Item, Entrance, Applied}
use Rattle.rule.specs.Laws.{RuleLaws, CandidateLaws}
use Rattle.rule.proofs.Listings.{listing_unique}
use Rattle.rule.proofs.Remaining.{remaining_listed}

-- where the budget reaches the number of candidates, no candidate is left
pub none_left : {G : Graph → Type 0} {C : CandidateSet} {R : Rule} {E E' : Graph} {c c' : Counts} {b : ℕ} {l : List ℕ} → CandidateLaws G C
    → RuleLaws R → G E → Applied C R E c b E' c'
    → Listing (Entrance C E) l → length l ≤ b → (s t : ℕ) → C E' s t → ⊥
none_left {b = b} {l = l} L M g a k h s t d =
    let q : drop b a.candidates ≡ drop b l = rw (listing_unique a.listed k) in
    let m : Memᴰ s (drop b l) = rw q at (((remaining_listed L M g a).holds s).1 (t, d)) in
    mathlib.Core.List.Memᴰ.not-nil (rw (drop_of_length-le l h) at m)

no_item_changes_nothing : {C : CandidateSet} {R : Rule} {E E' : Graph} {c c' : Counts} {b : ℕ} (a : Applied C R E c b E' c')
    → ((i : Item) → Memᴰ i a.items → ⊥) → Same E' E c' c
no_item_changes_nothing a none = record {
  edges = λ u v. (λ e. ((a.edges u v).0 e).0, λ e. (a.edges u v).1 (e, λ i m. absurd (none i m)));
  counts = λ v. a.untouched v (λ i m. absurd (none i m));
}

-- a fold where there is no candidate gives back its input
pub nothing_changes : {C : CandidateSet} {R : Rule} {E E' : Graph} {c c' : Counts} {b : ℕ} → ((s t : ℕ) → C E s t → ⊥) → Applied C R E c b E' c' → Same E' E c' c
nothing_changes n a = no_item_changes_nothing a (λ i m. n i.entrance i.exit (a.fit i m).candidate)

-- so does a fold with budget 0
pub budget_zero : {C : CandidateSet} {R : Rule} {E E' : Graph} {c c' : Counts} → Applied C R E c 0 E' c' → Same E' E c' c
budget_zero a = no_item_changes_nothing a (λ i m. mathlib.Core.List.Memᴰ.not-nil (rw a.first at (mathlib.Core.List.Memᴰ.map (λ (x : Item). x.entrance) m)))
