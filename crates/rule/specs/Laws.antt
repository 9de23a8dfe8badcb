-- The laws that a rule, a set of candidates and a way of folding must meet. Demand 3 holds for every rule and every set of candidates that do. Assumes nothing.
use Rattle.std.specs.Prelude.{ℕ, ◌≤◌, ◌<◌, ◌≡◌, ◌≢◌, ◌↔◌}
use mathlib.Core.List.{List, [], Memᴰ}
use Rattle.table.specs.Verdict.{AllMet, NeverZero}
use Rattle.table.specs.Table.{Rows, edges}
use Rattle.bubble.specs.Superbubble.{F, Interior, Reaches, Superbubble}
use Rattle.rule.specs.Lists.{Graph, CandidateSet, Counts, total}
use Rattle.rule.specs.Kept.{Arm}
use Rattle.rule.specs.Fold.{Rule, Stays}
use Rattle.rule.specs.Way.{Way}

-- two graphs look the same from inside s, t: the same U and the same edges in it
pub record SameInside (E E' : Graph) (s t : ℕ) : Type 0 where
  pub set : (v : ℕ) → F E s t v ↔ F E' s t v
  pub edges : (u v : ℕ) → F E s t u → F E s t v → E u v ↔ E' u v

pub record RuleLaws (R : Rule) : Type 1 where
  -- what is kept is a path
  pub path : {E : Graph} {c : Counts} {s t : ℕ} {l : List ℕ} → Superbubble E s t → R.keeps E c s t l → Arm E s t l
  -- and there is only one
  pub one : {E : Graph} {c : Counts} {s t : ℕ} {l k : List ℕ} → Superbubble E s t → R.keeps E c s t l → R.keeps E c s t k → l ≡ k
  -- the rule looks only at U's edges and the interior counts
  pub local : {E E' : Graph} {c c' : Counts} {s t : ℕ} {l : List ℕ} → Superbubble E s t → SameInside E E' s t
      → ((v : ℕ) → Interior E s t v → c v ≡ c' v) → R.keeps E c s t l → R.keeps E' c' s t l
  -- the bare edge is kept only if every interior count is 0
  pub bare : {E : Graph} {c : Counts} {s t : ℕ} → Superbubble E s t → R.keeps E c s t [] → (v : ℕ) → Interior E s t v → c v ≡ 0
  -- the portions of a dropped sum come to that sum
  pub whole : (d k : ℕ) → 0 < k → total (R.portion d k) k ≡ d

-- for a rule that keeps the best path all but the sharing follows from two facts about the score
pub record ScoreLaws (score : Counts → List ℕ → ℕ) : Type 0 where
  -- it depends on the path's own counts alone
  pub own : {c d : Counts} (l : List ℕ) → ((v : ℕ) → Memᴰ v l → c v ≡ d v) → score c l ≡ score d l
  -- a path no better than the bare edge has only counts of 0
  pub bare : (c : Counts) (l : List ℕ) → score c l ≤ score c [] → (v : ℕ) → Memᴰ v l → c v ≡ 0

-- E' is E with the arm of s, t folded
abbrev pub OneFolded : Graph → ℕ → ℕ → List ℕ → Graph → Type 0
OneFolded E s t l E' = (u v : ℕ) → E' u v ↔ (E u v × Stays E s t l u v)

-- C says what the candidates of a graph are; the laws hold in the graphs with G
pub record CandidateLaws (G : Graph → Type 0) (C : CandidateSet) : Type 1 where
  -- a graph with fewer edges is of the same kind
  pub fewer : {E E' : Graph} → ((u v : ℕ) → E' u v → E u v) → G E → G E'
  -- only which edges there are counts
  pub same : {E E' : Graph} {s t : ℕ} → G E → ((u v : ℕ) → E u v ↔ E' u v) → C E s t → C E' s t
  -- a candidate is a superbubble with an interior
  pub superbubble : {E : Graph} {s t : ℕ} → C E s t → Superbubble E s t
  pub interior : {E : Graph} {s t : ℕ} → C E s t → (v : ℕ) × Interior E s t v
  -- a candidate with a bare edge from entrance to exit is on no cycle
  pub passed_once : {E : Graph} {s t : ℕ} → G E → C E s t → E s t → Reaches E t s → ⊥
  -- a vertex interior to a candidate lies in no other candidate
  pub apart : {E : Graph} {s t x y v : ℕ} → G E → C E s t → C E x y → s ≢ x → Interior E s t v → F E x y v → ⊥
  -- the candidates after one is folded are the others
  pub others : {E E' : Graph} {s t : ℕ} {l : List ℕ} → G E → C E s t → Arm E s t l → OneFolded E s t l E' → (x y : ℕ) → C E' x y ↔ (C E x y × (x ≢ s))

-- the laws of a way of folding
pub record WayLaws (way : Way) : Type 1 where
  pub candidates_lawful : CandidateLaws way.Kind way.candidates
  pub rule_lawful : RuleLaws way.rule
  -- a table meets what is asked exactly if its graph is one that is folded
  pub asked_kind : (rows : Rows) → AllMet (way.asked rows) → way.Kind (edges rows)
  pub kind_asked : (rows : Rows) → way.Kind (edges rows) → AllMet (way.asked rows)
  -- no refusal has the number 0
  pub never_zero : (rows : Rows) → NeverZero (way.asked rows)
