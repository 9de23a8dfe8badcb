-- The kept path: which of the paths from an entrance to an exit is the best. Assumes nothing.
use Rattle.std.specs.Prelude.{ℕ, ◌+◌, ◌<◌, min, ◌≡◌, ◌⊎◌}
use mathlib.Core.List.{List, [], ◌∷◌, ◌++◌, Memᴰ}
use Rattle.bubble.specs.Superbubble.{Interior}
use Rattle.rule.specs.Lists.{Graph, Counts, sum}
use Rattle.rule.specs.declared.Choosing.{Choosing}
use Rattle.rule.specs.declared.Choosing.TheVariants.{Sum, Weakest}

-- a path from a vertex to t, given by its inner vertices; the bare edge has none
pub data Via (E : Graph) (t : ℕ) : ℕ → List ℕ → Type 0 where
  bare : {s : ℕ} → E s t → Via E t s []
  then : {s v : ℕ} {l : List ℕ} → E s v → Via E t v l → Via E t s (v ∷ l)

-- a path from entrance to exit inside U. In a graph without a cycle every path from entrance to exit is one
pub record Arm (E : Graph) (s t : ℕ) (l : List ℕ) : Type 0 where
  pub path : Via E t s l
  pub inner : (v : ℕ) → Memᴰ v l → Interior E s t v

-- the smaller vertex at the first place where two lists differ
pub data Earlier : List ℕ → List ℕ → Type 0 where
  here : {u v : ℕ} {l k : List ℕ} → u < v → Earlier (u ∷ l) (v ∷ k)
  later : {v : ℕ} {l k : List ℕ} → Earlier l k → Earlier (v ∷ l) (v ∷ k)

-- p beats q: a larger score, or an equal score and the smaller vertex at the first place where the two paths differ
abbrev pub Beats : (List ℕ → ℕ) → ℕ → List ℕ → List ℕ → Type 0
Beats score t p q = (score q < score p) ⊎ ((score p ≡ score q) × Earlier (p ++ (t ∷ [])) (q ++ (t ∷ [])))

-- a path that none beats
pub record Best (score : Counts → List ℕ → ℕ) (E : Graph) (c : Counts) (s t : ℕ) (l : List ℕ) : Type 0 where
  pub arm : Arm E s t l
  pub unbeaten : (k : List ℕ) → Arm E s t k → Beats (score c) t k l → ⊥

-- the least of the counts of v and of the listed vertices
abbrev pub least : Counts → ℕ → List ℕ → ℕ
least c v [] = c v
least c v (u ∷ l) = min (c v) (least c u l)

-- one more than the least count of the inner vertices; the bare edge, which has none, scores less than any other path
abbrev pub weakest : Counts → List ℕ → ℕ
weakest c [] = 0
weakest c (v ∷ l) = 1 + least c v l

-- docs/RULES.md, Fold: version 1 goes by the sum of the inner counts, 0 for the bare edge, and version 2 by the least of them, never keeping the bare edge
abbrev pub score_by : Choosing → Counts → List ℕ → ℕ
score_by Sum = sum
score_by Weakest = weakest

-- the path that is kept
abbrev pub Kept : Choosing → Graph → Counts → ℕ → ℕ → List ℕ → Type 0
Kept by = Best (score_by by)
