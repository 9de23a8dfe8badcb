-- What the fold rule speaks of: graphs and counts, listings, sums, and what follows what on a list. Assumes nothing.
use Rattle.std.specs.Prelude.{ℕ, zero, suc, ◌+◌, ◌<◌, ◌≡◌, ◌↔◌}
use mathlib.Core.List.{List, [], ◌∷◌, Memᴰ}

-- a graph: E u v says that there is an edge from u to v
abbrev pub Graph : Type 1
Graph = ℕ → ℕ → Type 0

-- which pairs of entrance and exit are the candidates of a graph
abbrev pub CandidateSet : Type 1
CandidateSet = Graph → ℕ → ℕ → Type 0

-- the reads on each vertex
abbrev pub Counts : Type 0
Counts = ℕ → ℕ

-- two graphs with counts are the same: the same edges and the same counts
pub record Same (E E' : Graph) (c c' : Counts) : Type 0 where
  pub edges : (u v : ℕ) → E u v ↔ E' u v
  pub counts : (v : ℕ) → c v ≡ c' v

-- each entry is smaller than all that come after it
pub data Rising : List ℕ → Type 0 where
  empty : Rising []
  first : {v : ℕ} {l : List ℕ} → ((w : ℕ) → Memᴰ w l → v < w) → Rising l → Rising (v ∷ l)

-- l rises strictly and holds exactly the v with P v
pub record Listing (P : ℕ → Type 0) (l : List ℕ) : Type 0 where
  pub rising : Rising l
  pub holds : (v : ℕ) → Memᴰ v l ↔ P v

-- the sum of the counts of the listed vertices
abbrev pub sum : Counts → List ℕ → ℕ
sum c [] = 0
sum c (v ∷ l) = c v + sum c l

-- the sum of the counts of the vertices 0 to n-1
abbrev pub total : Counts → ℕ → ℕ
total c zero = 0
total c (suc n) = c n + total c n

-- v stands right after u on the list
pub data Follows : List ℕ → ℕ → ℕ → Type 0 where
  here : {u v : ℕ} {l : List ℕ} → Follows (u ∷ v ∷ l) u v
  later : {u v x : ℕ} {l : List ℕ} → Follows l u v → Follows (x ∷ l) u v
