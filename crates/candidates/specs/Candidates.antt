-- What finding the candidates of a table states: each entrance's exit, and how many there are. Assumes nothing.
use Rattle.std.specs.Prelude.{ℕ, zero, suc, ◌≤◌, ◌<◌, ◌≡◌, cond, List, [], ◌∷◌, ◌++◌, length, get_or, ltb}
use Rattle.table.specs.Table.{Rows, size, edges, Sound}
use Rattle.parents.specs.Parents.{Parents}
use Rattle.rule.specs.Lists.{CandidateSet}

-- what stands for the exit of a vertex, of n, that is the entrance of no candidate: no vertex has this number
abbrev pub no_exit : ℕ → ℕ
no_exit n = n

-- the vertices below s whose exit is a vertex, rising
abbrev pub entrances_below : List ℕ → ℕ → List ℕ
entrances_below exits zero = []
entrances_below exits (suc s) = entrances_below exits s ++ cond (ltb (get_or exits s 0) (no_exit (length exits))) (s ∷ []) []

-- all of them
abbrev pub entrances : List ℕ → List ℕ
entrances exits = entrances_below exits (length exits)

-- what the finding is handed: a well-formed table, three slices of n, and room for the order
pub record Findable (rows : Rows) (parents pending order exits : List ℕ) : Type 0 where
  pub well_formed : Sound rows
  pub parents_long : length parents ≡ size rows
  pub pending_long : length pending ≡ size rows
  pub order_room : size rows ≤ length order
  pub exits_long : length exits ≡ size rows

-- for each vertex the exit of the candidate that it is the entrance of, or the number for none
pub record CandidatesFound (C : CandidateSet) (rows : Rows) (exits : List ℕ) : Type 0 where
  pub each : length exits ≡ size rows
  pub most : (s : ℕ) → s < size rows → get_or exits s 0 ≤ no_exit (size rows)
  pub sound : (s : ℕ) → s < size rows → get_or exits s 0 < no_exit (size rows) → C (edges rows) s (get_or exits s 0)
  pub none : (s : ℕ) → s < size rows → get_or exits s 0 ≡ no_exit (size rows) → (t : ℕ) → C (edges rows) s t → ⊥

-- the candidates, and how many there are; and the parents' counts, twice, and the order are as the search takes them
pub record FindDone (C : CandidateSet) (rows : Rows) (parents pending order exits : List ℕ) (found : ℕ) : Type 0 where
  pub candidates : CandidatesFound C rows exits
  pub number : found ≡ length (entrances exits)
  pub counted : Parents (size rows) rows.targets parents
  pub whole : pending ≡ parents
  pub room : size rows ≤ length order
