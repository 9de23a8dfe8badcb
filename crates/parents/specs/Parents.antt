-- How often a number stands in a list, and with it how many parents each vertex has. Assumes nothing.
use Rattle.std.specs.Prelude.{ℕ, ◌+◌, ◌≤◌, ◌≡◌, cond, List, [], ◌∷◌, length, get_or, eqb}
use Rattle.table.specs.Table.{Below}

-- how often v stands in the list
abbrev pub occurrences : ℕ → List ℕ → ℕ
occurrences v [] = 0
occurrences v (x ∷ xs) = cond (eqb x v) 1 0 + occurrences v xs

-- for each of n vertices the number of edges that lead to it, a self-loop among them; nothing leads to n or more
pub record Parents (n : ℕ) (targets parents : List ℕ) : Type 0 where
  pub each : length parents ≡ n
  pub count : (v : ℕ) → get_or parents v 0 ≡ occurrences v targets

-- as many numbers as before, each of them 0
pub record Zeros (counts counts' : List ℕ) : Type 0 where
  pub same : length counts' ≡ length counts
  pub zeros : (k : ℕ) → get_or counts' k 0 ≡ 0

-- each number has a count, and no count outgrows 32 bits
pub record Tallying (numbers counts : List ℕ) : Type 0 where
  pub below : Below (length counts) numbers
  pub fits : (v : ℕ) → get_or counts v 0 + occurrences v numbers ≤ 4294967295

-- each count is larger by how often its number occurs
pub record Tallied (numbers counts counts' : List ℕ) : Type 0 where
  pub same : length counts' ≡ length counts
  pub more : (v : ℕ) → get_or counts' v 0 ≡ get_or counts v 0 + occurrences v numbers
