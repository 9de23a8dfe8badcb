-- Two calls in a row, of which the second is made where the first gives 0. Assumes nothing.
use Rattle.std.specs.Prelude.{ℕ, zero, suc, List, [], ◌∷◌}
use Rattle.table.specs.Verdict.{Demand}

-- the first number other than 0 of the two, or 0 where both are
abbrev pub first_refusal : ℕ → ℕ → ℕ
first_refusal zero second = second
first_refusal (suc first) second = suc first

-- the numbers of some demands, in the order in which they are asked
abbrev pub numbers : List Demand → List ℕ
numbers [] = []
numbers (d ∷ rest) = d.number ∷ numbers rest
