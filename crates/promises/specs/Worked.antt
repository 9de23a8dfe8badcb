-- The worked fold of docs/RULES.md, A shared arm: the table, and the table that a fold by a budget of 1 or more leaves. Assumes nothing.
use Rattle.std.specs.Prelude.{[], ◌∷◌}
use Rattle.table.specs.Table.{Table}

-- 0>1 0>3 1>2 2>4 3>4, with the counts 5 4 3 3 5
abbrev pub shared_arm : Table
shared_arm = record {
  rows = record { starts = 0 ∷ 2 ∷ 3 ∷ 4 ∷ 5 ∷ 5 ∷ []; targets = 1 ∷ 3 ∷ 2 ∷ 4 ∷ 4 ∷ [] };
  counts = 5 ∷ 4 ∷ 3 ∷ 3 ∷ 5 ∷ [];
}

-- 0>1 1>2 2>4, with the counts 5 6 4 0 5
abbrev pub shared_arm_folded : Table
shared_arm_folded = record {
  rows = record { starts = 0 ∷ 1 ∷ 2 ∷ 3 ∷ 3 ∷ 3 ∷ []; targets = 1 ∷ 2 ∷ 4 ∷ [] };
  counts = 5 ∷ 6 ∷ 4 ∷ 0 ∷ 5 ∷ [];
}
