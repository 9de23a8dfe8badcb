-- The lengths of the vertices, which an image has from version 2 on (docs/RULES.md, Image): how many there are, and the number 20. Assumes nothing.
use Rattle.std.specs.Prelude.{ℕ, ◌<◌, ◌≡◌, ◌⊎◌, List, length, get_or}
use Rattle.std.proofs.Math.Logic.{ite}
use Rattle.std.proofs.Math.Decide.{ℕ_discrete}
use Rattle.table.specs.Verdict.{Demand}

-- the versions there are
abbrev pub Known : ℕ → Type 0
Known version = (version ≡ 1) ⊎ (version ≡ 2)

-- how many lengths an image of n vertices has: n in version 2, and else none
abbrev pub length_count : ℕ → ℕ → ℕ
length_count version n = ite (ℕ_discrete version 2) n 0

-- each number is above 0
abbrev pub Positive : List ℕ → Type 0
Positive numbers = (i : ℕ) → i < length numbers → 0 < get_or numbers i 0

-- 20: a length of 0
abbrev pub no_zero : List ℕ → Demand
no_zero lengths = record { number = 20; met = Positive lengths }
