-- The smallest count on a path, as docs/RULES.md, Fold, speaks of it. Assumes nothing.
use Rattle.std.specs.Prelude.{ℕ, ◌≤◌, ◌≡◌}
use mathlib.Core.List.{List, Memᴰ}
use Rattle.rule.specs.Lists.{Counts}

-- k is the smallest count of the listed vertices: one of them has it, and none has less
pub record Smallest (c : Counts) (l : List ℕ) (k : ℕ) : Type 0 where
  pub weak : ℕ
  pub listed : Memᴰ weak l
  pub its_count : c weak ≡ k
  pub none_less : (v : ℕ) → Memᴰ v l → k ≤ c v
