-- What sharing a dropped sum over the inner vertices of a kept path states. The path is given by the vertex after each. Assumes nothing.
use Rattle.std.specs.Prelude.{ℕ, zero, suc, ◌+◌, ◌≤◌, ◌<◌, ◌≡◌, length, get_or}
use mathlib.Core.List.{List, [], ◌∷◌, Memᴰ}
use Rattle.table.specs.Limits.{read_limit}
use Rattle.table.specs.Table.{Below, count_sum}
use Rattle.rule.specs.Fold.{to_each}

-- the k vertices after v, each the next of the one before it
abbrev pub onward : List ℕ → ℕ → ℕ → List ℕ
onward next v zero = []
onward next v (suc k) = get_or next v 0 ∷ onward next (get_or next v 0) k

-- the k vertices after s are different and have room, and a dropped sum d fits beside each count
pub record Shareable (counts next out : List ℕ) (s k d : ℕ) : Type 0 where
  pub below : Below (length counts) (s ∷ onward next s k)
  pub apart : (i j : ℕ) → i < k → j < k → get_or (onward next s k) i 0 ≡ get_or (onward next s k) j 0 → i ≡ j
  pub sum_fits : count_sum counts ≤ read_limit
  pub dropped_fits : d ≤ read_limit
  pub next_room : length counts ≤ length next
  pub out_room : length counts ≤ length out

-- the first j of the k vertices after s have their count and their portion of d, and what is none of the k vertices is as it was
pub record Shared (counts next out : List ℕ) (s k d j : ℕ) (out' : List ℕ) : Type 0 where
  pub added : (i : ℕ) → i < j → get_or out' (get_or (onward next s k) i 0) 0 ≡ get_or counts (get_or (onward next s k) i 0) 0 + to_each d k i
  pub elsewhere : (v : ℕ) → (Memᴰ v (onward next s k) → ⊥) → get_or out' v 0 ≡ get_or out v 0
  pub same_out : length out' ≡ length out
