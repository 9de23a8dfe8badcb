-- The best child of a vertex: what a child is worth, and the first child of a row that is worth the most. Assumes nothing.
use Rattle.std.specs.Prelude.{ℕ, ◌+◌, ◌≤◌, ◌<◌, ◌≡◌, ◌≢◌, List, length, get_or}
use Rattle.rule.specs.Tables.{count_of}
use Rattle.rule.specs.Next.{worth}
use Rattle.rule.specs.declared.Choosing.{Choosing}

-- what u is worth can be said in 64 bits
pub record Weighable (counts best : List ℕ) (t u : ℕ) : Type 0 where
  pub counted : u < length counts
  pub room : u < length best
  pub fits : u ≢ t → get_or counts u 0 + get_or best u 0 < 18446744073709551615

-- a row with a child, whose children can be weighed
pub record Choosable (row counts best : List ℕ) (t : ℕ) : Type 0 where
  pub some : 0 < length row
  pub each : (j : ℕ) → j < length row → Weighable counts best t (get_or row j 0)

-- of the first k children of a row none is worth more than this one, and none before it is worth as much
pub record Chosen (by : Choosing) (row counts best : List ℕ) (t end k child gain : ℕ) : Type 0 where
  pub place : ℕ
  pub passed : place < k
  pub stands : get_or row place 0 ≡ child
  pub value : gain ≡ worth by (count_of counts) t end (count_of best) child
  pub largest : (j : ℕ) → j < k → worth by (count_of counts) t end (count_of best) (get_or row j 0) ≤ gain
  pub first : (j : ℕ) → j < place → worth by (count_of counts) t end (count_of best) (get_or row j 0) < gain
