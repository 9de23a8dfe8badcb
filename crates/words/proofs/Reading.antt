-- A word read digit by digit: what holds after its first k bytes. Assumes nothing.
use Rattle.std.proofs.Common.{ℕ, ◌<◌, ◌≡◌, min, List, get_or}
use Rattle.words.specs.Decimal.{Digit, value}

-- the first k bytes are digits, and v is the number that they say, or 4,294,967,296 where that is less
pub record Read (bytes : List ℕ) (k v : ℕ) : Type 0 where
  pub digits : (i : ℕ) → i < k → Digit (get_or bytes i 0)
  pub capped : v ≡ min 4294967296 (value bytes k)
