-- What a word says where a number is due. Assumes nothing.
use Rattle.std.specs.Prelude.{ℕ, zero, suc, ◌+◌, ◌-◌, ◌*◌, ◌≤◌, ◌<◌, ◌≡◌, List, length, get_or, Result, Ok, Err}
use Rattle.words.specs.declared.NumeralError.{NumeralError}
use Rattle.words.specs.declared.NumeralError.TheVariants.{TooLarge, Wrong}

-- a decimal digit: `0` is 48, `9` is 57
abbrev pub Digit : ℕ → Type 0
Digit b = (48 ≤ b) × (b ≤ 57)

-- one or more bytes, each a digit
pub record Decimal (bytes : List ℕ) : Type 0 where
  pub some : 0 < length bytes
  pub each : (k : ℕ) → k < length bytes → Digit (get_or bytes k 0)

-- the number that the first k digits say
abbrev pub value : List ℕ → ℕ → ℕ
value bytes zero = 0
value bytes (suc k) = 10 * value bytes k + (get_or bytes k 0 - 48)

-- what a word says: the number of its digits where 32 bits hold it, that they do not, or that it is no number
abbrev pub Says : List ℕ → Result ℕ NumeralError → Type 0
Says bytes (Ok n) = Decimal bytes × (n ≡ value bytes (length bytes)) × (n ≤ 4294967295)
Says bytes (Err TooLarge) = Decimal bytes × (4294967295 < value bytes (length bytes))
Says bytes (Err Wrong) = Decimal bytes → ⊥
