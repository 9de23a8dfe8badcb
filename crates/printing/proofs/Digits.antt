-- How many digits a number has: of 32 bits at most ten, of 64 bits at most twenty. Assumes nothing.
use Rattle.std.proofs.Common.{ℕ, ◌^◌, ◌≤◌, ◌<◌, length, arith}
use Rattle.texts.specs.Text.{decimal}
use Rattle.texts.proofs.Decimal.{decimal_long}

pub ten_digits : (x : ℕ) → x < 2 ^ 32 → length (decimal x) ≤ 10
ten_digits x h = decimal_long 10 x (omega arith) (omega arith)

pub twenty_digits : (x : ℕ) → x < 2 ^ 64 → length (decimal x) ≤ 20
twenty_digits x h = decimal_long 20 x (omega arith) (omega arith)
