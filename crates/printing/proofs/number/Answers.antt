-- `printing::number` meets its contract: the kit's digits are the shortest decimal. Assumes nothing.
use Rattle.std.proofs.Common.{ℕ, List, ◌≡◌, ap, ◌∙◌, arith, length, take}
use Rattle.io.specs.Digits.{last_digits, IsDigitCount}
use Rattle.texts.specs.Text.{decimal}
use Rattle.texts.proofs.Decimal.{decimal_fewest}
use Rattle.printing.proofs.PutLaws.{put_same}
use Rattle.printing.proofs.number.Goals as goal

-- what the kit's function wrote is the number's decimal
spelt : (x : ℕ) {count : ℕ} (digits : List ℕ) → IsDigitCount 10 1 x count → take count digits ≡ last_digits 10 count x → take count digits ≡ decimal x
spelt x {count} digits few e = e ∙ decimal_fewest x count few

pub word-requires : goal.word-requires
word-requires c =
    omega (arith, c.requires, ap length (spelt c.args.x c.decimal-count.new.out c.decimal-count.ensures.len c.decimal-count.ensures.digits))

pub returns : goal.returns
returns c =
    put_same (spelt c.args.x c.decimal-count.new.out c.decimal-count.ensures.len c.decimal-count.ensures.digits) c.word.ensures
