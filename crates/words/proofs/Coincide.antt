-- Two answers that the contract of `words::parse` allows are the same, and so are two of `words::same`. Assumes nothing.
use Rattle.std.proofs.Common.{ℕ, ◌≡◌, refl, sym, ap, ◌∙◌, Bool, List, Result, Ok, Err, arith}
use Rattle.table.specs.Verdict.{Says as TableSays}
use Rattle.table.proofs.VerdictLaws.{says_unique}
use Rattle.words.specs.declared.NumeralError.{NumeralError}
use Rattle.words.specs.declared.NumeralError.TheVariants.{TooLarge, Wrong}
use Rattle.words.specs.Decimal.{Says}

pub parse_coincides : (bytes : List ℕ) (r r' : Result ℕ NumeralError) → Says bytes r → Says bytes r' → r ≡ r'
parse_coincides bytes (Ok n) (Ok n') (d, e, h) (d', e', h') = ap Ok (e ∙ sym e')
parse_coincides bytes (Ok n) (Err TooLarge) (d, e, h) (d', h') = absurd (omega (arith, e, h, h'))
parse_coincides bytes (Ok n) (Err Wrong) (d, e, h) none = absurd (none d)
parse_coincides bytes (Err TooLarge) (Ok n') (d, h) (d', e', h') = absurd (omega (arith, e', h, h'))
parse_coincides bytes (Err TooLarge) (Err TooLarge) s s' = refl
parse_coincides bytes (Err TooLarge) (Err Wrong) (d, h) none = absurd (none d)
parse_coincides bytes (Err Wrong) (Ok n') none (d', e', h') = absurd (none d')
parse_coincides bytes (Err Wrong) (Err TooLarge) none (d', h') = absurd (none d')
parse_coincides bytes (Err Wrong) (Err Wrong) s s' = refl

pub same_coincides : (word text : List ℕ) (r r' : Bool) → TableSays r (word ≡ text) → TableSays r' (word ≡ text) → r ≡ r'
same_coincides word text = says_unique (word ≡ text)
