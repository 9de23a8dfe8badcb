-- `printing::lengths_word` meets its contract: the word of version 2, or nothing. Assumes nothing.
use Rattle.std.proofs.Common.{ℕ, sym, ap, List, arith, length}
use Rattle.texts.specs.Text.{following}
use Rattle.texts.proofs.VersionLaws.{word_said, word_left_out}
use Rattle.printing.proofs.PutLaws.{put_same, put_nothing}
use Rattle.printing.proofs.lengths_word.Goals as goal

pub word-requires : goal.word-requires
word-requires c = omega (arith, c.requires, ap (λ (words : List (List ℕ)). length (following words)) (word_said c.args.version (omega arith)))

pub returns-then-version-eq-VERSION_2 : goal.returns-then-version-eq-VERSION_2
returns-then-version-eq-VERSION_2 c = put_same (ap following (sym (word_said c.args.version c.if-version-eq-VERSION_2.true))) c.word.ensures

pub returns : goal.returns
returns c = put_same (ap following (sym (word_left_out c.args.version c.if-version-eq-VERSION_2.false))) put_nothing
