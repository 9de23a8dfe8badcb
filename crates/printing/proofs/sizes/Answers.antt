-- `printing::sizes` meets its contract: the line fits where its words do. Assumes nothing.
use Rattle.std.proofs.Common.{[], ◌∷◌}
use Rattle.texts.specs.Text.{decimal, named, lengths_word}
use Rattle.printing.proofs.PutLaws.{put_then, put_first, put_words, put_next}
use Rattle.printing.proofs.sizes.Goals as goal

pub returns : goal.returns
returns c =
    let n = c.args.n in
    let m = c.args.m in
    let begins = put_next (named "table" []) (decimal n) (put_first c.word-place.ensures) c.next_number-place.ensures in
    let numbers = put_next (named "table" (n ∷ [])) (decimal m) begins c.next_number-place-2.ensures in
    put_then (put_words (named "table" (n ∷ m ∷ [])) (lengths_word c.args.version) numbers c.lengths_word-place.ensures) c.end_line.ensures
