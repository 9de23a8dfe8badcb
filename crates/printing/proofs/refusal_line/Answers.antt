-- `printing::refusal_line` meets its contract: `refused`, a blank and the number. Assumes nothing.
use Rattle.std.proofs.Common.{[], ◌∷◌}
use Rattle.texts.specs.Text.{decimal, named}
use Rattle.printing.proofs.PutLaws.{put_then, put_first, put_next, put_text, put_nothing, at_front}
use Rattle.printing.proofs.refusal_line.Goals as goal

pub returns : goal.returns
returns c =
    let said = rw c.from.ensures at c.next_number-place.ensures in
    at_front (put_text [] (named "refused" (c.args.number ∷ [])) put_nothing
    (put_then (put_next (named "refused" []) (decimal c.args.number) (put_first c.word-place.ensures) said) c.end_line.ensures))
