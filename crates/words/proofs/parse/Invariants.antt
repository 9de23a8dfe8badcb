-- `words::parse` meets its contract. The loop keeps what the bytes read so far say (`Read`). Assumes nothing.
use Rattle.words.proofs.Reading.{Read}
use Rattle.words.proofs.parse.Given as goal

abbrev pub invariant-loop-digit : goal.invariant-loop-digit
invariant-loop-digit l = Read l.word l.digit-index l.value
