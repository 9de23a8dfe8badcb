-- `judge_bytes::put_judgement` meets its contract: `superbubble`, a blank, at most ten digits and a line feed take 23 bytes. Assumes nothing.
use Rattle.judge_bytes.proofs.JudgementLaws.{put_yes}
use Rattle.judge_bytes.proofs.put_judgement.Goals as goal

pub returns-in-Some : goal.returns-in-Some
returns-in-Some c = rw c.in-Some.is (put_yes c.in-Some.vertices c.word-place.ensures (rw c.from.ensures at c.next_number-place.ensures) c.end_line.ensures)
