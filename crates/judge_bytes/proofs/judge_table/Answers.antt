-- `judge_bytes::judge_table` meets its contract: of a well-formed table only the pair can be refused. Assumes nothing.
use Rattle.std.proofs.Common.{refl}
use Rattle.table.proofs.RefusalLaws.{number_not_zero}
use Rattle.judge_bytes.proofs.JudgementLaws.{none_refused, judge_refused, judge_answered}
use Rattle.judge_bytes.proofs.judge_table.Goals as goal

pub returns-in-Ok : goal.returns-in-Ok
returns-in-Ok c = judge_answered c.requires (rw c.in-Ok.is at c.judge.ensures) (none_refused c.in-Ok.judged) refl c.put_judgement.ensures

pub returns-in-Err : goal.returns-in-Err
returns-in-Err c = judge_refused c.requires (rw c.in-Err.is at c.judge.ensures) (number_not_zero c.in-Err.refused) c.refusal.ensures
