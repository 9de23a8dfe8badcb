-- `judge_bytes::answer` meets its contract: the rows of an accepted image stand at the fronts of the arrays. Assumes nothing.
use Rattle.std.proofs.Common.{refl, ap, ◌∙◌}
use Rattle.table.specs.Table.{Table}
use Rattle.taking.proofs.TakenLaws.{taken_table}
use Rattle.judge_bytes.proofs.JudgementLaws.{image_judged}
use Rattle.judge_bytes.proofs.answer.Goals as goal

pub judge_table-requires : goal.judge_table-requires
judge_table-requires c = rw c.rows.ensures (taken_table c.in-Ok.ensures.taken_in refl).fronts_sound.well_formed

pub returns-in-Ok-clause-judge_answer : goal.returns-in-Ok-clause-judge_answer
returns-in-Ok-clause-judge_answer c =
    let same = c.rows.ensures ∙ ap (λ (table : Table). table.rows) (taken_table c.in-Ok.ensures.taken_in refl).fronts_same in
    image_judged c.in-Ok.ensures.taken_in.looked refl same c.judge_table.ensures
