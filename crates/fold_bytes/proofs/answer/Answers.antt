-- `fold_bytes::answer` meets its contract: what an accepted image holds stands at the fronts of the arrays. Assumes nothing.
use Rattle.std.proofs.Common.{refl, arith, ◌∙◌}
use Rattle.table.proofs.RefusalLaws.{number_not_zero}
use Rattle.taking.proofs.TakenLaws.{taken_same, taken_sound}
use Rattle.fold_bytes.specs.Image.{fold_of}
use Rattle.fold_bytes.proofs.FoldLaws.{image_refused, image_folded}
use Rattle.fold_bytes.proofs.answer.Goals as goal

pub fold_contents-requires : goal.fold_contents-requires
fold_contents-requires c = rw c.contents.ensures (taken_sound c.in-Ok.ensures.taken_in refl refl (λ k h. omega (arith, c.type_inv.image k)))

pub returns-in-Ok-clause-the_fold_answer : goal.returns-in-Ok-clause-the_fold_answer
returns-in-Ok-clause-the_fold_answer c =
    let took = c.in-Ok.ensures.taken_in in
    image_folded (fold_of c.args.rings) _ took.looked refl (took.looked.taken refl).same_version (c.contents.ensures ∙ taken_same took refl refl)
    c.fold_contents.ensures

pub returns-in-Err-clause-the_fold_answer : goal.returns-in-Err-clause-the_fold_answer
returns-in-Err-clause-the_fold_answer c =
    image_refused (fold_of c.args.rings) c.in-Err.ensures.taken_in.looked (number_not_zero c.in-Err.refusal) c.refused.ensures
