-- `show_bytes::answer` meets its contract: what an accepted image holds stands at the fronts of the arrays. Assumes nothing.
use Rattle.std.proofs.Common.{refl, arith, ◌∙◌}
use Rattle.taking.proofs.TakenLaws.{taken_same, taken_sound}
use Rattle.show_bytes.proofs.PutContents.{contents_answers}
use Rattle.show_bytes.proofs.answer.Goals as goal

pub put_contents-requires : goal.put_contents-requires
put_contents-requires c = rw c.contents.ensures (taken_sound c.in-Ok.ensures.taken_in refl refl (λ k h. omega (arith, c.type_inv.image k)))

pub returns-in-Ok-clause-show_answer : goal.returns-in-Ok-clause-show_answer
returns-in-Ok-clause-show_answer c =
    contents_answers c.in-Ok.ensures.taken_in.looked refl (c.contents.ensures ∙ taken_same c.in-Ok.ensures.taken_in refl refl) refl c.put_contents.ensures
