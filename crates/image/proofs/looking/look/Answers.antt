-- `image::looking::look` meets its contract where the contents that stand in the image are refused. Assumes nothing.
use Rattle.std.proofs.Common.{refl}
use Rattle.std.proofs.lemmas.Result.{err_from_is_err_and}
use Rattle.image.proofs.LookLaws.{looked_by_contents}
use Rattle.image.proofs.looking.look.Goals as goal

pub returns-in_err-check : goal.returns-in_err-check
returns-in_err-check c =
    let refused = err_from_is_err_and c.from_residual-in_err-check.result c.from_residual-in_err-check.ensures.1 in
    rw (refused.1, refused.2) (looked_by_contents c.in_ok-sizes.ensures refl c.in_err-check.ensures c.in_err-check.field-0.0 refl)
