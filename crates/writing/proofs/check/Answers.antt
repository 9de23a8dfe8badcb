-- `writing::check` meets its contract: what the table's check says, and then 6, 7 and 20. Assumes nothing.
use Rattle.std.proofs.Common.{◌≡◌, rules}
use Rattle.std.proofs.lemmas.Result.{err_from_is_err_and}
use Rattle.table.specs.Refusals.{number}
use Rattle.table.proofs.RefusalLaws.{number_not_zero}
use Rattle.writing.proofs.WriteLaws.{refused_by_rows, after_rows}
use Rattle.writing.proofs.check.Goals as goal

pub returns-in_err-check : goal.returns-in_err-check
returns-in_err-check c =
    let refused = err_from_is_err_and c.from_residual.result c.from_residual.ensures.1 in
    let same : c.contents-inside.inside.0.0.rows ≡ c.args.contents.now.table.rows = search rules in
    rw (refused.1, refused.2) (refused_by_rows c.args.version c.args.contents.now same (number c.in_err-check.field-0.0) (number_not_zero _) c.in_err-check.ensures)

pub returns-then-not-none_zero : goal.returns-then-not-none_zero
returns-then-not-none_zero c =
    let same : c.contents-inside.inside.0.0.rows ≡ c.args.contents.now.table.rows = search rules in
    after_rows c.args.version c.args.contents.now same 20 c.in_ok-check.ensures (search rules)
