-- `fold_bytes::choosing` meets its contract: version 2 is folded by the weakest vertex, any other by the sum. Assumes nothing.
use Rattle.std.proofs.Common.{sym}
use mathlib.Core.Logic.{if_pos, if_neg}
use native.Mathlib.Decide.{ℕ_discrete}
use Rattle.rule.specs.declared.Choosing.TheVariants.{Sum, Weakest}
use Rattle.fold_bytes.proofs.choosing.Goals as goal

pub returns-then-version-eq-VERSION_2 : goal.returns-then-version-eq-VERSION_2
returns-then-version-eq-VERSION_2 c = sym (if_pos (ℕ_discrete c.args.version 2) c.if-version-eq-VERSION_2.true Weakest Sum)

pub returns : goal.returns
returns c = sym (if_neg (ℕ_discrete c.args.version 2) c.if-version-eq-VERSION_2.false Weakest Sum)
