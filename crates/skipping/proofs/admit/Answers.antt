-- `skipping::admit` meets its contract. Assumes nothing.
use Rattle.std.proofs.Common.{ℕ, None, arith}
use Rattle.rule.specs.Lists.{Graph}
use Rattle.rule.specs.declared.Rings.{Rings}
use Rattle.rule.specs.declared.Rings.TheVariants.{Refused, Taken}
use Rattle.skipping.specs.Skipping.{Admitted, Admitted.unasked, Admitted.nothing, Admitted.passed, Admitted.skipped}
use Rattle.skipping.proofs.admit.Goals as goal

none_admitted : {E : Graph} {s : ℕ} (rings : Rings) → Admitted E s rings None None
none_admitted Refused = unasked
none_admitted Taken = nothing

pub returns-in_default : goal.returns-in_default
returns-in_default c = rw c.in_default.is (none_admitted c.args.rings)

pub returns-in-Taken : goal.returns-in-Taken
returns-in-Taken c =
    rw (c.in-Taken.is, c.in-Some.is) (skipped {exit = c.in-Some.found} (record { inner = omega arith; leads_back = c.if-leads_back.ensures }))

pub returns-in_default-rings : goal.returns-in_default-rings
returns-in_default-rings c = rw (c.in-Taken.is, c.in-Some.is) (passed {exit = c.in-Some.found} (λ skips. c.if-leads_back.ensures skips.leads_back))

pub returns-in_default-rings-2 : goal.returns-in_default-rings-2
returns-in_default-rings-2 c = rw (c.in-Taken.is, c.in-Some.is) (passed {exit = c.in-Some.found} (λ skips. omega (arith, skips.inner)))

pub returns-in_default-rings-3 : goal.returns-in_default-rings-3
returns-in_default-rings-3 c = rw (c.in_default-rings.is, c.in-Some.is) unasked
