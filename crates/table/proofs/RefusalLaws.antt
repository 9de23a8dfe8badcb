-- Laws of the numbers of refusals: none is 0, and no two are given for different reasons. Assumes nothing.
use Rattle.std.proofs.Common.{◌≡◌, arith}
use Rattle.table.specs.declared.refusal.Refusal.{Refusal}
use Rattle.table.specs.Refusals.{number}

-- no refusal has the number 0
pub number_not_zero : (refusal : Refusal) → number refusal ≡ 0 → ⊥
number_not_zero refusal = grind arith

-- a refusal is told by its number
pub number_tells : (a b : Refusal) → number a ≡ number b → a ≡ b
number_tells a b = grind arith
