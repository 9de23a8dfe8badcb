-- What it means that a number is given: demands in a fixed order, each with the number that is given where it is the first that is not met. Assumes nothing.
use Rattle.std.specs.Prelude.{ℕ, ◌≡◌, ◌⊎◌, List, [], ◌∷◌, Bool, true, false}

-- what has to hold, and the number that says that it does not
pub record Demand : Type 1 where
  pub number : ℕ
  pub met : Type 0

-- r is the number of the first demand that is not met, or 0 where all are met
abbrev pub Verdict : List Demand → ℕ → Type 0
Verdict [] r = r ≡ 0
Verdict (d ∷ rest) r = ((d.met → ⊥) × (r ≡ d.number)) ⊎ (d.met × Verdict rest r)

-- each demand of the list is met
abbrev pub AllMet : List Demand → Type 0
AllMet [] = Unit {0}
AllMet (d ∷ rest) = d.met × AllMet rest

-- no demand of the list has the number 0, which says that all are met
abbrev pub NeverZero : List Demand → Type 0
NeverZero [] = Unit {0}
NeverZero (d ∷ rest) = (d.number ≡ 0 → ⊥) × NeverZero rest

-- a test's answer: true where P holds, false where it does not
abbrev pub Says : Bool → Type 0 → Type 0
Says true P = P
Says false P = P → ⊥
