-- Laws of `Says` and `Verdict`: a test's answer as a fact, and that the number given is determined. Assumes nothing.
use Prim.Native.Nat.{ℕ}
use mathlib.Core.Path.{◌≡◌, refl, sym, ◌∙◌}
use mathlib.Core.Logic.{inl, inr}
use mathlib.Core.List.{List, [], ◌∷◌, ◌++◌}
use mathlib.Core.Bool.{Bool, true, false}
use Rattle.table.specs.Verdict.{Demand, Verdict, AllMet, NeverZero, Says}

-- a test's answer is determined
pub says_unique : (P : Type 0) (b b' : Bool) → Says b P → Says b' P → b ≡ b'
says_unique P true true s s' = refl
says_unique P true false s s' = absurd (s' s)
says_unique P false true s s' = absurd (s s')
says_unique P false false s s' = refl

-- the number given is determined
pub verdict_unique : (demands : List Demand) (r r' : ℕ) → Verdict demands r → Verdict demands r' → r ≡ r'
verdict_unique [] r r' v v' = v ∙ sym v'
verdict_unique (d ∷ rest) r r' (inl v) (inl v') = v.1 ∙ sym v'.1
verdict_unique (d ∷ rest) r r' (inl v) (inr v') = absurd (v.0 v'.0)
verdict_unique (d ∷ rest) r r' (inr v) (inl v') = absurd (v'.0 v.0)
verdict_unique (d ∷ rest) r r' (inr v) (inr v') = verdict_unique rest r r' v.1 v'.1

-- the number 0 says that each demand is met
pub accepted : (demands : List Demand) → NeverZero demands → Verdict demands 0 → AllMet demands
accepted [] n v = tt
accepted (d ∷ rest) n (inl v) = absurd (n.0 (sym v.1))
accepted (d ∷ rest) n (inr v) = (v.0, accepted rest n.1 v.1)

-- where each demand is met the number is 0
pub accepts : (demands : List Demand) → AllMet demands → Verdict demands 0
accepts [] met = refl
accepts (d ∷ rest) met = inr (met.0, accepts rest met.1)

-- where the first demands are met, the number is that of the rest
pub goes_on : (first rest : List Demand) (r : ℕ) → AllMet first → Verdict rest r → Verdict (first ++ rest) r
goes_on [] rest r met v = v
goes_on (d ∷ first) rest r met v = inr (met.0, goes_on first rest r met.1 v)

-- where one of the first demands is not met, the rest is not looked at
pub stops : (first rest : List Demand) (r : ℕ) → (r ≡ 0 → ⊥) → Verdict first r → Verdict (first ++ rest) r
stops [] rest r refused v = absurd (refused v)
stops (d ∷ first) rest r refused (inl v) = inl v
stops (d ∷ first) rest r refused (inr v) = inr (v.0, stops first rest r refused v.1)

-- a demand that is met may be left out
pub met_is_passed : (first : List Demand) (d : Demand) (rest : List Demand) (r : ℕ) → d.met → Verdict (first ++ d ∷ rest) r → Verdict (first ++ rest) r
met_is_passed [] d rest r met (inl v) = absurd (v.0 met)
met_is_passed [] d rest r met (inr v) = v.1
met_is_passed (f ∷ first) d rest r met (inl v) = inl v
met_is_passed (f ∷ first) d rest r met (inr v) = inr (v.0, met_is_passed first d rest r met v.1)

-- where the first demands are met, they may be left out
pub met_are_passed : (first rest : List Demand) (r : ℕ) → AllMet first → Verdict (first ++ rest) r → Verdict rest r
met_are_passed [] rest r met v = v
met_are_passed (d ∷ first) rest r met (inl v) = absurd (v.0 met.0)
met_are_passed (d ∷ first) rest r met (inr v) = met_are_passed first rest r met.1 v.1

-- of demands that are all met, the first ones are
pub first_met : (first rest : List Demand) → AllMet (first ++ rest) → AllMet first
first_met [] rest met = tt
first_met (d ∷ first) rest met = (met.0, first_met first rest met.1)
