-- A way of folding: which graphs it takes, and what is asked for that; its candidates; its rule. `the_fold` has those of docs/RULES.md, Fold and Rings. Assumes nothing.
use Rattle.std.specs.Prelude.{List, [], ◌∷◌}
use Rattle.table.specs.Verdict.{Demand}
use Rattle.table.specs.Table.{Rows, edges}
use Rattle.bubble.specs.Cycle.{Cyclic}
use Rattle.rule.specs.Lists.{Graph, CandidateSet}
use Rattle.rule.specs.Fold.{NoCycle, Candidate, Rule, kept_shares}
use Rattle.rule.specs.Rings.{RingCandidate}
use Rattle.rule.specs.declared.Choosing.{Choosing}
use Rattle.rule.specs.declared.Mode.{Mode}
use Rattle.rule.specs.declared.Rings.{Rings}
use Rattle.rule.specs.declared.Rings.TheVariants.{Refused, Taken}

pub record Way : Type 1 where
  -- the graphs that are folded
  pub Kind : Graph → Type 0
  -- what is asked of a table, behind well-formed and room, so that its graph is one of them
  pub asked : Rows → List Demand
  pub candidates : CandidateSet
  pub rule : Rule

-- where rings are refused, the graphs without a directed cycle are folded, else all
abbrev pub kind_of : Rings → Graph → Type 0
kind_of Refused E = NoCycle E
kind_of Taken E = Unit {0}

-- 9: the table has a directed cycle
abbrev pub no_cycle_demand : Rows → Demand
no_cycle_demand rows = record { number = 9; met = Cyclic (edges rows) → ⊥ }

-- where rings are refused, 9 is given, else never
abbrev pub asked_of : Rings → Rows → List Demand
asked_of Refused rows = no_cycle_demand rows ∷ []
asked_of Taken rows = []

-- the outermost superbubbles with an interior; where rings are taken, the outermost of those that are not skipped
abbrev pub candidates_of : Rings → CandidateSet
candidates_of Refused = Candidate
candidates_of Taken = RingCandidate

-- with rings refused or taken, by a rule
abbrev pub fold_with : Rings → Rule → Way
fold_with rings R = record { Kind = kind_of rings; asked = asked_of rings; candidates = candidates_of rings; rule = R }

-- rings refused, as docs/RULES.md, Fold, has it, and taken, as Rings has it
abbrev pub plain : Choosing → Mode
plain by = record { rings = Refused; by = by }

abbrev pub ringed : Choosing → Mode
ringed by = record { rings = Taken; by = by }

-- the folds of docs/RULES.md
abbrev pub the_fold : Mode → Way
the_fold mode = fold_with mode.rings (kept_shares mode.by)
