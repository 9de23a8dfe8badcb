-- The folds of docs/RULES.md are lawful ways of folding, by their own rules and by any lawful rule. Assumes nothing.
use native.Mathlib.Omega.{arith}
use Rattle.bubble.specs.Cycle.{Cyclic}
use Rattle.rule.specs.Lists.{Graph}
use Rattle.rule.specs.Fold.{Rule, NoCycle}
use Rattle.rule.specs.Way.{kind_of, candidates_of, fold_with, the_fold}
use Rattle.rule.specs.Laws.{RuleLaws, CandidateLaws, WayLaws}
use Rattle.rule.specs.declared.Mode.{Mode}
use Rattle.rule.specs.declared.Rings.{Rings}
use Rattle.rule.specs.declared.Rings.TheVariants.{Refused, Taken}
use Rattle.rule.proofs.BestLaws.{kept_shares_laws}
use Rattle.rule.proofs.Passable.{ring_candidate_laws}
use Rattle.rule.proofs.Candidates.{candidate_laws}

-- a graph has a directed cycle, or is one that is folded
pub acyclic_folds : {E : Graph} → (Cyclic E → ⊥) → NoCycle E
acyclic_folds none v walk = none (record { vertex = v; back = walk })

pub folds_acyclic : {E : Graph} → NoCycle E → Cyclic E → ⊥
folds_acyclic acyclic cycle = acyclic cycle.vertex cycle.back

-- the candidates where rings are refused, and where they are taken
pub candidates_lawful : (rings : Rings) → CandidateLaws (kind_of rings) (candidates_of rings)
candidates_lawful Refused = candidate_laws
candidates_lawful Taken = ring_candidate_laws

-- with any lawful rule
pub fold_with_lawful : (rings : Rings) {R : Rule} → RuleLaws R → WayLaws (fold_with rings R)
fold_with_lawful Refused lawful = record {
  candidates_lawful = candidate_laws;
  rule_lawful = lawful;
  asked_kind = λ rows met. acyclic_folds met.0;
  kind_asked = λ rows kind. (folds_acyclic kind, tt);
  never_zero = λ rows. ((λ e. omega arith), tt);
}
fold_with_lawful Taken lawful = record {
  candidates_lawful = ring_candidate_laws;
  rule_lawful = lawful;
  asked_kind = λ rows met. tt;
  kind_asked = λ rows kind. tt;
  never_zero = λ rows. tt;
}

pub the_fold_lawful : (mode : Mode) → WayLaws (the_fold mode)
the_fold_lawful mode = fold_with_lawful mode.rings (kept_shares_laws mode.by)
