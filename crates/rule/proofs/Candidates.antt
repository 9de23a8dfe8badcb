-- In a graph without a cycle the candidates of docs/RULES.md, Fold, are those of Rings, so that they meet the laws. Assumes nothing.
use Prim.Native.Nat.{ℕ}
use Rattle.bubble.specs.Superbubble.{F.start, Reaches}
use Rattle.bubble.proofs.Walks.{reaches_walk}
use Rattle.rule.specs.Lists.{Graph}
use Rattle.rule.specs.Fold.{NoCycle, Candidate}
use Rattle.rule.specs.Rings.{Skipped, RingCandidate}
use Rattle.rule.specs.Laws.{CandidateLaws}
use Rattle.bubble.proofs.Fewer.{walk_fewer}
use Rattle.rule.proofs.Passable.{ring_candidate_laws}

-- in a graph without a cycle the two kinds of candidates are the same
module _ {E : Graph} (a : NoCycle E) where
  never_passed_again : {s t : ℕ} → E s t → Reaches E t s → ⊥
  never_passed_again {t = t} e r = a t (reaches_walk (λ x. tt) r e)

  pub none_skipped : {s t : ℕ} → Skipped E s t → ⊥
  none_skipped q = never_passed_again q.bare_edge q.way_back

  pub to_ring : {s t : ℕ} → Candidate E s t → RingCandidate E s t
  to_ring c = record {
    passable = record { superbubble = c.outermost.superbubble; interior = c.interior; not_skipped = none_skipped };
    in_no_other = λ x y p. c.outermost.in_no_other x y p.superbubble;
  }

  pub of_ring : {s t : ℕ} → RingCandidate E s t → Candidate E s t
  of_ring {s} p = record {
    outermost = record {
      superbubble = p.passable.superbubble;
      in_no_other = λ x y q n. p.in_no_other x y (record { superbubble = q; interior = (s, n s start); not_skipped = none_skipped }) n;
    };
    interior = p.passable.interior;
  }

pub no_cycle_fewer : {E E' : Graph} → ((u v : ℕ) → E' u v → E u v) → NoCycle E → NoCycle E'
no_cycle_fewer h a v w = a v (walk_fewer h (λ x u. u) w)

pub candidate_laws : CandidateLaws NoCycle Candidate
candidate_laws = record {
  fewer = no_cycle_fewer;
  same = λ a h c. of_ring (no_cycle_fewer (λ u v. (h u v).1) a) (ring_candidate_laws.same tt h (to_ring a c));
  superbubble = λ c. c.outermost.superbubble;
  interior = λ c. c.interior;
  passed_once = λ a c. never_passed_again a;
  apart = λ a c d. ring_candidate_laws.apart tt (to_ring a c) (to_ring a d);
  others = λ {E} {E'} {s} {t} {l} a c arm h x y.
      let after : NoCycle E' = no_cycle_fewer (λ u v e. ((h u v).0 e).0) a in
      let (forth, back) = ring_candidate_laws.others tt (to_ring a c) arm h x y in
      (λ d. let (e, n) = forth (to_ring after d) in (of_ring a e, n), λ d. of_ring after (back (to_ring a d.0, d.1)));
}
