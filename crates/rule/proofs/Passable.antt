-- The candidates of docs/RULES.md, Rings, meet the laws of candidates in every graph: superbubbles with an interior that a path passes at most once, or that have no bare edge,
-- can be folded in any graph, and the outermost among them are the candidates. Assumes nothing.
use Prim.Native.Nat.{ℕ}
use mathlib.Core.Path.{◌≡◌, sym, ◌∙◌}
use mathlib.Core.Logic.{◌≢◌, ◌↔◌, ⊎_elim}
use native.Mathlib.Decide.{ℕ_discrete}
use Rattle.bubble.specs.Superbubble.{F, F.start, Reaches, Interior, Superbubble}
use Rattle.bubble.proofs.Reversal.{inside_reversed, interior_reversed}
use Rattle.bubble.proofs.Facts.{no_edge_from_exit}
use Rattle.bubble.proofs.Unique.{superbubble_reversed, exit_unique, entrance_unique}
use Rattle.bubble.proofs.Nesting.{Nested, nest, meets_nested}
use Rattle.rule.specs.Lists.{Graph}
use Rattle.rule.specs.Rings.{Passable, RingCandidate}
use Rattle.rule.specs.Way.{kind_of}
use Rattle.rule.specs.Laws.{CandidateLaws}
use Rattle.rule.specs.declared.Rings.TheVariants.{Taken}
use Rattle.bubble.proofs.Fewer.{F-fewer, reaches_fewer, interior_also}
use Rattle.rule.proofs.Thread.{Thread, Clear}
use Rattle.rule.proofs.Carry.{bubbloid_of, fewer, carried, carried_outside}
use Rattle.rule.proofs.Minimal.{superbubble_after, superbubble_before, interior_clear}
use Rattle.rule.proofs.Arms.{arm_thread}
use Rattle.rule.proofs.Others.{apart_clear}
use Rattle.bubble.proofs.SameEdges.{SameEdges, turned_round, interior_same, superbubble_same}
use Rattle.rule.proofs.Reach.{still_reaches}

-- a superbubble whose exit is interior to another is nested in it
nest_by_exit : {E : Graph} {s t x y : ℕ} → Superbubble E s t → Superbubble E x y → Interior E x y t → Nested E s t x y
nest_by_exit p q i v f =
    (interior_reversed q.bubbloid).1
    (nest (superbubble_reversed.0 p) (superbubble_reversed.0 q) ((interior_reversed q.bubbloid).0 i) v ((inside_reversed p.bubbloid).0 f))

-- with a bare edge it is on no cycle
pub passed_once : {E : Graph} {s t : ℕ} → Passable E s t → E s t → Reaches E t s → ⊥
passed_once p e r = p.not_skipped (record { superbubble = p.superbubble; bare_edge = e; way_back = r })

passable_same : {E E' : Graph} {s t : ℕ} → SameEdges E E' → Passable E s t → Passable E' s t
passable_same {s = s} {t = t} h p = record {
  superbubble = superbubble_same h p.superbubble;
  interior = let (v, i) = p.interior in (v, interior_same h i);
  not_skipped = λ q. passed_once p ((h s t).1 q.bare_edge) (reaches_fewer (λ u v. (h u v).1) q.way_back);
}

ring_candidate_same : {E E' : Graph} {s t : ℕ} → SameEdges E E' → RingCandidate E s t → RingCandidate E' s t
ring_candidate_same h p = record {
  passable = passable_same h p.passable;
  in_no_other = λ x y q n. p.in_no_other x y (passable_same (turned_round h) q) (λ v f. interior_same (turned_round h) (n v (F-fewer (λ u w. (h u w).0) f)));
}

ring_candidate_apart : {E : Graph} {s t x y v : ℕ} → RingCandidate E s t → RingCandidate E x y → s ≢ x → Interior E s t v → F E x y v → ⊥
ring_candidate_apart {s = s} {t = t} {x = x} {y = y} p q n i f =
    ⊎_elim (p.in_no_other x y q.passable) (q.in_no_other s t p.passable) (meets_nested p.passable.superbubble q.passable.superbubble n i f)

-- one superbubble s, t is folded
module _ {E E' : Graph} {s t : ℕ} {N : Graph} (k : Thread E E' s t N) where
  module _ {x y : ℕ} (o : Clear E s t x y) where
    start_outside : Interior E s t x → ⊥
    start_outside i = o.start i.inside i.not_exit

    stop_outside : Interior E s t y → ⊥
    stop_outside i = o.stop i.inside i.not_entrance

    not_entrance : x ≢ s
    not_entrance q = o.start (rw q start) (λ r. (bubbloid_of k).distinct (sym q ∙ r))

    passable_after : Passable E x y → Passable E' x y
    passable_after p = record {
      superbubble = superbubble_after k o p.superbubble;
      interior =
          let (v, i) = p.interior in
          let at-entrance : F E' x y s × (s ≢ y) → Interior E' x y s = λ h. record { inside = h.0; not_entrance = λ q. not_entrance (sym q); not_exit = h.1 } in
          ⊎_elim (λ h. (v, interior_also i h.0)) (λ h. (s, at-entrance h.1)) (carried k o i.inside);
      not_skipped = λ q. passed_once p (fewer k x y q.bare_edge) (reaches_fewer (fewer k) q.way_back);
    }

    passable_before : Passable E' x y → Passable E x y
    passable_before p = record {
      superbubble = superbubble_before k o p.superbubble;
      interior = let (v, i) = p.interior in (v, interior_also i (F-fewer (fewer k) i.inside));
      not_skipped = λ q. passed_once p (bare_stays q.bare_edge) (still_reaches k stop_outside start_outside q.way_back);
    }
      where
        bare_stays : E x y → E' x y
        bare_stays e = (k.edges x y).1 (e, λ f g. absurd (elim (ℕ_discrete x t) [ yes q ↦ no_edge_from_exit (bubbloid_of k) g (rw q at e) | no n ↦ o.start f n ]))

  -- what lies around a pair that is clear of s, t is clear of it too
  around_clear : {x y a b : ℕ} → Clear E s t x y → Superbubble E a b → Nested E x y a b → Clear E s t a b
  around_clear {x} {y} {a} {b} o q n = record {
    start = λ f m. elim (ℕ_discrete a s) [ yes r ↦ whole r | no l ↦ inside (nest q k.superbubble (record { inside = f; not_entrance = l; not_exit = m })) ];
    stop = λ f m.
        elim (ℕ_discrete b t) [
          | yes r ↦ whole (entrance_unique (rw r at q) k.superbubble)
          | no l ↦ inside (nest_by_exit q k.superbubble (record { inside = f; not_entrance = m; not_exit = l }))
        ];
  }
    where
      i : Interior E a b x
      i = n x start

      inside : Nested E a b s t → ⊥
      inside h = start_outside o (h x i.inside)

      whole : a ≡ s → ⊥
      whole r = let e : b ≡ t = exit_unique (rw r at q) k.superbubble in start_outside o (rw (r, e) at i)

  ring_candidate_before : {x y : ℕ} → RingCandidate E' x y → RingCandidate E x y × (x ≢ s)
  ring_candidate_before {x} {y} p = (record { passable = passable_before o p.passable; in_no_other = alone }, not_entrance o)
    where
      o : Clear E s t x y
      o = interior_clear k p.passable.superbubble p.passable.interior.1

      alone : (a b : ℕ) → Passable E a b → Nested E x y a b → ⊥
      alone a b q n =
          let clear = around_clear o q.superbubble n in
          let i = n x start in
          let later = passable_after clear q in
          p.in_no_other a b later (nest p.passable.superbubble later.superbubble (interior_also i (carried_outside k clear i.inside (start_outside o))))

  ring_candidate_after : {x y : ℕ} → RingCandidate E s t → RingCandidate E x y → x ≢ s → RingCandidate E' x y
  ring_candidate_after {x} {y} p q n = record {
    passable =
        let differs : s ≢ x = λ e. n (sym e) in
        passable_after (apart_clear k.superbubble q.passable.superbubble differs (λ v. ring_candidate_apart p q differs)) q.passable;
    in_no_other = λ a b r m.
        let before = passable_before (interior_clear k r.superbubble r.interior.1) r in
        let i = m x start in
        q.in_no_other a b before (nest q.passable.superbubble before.superbubble (interior_also i (F-fewer (fewer k) i.inside)));
  }

-- a candidate is one whose entrance is interior to no other that can be folded
pub ring_by_entrance : {E : Graph} {s t : ℕ} → RingCandidate E s t ↔ (Passable E s t × ((x y : ℕ) → Passable E x y → Interior E x y s → ⊥))
ring_by_entrance {s = s} = (
  λ c. (c.passable, λ x y p i. c.in_no_other x y p (nest c.passable.superbubble p.superbubble i)),
  λ h. record { passable = h.0; in_no_other = λ x y p n. h.1 x y p (n s start) },
)

pub ring_candidate_laws : CandidateLaws (kind_of Taken) RingCandidate
ring_candidate_laws = record {
  fewer = λ h g. tt;
  same = λ g. ring_candidate_same;
  superbubble = λ p. p.passable.superbubble;
  interior = λ p. p.passable.interior;
  passed_once = λ g p. passed_once p.passable;
  apart = λ g. ring_candidate_apart;
  others = λ g p a h x y.
      let k = arm_thread p.passable.superbubble (passed_once p.passable) a h in
      (ring_candidate_before k, λ q. ring_candidate_after k p q.0 q.1);
}
