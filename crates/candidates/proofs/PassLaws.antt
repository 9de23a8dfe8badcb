-- One entrance more is passed: it is ruled out already, or begins no superbubble that is taken, or begins one. Over any graph. Assumes nothing.
use Rattle.std.proofs.Common.{ℕ, ◌+◌, ◌≤◌, ◌<◌, ◌≡◌, refl, sym, ◌∙◌, ◌≢◌, ◌↔◌, List, le_refl, arith, get_or, set, length-set, get_or-set_same, get_or-set_other}
use native.Mathlib.Decide.{ℕ_discrete}
use Rattle.table.specs.Table.{In}
use Rattle.bubble.specs.Superbubble.{Interior}
use Rattle.bubble.proofs.Nesting.{nest, outermost_by_entrance}
use Rattle.bubble.proofs.Number.{Below, entrance_below}
use Rattle.bubble.proofs.Unique.{exit_unique}
use Rattle.parents.proofs.OccurrenceLaws.{in_decided}
use Rattle.rule.specs.Lists.{Graph, CandidateSet}
use Rattle.rule.specs.Way.{candidates_of}
use Rattle.rule.specs.declared.Rings.{Rings}
use Rattle.rule.specs.declared.Rings.TheVariants.{Refused, Taken}
use Rattle.rule.proofs.Passable.{ring_by_entrance}
use Rattle.candidates.specs.Steps.{RuledOut, Filled, taken_of, Enclosed, Passed}

-- what the scan asks of the superbubbles P that are taken, and of the candidates C: these are those of P whose entrance is interior to none of P
pub record ByEntrance (C P : CandidateSet) : Type 1 where
  pub filled : {E : Graph} {s t : ℕ} → P E s t → Filled E s t
  pub own : {E : Graph} {s t : ℕ} → C E s t → P E s t
  pub free : {E : Graph} {s t x y : ℕ} → C E s t → P E x y → Interior E x y s → ⊥
  pub all : {E : Graph} {s t : ℕ} → P E s t → ((x y : ℕ) → P E x y → Interior E x y s → ⊥) → C E s t

-- those of docs/RULES.md, Fold, and those of Rings are
pub by_entrance : (rings : Rings) → ByEntrance (candidates_of rings) (taken_of rings)
by_entrance Refused = record {
  filled = λ p. p;
  own = λ c. record { superbubble = c.outermost.superbubble; interior = c.interior };
  free = λ {E} {s} {t} {x} {y} c p. (outermost_by_entrance.0 c.outermost).1 x y p.superbubble;
  all = λ {E} {s} p free. record {
    outermost = outermost_by_entrance.1 (p.superbubble, λ x y q i. free x y (record { superbubble = q; interior = (s, i) }) i);
    interior = p.interior;
  };
}
by_entrance Taken = record {
  filled = λ p. record { superbubble = p.superbubble; interior = p.interior };
  own = λ c. c.passable;
  free = λ {E} {s} {t} {x} {y} c. (ring_by_entrance.0 c).1 x y;
  all = λ p free. ring_by_entrance.1 (p, free);
}

later : {P : CandidateSet} {E : Graph} {s v : ℕ} → Enclosed P E s v → Enclosed P E (s + 1) v
later e = record { entrance = e.entrance; exit = e.exit; passed = omega (arith, e.passed); taken = e.taken; inside = e.inside }

earlier : {P : CandidateSet} {E : Graph} {s v : ℕ} (e : Enclosed P E (s + 1) v) → e.entrance ≢ s → Enclosed P E s v
earlier e n = record { entrance = e.entrance; exit = e.exit; passed = omega (arith, e.passed); taken = e.taken; inside = e.inside }

module _ (rings : Rings) {E : Graph} {n s : ℕ} {exits : List ℕ} (p : Passed rings E n s exits) (here : s < n) where
  B : ByEntrance (candidates_of rings) (taken_of rings)
  B = by_entrance rings

  -- what is interior to one that is taken begins no candidate
  enclosed_none : {x v : ℕ} → Enclosed (taken_of rings) E x v → (t : ℕ) → candidates_of rings E v t → ⊥
  enclosed_none e t c = B.free c e.taken e.inside

  -- what is interior to one that begins at x is interior to one around x
  wider : {x y v : ℕ} → Enclosed (taken_of rings) E s x → taken_of rings E x y → Interior E x y v → Enclosed (taken_of rings) E s v
  wider {v = v} around q i =
      record {
        entrance = around.entrance;
        exit = around.exit;
        passed = around.passed;
        taken = around.taken;
        inside = nest (B.filled q).superbubble (B.filled around.taken).superbubble around.inside v i.inside;
      }

  -- s is ruled out
  pub pass_ruled : get_or exits s 0 ≡ n → Passed rings E n (s + 1) exits
  pass_ruled q = record {
    each = p.each;
    taken = λ v l m. elim (ℕ_discrete v s) [ yes e ↦ absurd (m (rw e q)) | no k ↦ p.taken v (omega arith) m ];
    none = λ v l r. elim (ℕ_discrete v s) [ yes e ↦ λ t c. enclosed_none around t (rw e at c) | no k ↦ p.none v (omega arith) r ];
    out = λ v e. elim (ℕ_discrete e.entrance s) [
      | yes h ↦ p.out v (wider around (rw h at e.taken) (rw h at e.inside))
      | no k ↦ p.out v (earlier e k)
    ];
    enclosed = λ v l m r. later (p.enclosed v (omega arith) m r);
  }
    where
      around : Enclosed (taken_of rings) E s s
      around = p.enclosed s (le_refl s) here q

  -- s begins none that is taken
  pub pass_none : ((t : ℕ) → taken_of rings E s t → ⊥) → Passed rings E n (s + 1) (set exits s n)
  pass_none nothing = record {
    each = length-set exits s n ∙ p.each;
    taken = λ v l m. elim (ℕ_discrete v s) [
      | yes e ↦ absurd (m (rw e at_s))
      | no k ↦ rw (other v k) (p.taken v (omega arith) (λ r. m (other v k ∙ r)))
    ];
    none = λ v l r. elim (ℕ_discrete v s) [ yes e ↦ λ t c. nothing t (rw e at (B.own c)) | no k ↦ p.none v (omega arith) (sym (other v k) ∙ r) ];
    out = λ v e. elim (ℕ_discrete v s) [ yes h ↦ rw h at_s | no k ↦ other v k ∙ p.out v (earlier e (begins v e)) ];
    enclosed = λ v l m r. later (p.enclosed v (omega arith) m (sym (other v (λ q. omega arith)) ∙ r));
  }
    where
      at_s : get_or (set exits s n) s 0 ≡ n
      at_s = get_or-set_same exits s n 0 (omega (arith, p.each))

      other : (v : ℕ) → v ≢ s → get_or (set exits s n) v 0 ≡ get_or exits v 0
      other v = get_or-set_other exits s v n 0

      begins : (v : ℕ) (e : Enclosed (taken_of rings) E (s + 1) v) → e.entrance ≢ s
      begins v e h = nothing e.exit (rw h at e.taken)

  -- s begins one that is taken, and the vertices listed are its interior
  pub pass_taken : {t : ℕ} {list exits' : List ℕ} → get_or exits s 0 ≢ n → t < n → taken_of rings E s t → ((v : ℕ) → In v list ↔ Interior E s t v)
      → RuledOut list (set exits s t) exits' n → Passed rings E n (s + 1) exits'
  pass_taken {t} {list} {exits'} free below taken listed r = record {
    each = r.same ∙ length-set exits s t ∙ p.each;
    taken = λ v l m. elim (ℕ_discrete v s) [
      | yes e ↦ rw (e, at_s) (below, taken)
      | no k ↦ let q = other v k (λ i. m (r.out v i)) in rw q (p.taken v (omega arith) (λ o. m (q ∙ o)))
    ];
    none = λ v l o. elim (ℕ_discrete v s) [
      | yes e ↦ absurd (let no : ⊥ = omega (arith, at_s, rw e at o) in no)
      | no k ↦ elim (in_decided v list) [ yes i ↦ enclosed_none (own v i) | no m ↦ p.none v (omega arith) (sym (other v k m) ∙ o) ]
    ];
    out = λ v e. elim (in_decided v list) [
      | yes i ↦ r.out v i
      | no m ↦
          let q = p.out v (earlier e (begins v e m)) in
          other v (λ h. free (rw h at q)) m ∙ q
    ];
    enclosed = λ v l m o. elim (in_decided v list) [ yes i ↦ own v i | no k ↦ later (p.enclosed v (omega arith) m (sym (other v (λ q. omega arith) k) ∙ o)) ];
  }
    where
      at_s : get_or exits' s 0 ≡ t
      at_s = r.others s (λ i. ((listed s).0 i).not_entrance refl) ∙ get_or-set_same exits s t 0 (omega (arith, p.each))

      other : (v : ℕ) → v ≢ s → (In v list → ⊥) → get_or exits' v 0 ≡ get_or exits v 0
      other v k m = r.others v m ∙ get_or-set_other exits s v t 0 k

      own : (v : ℕ) → In v list → Enclosed (taken_of rings) E (s + 1) v
      own v i = record { entrance = s; exit = t; passed = omega arith; taken = taken; inside = (listed v).0 i }

      begins : (v : ℕ) (e : Enclosed (taken_of rings) E (s + 1) v) → (In v list → ⊥) → e.entrance ≢ s
      begins v e m h =
          let q : e.exit ≡ t = exit_unique (B.filled (rw h at e.taken)).superbubble (B.filled taken).superbubble in
          m ((listed v).1 (rw (h, q) at e.inside))

-- all entrances passed
module _ (rings : Rings) {E : Graph} {n s : ℕ} {exits : List ℕ} (below : Below E n) (p : Passed rings E n s exits) (all : n ≤ s) where
  pub pass_most : (v : ℕ) → v < n → get_or exits v 0 ≤ n
  pass_most v h = elim (ℕ_discrete (get_or exits v 0) n) [ yes q ↦ omega arith | no m ↦ omega (arith, (p.taken v (omega arith) m).0) ]

  pub pass_sound : (v : ℕ) → v < n → get_or exits v 0 < n → candidates_of rings E v (get_or exits v 0)
  pass_sound v h l =
      (by_entrance rings).all (p.taken v (omega arith) (λ q. omega arith)).1 free
    where
      free : (x y : ℕ) → taken_of rings E x y → Interior E x y v → ⊥
      free x y q i =
          let passed : x < s = omega (arith, entrance_below below ((by_entrance rings).filled q).superbubble.bubbloid) in
          omega (arith, p.out v (record { entrance = x; exit = y; passed = passed; taken = q; inside = i }))

  pub pass_no_other : (v : ℕ) → v < n → get_or exits v 0 ≡ n → (t : ℕ) → candidates_of rings E v t → ⊥
  pass_no_other v h l = p.none v (omega arith) l
