-- Turning a graph round: F becomes B, and a bubbloid a bubbloid with entrance and exit changed over. Assumes nothing.
use Prim.Native.Nat.{ℕ}
use mathlib.Core.Path.{sym}
use mathlib.Core.Logic.{◌↔◌}
use Rattle.bubble.specs.Superbubble.{Reaches, Reaches.none, Reaches.then, F, F.start, F.on, B, B.end, B.from, Walk, Walk.edge, Walk.more, Bubbloid, Interior}
use Rattle.bubble.proofs.Walks.{walk_before, walk_widen, reaches_before, F-reaches, F-no-return, F-onward}

-- the graph turned round
abbrev pub reversed : (ℕ → ℕ → Type 0) → ℕ → ℕ → Type 0
reversed E u v = E v u

module _ {E : ℕ → ℕ → Type 0} where
  to_backward : {s t v : ℕ} → F (reversed E) t s v → B E s t v
  to_backward start = end
  to_backward (on f n e) = from e n (to_backward f)

  to_forward : {s t v : ℕ} → B E s t v → F (reversed E) t s v
  to_forward end = start
  to_forward (from e n b) = on (to_forward b) n e

  walk_reversed : {P : ℕ → Type 0} {u v : ℕ} → Walk E P u v → Walk (reversed E) P v u
  walk_reversed (edge p e q) = edge q e p
  walk_reversed (more w e q) = walk_before q e (walk_reversed w)

  pub reaches_reversed : {u v : ℕ} → Reaches E u v → Reaches (reversed E) v u
  reaches_reversed none = none
  reaches_reversed (then r e) = reaches_before e (reaches_reversed r)

pub F-reversed : {E : ℕ → ℕ → Type 0} {s t v : ℕ} → F (reversed E) t s v ↔ B E s t v
F-reversed = (to_backward, to_forward)

pub B-reversed : {E : ℕ → ℕ → Type 0} {s t v : ℕ} → B (reversed E) t s v ↔ F E s t v
B-reversed = (to_forward, to_backward)

pub B-reaches : {E : ℕ → ℕ → Type 0} {s t v : ℕ} → B E s t v → Reaches E v t
B-reaches b = reaches_reversed (F-reaches (F-reversed.1 b))

-- where a set that holds B has no cycle, no edge leads from t back into B
pub B-no-return : {E : ℕ → ℕ → Type 0} {s t v : ℕ} {P : ℕ → Type 0} → ((x : ℕ) → B E s t x → P x) → ((x : ℕ) → Walk E P x x → ⊥) → B E s t v → E t v → ⊥
B-no-return h a b = F-no-return (λ x f. h x (F-reversed.0 f)) (λ x w. a x (walk_reversed w)) (F-reversed.1 b)

-- B up to a vertex of B, from the same s, is part of B
pub B-onward : {E : ℕ → ℕ → Type 0} {s t m v : ℕ} → B E s t m → B E s m v → B E s t v
B-onward b c = F-reversed.0 (F-onward (F-reversed.1 b) (F-reversed.1 c))

-- the set of a bubbloid stays what it is
pub inside_reversed : {E : ℕ → ℕ → Type 0} {s t v : ℕ} → Bubbloid E s t → F E s t v ↔ F (reversed E) t s v
inside_reversed {v = v} b = (λ f. F-reversed.1 ((b.matching v).0 f), λ f. (b.matching v).1 (F-reversed.0 f))

-- so does its interior
pub interior_reversed : {E : ℕ → ℕ → Type 0} {s t v : ℕ} → Bubbloid E s t → Interior E s t v ↔ Interior (reversed E) t s v
interior_reversed b = (
  λ i. record { inside = (inside_reversed b).0 i.inside; not_entrance = i.not_exit; not_exit = i.not_entrance },
  λ i. record { inside = (inside_reversed b).1 i.inside; not_entrance = i.not_exit; not_exit = i.not_entrance },
)

turned : {E : ℕ → ℕ → Type 0} {s t : ℕ} → Bubbloid E s t → Bubbloid (reversed E) t s
turned b = record {
  distinct = λ q. b.distinct (sym q);
  reachability = reaches_reversed b.reachability;
  matching = λ v. (λ f. B-reversed.1 ((inside_reversed b).1 f), λ g. (inside_reversed b).0 (B-reversed.0 g));
  acyclicity = λ v w. b.acyclicity v (walk_widen (λ x. (inside_reversed b).1) (walk_reversed w));
}

pub bubbloid_reversed : {E : ℕ → ℕ → Type 0} {s t : ℕ} → Bubbloid E s t ↔ Bubbloid (reversed E) t s
bubbloid_reversed = (turned, turned)
