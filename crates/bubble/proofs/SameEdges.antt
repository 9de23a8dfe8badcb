-- Only which edges there are counts: graphs with the same edges have the same bubbloids and superbubbles. Assumes nothing.
use Prim.Native.Nat.{ℕ}
use mathlib.Core.Logic.{◌↔◌}
use Rattle.bubble.specs.Superbubble.{Interior, Bubbloid, Superbubble}
use Rattle.bubble.proofs.Fewer.{F-fewer, B-fewer, reaches_fewer, walk_fewer, interior_also}

abbrev pub SameEdges : (ℕ → ℕ → Type 0) → (ℕ → ℕ → Type 0) → Type 0
SameEdges E E' = (u v : ℕ) → E u v ↔ E' u v

pub turned_round : {E E' : ℕ → ℕ → Type 0} → SameEdges E E' → SameEdges E' E
turned_round h u v = ((h u v).1, (h u v).0)

module _ {E E' : ℕ → ℕ → Type 0} (h : SameEdges E E') where
  to : (u v : ℕ) → E u v → E' u v
  to u v = (h u v).0

  from : (u v : ℕ) → E' u v → E u v
  from u v = (h u v).1

  pub interior_same : {s t v : ℕ} → Interior E s t v → Interior E' s t v
  interior_same i = interior_also i (F-fewer to i.inside)

  bubbloid_same : {s t : ℕ} → Bubbloid E s t → Bubbloid E' s t
  bubbloid_same b = record {
    distinct = b.distinct;
    reachability = reaches_fewer to b.reachability;
    matching = λ v. (λ f. B-fewer to ((b.matching v).0 (F-fewer from f)), λ g. F-fewer to ((b.matching v).1 (B-fewer from g)));
    acyclicity = λ v w. b.acyclicity v (walk_fewer from (λ x. F-fewer from) w);
  }

pub superbubble_same : {E E' : ℕ → ℕ → Type 0} {s t : ℕ} → SameEdges E E' → Superbubble E s t → Superbubble E' s t
superbubble_same h p = record {
  bubbloid = bubbloid_same h p.bubbloid;
  minimality = λ x f n b. p.minimality x (F-fewer (from h) f) n (bubbloid_same (turned_round h) b);
}
