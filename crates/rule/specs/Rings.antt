-- The candidates of the fold that takes rings (docs/RULES.md, Rings), over any graph, cycles included. Assumes nothing.
use Rattle.std.specs.Prelude.{ℕ}
use Rattle.bubble.specs.Superbubble.{F, Interior, Reaches, Superbubble}
use Rattle.rule.specs.Lists.{Graph}

-- a superbubble that is never itself folded: it has a bare edge from entrance to exit, and its exit also reaches its entrance, by a path anywhere in the graph
pub record Skipped (E : Graph) (s t : ℕ) : Type 0 where
  pub superbubble : Superbubble E s t
  pub bare_edge : E s t
  pub way_back : Reaches E t s

-- one of the other superbubbles with an interior: a path passes it at most once, or it has no bare edge
pub record Passable (E : Graph) (s t : ℕ) : Type 0 where
  pub superbubble : Superbubble E s t
  pub interior : (v : ℕ) × Interior E s t v
  pub not_skipped : Skipped E s t → ⊥

-- the candidates: the outermost among them. So a skipped superbubble around one is no hindrance
pub record RingCandidate (E : Graph) (s t : ℕ) : Type 0 where
  pub passable : Passable E s t
  pub in_no_other : (x y : ℕ) → Passable E x y → ((v : ℕ) → F E s t v → Interior E x y v) → ⊥
