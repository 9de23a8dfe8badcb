-- What a directed cycle is, over any edge relation. Assumes nothing.
use Rattle.std.specs.Prelude.{ℕ}
use Rattle.bubble.specs.Superbubble.{Walk}

-- any vertex: a walk that is confined to nothing
abbrev pub Anywhere : ℕ → Type 0
Anywhere v = Unit {0}

-- some vertex has a walk of one or more edges back to itself; a self-loop is one
pub record Cyclic (E : ℕ → ℕ → Type 0) : Type 0 where
  pub vertex : ℕ
  pub back : Walk E Anywhere vertex vertex
