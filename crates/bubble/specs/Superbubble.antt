-- The published definition of a superbubble (docs/RULES.md, The definition), over any edge relation E: `E u v` says that there is an edge from u to v.
-- This page is what a reader has to believe. Assumes nothing.
use Rattle.std.specs.Prelude.{ℕ, ◌≡◌, ◌↔◌}

-- t is reachable from s: a path of any number of edges
pub data Reaches (E : ℕ → ℕ → Type 0) (s : ℕ) : ℕ → Type 0 where
  none : Reaches E s s
  then : {u v : ℕ} → Reaches E s u → E u v → Reaches E s v

-- F: v has a path from s on which t is nowhere but at the last place
pub data F (E : ℕ → ℕ → Type 0) (s t : ℕ) : ℕ → Type 0 where
  start : F E s t s
  on : {u v : ℕ} → F E s t u → (u ≡ t → ⊥) → E u v → F E s t v

-- B: u has a path to t on which s is nowhere but at the first place
pub data B (E : ℕ → ℕ → Type 0) (s t : ℕ) : ℕ → Type 0 where
  end : B E s t t
  from : {u v : ℕ} → E u v → (v ≡ s → ⊥) → B E s t v → B E s t u

-- a walk of one or more edges with both ends in P
pub data Walk (E : ℕ → ℕ → Type 0) (P : ℕ → Type 0) (u : ℕ) : ℕ → Type 0 where
  edge : {v : ℕ} → P u → E u v → P v → Walk E P u v
  more : {v w : ℕ} → Walk E P u v → E v w → P w → Walk E P u w

-- s and t are distinct and meet the first three: reachability, matching (F = B, the set U) and acyclicity (no cycle among the edges with both ends in U)
pub record Bubbloid (E : ℕ → ℕ → Type 0) (s t : ℕ) : Type 0 where
  pub distinct : s ≡ t → ⊥
  pub reachability : Reaches E s t
  pub matching : (v : ℕ) → F E s t v ↔ B E s t v
  pub acyclicity : (v : ℕ) → Walk E (F E s t) v v → ⊥

-- and no vertex of U other than t forms with s a pair that meets the first three
pub record Superbubble (E : ℕ → ℕ → Type 0) (s t : ℕ) : Type 0 where
  pub bubbloid : Bubbloid E s t
  pub minimality : (x : ℕ) → F E s t x → (x ≡ t → ⊥) → Bubbloid E s x → ⊥

-- v lies in the interior of s, t: in U, and neither s nor t
pub record Interior (E : ℕ → ℕ → Type 0) (s t v : ℕ) : Type 0 where
  pub inside : F E s t v
  pub not_entrance : v ≡ s → ⊥
  pub not_exit : v ≡ t → ⊥

-- a superbubble whose U lies in the interior of no other superbubble
pub record Outermost (E : ℕ → ℕ → Type 0) (s t : ℕ) : Type 0 where
  pub superbubble : Superbubble E s t
  pub in_no_other : (x y : ℕ) → Superbubble E x y → ((v : ℕ) → F E s t v → Interior E x y v) → ⊥
