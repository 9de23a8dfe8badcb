-- The kept path by its best children, and the new rows by one number a vertex: what the code of a fold works with. Assumes nothing.
use Rattle.std.specs.Prelude.{ℕ, ◌+◌, ◌≤◌, ◌<◌, min, ◌≡◌, ◌≢◌}
use Rattle.std.proofs.Math.Logic.{ite}
use mathlib.Core.List.{List, [], ◌∷◌, ◌++◌, Memᴰ}
use Rattle.std.proofs.Math.Decide.{ℕ_discrete}
use Rattle.bubble.specs.Superbubble.{F}
use Rattle.rule.specs.Lists.{Graph, Counts, Follows}
use Rattle.rule.specs.Fold.{Item}
use Rattle.rule.specs.declared.Choosing.{Choosing}
use Rattle.rule.specs.declared.Choosing.TheVariants.{Sum, Weakest}

-- what the count of a vertex and the best of what follows it come to
abbrev pub gain : Choosing → ℕ → ℕ → ℕ
gain Sum count best = count + best
gain Weakest count best = min (1 + count) best

-- what a path gains that goes on to u: `end` at the exit, and else what the count of u and the best from u come to
unfoldable pub worth : Choosing → Counts → ℕ → ℕ → (ℕ → ℕ) → ℕ → ℕ
worth by c t end best u = ite (ℕ_discrete u t) end (gain by (c u) (best u))

-- best v is the most that a child of v is worth, and next v the smallest child that is worth it
pub record Settled (by : Choosing) (E : Graph) (c : Counts) (t end : ℕ) (best next : ℕ → ℕ) (v : ℕ) : Type 0 where
  pub child : E v (next v)
  pub reached : worth by c t end best (next v) ≡ best v
  pub largest : (u : ℕ) → E v u → worth by c t end best u ≤ best v
  pub smallest : (u : ℕ) → E v u → worth by c t end best u ≡ best v → next v ≤ u

-- what the exit gains from v: the bound, but nothing from the entrance s, whose bare edge comes behind every other path
unfoldable pub end_from : ℕ → ℕ → ℕ → ℕ
end_from s bound v = ite (ℕ_discrete v s) 0 bound

-- the inner vertices of the path by next from v to t
pub data ByNext (next : ℕ → ℕ) (t : ℕ) : ℕ → List ℕ → Type 0 where
  last : {v : ℕ} → next v ≡ t → ByNext next t v []
  step : {v : ℕ} {l : List ℕ} → next v ≢ t → ByNext next t (next v) l → ByNext next t v (next v ∷ l)

-- the number of a vertex, of n, whose whole row stays: no vertex has it
abbrev pub whole_row : ℕ → ℕ
whole_row n = n

-- the number of a vertex, of n, none of whose edges stays
abbrev pub no_row : ℕ → ℕ
no_row n = n + 1

-- v is the next vertex after u from the entrance along the arm to the exit
abbrev pub Next : Item → Graph
Next i = Follows (i.entrance ∷ i.arm ++ (i.exit ∷ []))

-- what the number of u, of n vertices, says of the folded items: no item holds u but at its exit, u is on a kept path, or u is dropped
pub record Numbered (E : Graph) (items : List Item) (n : ℕ) (next : ℕ → ℕ) (u : ℕ) : Type 0 where
  pub whole : next u ≡ whole_row n → (i : Item) → Memᴰ i items → F E i.entrance i.exit u → u ≡ i.exit
  pub one : next u < n → (i : Item) × Memᴰ i items × Next i u (next u)
  pub none : whole_row n < next u → (i : Item) × Memᴰ i items × Memᴰ u i.dropped
