-- The new table of a fold, from one number a vertex: n where its whole row stays, else the vertex to which its only edge leads, or more than n where no edge stays. Assumes nothing.
use Rattle.std.specs.Prelude.{ℕ, ◌+◌, ◌≤◌, ◌<◌, ◌≡◌, ◌↔◌, Bool, true, false, List, [], ◌∷◌, ◌++◌, ltb, length, get_or, drop}
use Rattle.std.proofs.Math.Seq.{paste}
use Rattle.table.specs.Table.{Rows, size, edges, Sound}
use Rattle.rule.specs.Next.{whole_row}

-- no edge, the one to next, or the row, by whether next is above n and whether it is below
abbrev pub chosen : Bool → Bool → ℕ → List ℕ → List ℕ
chosen true below next row = []
chosen false true next row = next ∷ []
chosen false false next row = row

-- what stays of a row of a vertex, of n, by its number
abbrev pub staying : ℕ → ℕ → List ℕ → List ℕ
staying n next row = chosen (ltb (whole_row n) next) (ltb next n) next row

-- a slice, before and after, with a row written over it from a place on, and the place behind
pub record Put (row out out' : List ℕ) (at r : ℕ) : Type 0 where
  pub written : out' ≡ paste out at row (length row)
  pub behind : r ≡ at + length row

-- what is asked: a well-formed table, a number for each vertex, of which those below n are edges, and room by n and m
pub record TableReady (rows : Rows) (next : List ℕ) (lent : Rows) : Type 0 where
  pub well_formed : Sound rows
  pub next_each : length next ≡ size rows
  pub next_edge : (v : ℕ) → v < size rows → get_or next v 0 < size rows → edges rows v (get_or next v 0)
  pub starts_room : size rows + 1 ≤ length lent.starts
  pub targets_room : length rows.targets ≤ length lent.targets

-- the edges of the second table are those that stay of the first
pub record EdgesStay (rows : Rows) (next : List ℕ) (result : Rows) : Type 0 where
  pub whole : (u : ℕ) → get_or next u 0 ≡ whole_row (size rows) → (v : ℕ) → edges result u v ↔ edges rows u v
  pub one : (u : ℕ) → u < size rows → get_or next u 0 < size rows → (v : ℕ) → edges result u v ↔ (v ≡ get_or next u 0)
  pub none : (u : ℕ) → whole_row (size rows) < get_or next u 0 → (v : ℕ) → edges result u v → ⊥

-- what writing states: the new table, and the slices before and after with it at their fronts
pub record TableWritten (rows : Rows) (next : List ℕ) (lent after : Rows) (r : ℕ) : Type 0 where
  pub result : Rows
  pub starts_front : after.starts ≡ result.starts ++ drop (size rows + 1) lent.starts
  pub targets_front : after.targets ≡ result.targets ++ drop r lent.targets
  pub edge_count : length result.targets ≡ r
  pub well_formed : Sound result
  pub as_many : length result.starts ≡ length rows.starts
  pub fewer : r ≤ length rows.targets
  pub edges_stay : EdgesStay rows next result
