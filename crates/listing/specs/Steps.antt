-- What the steps of list state between themselves. Assumes nothing.
use Rattle.std.specs.Prelude.{ℕ, ◌+◌, ◌*◌, ◌≤◌, ◌≡◌, List, Option, Some, None, length, set}
use Rattle.table.specs.Table.{Rows, size, Sound}
use Rattle.search.specs.declared.Exit.{Exit}

-- one line more, or none: the slice and how many lines there are, before and after
abbrev pub Line : List ℕ → List ℕ → ℕ → ℕ → Option Exit → ℕ → Type 0
Line out out' found s (Some exit) r = (r ≡ found + 1) × (out' ≡ set (set out (2 * found) s) (2 * found + 1) exit.vertex)
Line out out' found s None r = (r ≡ found) × (out' ≡ out)

-- what is handed to the listing: a well-formed table, slices of n to work on, and room for the list
pub record ListReady (rows : Rows) (parents pending order out : List ℕ) : Type 0 where
  pub sound : Sound rows
  pub parents_long : length parents ≡ size rows
  pub pending_long : length pending ≡ size rows
  pub order_long : length order ≡ size rows
  pub room : 2 * size rows ≤ length out
