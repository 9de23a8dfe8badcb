-- Slices that were lent for a table, before a call and after it. Assumes nothing.
use Rattle.std.specs.Prelude.{ℕ, ◌+◌, ◌≡◌, ◌++◌, take, drop}
use Rattle.table.specs.Table.{Table}

-- a table of n vertices and m edges stands at the fronts of the slices, and what stood behind it is as it was
pub record AtFronts (n m : ℕ) (table lent after : Table) : Type 0 where
  pub starts_front : after.rows.starts ≡ table.rows.starts ++ drop (n + 1) lent.rows.starts
  pub targets_front : after.rows.targets ≡ table.rows.targets ++ drop m lent.rows.targets
  pub counts_front : after.counts ≡ table.counts ++ drop n lent.counts

-- the fronts of the slices that a table of n vertices and m edges takes
abbrev pub fronts : ℕ → ℕ → Table → Table
fronts n m slices =
    record {
      rows = record { starts = take (n + 1) slices.rows.starts; targets = take m slices.rows.targets };
      counts = take n slices.counts;
    }
