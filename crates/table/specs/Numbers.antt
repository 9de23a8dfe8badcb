-- The numbers 1 to 8 of a table (docs/RULES.md, Numbers): each demand beside the number that is given where it is the first that is not met. Assumes nothing.
use Rattle.std.specs.Prelude.{ℕ, ◌+◌, ◌≤◌, ◌<◌, ◌≡◌, List, [], ◌∷◌, ◌++◌, length}
use Rattle.table.specs.Limits.{start_limit, edge_limit, read_limit}
use Rattle.table.specs.Verdict.{Demand}
use Rattle.table.specs.Table.{Below, StartsFit, RowsRise, count_sum, Rows, Table, size}

-- 1: the starts slice is empty or longer than 2,049
abbrev pub some_starts : Rows → Demand
some_starts rows = record { number = 1; met = (0 < length rows.starts) × (length rows.starts ≤ start_limit) }

-- 2: m above 8,192
abbrev pub few_targets : Rows → Demand
few_targets rows = record { number = 2; met = length rows.targets ≤ edge_limit }

-- 3: starts don't begin with 0, fall, or don't end with m
abbrev pub starts_fit_demand : Rows → Demand
starts_fit_demand rows = record { number = 3; met = StartsFit rows.starts (length rows.targets) }

-- 4: a target is n or more
abbrev pub targets_below_demand : Rows → Demand
targets_below_demand rows = record { number = 4; met = Below (size rows) rows.targets }

-- 5: a row doesn't rise strictly
abbrev pub rows_rise_demand : Rows → Demand
rows_rise_demand rows = record { number = 5; met = RowsRise rows.starts rows.targets }

-- 6: the counts slice isn't n long
abbrev pub count_each_demand : Table → Demand
count_each_demand table = record { number = 6; met = length table.counts ≡ size table.rows }

-- 7: the counts sum above 1,099,511,627,775
abbrev pub sum_fits_demand : Table → Demand
sum_fits_demand table = record { number = 7; met = count_sum table.counts ≤ read_limit }

-- 8: output starts, targets, counts below n+1, m, n
abbrev pub room_for : ℕ → ℕ → Table → Demand
room_for n m lent =
    record {
      number = 8;
      met = (n + 1 ≤ length lent.rows.starts) × (m ≤ length lent.rows.targets) × (n ≤ length lent.counts);
    }

-- 1 to 5: what list and judge ask of starts and targets
abbrev pub table_demands : Rows → List Demand
table_demands rows = some_starts rows ∷ few_targets rows ∷ starts_fit_demand rows ∷ targets_below_demand rows ∷ rows_rise_demand rows ∷ []

-- 6 and 7: what is asked of the counts
abbrev pub count_demands : Table → List Demand
count_demands table = count_each_demand table ∷ sum_fits_demand table ∷ []

-- 1 to 7: what fold and image writing ask of starts, targets and counts
abbrev pub counted_demands : Table → List Demand
counted_demands table = table_demands table.rows ++ count_demands table
