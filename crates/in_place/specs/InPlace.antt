-- What stands in an image of a version, n and m, and what is asked of it there: 3, 4, 5, 7 and 20. Assumes nothing.
use Rattle.std.specs.Prelude.{ℕ, ◌+◌, ◌*◌, ◌≤◌, ◌≡◌, List, [], ◌∷◌, length, drop}
use Rattle.table.specs.Limits.{vertex_limit, edge_limit}
use Rattle.table.specs.Verdict.{Demand}
use Rattle.table.specs.Table.{Table}
use Rattle.table.specs.Numbers.{starts_fit_demand, targets_below_demand, rows_rise_demand, sum_fits_demand}
use Rattle.layout.specs.Bytes.{numbers_of}
use Rattle.layout.specs.Lengths.{length_count, no_zero}
use Rattle.layout.specs.Image.{Contents, image_length}

-- an image as long as version, n and m say, of which n and m are within the limits
pub record Sized (image : List ℕ) (version n m : ℕ) : Type 0 where
  pub few_vertices : n ≤ vertex_limit
  pub few_edges : m ≤ edge_limit
  pub long : length image ≡ image_length version n m

-- the table that stands in it; `table_of` is that of the header's n and m
abbrev pub table_in : List ℕ → ℕ → ℕ → Table
table_in image n m =
    record {
      rows =
          record {
            starts = numbers_of 4 (n + 1) (drop 13 image);
            targets = numbers_of 4 m (drop (13 + 4 * (n + 1)) image);
          };
      counts = numbers_of 8 n (drop (13 + 4 * (n + 1) + 4 * m) image);
    }

-- and with it the lengths; `contents_of` are those of the header's version, n and m
abbrev pub contents_in : List ℕ → ℕ → ℕ → ℕ → Contents
contents_in image version n m =
    record { table = table_in image n m; lengths = numbers_of 2 (length_count version n) (drop (13 + 4 * (n + 1) + 4 * m + 8 * n) image) }

-- 3, 4, 5, 7, 20: what is asked of contents of which n and m are known
abbrev pub placed_demands : Contents → List Demand
placed_demands contents =
    starts_fit_demand contents.table.rows ∷ targets_below_demand contents.table.rows ∷ rows_rise_demand contents.table.rows ∷ sum_fits_demand contents.table ∷ no_zero contents.lengths ∷ []
