-- A table is given 0 exactly if it is well-formed. Assumes nothing.
use native.Mathlib.Omega.{arith}
use Rattle.table.specs.Verdict.{Verdict, AllMet}
use Rattle.table.specs.Table.{Rows, Table, Sound, SoundTable}
use Rattle.table.specs.Numbers.{table_demands, count_demands, counted_demands}
use Rattle.table.proofs.VerdictLaws.{accepted, accepts, first_met}

-- 0 of `table_demands`: 1 to 5 are met
pub table_met : (rows : Rows) → Verdict (table_demands rows) 0 → AllMet (table_demands rows)
table_met rows v =
    accepted (table_demands rows)
    ((λ e. omega arith), ((λ e. omega arith), ((λ e. omega arith), ((λ e. omega arith), ((λ e. omega arith), tt))))) v

-- 0 of `counted_demands`: 1 to 7 are met
pub counted_met : (table : Table) → Verdict (counted_demands table) 0 → AllMet (counted_demands table)
counted_met table v =
    accepted (counted_demands table)
    ((λ e. omega arith), ((λ e. omega arith), ((λ e. omega arith), ((λ e. omega arith), ((λ e. omega arith), ((λ e. omega arith), ((λ e. omega arith), tt))))))) v

-- starts and targets that meet 1 to 5 are well-formed
table_well_formed : (rows : Rows) → AllMet (table_demands rows) → Sound rows
table_well_formed rows met =
    record {
      some = met.0.0;
      most_vertices = met.0.1;
      most_edges = met.1.0;
      starts_fit = met.1.1.0;
      targets_below = met.1.1.1.0;
      rows_rise = met.1.1.1.1.0;
    }

-- starts and targets that are given 0 are well-formed
pub well_formed : (rows : Rows) → Verdict (table_demands rows) 0 → Sound rows
well_formed rows v = table_well_formed rows (table_met rows v)

-- and well-formed ones are given 0
pub well_formed_accepted : (rows : Rows) → Sound rows → Verdict (table_demands rows) 0
well_formed_accepted rows ok =
    accepts (table_demands rows)
    ((ok.some, ok.most_vertices), (ok.most_edges, (ok.starts_fit, (ok.targets_below, (ok.rows_rise, tt)))))

-- starts, targets and counts that meet 1 to 7 are well-formed
pub met_counted : (table : Table) → AllMet (counted_demands table) → SoundTable table
met_counted table met =
    record {
      well_formed = table_well_formed table.rows (first_met (table_demands table.rows) (count_demands table) met);
      count_each = met.1.1.1.1.1.0;
      sum_fits = met.1.1.1.1.1.1.0;
    }

-- and well-formed ones meet them
pub counted_meets : (table : Table) → SoundTable table → AllMet (counted_demands table)
counted_meets table ok =
    let rows = ok.well_formed in (
      (rows.some, rows.most_vertices),
      (rows.most_edges, (rows.starts_fit, (rows.targets_below, (rows.rows_rise, (ok.count_each, (ok.sum_fits, tt)))))),
    )

-- starts, targets and counts that are given 0 are well-formed
pub counted : (table : Table) → Verdict (counted_demands table) 0 → SoundTable table
counted table v = met_counted table (counted_met table v)

-- and well-formed ones are given 0
pub counted_accepted : (table : Table) → SoundTable table → Verdict (counted_demands table) 0
counted_accepted table ok = accepts (counted_demands table) (counted_meets table ok)
