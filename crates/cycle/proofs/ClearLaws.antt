-- Laws of a walk over colours that are cleared, that keeps to all vertices and passes over no edge. Assumes nothing.
use Rattle.std.proofs.Common.{ℕ, ◌≡◌, Bool, true, false, List, arith}
use Rattle.table.specs.Table.{vertices, Edge}
use Rattle.table.specs.Verdict.{Says}
use Rattle.table.proofs.RowLaws.{edges_below}
use Rattle.bubble.specs.Cycle.{Cyclic}
use Rattle.visiting.specs.Visits.{Followed}
use Rattle.visiting.proofs.SafeLaws.{cyclic_fewer}
use Rattle.cycle.specs.Testing.{Testable, Unvisited}

module _ {starts targets colours colours' : List ℕ} {n : ℕ} (test : Testable starts targets colours) (all : n ≡ vertices starts) (clear : Unvisited n colours colours') where
  -- where all colours are 0, each edge is followed, where no edge is passed over since there is no vertex n
  each_followed : {to : ℕ} (u v : ℕ) → Edge starts targets u v → Followed starts targets colours' n to u v
  each_followed u v e =
      let (l, m) = edges_below test.well_formed u v e in
      record {
        edge = e;
        leaves = clear.unvisited u (omega (arith, l, all));
        enters = clear.unvisited v (omega (arith, m, all));
        other = λ q. absurd (omega (arith, l, all, q));
      }

  -- so it says whether the table has a cycle
  pub all_followed : (to : ℕ) (r : Bool) → Says r (Cyclic (Followed starts targets colours' n to)) → Says r (Cyclic (Edge starts targets))
  all_followed to true cycle = cyclic_fewer (λ u v e. e.edge) cycle
  all_followed to false none = λ cycle. none (cyclic_fewer each_followed cycle)
