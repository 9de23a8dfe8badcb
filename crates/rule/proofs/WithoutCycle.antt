-- In a graph without a cycle a fold where rings are refused is one where they are taken: the candidates are the same. Assumes nothing.
use Prim.Native.Nat.{ℕ}
use mathlib.Core.Logic.{◌↔◌}
use Rattle.table.specs.Table.{Table, edges}
use Rattle.rule.specs.Lists.{Graph, Counts}
use Rattle.rule.specs.Fold.{Rule, NoCycle, Candidate, Entrance, Applied, GraphFolded}
use Rattle.rule.specs.Rings.{RingCandidate}
use Rattle.rule.specs.Tables.{TableFolded}
use Rattle.rule.proofs.Listings.{listing_same}
use Rattle.rule.proofs.Candidates.{to_ring, of_ring, no_cycle_fewer}

same_entrances : {E : Graph} → NoCycle E → (s : ℕ) → Entrance Candidate E s ↔ Entrance RingCandidate E s
same_entrances a s = (λ c. (c.0, to_ring a c.1), λ c. (c.0, of_ring a c.1))

module _ {R : Rule} {E E' : Graph} {c c' : Counts} {b : ℕ} (acyclic : NoCycle E) where
  applied_ring : Applied Candidate R E c b E' c' → Applied RingCandidate R E c b E' c'
  applied_ring a = record {
    candidates = a.candidates;
    listed = listing_same (same_entrances acyclic) a.listed;
    items = a.items;
    first = a.first;
    fit = λ i m. let f = a.fit i m in record { candidate = to_ring acyclic f.candidate; kept = f.kept; rest = f.rest };
    edges = a.edges;
    added = a.added;
    emptied = a.emptied;
    untouched = a.untouched;
  }

  graph_folded_ring : {folded left : ℕ} → GraphFolded Candidate R E c b E' c' folded left → GraphFolded RingCandidate R E c b E' c' folded left
  unfolding applied_ring
  graph_folded_ring f =
      let after : NoCycle E' = no_cycle_fewer (λ u v e. ((f.applied.edges u v).0 e).0) acyclic in
      let (l, listed, number) = f.remaining in
      record { applied = applied_ring f.applied; how_many = f.how_many; remaining = (l, listing_same (same_entrances after) listed, number) }

-- so of tables
pub table_folded_ring : {R : Rule} {table table' : Table} {budget folded left : ℕ} → NoCycle (edges table.rows)
    → TableFolded Candidate R table budget table' folded left → TableFolded RingCandidate R table budget table' folded left
table_folded_ring acyclic f = record { same_size = f.same_size; graph_folded = graph_folded_ring acyclic f.graph_folded }
