-- Laws of the undoing: the row of the vertex visited last is given back. Assumes nothing.
use Rattle.std.proofs.Common.{ℕ, ◌+◌, ◌<◌, ◌≡◌, sym, ◌∙◌, List, arith, length, get_or, take, ext_get_or}
use Rattle.table.specs.Table.{vertices, row, WellFormed}
use Rattle.table.proofs.RowLaws.{row_below}
use Rattle.parents.specs.Parents.{occurrences, Parents, Tallying, Tallied}
use Rattle.parents.proofs.OccurrenceLaws.{occurrences_most}
use Rattle.parents.proofs.PlaceLaws.{apart_new}
use Rattle.search.specs.Steps.{unvisited, Lowered}
use Rattle.search.proofs.UnvisitedLaws.{visit_more, unvisited_least, unvisited_all}

module _ {starts targets pending order : List ℕ} (k : ℕ) (well : WellFormed starts targets) (w : Lowered starts targets pending order (k + 1)) where
  last_vertex : get_or order k 0 < vertices starts
  last_vertex = w.below k (omega arith)

  -- what the row took
  taken : (v : ℕ) → get_or pending v 0 + occurrences v (row starts targets (get_or order k 0)) ≡ unvisited starts targets (take k order) v
  taken v =
      let within : k < length order = omega (arith, w.room) in
      let new = apart_new order k within (λ i l q. omega (arith, w.apart i k (omega arith) (omega arith) q)) in
      omega (arith, w.counted v, visit_more starts targets order k within last_vertex new v)

  pub undo_tallying : Tallying (row starts targets (get_or order k 0)) pending
  undo_tallying = record {
    below = rw w.each (row_below starts targets well.targets_below (get_or order k 0));
    fits = λ v. omega (
      arith,
      taken v,
      unvisited_least starts targets (take k order) v,
      unvisited_all starts targets well v,
      occurrences_most v targets,
      well.most_edges,
    );
  }

  pub undo_more : {pending' : List ℕ} → Tallied (row starts targets (get_or order k 0)) pending pending' → Lowered starts targets pending' order k
  undo_more t = record {
    each = t.same ∙ w.each;
    room = omega (arith, w.room);
    below = λ i l. w.below i (omega arith);
    apart = λ i j l m. w.apart i j (omega arith) (omega arith);
    counted = λ v. omega (arith, t.more v, taken v);
  }

-- where nothing is visited, the parents are whole
pub undone : {starts targets parents pending order : List ℕ} → WellFormed starts targets → Parents (vertices starts) targets parents → Lowered starts targets pending order 0 → pending ≡ parents
undone {starts} {targets} {parents} {pending} well counted w =
    ext_get_or 0 pending parents (w.each ∙ sym counted.each) (λ v l. w.counted v ∙ unvisited_all starts targets well v ∙ sym (counted.count v))
