-- Laws of where the search ends: a lone ready vertex is the exit, and without a ready vertex there is none. Assumes nothing.
use Rattle.std.proofs.Common.{ℕ, zero, suc, ◌+◌, ◌-◌, ◌≤◌, ◌<◌, ◌≡◌, sym, ◌∙◌, ap, ◌≢◌, List, arith, length, get_or, take}
use native.Mathlib.Decide.{ℕ_discrete, dec_lt}
use Rattle.table.specs.Table.{vertices, row, In, Edge}
use Rattle.table.proofs.RowLaws.{edges_below}
use Rattle.bubble.specs.Superbubble.{F, Walk, Walk.edge, Bubbloid}
use Rattle.bubble.proofs.Walks.{walk_before}
use Rattle.bubble.proofs.Facts.{exit_inside, closed_backward, predecessor}
use Rattle.bubble.proofs.FromOrder.{Placed, Rising, rising_bubbloid, rising_set}
use Rattle.bubble.proofs.Pigeonhole.{places_below}
use Rattle.parents.proofs.PlaceLaws.{in_take, take_in}
use Rattle.walking.specs.Walking.{waits}
use Rattle.walking.proofs.SumLaws.{sum_term}
use Rattle.walking.proofs.WaitLaws.{none_waits}
use Rattle.search.specs.Search.{Visited}
use Rattle.search.specs.Steps.{unvisited, Alone}
use Rattle.search.proofs.UnvisitedLaws.{unvisited_parent}
use Rattle.search.proofs.Going.{Going, tail_most, seen}

module _ {starts targets parents pending order : List ℕ} {s head tail waiting : ℕ} (g : Going starts targets parents pending order s head tail waiting) where
  -- the vertex at the head is alone, and does not lead back to the entrance
  module _ (lone : Alone head tail waiting) (forward : In s (row starts targets (get_or order head 0)) → ⊥) where
    none_waits_now : (v : ℕ) → v < vertices starts → waits (get_or pending v 0) (get_or parents v 0) ≡ 0
    none_waits_now v l =
        let term = sum_term (length pending) (λ x. waits (get_or pending x 0) (get_or parents x 0)) v (omega (arith, g.each)) in
        omega (arith, lone.nowhere, g.waited)

    -- the children of the visited vertices stand among the places
    children : (i : ℕ) {v : ℕ} → i < head → Edge starts targets (get_or order i 0) v → Placed (λ x. get_or order x 0) head v
    children i {v} l e =
        let none : get_or pending v 0 ≡ 0 = none_waits (get_or pending v 0) (get_or parents v 0) (none_waits_now v (edges_below g.well_formed _ v e).1) (seen g i v l e) in
        let (j, m, q) = g.whole (get_or order i 0) v none e in
        record { at = j; bound = omega (arith, lone.last); same = q }

    none_back : (i : ℕ) → i ≤ head → Edge starts targets (get_or order i 0) (get_or order 0 0) → ⊥
    none_back i l e =
        elim (ℕ_discrete i head) [
          | yes q ↦ forward (rw (ap (λ x. get_or order x 0) q) at (rw g.first at e.listed))
          | no n ↦ g.none_back i (omega arith) (rw g.first at e)
        ]

    rising : Rising (Edge starts targets) (λ x. get_or order x 0) head
    rising = record {
      several = lone.later;
      apart = λ i j l m. g.apart i j (omega (arith, lone.last)) (omega (arith, lone.last));
      children = children;
      parents = λ i {u} h l e. let (j, a, b, q) = g.behind i u h (omega (arith, lone.last)) e in (j, a, q);
      child = g.child;
      parent = λ i h l. g.parent i h (omega (arith, lone.last));
      none_back = none_back;
    }

    found_bubbloid : Bubbloid (Edge starts targets) s (get_or order head 0)
    found_bubbloid = rw g.first at (rising_bubbloid rising)

    -- the visited vertices are U less the exit
    found_set : (v : ℕ) → F (Edge starts targets) s (get_or order head 0) v → v ≢ get_or order head 0 → (i : ℕ) × (i < head) × (get_or order i 0 ≡ v)
    found_set v f n =
        let h : F (Edge starts targets) (get_or order 0 0) (get_or order head 0) v = rw g.first f in
        let p = (rising_set rising).0 h in
        let other : p.at ≢ head = λ q. n (sym p.same ∙ ap (λ x. get_or order x 0) q) in
        (p.at, omega (arith, p.bound), p.same)

    set_found : (v i : ℕ) → i < head → get_or order i 0 ≡ v → F (Edge starts targets) s (get_or order head 0) v × (v ≡ get_or order head 0 → ⊥)
    set_found v i l q = (
      rw g.first at ((rising_set rising).1 (record { at = i; bound = omega arith; same = q })),
      λ e. omega (arith, g.apart i head (omega (arith, lone.last)) (omega (arith, lone.last)) (q ∙ e)),
    )

    within : head ≤ length order
    within = omega (arith, lone.last, tail_most g, g.room)

    pub end_found : Visited starts targets order s (get_or order head 0) head
    end_found = record {
      superbubble = record {
        bubbloid = found_bubbloid;
        minimality = λ x f n b. let (i, l, q) = found_set x f n in g.before_exit x b i l q;
      };
      some = lone.later;
      room = within;
      first = g.first;
      apart = λ i j l m. g.apart i j (omega (arith, lone.last)) (omega (arith, lone.last));
      whole = λ v. (
        λ m. let (i, l, q) = take_in v order head within m in set_found v i l q,
        λ f. let (i, l, q) = found_set v f.0 f.1 in rw q at (in_take order head i l within),
      );
      forward = λ i j l m e.
          elim (ℕ_discrete j 0) [
            | yes q ↦ absurd (g.none_back i l (rw (ap (λ x. get_or order x 0) q ∙ g.first) at e))
            | no n ↦
                let (x, a, b, q) = g.behind j (get_or order i 0) (omega arith) (omega (arith, lone.last)) e in
                omega (arith, g.apart x i (omega (arith, lone.last)) (omega (arith, lone.last)) q)
          ];
    }

  -- no vertex is ready
  module _ (done : tail ≤ head) {t : ℕ} (b : Bubbloid (Edge starts targets) s t) where
    -- a vertex of U that is not visited
    Stuck : ℕ → Type 0
    Stuck v = F (Edge starts targets) s t v × (In v (take head order) → ⊥)

    within_order : head ≤ length order
    within_order = omega (arith, g.passed, tail_most g, g.room)

    -- it has a parent of its kind
    stuck_parent : {v : ℕ} → Stuck v → (u : ℕ) × Edge starts targets u v × Stuck u
    unfolding Stuck
    stuck_parent {v} x =
        let away : v ≢ s = λ q. x.1 (rw (g.first ∙ sym q) at (in_take order head 0 (omega (arith, g.some)) within_order)) in
        let (y, f, e) = predecessor b x.0 away in
        let some-pending : get_or pending v 0 ≢ 0 = λ q. let (i, l, p) = g.whole y v q e in x.1 (rw p at (in_take order head i (omega arith) within_order)) in
        let some : 0 < unvisited starts targets (take head order) v = omega (arith, g.lowered v) in
        let (u, d, n) = unvisited_parent starts targets (take head order) some in
        (u, d, (closed_backward b {u = u} x.0 away d, n))

    stuck_exit : Stuck t
    unfolding Stuck
    stuck_exit = (
      exit_inside b,
      λ m. let (i, l, q) = take_in t order head within_order m in g.before_exit t b i l q,
    )

    -- so a walk leads back from the exit without end
    back : ℕ → (v : ℕ) × Stuck v
    back zero = (t, stuck_exit)
    back (suc k) = let (u, e, x) = stuck_parent (back k).1 in (u, x)

    back_edge : (k : ℕ) → Edge starts targets (back (suc k)).0 (back k).0
    unfolding back
    back_edge k = (stuck_parent (back k).1).1

    back_inside : (k : ℕ) → F (Edge starts targets) s t (back k).0
    unfolding Stuck
    back_inside k = (back k).1.0

    back_walk : (i d : ℕ) → Walk (Edge starts targets) (F (Edge starts targets) s t) (back (suc (d + i))).0 (back i).0
    back_walk i zero = let q : 0 + i ≡ i = omega arith in rw q (edge (back_inside (suc i)) (back_edge i) (back_inside i))
    back_walk i (suc d) = let q : suc d + i ≡ suc (d + i) = omega arith in rw q (walk_before (back_inside (suc (suc (d + i)))) (back_edge (suc (d + i))) (back_walk i d))

    back_apart : (i j : ℕ) → i < j → (back i).0 ≢ (back j).0
    back_apart i j l q =
        let e : suc ((j - suc i) + i) ≡ j = omega arith in
        b.acyclicity (back i).0 (rw (← q) at (rw e at (back_walk i (j - suc i))))

    back_below : (k : ℕ) → (back k).0 < vertices starts
    back_below k = (edges_below g.well_formed _ _ (back_edge k)).1

    -- which n vertices cannot carry
    pub end_none : ⊥
    end_none =
        omega (
          arith,
          places_below (λ k. (back k).0) (suc (vertices starts)) (vertices starts) (λ k l. back_below k) (λ i j l m q.
              elim (dec_lt i j) [ yes h ↦ absurd (back_apart i j h q) | no n ↦ elim (dec_lt j i) [ yes h ↦ absurd (back_apart j i h (sym q)) | no k ↦ omega arith ] ]),
        )
