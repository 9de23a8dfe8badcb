-- Laws of a turn of the search: the row of the vertex at the head can be passed, and the search goes on behind it. Assumes nothing.
use Rattle.std.proofs.Common.{ℕ, ◌+◌, ◌≤◌, ◌<◌, ◌≡◌, refl, sym, ◌∙◌, ap, ◌≢◌, List, arith, length, get_or, take}
use native.Mathlib.Decide.{ℕ_discrete, dec_lt}
use lib.Seq.{take-length}
use Rattle.table.specs.Table.{vertices, row, In, Edge}
use Rattle.table.proofs.RowLaws.{row_below, edges_below}
use Rattle.bubble.specs.Superbubble.{Bubbloid}
use Rattle.parents.specs.Parents.{occurrences}
use Rattle.parents.proofs.OccurrenceLaws.{occurs_in}
use Rattle.parents.proofs.PlaceLaws.{take_in, take_same, apart_new}
use Rattle.walking.specs.Walking.{Walkable, Walked}
use Rattle.search.specs.Steps.{unvisited, Alone}
use Rattle.search.proofs.UnvisitedLaws.{none_unvisited, visit_more}
use Rattle.search.proofs.Going.{Going, tail_most, not_exit}

module _ {starts targets parents pending order : List ℕ} {s head tail waiting : ℕ}
    (g : Going starts targets parents pending order s head tail waiting) (ready : head < tail) (forward : In s (row starts targets (get_or order head 0)) → ⊥) where
  vertex : get_or order head 0 < vertices starts
  vertex = g.below head ready

  within : head < length order
  within = omega (arith, tail_most g, g.room)

  -- what is pending behind the vertex at the head
  taken : (v : ℕ) → unvisited starts targets (take (head + 1) order) v + occurrences v (row starts targets (get_or order head 0)) ≡ get_or pending v 0
  taken v =
      let new = apart_new order head within (λ i l q. omega (arith, g.apart i head (omega arith) ready q)) in
      omega (arith, g.lowered v, visit_more starts targets order head within vertex new v)

  new : (i : ℕ) → i < tail → In (get_or order i 0) (row starts targets (get_or order head 0)) → ⊥
  new i l m =
      elim (ℕ_discrete i 0) [
        | yes q ↦ forward (rw (ap (λ x. get_or order x 0) q ∙ g.first) at m)
        | no n ↦
            let (j, a, h, q) = g.behind i (get_or order head 0) (omega arith) l (record { vertex = vertex; listed = m }) in
            omega (arith, g.apart j head (omega arith) ready q)
      ]

  pub turn_walkable : Walkable (row starts targets (get_or order head 0)) parents pending order tail waiting
  turn_walkable = record {
    rises = g.well_formed.rows_rise (get_or order head 0) vertex;
    below = rw g.each (row_below starts targets g.well_formed.targets_below (get_or order head 0));
    counted = g.each ∙ sym g.counted.each;
    unpassed = λ v. omega (arith, taken v);
    room = omega (arith, g.each, g.room);
    vertices = λ i l. rw g.each (g.below i l);
    apart = g.apart;
    new = new;
    waited = g.waited;
  }

  module _ {pending' order' : List ℕ} {tail' waiting' : ℕ} (reached : Alone head tail waiting → ⊥) (some : length (row starts targets (get_or order head 0)) ≢ 0)
      (w : Walked (row starts targets (get_or order head 0)) parents pending order tail (length (row starts targets (get_or order head 0))) pending' order' tail' waiting') where
    lower : (v : ℕ) → get_or pending' v 0 + occurrences v (row starts targets (get_or order head 0)) ≡ get_or pending v 0
    lower v = rw (take-length (row starts targets (get_or order head 0))) at (w.lowered v)

    lowered : (v : ℕ) → get_or pending' v 0 ≡ unvisited starts targets (take (head + 1) order') v
    lowered v =
        let same : take (head + 1) order ≡ take (head + 1) order' =
        take_same order order' (head + 1) (omega (arith, within)) (omega (arith, within, w.same_order)) (λ i l. sym (w.kept i (omega arith))) in
        rw same at (let q : get_or pending' v 0 ≡ unvisited starts targets (take (head + 1) order) v = omega (arith, lower v, taken v) in q)

    -- a new entry is a child of the vertex at the head
    edge : (i : ℕ) → tail ≤ i → i < tail' → Edge starts targets (get_or order head 0) (get_or order' i 0)
    edge i l m = record { vertex = vertex; listed = rw (take-length (row starts targets (get_or order head 0))) at (w.listed i l m) }

    below : (i : ℕ) → i < tail' → get_or order' i 0 < vertices starts
    below i l =
        elim (dec_lt i tail) [
          | yes m ↦ rw (w.kept i m) (g.below i m)
          | no n ↦ (edges_below g.well_formed _ _ (edge i (omega arith) l)).1
        ]

    none_pending : (i : ℕ) → 0 < i → i < tail' → get_or pending' (get_or order' i 0) 0 ≡ 0
    none_pending i h l =
        elim (dec_lt i tail) [
          | yes m ↦ rw (w.kept i m) (omega (arith, lower (get_or order i 0), g.none_pending i h m))
          | no n ↦ w.none_pending i (omega arith) l
        ]

    parent : (i : ℕ) → 0 < i → i < tail' → (u : ℕ) × Edge starts targets u (get_or order' i 0)
    parent i h l =
        elim (dec_lt i tail) [
          | yes m ↦ rw (w.kept i m) (g.parent i h m)
          | no n ↦ (get_or order head 0, edge i (omega arith) l)
        ]

    behind : (i u : ℕ) → 0 < i → i < tail' → Edge starts targets u (get_or order' i 0) → (j : ℕ) × (j < i) × (j < head + 1) × (get_or order' j 0 ≡ u)
    behind i u h l e =
        elim (dec_lt i tail) [
          | yes m ↦
              let (j, a, b, q) = g.behind i u h m (rw (w.kept i m) at e) in
              (j, a, omega arith, w.kept j (omega arith) ∙ q)
          | no n ↦
              let inside = none_unvisited starts targets (take (head + 1) order') (sym (lowered (get_or order' i 0)) ∙ w.none_pending i (omega arith) l) e in
              let (j, b, q) = take_in u order' (head + 1) (omega (arith, within, w.same_order)) inside in
              (j, omega arith, b, q)
        ]

    whole : (u v : ℕ) → get_or pending' v 0 ≡ 0 → Edge starts targets u v → (i : ℕ) × (i < tail') × (get_or order' i 0 ≡ v)
    whole u v q e =
        elim (dec_lt 0 (occurrences v (row starts targets (get_or order head 0)))) [
          | yes m ↦ w.whole v (rw (take-length (row starts targets (get_or order head 0))) (occurs_in v (row starts targets (get_or order head 0)) m)) q
          | no n ↦
              let (i, l, p) = g.whole u v (omega (arith, lower v)) e in
              (i, omega (arith, w.longer), w.kept i l ∙ p)
        ]

    none_back : (i : ℕ) → i < head + 1 → Edge starts targets (get_or order' i 0) s → ⊥
    none_back i l e =
        elim (ℕ_discrete i head) [
          | yes q ↦ forward (rw (ap (λ x. get_or order x 0) q) at (rw (w.kept i (omega arith)) at e.listed))
          | no n ↦ g.none_back i (omega arith) (rw (w.kept i (omega arith)) at e)
        ]

    child : (i : ℕ) → i < head + 1 → (v : ℕ) × Edge starts targets (get_or order' i 0) v
    child i l =
        let line = row starts targets (get_or order head 0) in
        elim (ℕ_discrete i head) [
          | yes q ↦ rw (w.kept i (omega arith) ∙ ap (λ x. get_or order x 0) q) (get_or line 0 0, record { vertex = vertex; listed = record { place = 0; inside = omega arith; stands = refl } })
          | no n ↦ rw (w.kept i (omega arith)) (g.child i (omega arith))
        ]

    before_exit : (t : ℕ) → Bubbloid (Edge starts targets) s t → (i : ℕ) → i < head + 1 → get_or order' i 0 ≢ t
    before_exit t b i l q =
        elim (ℕ_discrete i head) [
          | yes e ↦ not_exit g b ready reached (sym (w.kept i (omega arith) ∙ ap (λ x. get_or order x 0) e) ∙ q)
          | no n ↦ g.before_exit t b i (omega arith) (sym (w.kept i (omega arith)) ∙ q)
        ]

    pub turn_more : Going starts targets parents pending' order' s (head + 1) tail' waiting'
    turn_more = record {
      well_formed = g.well_formed;
      counted = g.counted;
      passed = omega (arith, w.longer);
      some = omega (arith, w.longer);
      room = rw w.same_order g.room;
      each = w.same_pending ∙ g.each;
      first = w.kept 0 g.some ∙ g.first;
      below = below;
      apart = w.apart;
      lowered = lowered;
      none_pending = none_pending;
      parent = parent;
      behind = behind;
      whole = whole;
      none_back = none_back;
      child = child;
      before_exit = before_exit;
      waited = w.waited;
    }
