-- Laws of the walk over a row: the queue has room for the next target, and one edge more is passed. Assumes nothing.
use Rattle.std.proofs.Common.{ℕ, zero, suc, ◌+◌, ◌-◌, ◌≤◌, ◌<◌, ◌≡◌, refl, sym, ◌∙◌, ap, ◌≢◌, List, ◌∷◌, le_of_suc-le-suc, arith, length, get_or, take, length-set, get_or-set_same, get_or-set_other}
use native.Mathlib.Decide.{ℕ_discrete, dec_lt}
use Rattle.table.specs.Table.{In}
use Rattle.table.proofs.RowLaws.{rises_before}
use Rattle.bubble.proofs.Pigeonhole.{places_below}
use Rattle.parents.specs.Parents.{occurrences}
use Rattle.parents.proofs.OccurrenceLaws.{same_yes, same_no, occurrences_more, occurrences_least}
use Rattle.parents.proofs.PlaceLaws.{in_take, take_in}
use Rattle.walking.specs.Walking.{sum_below, waits, waiters, EdgePassable, EdgePassed, Walkable, Walked}
use Rattle.walking.proofs.SumLaws.{sum_change, sum_term, sum_most}
use Rattle.walking.proofs.WaitLaws.{ready_yes, ready_no, ready_most, waits_most}

-- no edge is passed yet
pub walk_none : {row parents pending order : List ℕ} {tail waiting : ℕ} → Walkable row parents pending order tail waiting → Walked row parents pending order tail 0 pending order tail waiting
walk_none p = record {
  same_pending = refl;
  same_order = refl;
  lowered = λ v. omega arith;
  longer = omega arith;
  kept = λ i l. refl;
  apart = p.apart;
  listed = λ i l m. absurd (omega arith);
  none_pending = λ i l m. absurd (omega arith);
  whole = λ v i q. absurd (omega (arith, i.inside));
  waited = p.waited;
}

module _ {row parents pending order : List ℕ} {tail waiting k : ℕ} {pending' order' : List ℕ} {tail' waiting' : ℕ}
    (p : Walkable row parents pending order tail waiting) (w : Walked row parents pending order tail k pending' order' tail' waiting') (h : k < length row) where
  -- the next target is not queued
  new : (i : ℕ) → i < tail' → get_or order' i 0 ≢ get_or row k 0
  new i l q =
      elim (dec_lt i tail) [
        | yes m ↦ p.new i m (record { place = k; inside = h; stands = sym (sym (w.kept i m) ∙ q) })
        | no n ↦
            let (j, b, e) = take_in (get_or order' i 0) row k (omega arith) (w.listed i (omega arith) l) in
            omega (arith, rises_before row p.rises j k b h, e, q)
      ]

  vertex : (i : ℕ) → i < tail' → get_or order' i 0 < length pending
  vertex i l =
      elim (dec_lt i tail) [
        | yes m ↦ rw (w.kept i m) (p.vertices i m)
        | no n ↦
            let (j, b, e) = take_in (get_or order' i 0) row k (omega arith) (w.listed i (omega arith) l) in
            rw e at (p.below j (omega arith))
      ]

  -- the queue with the next target in front
  longer : ℕ → ℕ
  longer i = get_or (get_or row k 0 ∷ order') i 0

  longer_below : (i : ℕ) → i < suc tail' → longer i < length pending
  unfolding longer
  longer_below zero l = p.below k h
  longer_below (suc i) l = vertex i (le_of_suc-le-suc l)

  longer_apart : (i j : ℕ) → i < suc tail' → j < suc tail' → longer i ≡ longer j → i ≡ j
  unfolding longer
  longer_apart zero zero l m q = refl
  longer_apart zero (suc j) l m q = absurd (new j (le_of_suc-le-suc m) (sym q))
  longer_apart (suc i) zero l m q = absurd (new i (le_of_suc-le-suc l) q)
  longer_apart (suc i) (suc j) l m q = ap suc (w.apart i j (le_of_suc-le-suc l) (le_of_suc-le-suc m) q)

  room : tail' < length pending
  room = places_below longer (suc tail') (length pending) longer_below longer_apart

  unpassed : 0 < get_or pending' (get_or row k 0) 0
  unpassed =
      let u = get_or row k 0 in
      omega (arith, p.unpassed u, w.lowered u, occurrences_more u row k h, same_yes u u refl, occurrences_least u (k + 1) row)

  pub walk_passable : EdgePassable parents pending' order' (get_or row k 0) tail' waiting'
  walk_passable = record {
    vertex = omega (arith, p.below k h, w.same_pending);
    counted = w.same_pending ∙ p.counted;
    unpassed = unpassed;
    waited = rw w.waited (sum_term (length pending') (λ v. waits (get_or pending' v 0) (get_or parents v 0)) (get_or row k 0) (omega (arith, p.below k h, w.same_pending)));
    few = rw w.waited (sum_most (length pending') (λ v. waits (get_or pending' v 0) (get_or parents v 0)) (λ v. waits_most (get_or pending' v 0) (get_or parents v 0)));
    room = omega (arith, room, p.room, w.same_order);
  }

  module _ {pending'' order'' : List ℕ} {tail'' waiting'' : ℕ} (d : EdgePassed parents pending' order' pending'' order'' (get_or row k 0) tail' waiting' tail'' waiting'') where
    lowered_here : get_or pending'' (get_or row k 0) 0 ≡ get_or pending' (get_or row k 0) 0 - 1
    lowered_here = rw d.lowered (get_or-set_same pending' (get_or row k 0) (get_or pending' (get_or row k 0) 0 - 1) 0 (omega (arith, p.below k h, w.same_pending)))

    lowered_other : (v : ℕ) → v ≢ get_or row k 0 → get_or pending'' v 0 ≡ get_or pending' v 0
    lowered_other v n = rw d.lowered (get_or-set_other pending' (get_or row k 0) v (get_or pending' (get_or row k 0) 0 - 1) 0 n)

    queued_here : get_or order'' tail' 0 ≡ get_or row k 0
    queued_here = rw d.queued (get_or-set_same order' tail' (get_or row k 0) 0 (omega (arith, room, p.room, w.same_order)))

    queued_other : (i : ℕ) → i ≢ tail' → get_or order'' i 0 ≡ get_or order' i 0
    queued_other i n = rw d.queued (get_or-set_other order' tail' i (get_or row k 0) 0 n)

    same_pending : length pending'' ≡ length pending'
    same_pending = ap length d.lowered ∙ length-set pending' (get_or row k 0) (get_or pending' (get_or row k 0) 0 - 1)

    lowered : (v : ℕ) → get_or pending'' v 0 + occurrences v (take (k + 1) row) ≡ get_or pending v 0
    lowered v =
        let u = get_or row k 0 in
        elim (ℕ_discrete u v) [
          | yes q ↦
              omega (arith, ap (λ x. get_or pending'' x 0) q, ap (λ x. get_or pending' x 0) q, lowered_here, unpassed, occurrences_more v row k h, same_yes u v q, w.lowered v)
          | no n ↦ omega (arith, lowered_other v (λ q. n (sym q)), occurrences_more v row k h, same_no u v n, w.lowered v)
        ]

    -- a place of the longer queue is one of the shorter, or the next
    place : (i : ℕ) → i < tail'' → i ≢ tail' → i < tail'
    place i l n = omega (arith, d.longer, ready_most (get_or pending' (get_or row k 0) 0))

    apart : (i j : ℕ) → i < tail'' → j < tail'' → get_or order'' i 0 ≡ get_or order'' j 0 → i ≡ j
    apart i j l m q =
        elim (ℕ_discrete i tail') [
          | yes e ↦ elim (ℕ_discrete j tail') [
            | yes f ↦ e ∙ sym f
            | no n ↦ absurd (new j (place j m n) (sym (queued_other j n) ∙ sym q ∙ ap (λ x. get_or order'' x 0) e ∙ queued_here))
          ]
          | no n ↦ elim (ℕ_discrete j tail') [
            | yes f ↦ absurd (new i (place i l n) (sym (queued_other i n) ∙ q ∙ ap (λ x. get_or order'' x 0) f ∙ queued_here))
            | no o ↦ w.apart i j (place i l n) (place j m o) (sym (queued_other i n) ∙ q ∙ queued_other j o)
          ]
        ]

    listed : (i : ℕ) → tail ≤ i → i < tail'' → In (get_or order'' i 0) (take (k + 1) row)
    listed i l m =
        elim (ℕ_discrete i tail') [
          | yes e ↦ rw (e, queued_here) (in_take row (k + 1) k (omega arith) (omega arith))
          | no n ↦
              let (j, b, q) = take_in (get_or order' i 0) row k (omega arith) (w.listed i l (place i m n)) in
              rw (queued_other i n, ← q) (in_take row (k + 1) j (omega arith) (omega arith))
        ]

    -- only a target with no parent pending makes the queue longer
    none_here : tail' < tail'' → get_or pending' (get_or row k 0) 0 ≡ 1
    none_here l =
        elim (ℕ_discrete (get_or pending' (get_or row k 0) 0) 1) [
          | yes q ↦ q
          | no n ↦ absurd (omega (arith, d.longer, ready_no (get_or pending' (get_or row k 0) 0) n))
        ]

    none_pending : (i : ℕ) → tail ≤ i → i < tail'' → get_or pending'' (get_or order'' i 0) 0 ≡ 0
    none_pending i l m =
        elim (ℕ_discrete i tail') [
          | yes e ↦ rw (e, queued_here) (omega (arith, lowered_here, none_here (omega arith)))
          | no n ↦ rw (queued_other i n) (lowered_other (get_or order' i 0) (new i (place i m n)) ∙ w.none_pending i l (place i m n))
        ]

    -- what stood in the shorter queue stands in the longer
    still : {v : ℕ} → (i : ℕ) × (i < tail') × (get_or order' i 0 ≡ v) → (i : ℕ) × (i < tail'') × (get_or order'' i 0 ≡ v)
    still p = (p.0, omega (arith, p.1, d.longer), queued_other p.0 (λ f. omega (arith, p.1)) ∙ p.2)

    whole : (v : ℕ) → In v (take (k + 1) row) → get_or pending'' v 0 ≡ 0 → (i : ℕ) × (i < tail'') × (get_or order'' i 0 ≡ v)
    whole v i q =
        let u = get_or row k 0 in
        let (j, b, e) = take_in v row (k + 1) (omega arith) i in
        elim (ℕ_discrete u v) [
          | yes f ↦
              let one : get_or pending' u 0 ≡ 1 = omega (arith, ap (λ x. get_or pending'' x 0) f, lowered_here, unpassed) in
              (tail', omega (arith, d.longer, ready_yes (get_or pending' u 0) one), queued_here ∙ f)
          | no n ↦
              let other : j ≢ k = λ f. n (sym (ap (λ x. get_or row x 0) f) ∙ e) in
              let before : In v (take k row) = rw e at (in_take row k j (omega arith) (omega arith)) in
              still (w.whole v before (sym (lowered_other v (λ f. n (sym f))) ∙ q))
        ]

    waited : waiting'' ≡ waiters pending'' parents
    waited =
        let u = get_or row k 0 in
        let at : List ℕ → ℕ → ℕ = λ xs v. waits (get_or xs v 0) (get_or parents v 0) in
        let change : sum_below (length pending'') (at pending'') + at pending' u ≡ sum_below (length pending'') (at pending') + at pending'' u =
        sum_change (length pending'') (at pending'') (at pending') u (omega (arith, p.below k h, w.same_pending, same_pending)) (λ v n. ap (λ x. waits x (get_or parents v 0)) (lowered_other v n)) in
        let old : waiting' ≡ sum_below (length pending'') (at pending') = w.waited ∙ ap (λ n. sum_below n (at pending')) (sym same_pending) in
        let now : at pending'' u ≡ waits (get_or pending' u 0 - 1) (get_or parents u 0) = ap (λ x. waits x (get_or parents u 0)) lowered_here in
        omega (arith, d.waited)

    pub walk_more : Walked row parents pending order tail (k + 1) pending'' order'' tail'' waiting''
    walk_more = record {
      same_pending = same_pending ∙ w.same_pending;
      same_order = ap length d.queued ∙ length-set order' tail' (get_or row k 0) ∙ w.same_order;
      lowered = lowered;
      longer = omega (arith, w.longer, d.longer);
      kept = λ i l. queued_other i (λ q. omega (arith, w.longer)) ∙ w.kept i l;
      apart = apart;
      listed = listed;
      none_pending = none_pending;
      whole = whole;
      waited = waited;
    }
