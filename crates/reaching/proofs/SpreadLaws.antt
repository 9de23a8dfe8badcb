-- Laws of the queue and of a row that is passed: there is room for a vertex that is not marked, and one vertex more is passed. Assumes nothing.
use Rattle.std.proofs.Common.{ℕ, zero, suc, ◌+◌, ◌≤◌, ◌<◌, ◌≡◌, ◌≢◌, refl, sym, ◌∙◌, ap, List, ◌∷◌, length, get_or, set, length-set, get_or-set_same, get_or-set_other, le_of_suc-le-suc}
use Rattle.std.proofs.Common.{below_more, arith}
use native.Mathlib.Decide.{ℕ_discrete}
use Rattle.table.specs.Limits.{vertex_limit}
use Rattle.bubble.proofs.Pigeonhole.{places_below}
use Rattle.reaching.specs.Steps.{Marked, Queued, Spread}

-- the queue is no longer than there are vertices
pub tail_most : {marks queue : List ℕ} {tail : ℕ} → Queued marks queue tail → tail ≤ vertex_limit
tail_most {queue = queue} {tail} q = places_below (λ i. get_or queue i 0) tail vertex_limit q.below q.apart

module _ {marks queue : List ℕ} {tail u : ℕ} (q : Queued marks queue tail) (h : u < vertex_limit) (free : get_or marks u 0 ≡ 0) where
  -- a vertex that is not marked is not queued
  new : (i : ℕ) → i < tail → get_or queue i 0 ≢ u
  new i l e = q.marked i l (rw e free)

  -- the queue with that vertex in front
  longer : ℕ → ℕ
  longer i = get_or (u ∷ queue) i 0

  longer_below : (i : ℕ) → i < suc tail → longer i < vertex_limit
  unfolding longer
  longer_below zero l = h
  longer_below (suc i) l = q.below i (le_of_suc-le-suc l)

  longer_apart : (i j : ℕ) → i < suc tail → j < suc tail → longer i ≡ longer j → i ≡ j
  unfolding longer
  longer_apart zero zero l m e = refl
  longer_apart zero (suc j) l m e = absurd (new j (le_of_suc-le-suc m) (sym e))
  longer_apart (suc i) zero l m e = absurd (new i (le_of_suc-le-suc l) e)
  longer_apart (suc i) (suc j) l m e = ap suc (q.apart i j (le_of_suc-le-suc l) (le_of_suc-le-suc m) e)

  -- so there is room for it
  pub room : tail < vertex_limit
  room = places_below longer (suc tail) vertex_limit longer_below longer_apart

  queued_here : get_or (set queue tail u) tail 0 ≡ u
  queued_here = get_or-set_same queue tail u 0 (omega (arith, room, q.queue_room))

  queued_other : (i : ℕ) → i ≢ tail → get_or (set queue tail u) i 0 ≡ get_or queue i 0
  queued_other i n = get_or-set_other queue tail i u 0 n

  marked_here : Marked (set marks u 1) u
  marked_here z = omega (arith, get_or-set_same marks u 1 0 (omega (arith, h, q.marks_room)), z)

  -- what is marked stays so
  still_marked : (v : ℕ) → Marked marks v → Marked (set marks u 1) v
  still_marked v m z = elim (ℕ_discrete v u) [ yes e ↦ m (rw e free) | no n ↦ m (rw (get_or-set_other marks u v 1 0 n) at z) ]

  -- that vertex is marked and queued behind the others
  pub queued_more : Queued (set marks u 1) (set queue tail u) (tail + 1)
  queued_more = record {
    marks_room = length-set marks u 1 ∙ q.marks_room;
    queue_room = length-set queue tail u ∙ q.queue_room;
    below = λ i l. elim (ℕ_discrete i tail) [ yes e ↦ rw (e, queued_here) h | no n ↦ rw (queued_other i n) (q.below i (omega arith)) ];
    apart = λ i j l m e. elim (ℕ_discrete i tail) [
      | yes a ↦ elim (ℕ_discrete j tail) [
        | yes b ↦ a ∙ sym b
        | no n ↦ absurd (new j (omega arith) (sym (queued_other j n) ∙ sym e ∙ rw a queued_here))
      ]
      | no n ↦ elim (ℕ_discrete j tail) [
        | yes b ↦ absurd (new i (omega arith) (sym (queued_other i n) ∙ e ∙ rw b queued_here))
        | no k ↦ q.apart i j (omega arith) (omega arith) (sym (queued_other i n) ∙ e ∙ queued_other j k)
      ]
    ];
    marked = λ i l. elim (ℕ_discrete i tail) [
      | yes e ↦ rw (e, queued_here) marked_here
      | no n ↦ rw (queued_other i n) (still_marked (get_or queue i 0) (q.marked i (omega arith)))
    ];
    whole = λ v m. elim (ℕ_discrete v u) [
      | yes e ↦ (tail, omega arith, queued_here ∙ sym e)
      | no n ↦
          let (i, l, stands) = q.whole v (λ z. m (rw (get_or-set_other marks u v 1 0 n) z)) in
          (i, omega arith, queued_other i (λ e. omega arith) ∙ stands)
    ];
  }

module _ {row queue marks' queue' : List ℕ} {tail to k tail' : ℕ} (s : Spread row queue tail to k marks' queue' tail') (other : get_or row k 0 ≢ to) where
  -- the next is marked already
  pub spread_marked : Marked marks' (get_or row k 0) → Spread row queue tail to (k + 1) marks' queue' tail'
  spread_marked m = record {
    queued = s.queued;
    longer = s.longer;
    kept = s.kept;
    listed = s.listed;
    passed = below_more _ _ s.passed m;
    unmet = below_more _ _ s.unmet other;
  }

  -- the next is marked and queued
  pub spread_more : k < length row → get_or row k 0 < vertex_limit → get_or marks' (get_or row k 0) 0 ≡ 0
      → Spread row queue tail to (k + 1) (set marks' (get_or row k 0) 1) (set queue' tail' (get_or row k 0)) (tail' + 1)
  spread_more l h free =
      let u = get_or row k 0 in
      record {
        queued = queued_more s.queued h free;
        longer = omega (arith, s.longer);
        kept = λ i b. queued_other s.queued h free i (λ e. omega (arith, s.longer)) ∙ s.kept i b;
        listed = λ i a b. elim (ℕ_discrete i tail') [
          | yes e ↦ rw (e, queued_here s.queued h free) (record { place = k; inside = l; stands = refl })
          | no n ↦ rw (queued_other s.queued h free i n) (s.listed i a (omega arith))
        ];
        passed = below_more _ _ (λ j b. still_marked s.queued h free (get_or row j 0) (s.passed j b)) (marked_here s.queued h free);
        unmet = below_more _ _ s.unmet other;
      }
