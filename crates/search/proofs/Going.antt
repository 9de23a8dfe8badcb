-- The search under way: what holds before each visit, and that no exit is missed. Assumes nothing.
use Rattle.std.proofs.Common.{ℕ, zero, suc, ◌+◌, ◌≤◌, ◌<◌, ◌≡◌, refl, sym, ◌∙◌, ap, ◌≢◌, ◌⊎◌, inl, inr, ⊎_elim, List, [], arith, length, get_or, take, set, length-set, get_or-set_same}
use native.Mathlib.Decide.{ℕ_discrete, dec_lt}
use Rattle.table.specs.Table.{vertices, row, In, Edge, WellFormed}
use Rattle.bubble.specs.Superbubble.{F, F.start, F.on, B, B.end, B.from, Bubbloid}
use Rattle.bubble.proofs.Facts.{no_edge_to_entrance, successor}
use Rattle.bubble.proofs.Pigeonhole.{places_below}
use Rattle.parents.specs.Parents.{Parents}
use Rattle.parents.proofs.PlaceLaws.{in_take, take_in}
use Rattle.walking.specs.Walking.{waits, waiters}
use Rattle.walking.proofs.SumLaws.{sum_zero}
use Rattle.walking.proofs.WaitLaws.{waits_none, waits_all}
use Rattle.search.specs.Search.{Searchable}
use Rattle.search.specs.Steps.{unvisited, Lowered, Alone}
use Rattle.search.proofs.UnvisitedLaws.{none_unvisited, visited_less, less_visited, unvisited_all}

-- The first `head` of the order are visited, those up to `tail` are ready. They begin with s and are different vertices. A vertex's pending
-- parents are those not visited. After s, the entries are the vertices with parents and none pending, and each has its parents at places before its own.
-- No visited vertex leads to s, each has a child, and none is the exit of a bubbloid from s.
pub record Going (starts targets parents pending order : List ℕ) (s head tail waiting : ℕ) : Type 0 where
  pub well_formed : WellFormed starts targets
  pub counted : Parents (vertices starts) targets parents
  pub passed : head ≤ tail
  pub some : 0 < tail
  pub room : vertices starts ≤ length order
  pub each : length pending ≡ vertices starts
  pub first : get_or order 0 0 ≡ s
  pub below : (i : ℕ) → i < tail → get_or order i 0 < vertices starts
  pub apart : (i j : ℕ) → i < tail → j < tail → get_or order i 0 ≡ get_or order j 0 → i ≡ j
  pub lowered : (v : ℕ) → get_or pending v 0 ≡ unvisited starts targets (take head order) v
  pub none_pending : (i : ℕ) → 0 < i → i < tail → get_or pending (get_or order i 0) 0 ≡ 0
  pub parent : (i : ℕ) → 0 < i → i < tail → (u : ℕ) × Edge starts targets u (get_or order i 0)
  pub behind : (i u : ℕ) → 0 < i → i < tail → Edge starts targets u (get_or order i 0) → (j : ℕ) × (j < i) × (j < head) × (get_or order j 0 ≡ u)
  pub whole : (u v : ℕ) → get_or pending v 0 ≡ 0 → Edge starts targets u v → (i : ℕ) × (i < tail) × (get_or order i 0 ≡ v)
  pub none_back : (i : ℕ) → i < head → Edge starts targets (get_or order i 0) s → ⊥
  pub child : (i : ℕ) → i < head → (v : ℕ) × Edge starts targets (get_or order i 0) v
  pub before_exit : (t : ℕ) → Bubbloid (Edge starts targets) s t → (i : ℕ) → i < head → get_or order i 0 ≢ t
  pub waited : waiting ≡ waiters pending parents

-- at the entrance
pub going_none : {starts targets parents pending order : List ℕ} {s : ℕ} → Searchable starts targets parents pending order s → Going starts targets parents pending (set order 0 s) s 0 1 0
going_none {starts} {targets} {parents} {pending} {order} {s} p = record {
  well_formed = p.well_formed;
  counted = p.counted;
  passed = omega arith;
  some = omega arith;
  room = rw (length-set order 0 s) p.room;
  each = rw p.whole p.counted.each;
  first = here;
  below = λ i l. let q : i ≡ 0 = omega arith in rw (q, here) p.vertex;
  apart = λ i j l m q. omega arith;
  lowered = all;
  none_pending = λ i l m. absurd (omega arith);
  parent = λ i l m. absurd (omega arith);
  behind = λ i u l m. absurd (omega arith);
  whole = λ u v q e. let i = none_unvisited starts targets [] (sym (all v) ∙ q) e in absurd (omega (arith, i.inside));
  none_back = λ i l. absurd (omega arith);
  child = λ i l. absurd (omega arith);
  before_exit = λ t b i l. absurd (omega arith);
  waited = sym (sum_zero (length pending) (λ v. waits (get_or pending v 0) (get_or parents v 0)) (λ v l. waits_all (get_or pending v 0) (get_or parents v 0) (rw p.whole (omega arith))));
}
  where
    here : get_or (set order 0 s) 0 0 ≡ s
    here = get_or-set_same order 0 s 0 (omega (arith, p.vertex, p.room))

    all : (v : ℕ) → get_or pending v 0 ≡ unvisited starts targets [] v
    all v = rw p.whole (p.counted.count v ∙ sym (unvisited_all starts targets p.well_formed v))

module _ {starts targets parents pending order : List ℕ} {s head tail waiting : ℕ} (g : Going starts targets parents pending order s head tail waiting) where
  pub tail_most : tail ≤ vertices starts
  tail_most = places_below (λ i. get_or order i 0) tail (vertices starts) g.below g.apart

  pub going_lowered : Lowered starts targets pending order head
  going_lowered = record {
    each = g.each;
    room = omega (arith, g.passed, tail_most, g.room);
    below = λ i l. g.below i (omega (arith, g.passed));
    apart = λ i j l m. g.apart i j (omega (arith, g.passed)) (omega (arith, g.passed));
    counted = g.lowered;
  }

  visited : (i : ℕ) → i < head → In (get_or order i 0) (take head order)
  visited i l = in_take order head i l (omega (arith, g.passed, tail_most, g.room))

  all : (v : ℕ) → get_or parents v 0 ≡ unvisited starts targets [] v
  all v = g.counted.count v ∙ sym (unvisited_all starts targets g.well_formed v)

  -- a child of a visited vertex has a parent visited
  pub seen : (i v : ℕ) → i < head → Edge starts targets (get_or order i 0) v → get_or pending v 0 < get_or parents v 0
  seen i v l e = omega (arith, g.lowered v, all v, visited_less starts targets (take head order) (visited i l) e)

  -- and the other way round
  seen_by : (v : ℕ) → get_or pending v 0 < get_or parents v 0 → (i : ℕ) × (i < head) × Edge starts targets (get_or order i 0) v
  seen_by v h =
      let less : unvisited starts targets (take head order) v < unvisited starts targets [] v = omega (arith, g.lowered v, all v) in
      let (u, m, e) = less_visited starts targets (take head order) less in
      let (i, l, q) = take_in u order head (omega (arith, g.passed, tail_most, g.room)) m in
      (i, l, rw q e)

  module _ {t : ℕ} (b : Bubbloid (Edge starts targets) s t) where
    -- what is visited or ready lies in U
    inside_to : (d i : ℕ) → i ≤ d → i < tail → F (Edge starts targets) s t (get_or order i 0)
    inside_to zero i h l = let q : i ≡ 0 = omega arith in rw (q, g.first) start
    inside_to (suc d) i h l =
        elim (ℕ_discrete i 0) [
          | yes q ↦ rw (q, g.first) start
          | no n ↦
              let (u, e) = g.parent i (omega arith) l in
              let (j, a, m, q) = g.behind i u (omega arith) l e in
              let f : Edge starts targets (get_or order j 0) (get_or order i 0) = rw q e in
              on (inside_to d j (omega arith) (omega arith)) (g.before_exit t b j m) f
        ]

    inside : (i : ℕ) → i < tail → F (Edge starts targets) s t (get_or order i 0)
    inside i l = inside_to i i (omega arith) l

    module _ (ready : head < tail) where
      -- no ready vertex leads back to the entrance
      pub no_back : In s (row starts targets (get_or order head 0)) → ⊥
      no_back i = no_edge_to_entrance b (inside head ready) (record { vertex = g.below head ready; listed = i })

      module _ (exit : get_or order head 0 ≡ t) where
        later : 0 < head
        later = elim (ℕ_discrete head 0) [ yes q ↦ absurd (b.distinct (sym g.first ∙ ap (λ x. get_or order x 0) (sym q) ∙ exit)) | no n ↦ omega arith ]

        -- where the exit is ready, all of U but the exit is visited
        all_visited : {v : ℕ} → B (Edge starts targets) s t v → (v ≡ t) ⊎ ((i : ℕ) × (i < head) × (get_or order i 0 ≡ v))
        all_visited end = inl refl
        all_visited (from {u = u} {v = v} e n c) =
            ⊎_elim
            (λ q. let (j, a, m, p) = g.behind head u later ready (rw (exit, ← q) e) in inr (j, m, p))
            (λ place.
            let (i, l, q) = place in
            let after : 0 < i = elim (ℕ_discrete i 0) [ yes z ↦ absurd (n (sym q ∙ ap (λ x. get_or order x 0) z ∙ g.first)) | no k ↦ omega arith ] in
            let (j, a, m, p) = g.behind i u after (omega arith) (rw q e) in
            inr (j, m, p))
            (all_visited c)

        -- no other vertex is ready
        only_ready : (i : ℕ) → head < i → i < tail → ⊥
        only_ready i l m =
            ⊎_elim
            (λ q. omega (arith, g.apart i head m ready (q ∙ sym exit)))
            (λ place. let (j, a, q) = place in omega (arith, g.apart j i (omega arith) m q))
            (all_visited ((b.matching (get_or order i 0)).0 (inside i m)))

        -- and none waits
        child_waits : (i v : ℕ) → i < head → Edge starts targets (get_or order i 0) v → waits (get_or pending v 0) (get_or parents v 0) ≡ 0
        child_waits i v m e =
            ⊎_elim
            (λ q. let same : get_or order head 0 ≡ v = exit ∙ sym q in waits_none (get_or pending v 0) (get_or parents v 0) (rw same at (g.none_pending head later ready)))
            (λ place.
            let (j, a, q) = place in
            elim (ℕ_discrete j 0) [
              | yes z ↦ absurd (g.none_back i m (rw (sym q ∙ ap (λ x. get_or order x 0) z ∙ g.first) at e))
              | no k ↦ waits_none (get_or pending v 0) (get_or parents v 0) (rw q at (g.none_pending j (omega arith) (omega arith)))
            ])
            (all_visited ((b.matching v).0 (on (inside i (omega arith)) (g.before_exit t b i m) e)))

        none_wait : (v : ℕ) → waits (get_or pending v 0) (get_or parents v 0) ≡ 0
        none_wait v =
            elim (dec_lt (get_or pending v 0) (get_or parents v 0)) [
              | yes l ↦ let (i, m, e) = seen_by v l in child_waits i v m e
              | no n ↦ waits_all (get_or pending v 0) (get_or parents v 0) (omega arith)
            ]

        exit_alone : Alone head tail waiting
        exit_alone = record {
          later = later;
          last = elim (dec_lt (head + 1) tail) [ yes l ↦ absurd (only_ready (head + 1) (omega arith) l) | no n ↦ omega arith ];
          nowhere = g.waited ∙ sum_zero (length pending) (λ v. waits (get_or pending v 0) (get_or parents v 0)) (λ v l. none_wait v);
        }

      -- where the search goes on, the ready vertex is not the exit
      pub not_exit : (Alone head tail waiting → ⊥) → get_or order head 0 ≢ t
      not_exit n q = n (exit_alone q)

      -- and has a child
      pub some_child : (Alone head tail waiting → ⊥) → length (row starts targets (get_or order head 0)) ≡ 0 → ⊥
      some_child n q = let (v, f, e) = successor b (inside head ready) (not_exit n) in omega (arith, e.listed.inside)
