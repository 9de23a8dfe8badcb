-- Laws of settling the visited vertices from the last to the first: the next one's children can be weighed, and with the best of them it is settled. Assumes nothing.
use Rattle.std.proofs.Common.{ℕ, zero, suc, ◌+◌, ◌≤◌, ◌<◌, ◌≡◌, refl, sym, ◌∙◌, ap, ◌≢◌, List, arith, length, get_or, set, drop, get_or-set_same, get_or-set_other}
use native.Mathlib.Decide.{ℕ_discrete, dec_lt}
use Rattle.table.specs.Limits.{read_limit}
use Rattle.table.specs.Table.{row, Rises, Table, size, edges}
use Rattle.table.proofs.RowLaws.{edge_below, rises_before}
use Rattle.bubble.proofs.Pigeonhole.{place_of, apart_distinct}
use Rattle.rule.specs.Lists.{Graph, Counts, sum}
use Rattle.rule.specs.Tables.{count_of}
use Rattle.rule.specs.Next.{worth, Settled}
use Rattle.rule.specs.declared.Choosing.{Choosing}
use Rattle.rule.proofs.Worth.{worth_exit, worth_other, worth_same, gain_most}
use Rattle.children.specs.Children.{Choosable, Chosen}
use Rattle.kept.specs.Steps.{end_at, Settleable, SettledFrom}
use Rattle.kept.proofs.CountLaws.{distinct_sum, sum_from, sum_later}
use Rattle.kept.proofs.OrderLaws.{some_child, visited_below, child_later}

-- in a list that rises a later number is larger, or as large at the same place
climbs_to : (xs : List ℕ) → Rises xs → (i j : ℕ) → i ≤ j → j < length xs → get_or xs i 0 ≤ get_or xs j 0
climbs_to xs r i j h l =
    elim (ℕ_discrete i j) [
      | yes q ↦ omega (arith, ap (λ x. get_or xs x 0) q)
      | no n ↦ omega (arith, rises_before xs r i j (omega arith) l)
    ]

-- from no vertex does the exit gain more than the bound
end_most : (bound k : ℕ) → end_at bound k ≤ bound
end_most bound zero = omega arith
end_most bound (suc k) = omega arith

-- a settled vertex stays so where nothing that it rests on changes
settled_still : {by : Choosing} {E : Graph} {c : Counts} {t end v : ℕ} {best next best' next' : ℕ → ℕ} → Settled by E c t end best next v → best' v ≡ best v → next' v ≡ next v
    → ((u : ℕ) → E v u → worth by c t end best' u ≡ worth by c t end best u) → Settled by E c t end best' next' v
settled_still {v = v} {next = next} o b n w = record {
  child = rw n o.child;
  reached = rw (n, b) (w (next v) o.child ∙ o.reached);
  largest = λ u e. rw (b, w u e) (o.largest u e);
  smallest = λ u e q. rw n (o.smallest u e (sym (w u e) ∙ q ∙ b));
}

module _ {table : Table} {visited : List ℕ} {t bound : ℕ} {best₀ next₀ : List ℕ} (p : Settleable table visited t bound best₀ next₀) where
  open table use {rows, counts}
  open rows use {starts, targets}

  -- the counts from a place on have a sum that fits
  order_sum : (k : ℕ) → sum (count_of counts) (drop k visited) ≤ read_limit
  order_sum k =
      let all = distinct_sum counts (apart_distinct visited p.order.apart) (λ v m. let (i, l, q) = place_of m in omega (arith, q, visited_below p.order i l, p.counted.count_each)) in
      omega (arith, all, sum_later (count_of counts) visited 0 k (omega arith), p.counted.sum_fits)

  module _ {by : Choosing} {best next : List ℕ} (k : ℕ) (l : k < length visited) (g : SettledFrom by table visited t bound next₀ (suc k) best next)
      (best_room : size rows ≤ length best) (next_room : size rows ≤ length next) where
    -- the count of a child and the best from it are at most the bound and the later counts
    child_most : (u : ℕ) → edges rows (get_or visited k 0) u → u ≢ t → get_or counts u 0 + get_or best u 0 ≤ bound + sum (count_of counts) (drop (suc k) visited)
    child_most u e n =
        let (j, h, b, q) = child_later p.order k u l e n in
        let here : get_or best (get_or visited j 0) 0 ≤ bound + sum (count_of counts) (drop (suc j) visited) = g.most j h b in
        let from : sum (count_of counts) (drop j visited) ≡ get_or counts (get_or visited j 0) 0 + sum (count_of counts) (drop (suc j) visited) = sum_from (count_of counts) visited j b in
        rw (← q) (omega (arith, here, from, sum_later (count_of counts) visited (suc k) j h))

    edge : (j : ℕ) → j < length (row starts targets (get_or visited k 0)) → edges rows (get_or visited k 0) (get_or (row starts targets (get_or visited k 0)) j 0)
    edge j h = record { vertex = visited_below p.order k l; listed = record { place = j; inside = h; stands = refl } }

    pub settle_choosable : Choosable (row starts targets (get_or visited k 0)) counts best t
    settle_choosable = record {
      some = let (u, e) = some_child p.order k l in omega (arith, e.listed.inside);
      each = λ j h.
          let below = edge_below starts targets p.counted.well_formed.targets_below _ _ (edge j h) in
          record {
            counted = omega (arith, below, p.counted.count_each);
            room = omega (arith, below);
            fits = λ n. omega (arith, child_most _ (edge j h) n, order_sum (suc k), p.bounded);
          };
    }

    module _ {child gain : ℕ} (c : Chosen by (row starts targets (get_or visited k 0)) counts best t (end_at bound k) (length (row starts targets (get_or visited k 0))) child gain) where
      abbrev v : ℕ
      v = get_or visited k 0

      best_here : get_or (set best v gain) v 0 ≡ gain
      best_here = get_or-set_same best v gain 0 (omega (arith, visited_below p.order k l))

      next_here : get_or (set next v child) v 0 ≡ child
      next_here = get_or-set_same next v child 0 (omega (arith, visited_below p.order k l))

      best_other : (x : ℕ) → x ≢ v → get_or (set best v gain) x 0 ≡ get_or best x 0
      best_other x n = get_or-set_other best v x gain 0 n

      next_other : (x : ℕ) → x ≢ v → get_or (set next v child) x 0 ≡ get_or next x 0
      next_other x n = get_or-set_other next v x child 0 n

      -- what a child of this or a later vertex is worth stays the same
      worth_still : (i end : ℕ) → k ≤ i → i < length visited → (u : ℕ) → edges rows (get_or visited i 0) u
          → worth by (count_of counts) t end (count_of (set best v gain)) u ≡ worth by (count_of counts) t end (count_of best) u
      worth_still i end h b u e = worth_same by (count_of counts) end (count_of (set best v gain)) (count_of best) (λ n.
          let (j, a, d, q) = child_later p.order i u b e n in
          best_other u (λ r. omega (arith, p.order.apart j k d l (q ∙ r))))

      chosen_edge : edges rows v child
      chosen_edge = rw c.stands at (edge c.place c.passed)

      settled_here : Settled by (edges rows) (count_of counts) t (end_at bound k) (count_of (set best v gain)) (count_of (set next v child)) v
      settled_here = record {
        child = rw next_here chosen_edge;
        reached = rw (next_here, best_here) (worth_still k (end_at bound k) (omega arith) l child chosen_edge ∙ sym c.value);
        largest = λ u e. rw (best_here, worth_still k (end_at bound k) (omega arith) l u e) (rw e.listed.stands at (c.largest e.listed.place e.listed.inside));
        smallest = λ u e q.
            let equal : worth by (count_of counts) t (end_at bound k) (count_of best) u ≡ gain = sym (worth_still k (end_at bound k) (omega arith) l u e) ∙ q ∙ best_here in
            rw next_here (not_before u e equal);
      }
        where
          not_before : (u : ℕ) (e : edges rows v u) → worth by (count_of counts) t (end_at bound k) (count_of best) u ≡ gain → child ≤ u
          not_before u e q =
              let i = e.listed in
              elim (dec_lt i.place c.place) [
                | yes h ↦ absurd (omega (arith, q, rw i.stands at (c.first i.place h)))
                | no n ↦
                    let up = climbs_to (row starts targets v) (p.counted.well_formed.rows_rise v (visited_below p.order k l)) c.place i.place (omega arith) i.inside in
                    omega (arith, up, i.stands, c.stands)
              ]

      later_other : (i : ℕ) → k < i → i < length visited → get_or visited i 0 ≢ v
      later_other i h b q = omega (arith, p.order.apart i k b l q)

      chosen_most : gain ≤ bound + sum (count_of counts) (drop (suc k) visited)
      chosen_most =
          elim (ℕ_discrete child t) [
            | yes q ↦ omega (arith, c.value, worth_exit by (count_of counts) (end_at bound k) (count_of best) q, end_most bound k)
            | no n ↦
                let value = worth_other by (count_of counts) (end_at bound k) (count_of best) n in
                omega (arith, c.value, value, gain_most by (get_or counts child 0) (get_or best child 0), child_most child chosen_edge n)
          ]

      pub settle_more : SettledFrom by table visited t bound next₀ k (set best v gain) (set next v child)
      settle_more = record {
        settled = λ i h b.
            elim (ℕ_discrete i k) [
              | yes q ↦ rw q settled_here
              | no n ↦
                  let other = later_other i (omega arith) b in
                  settled_still (g.settled i (omega arith) b) (best_other (get_or visited i 0) other) (next_other (get_or visited i 0) other) (worth_still i (end_at bound i) h b)
            ];
        most = λ i h b.
            elim (ℕ_discrete i k) [
              | yes q ↦ rw (q, best_here) chosen_most
              | no n ↦ rw (best_other (get_or visited i 0) (later_other i (omega arith) b)) (g.most i (omega arith) b)
            ];
        elsewhere = λ x n. next_other x (λ q. n (record { place = k; inside = l; stands = sym q })) ∙ g.elsewhere x n;
      }
