-- Laws of the rounds that settle the visited vertices: the path by the children ends, and it is the kept one after one round by the sum, after two by the weakest vertex. Assumes nothing.
use Rattle.std.proofs.Common.{ℕ, zero, suc, ◌+◌, ◌≤◌, ◌<◌, ◌≡◌, sym, ◌∙◌, ◌≢◌, List, [], ◌∷◌, arith, length, get_or}
use native.Mathlib.Decide.{ℕ_discrete}
use Rattle.table.specs.Limits.{read_limit}
use Rattle.table.specs.Table.{Table, size, edges}
use Rattle.table.proofs.RowLaws.{edge_below}
use Rattle.table.proofs.SumLaws.{count_most}
use Rattle.bubble.specs.Superbubble.{F, Interior}
use Rattle.rule.specs.Tables.{count_of}
use Rattle.rule.specs.Next.{Settled, end_from, ByNext, ByNext.last, ByNext.step}
use Rattle.rule.specs.declared.Choosing.{Choosing}
use Rattle.rule.specs.declared.Choosing.TheVariants.{Sum, Weakest}
use Rattle.rule.proofs.Worth.{worth_exit, worth_other}
use Rattle.rule.proofs.KeptByNext.{end_entrance, end_other, sum_kept, weakest_kept}
use Rattle.kept.specs.Steps.{end_at, Settleable, SettledFrom, Led}
use Rattle.kept.proofs.OrderLaws.{visit_place, visited_below, child_later}

module _ {table : Table} {visited : List ℕ} {t : ℕ} {best next : List ℕ} (p : Settleable table visited t 0 best next) where
  open table use {rows, counts}
  open rows use {starts, targets}

  -- a round more can be made, with any bound
  pub again : {bound : ℕ} {best' next' : List ℕ} → bound ≤ read_limit + 1 → length best' ≡ length best → length next' ≡ length next → Settleable table visited t bound best' next'
  again h q r = record {
    counted = p.counted;
    order = p.order;
    bounded = h;
    best_room = omega (arith, p.best_room);
    next_room = omega (arith, p.next_room);
  }

  -- the first place is that of the entrance
  end_same : (bound i : ℕ) → i < length visited → end_at bound i ≡ end_from (get_or visited 0 0) bound (get_or visited i 0)
  end_same bound zero l = sym (end_entrance (get_or visited 0 0) bound)
  end_same bound (suc i) l = sym (end_other bound (λ q. omega (arith, p.order.apart (suc i) 0 l (omega arith) q)))

  -- no count is more than all together
  count_fits : (v : ℕ) → v < size rows → get_or counts v 0 ≤ read_limit
  count_fits v h = omega (arith, count_most counts v (omega (arith, p.counted.count_each)), p.counted.sum_fits)

  module _ {by : Choosing} {bound : ℕ} {before best' next' : List ℕ} (g : SettledFrom by table visited t bound before 0 best' next') where
    inside_settled : (v : ℕ) → F (edges rows) (get_or visited 0 0) t v → v ≢ t
        → Settled by (edges rows) (count_of counts) t (end_from (get_or visited 0 0) bound v) (count_of best') (count_of next') v
    inside_settled v f n =
        let (i, l, q) = visit_place p.order v f n in
        rw q at (rw (end_same bound i l) at (g.settled i (omega arith) l))

    -- a child is the exit or visited later, so the path by the children ends
    leads : (k i : ℕ) → i < length visited → length visited ≤ k + i → (l : List ℕ) × ByNext (count_of next') t (get_or visited i 0) l
    leads zero i l h = absurd (omega arith)
    leads (suc k) i l h =
        elim (ℕ_discrete (get_or next' (get_or visited i 0) 0) t) [
          | yes q ↦ ([], last q)
          | no n ↦
              let (j, a, b, q) = child_later p.order i (get_or next' (get_or visited i 0) 0) l (g.settled i (omega arith) l).child n in
              let (m, r) = leads k j b (omega arith) in
              (get_or next' (get_or visited i 0) 0 ∷ m, step n (rw q at r))
        ]

  -- one round by the sum
  pub lead_sum : {by : Choosing} {best' next' : List ℕ} → by ≡ Sum → SettledFrom by table visited t 0 next 0 best' next' → Led by table visited t next next'
  lead_sum q g = record {
    child = λ i l. (g.settled i (omega arith) l).child;
    kept = λ l r. rw q (sum_kept p.order.superbubble.bubbloid (inside_settled (rw q at g)) r);
    elsewhere = g.elsewhere;
  }

  module _ {by : Choosing} {best₁ next₁ : List ℕ} (q : by ≡ Weakest) (g : SettledFrom by table visited t (read_limit + 1) next 0 best₁ next₁) where
    -- the strongest path is no stronger than its first inner vertex, and the bare edge has no strength
    pub strongest_bounded : get_or best₁ (get_or visited 0 0) 0 ≤ read_limit + 1
    strongest_bounded =
        let first = rw q at (g.settled 0 (omega arith) p.order.some) in
        let u = get_or next₁ (get_or visited 0 0) 0 in
        elim (ℕ_discrete u t) [
          | yes e ↦ omega (arith, first.reached, worth_exit Weakest (count_of counts) 0 (count_of best₁) e)
          | no n ↦
              let below = edge_below starts targets p.counted.well_formed.targets_below _ u first.child in
              omega (arith, first.reached, worth_other Weakest (count_of counts) 0 (count_of best₁) n, count_fits u below)
        ]

    -- two rounds by the weakest vertex, the second bounded by the strength of the strongest path
    pub lead_weakest : {bound : ℕ} {best₂ next₂ : List ℕ} → SettledFrom by table visited t bound next₁ 0 best₂ next₂ → bound ≡ get_or best₁ (get_or visited 0 0) 0
        → Led by table visited t next next₂
    lead_weakest h e = record {
      child = λ i l. (h.settled i (omega arith) l).child;
      kept = λ l r.
          let path = (leads g (length visited) 0 p.order.some (omega arith)).1 in
          rw q (weakest_kept p.order.superbubble.bubbloid bounded (inside_settled (rw q at g)) path (inside_settled (rw (q, e) at h)) r);
      elsewhere = λ v n. h.elsewhere v n ∙ g.elsewhere v n;
    }
      where
        bounded : (w : ℕ) → Interior (edges rows) (get_or visited 0 0) t w → get_or counts w 0 < read_limit + 1
        bounded w inner =
            let (i, l, e) = visit_place p.order w inner.inside inner.not_exit in
            omega (arith, count_fits w (omega (arith, e, visited_below p.order i l)))
