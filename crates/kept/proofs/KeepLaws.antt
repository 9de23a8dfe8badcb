-- Laws of keeping a path: where the visited vertices are led and passed, the path by next is the kept one, what is gone are the dropped vertices, and the counts
-- come to what the fold rule asks. Assumes nothing.
use Rattle.std.proofs.Common.{ℕ, zero, suc, ◌+◌, ◌≤◌, ◌<◌, ◌≡◌, refl, sym, ◌∙◌, ap, ◌↔◌, ⊎_elim, List, [], ◌∷◌, ◌++◌, arith, length, get_or}
use mathlib.Core.List.{Memᴰ}
use native.Mathlib.Decide.{ℕ_discrete}
use Rattle.table.specs.Limits.{read_limit}
use Rattle.table.specs.Table.{Below, Table, size, edges}
use Rattle.bubble.specs.Superbubble.{Interior}
use Rattle.bubble.proofs.Pigeonhole.{getD_in, distinct_apart}
use Rattle.bubble.proofs.Reflect.{decided, decides_member}
use Rattle.rule.specs.Lists.{CandidateSet, sum, Listing, Follows}
use Rattle.rule.specs.Kept.{Kept}
use Rattle.rule.specs.Fold.{to_each, kept_shares}
use Rattle.rule.specs.Tables.{count_of}
use Rattle.rule.proofs.Listings.{rising_distinct, listing_same, listing_exists}
use Rattle.rule.proofs.Sums.{sum_reordered}
use Rattle.rule.proofs.Following.{follows_tail}
use Rattle.rule.proofs.Arms.{inner_distinct}
use Rattle.rule.specs.Next.{no_row, ByNext}
use Rattle.rule.specs.declared.Choosing.{Choosing}
use Rattle.sharing.specs.Sharing.{onward, Shareable, Shared}
use Rattle.kept.specs.declared.paths.Along.{Along}
use Rattle.kept.specs.Steps.{Led, Siftable, Sifted}
use Rattle.kept.specs.Keeping.{Keepable, KeptDone}
use Rattle.kept.proofs.OrderLaws.{inside, visit_place, visited_below, child_later}
use Rattle.kept.proofs.PassLaws.{length_puts, puts_listed, puts_other, gone_place, gone_distinct, gone_below, gone_sum}
use Rattle.kept.proofs.PathLaws.{by_next_follows, arm_onward, passed_place, arm_gone, passing_path}

module _ {C : CandidateSet} {by : Choosing} {table : Table} {visited : List ℕ} {t : ℕ} {best next out led : List ℕ} (p : Keepable C table visited t best next out)
    (next_long : length led ≡ length next) (g : Led by table visited t next led) where
  open table use {rows, counts}
  open rows use {starts, targets}

  pub keep_siftable : Siftable counts visited led out
  keep_siftable = record {
    some = p.order.some;
    below = rw p.counted.count_each (visited_below p.order);
    apart = p.order.apart;
    sum_fits = p.counted.sum_fits;
    next_room = omega (arith, next_long, p.counted.count_each, p.next_room);
    out_room = omega (arith, p.counted.count_each, p.out_room);
  }

  -- an interior vertex is visited after the entrance
  interior_place : {v : ℕ} → Interior (edges rows) (get_or visited 0 0) t v → (i : ℕ) × (0 < i) × (i < length visited) × (get_or visited i 0 ≡ v)
  interior_place {v} h =
      let (i, l, q) = visit_place p.order v h.inside h.not_exit in
      elim (ℕ_discrete i 0) [ yes z ↦ absurd (h.not_entrance (sym q ∙ ap (λ x. get_or visited x 0) z)) | no n ↦ (i, omega arith, l, q) ]

  place_interior : {v : ℕ} (i : ℕ) → 0 < i → i < length visited → get_or visited i 0 ≡ v → Interior (edges rows) (get_or visited 0 0) t v
  place_interior i h l q =
      let (f, n) = inside p.order i l in
      rw (← q) (record { inside = f; not_entrance = λ e. omega (arith, p.order.apart i 0 l (omega arith) e); not_exit = n })

  module _ {none : ℕ} {next' out₁ : List ℕ} {along : Along} (rowless-is : none ≡ no_row (size rows))
      (w : Sifted counts visited led out none (length visited) next' out₁ along) where
    by_next : ByNext (count_of led) t (get_or visited 0 0) w.arm
    by_next = passing_path (λ i l. (inside p.order i l).1)
        (λ i l n. child_later p.order i (get_or led (get_or visited i 0) 0) l (g.child i l) n) w.passing

    kept_path : Kept by (edges rows) (count_of counts) (get_or visited 0 0) t w.arm
    kept_path = g.kept w.arm by_next

    gone_interior : {v : ℕ} → Memᴰ v w.gone → Interior (edges rows) (get_or visited 0 0) t v
    gone_interior m = let (i, a, b, q) = gone_place w.passing m in place_interior i a b q

    gone_rest : (v : ℕ) → Memᴰ v w.gone ↔ (Interior (edges rows) (get_or visited 0 0) t v × (Memᴰ v w.arm → ⊥))
    gone_rest v = (
      λ m. (gone_interior m, λ a. arm_gone p.order.apart w.passing (omega arith) a m),
      λ h. let (i, a, b, q) = interior_place h.0 in ⊎_elim (λ m. absurd (h.1 m)) (λ m. m) (rw q at (passed_place w.passing i a b)),
    )

    -- the vertices that are gone, by rising number
    gone_listed : (l : List ℕ) × Listing (λ v. Memᴰ v w.gone) l
    gone_listed = listing_exists (length counts) (λ v. decided (decides_member v w.gone)) (λ v m. gone_below keep_siftable w.passing (omega arith) m)

    dropped_sum : along.dropped ≡ sum (count_of counts) gone_listed.0
    dropped_sum =
        let l = gone_listed.1 in
        w.dropped_sum ∙ sum_reordered (count_of counts) (length counts) (gone_distinct keep_siftable w.passing (omega arith)) (rising_distinct l.rising)
        (λ v m. gone_below keep_siftable w.passing (omega arith) m) (λ v. ((l.holds v).1, (l.holds v).0))

    dropped_fits : along.dropped ≤ read_limit
    dropped_fits = rw w.dropped_sum (gone_sum keep_siftable w.passing (omega arith))

    on_path : (u v : ℕ) → Follows (get_or visited 0 0 ∷ w.arm ++ (t ∷ [])) u v → get_or next' u 0 ≡ v
    on_path u v f =
        let stays : Memᴰ u w.gone → ⊥ = λ m.
        let at-end : Memᴰ u (t ∷ []) → ⊥ = λ i. (gone_interior m).not_exit (mathlib.Core.List.Memᴰ.eq_of_singleton i) in
        ⊎_elim (gone_interior m).not_entrance (λ i. ⊎_elim (λ a. ((gone_rest u).0 m).1 a) at-end (mathlib.Core.List.Memᴰ.append_cases w.arm i)) (mathlib.Core.List.Memᴰ.cases_cons (follows_tail f)) in
        rw w.no_rows (puts_other led w.gone none stays ∙ by_next_follows by_next f)

    -- what passing has left of the counts
    out_gone : {v : ℕ} → Memᴰ v w.gone → get_or out₁ v 0 ≡ 0
    out_gone m = rw w.no_counts (puts_listed out w.gone 0 m (omega (arith, gone_below keep_siftable w.passing (omega arith) m, p.counted.count_each, p.out_room)))

    out_other : {v : ℕ} → (Memᴰ v w.gone → ⊥) → get_or out₁ v 0 ≡ get_or out v 0
    out_other n = rw w.no_counts (puts_other out w.gone 0 n)

    -- the inner vertices of the kept path stand onward from the entrance
    arm_stands : onward next' (get_or visited 0 0) along.inner ≡ w.arm
    arm_stands = rw w.how_many (arm_onward next' t (get_or visited 0 0) w.arm on_path)

    arm_below : Below (length counts) (get_or visited 0 0 ∷ w.arm)
    arm_below zero h = omega (arith, visited_below p.order 0 p.order.some, p.counted.count_each)
    arm_below (suc j) h =
        let (i, a, b, q) = interior_place (kept_path.arm.inner (get_or w.arm j 0) (getD_in w.arm j (omega arith))) in
        omega (arith, q, visited_below p.order i b, p.counted.count_each)

    pub keep_shareable : Shareable counts next' out₁ (get_or visited 0 0) along.inner along.dropped
    keep_shareable = record {
      below = rw arm_stands arm_below;
      apart = rw (arm_stands, w.how_many) (distinct_apart (inner_distinct w.arm p.order.superbubble kept_path.arm));
      sum_fits = p.counted.sum_fits;
      dropped_fits = dropped_fits;
      next_room = omega (arith, next_long, p.counted.count_each, p.next_room, ap length w.no_rows, length_puts led w.gone none);
      out_room = omega (arith, p.counted.count_each, p.out_room, ap length w.no_counts, length_puts out w.gone 0);
    }

    pub keep_done : {best' out' : List ℕ} → length best' ≡ length best → Shared counts next' out₁ (get_or visited 0 0) along.inner along.dropped along.inner out'
        → KeptDone C (kept_shares by) table (get_or visited 0 0) t best next out best' next' out'
    keep_done {out' = out'} best-long shared = record {
      item = record { entrance = get_or visited 0 0; exit = t; arm = w.arm; dropped = gone_listed.0 };
      entrance = refl;
      exit = refl;
      fits = record { candidate = p.candidate; kept = kept_path; rest = listing_same gone_rest gone_listed.1 };
      on_path = on_path;
      off_path = λ v m.
          let lost = (gone_listed.1.holds v).0 m in
          rw (w.no_rows, puts_listed led w.gone none lost (omega (arith, gone_below keep_siftable w.passing (omega arith) lost, p.counted.count_each, p.next_room))) rowless-is;
      elsewhere = λ v h.
          let off : (i : ℕ) → i < length visited → get_or visited i 0 ≡ v → ⊥ = λ i l q. let (f, n) = inside p.order i l in n (q ∙ h (rw q at f)) in
          rw w.no_rows (puts_other led w.gone none (λ m. let (i, a, b, q) = gone_place w.passing m in off i b q) ∙ g.elsewhere v (λ i. off i.place i.inside i.stands));
      added = λ j h. rw (← dropped_sum) (added j h);
      emptied = λ v m. let lost = (gone_listed.1.holds v).0 m in off_arm v (λ a. arm_gone p.order.apart w.passing (omega arith) a lost) ∙ out_gone lost;
      untouched = λ v n. off_arm v (λ a. n (kept_path.arm.inner v a)) ∙ out_other (λ m. n (gone_interior m));
      same_best = best-long;
      same_next = ap length w.no_rows ∙ length_puts led w.gone none ∙ next_long;
      same_out = shared.same_out ∙ ap length w.no_counts ∙ length_puts out w.gone 0;
    }
      where
        added : (j : ℕ) → j < length w.arm → get_or out' (get_or w.arm j 0) 0 ≡ get_or counts (get_or w.arm j 0) 0 + to_each along.dropped (length w.arm) j
        added j h = rw (arm_stands, w.how_many) at (shared.added j (omega (arith, w.how_many)))

        off_arm : (v : ℕ) → (Memᴰ v w.arm → ⊥) → get_or out' v 0 ≡ get_or out₁ v 0
        off_arm v n = shared.elsewhere v (rw arm_stands n)
