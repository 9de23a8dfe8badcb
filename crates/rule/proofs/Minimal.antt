-- A pair that is clear of a folded superbubble is a superbubble before exactly if it is one after, and every superbubble after that has an interior is such a pair. Assumes nothing.
use Prim.Native.Nat.{ℕ}
use mathlib.Core.Path.{◌≡◌, refl, sym, ◌∙◌}
use mathlib.Core.Logic.{◌≢◌, ⊎_elim}
use native.Mathlib.Decide.{ℕ_discrete}
use Rattle.bubble.specs.Superbubble.{F, F.start, F.on, Walk.edge, Walk.more, Reaches, Reaches.none, Reaches.then, Bubbloid, Superbubble, Interior}
use Rattle.bubble.proofs.Reversal.{inside_reversed, interior_reversed}
use Rattle.bubble.proofs.Facts.{last_edge, exit_inside, closed_backward, no_edge_to_entrance, no_edge_from_exit, successor}
use Rattle.bubble.proofs.Pairs.{front_pair, cross}
use Rattle.bubble.proofs.Unique.{superbubble_reversed, exit_unique}
use Rattle.bubble.proofs.Nesting.{passes}
use Rattle.bubble.proofs.LoneEdge.{Lone, lone_set, lone_superbubble}
use Rattle.rule.specs.Lists.{Graph}
use Rattle.bubble.proofs.Fewer.{F-fewer}
use Rattle.rule.proofs.Thread.{Thread, thread_reversed, Clear}
use Rattle.rule.proofs.Carry.{bubbloid_of, fewer, stays, on_thread, carried, carried_outside, reached_on_thread}
use Rattle.rule.proofs.Transfer.{bubbloid_after, bubbloid_before}

-- an edge of the thread is the only one out of its tail and into its head after
thread_lone : {E E' : Graph} {s t u v : ℕ} {N : Graph} → Thread E E' s t N → N u v → Lone E' u v
thread_lone {s = s} {t = t} {u = u} {v = v} k n =
    let b = bubbloid_of k in
    let f = k.tail_inside n in
    let g = k.head_inside n in
    let tail : u ≢ t = λ q. no_edge_from_exit b g (rw q at (k.joined n)) in
    let head : v ≢ s = λ q. no_edge_to_entrance b f (rw q at (k.joined n)) in
    record {
      distinct = λ q. b.acyclicity v (edge g (rw q at (k.joined n)) g);
      joined = stays k n;
      only_out = λ w e. k.one_after (on_thread k f (on f tail (fewer k u w e)) e) n;
      only_in = λ w e. k.one_before (on_thread k (closed_backward b g head (fewer k w v e)) g e) n;
      not_back = λ e. b.acyclicity u (more (edge f (k.joined n) g) (fewer k v u e) f);
    }

module _ {E E' : Graph} {s t x y : ℕ} {N : Graph} (k : Thread E E' s t N) (o : Clear E s t x y) where
  clear_to_entrance : Clear E s t x s
  clear_to_entrance = record { start = o.start; stop = λ f n. n refl }

  clear_to : {z : ℕ} → (Interior E s t z → ⊥) → z ≢ t → Clear E s t x z
  clear_to out n = record { start = o.start; stop = λ f m. out (record { inside = f; not_entrance = m; not_exit = n }) }

  not_start : {u v : ℕ} → N u v → u ≢ x
  not_start n q = o.start (rw q at (k.tail_inside n)) (λ r. no_edge_from_exit (bubbloid_of k) (k.head_inside n) (rw (q, r) at (k.joined n)))

  -- no vertex of the thread makes a superbubble smaller
  minimal_on_thread : {z : ℕ} → Superbubble E x y → Reaches N s z → F E' x y z → z ≢ y → Bubbloid E' x z → ⊥
  minimal_on_thread p none f n c = p.minimality s (F-fewer (fewer k) f) n (bubbloid_before k clear_to_entrance c)
  minimal_on_thread {z} p (then {u = w} r m) f n c =
      let lone = thread_lone k m in
      let apart : z ≢ x = λ q. c.distinct (sym q) in
      let (u, g, l, e) = last_edge f apart in
      let (v, h, j, d) = last_edge (exit_inside c) apart in
      let q : u ≡ w = lone.only_in u e in
      let i : v ≡ w = lone.only_in v d in
      minimal_on_thread p r (rw q at g) (rw q at l) (front_pair c (lone_superbubble lone).bubbloid (rw i at h) (not_start m))

  pub superbubble_after : Superbubble E x y → Superbubble E' x y
  superbubble_after p = record { bubbloid = bubbloid_after k o p.bubbloid; minimality = minimal }
    where
      minimal : (z : ℕ) → F E' x y z → z ≢ y → Bubbloid E' x z → ⊥
      minimal z f n c =
          ⊎_elim outside (λ h. let (u, m) = reached_on_thread k o f h.0 in minimal_on_thread p (then (k.from_entrance m) m) f n c)
          (carried k o (F-fewer (fewer k) f))
        where
          outside : F E' x y z × (Interior E s t z → ⊥) → ⊥
          outside h =
              elim (ℕ_discrete z t) [
                | yes q ↦ minimal_on_thread p k.whole (rw q at f) (rw q at n) (rw q at c)
                | no m ↦ p.minimality z (F-fewer (fewer k) f) n (bubbloid_before k (clear_to h.1 m) c)
              ]

  -- a path to t passes s
  through_entrance : {z : ℕ} → F E x z t → t ≢ x → F E x z s × (s ≢ z)
  through_entrance {z} f n =
      let b = bubbloid_of k in
      let (u, g, l, e) = last_edge f n in
      elim (ℕ_discrete u s) [
        | yes q ↦ (rw q at g, rw q at l)
        | no m ↦
            let h : F E s t u = closed_backward b (exit_inside b) (λ q. b.distinct (sym q)) e in
            let i : Interior E s t u = record { inside = h; not_entrance = m; not_exit = λ q. no_edge_from_exit b (exit_inside b) (rw q at e) } in
            ⊎_elim (λ a. a) (λ a. absurd (o.start a.0 a.1)) (passes b i g)
      ]

  pub superbubble_before : Superbubble E' x y → Superbubble E x y
  superbubble_before p = record { bubbloid = bubbloid_before k o p.bubbloid; minimality = minimal }
    where
      not_exit : F E x y t → Bubbloid E x t → ⊥
      not_exit f c =
          let apart : t ≢ x = λ q. c.distinct (sym q) in
          let (g, n) = through_entrance f apart in
          let d = front_pair c (bubbloid_of k) (through_entrance (exit_inside c) apart).0 (λ q. o.start (rw (← q) start) (λ r. (bubbloid_of k).distinct (q ∙ r))) in
          p.minimality s (carried_outside k o g (λ i. i.not_entrance refl)) n (bubbloid_after k clear_to_entrance d)

      minimal : (z : ℕ) → F E x y z → z ≢ y → Bubbloid E x z → ⊥
      minimal z f n c = ⊎_elim outside (λ h. inside h.0) (carried k o f)
        where
          outside : F E' x y z × (Interior E s t z → ⊥) → ⊥
          outside h =
              elim (ℕ_discrete z t) [
                | yes q ↦ not_exit (rw q at f) (rw q at c)
                | no m ↦ p.minimality z h.0 n (bubbloid_after k (clear_to h.1 m) c)
              ]

          inside : Interior E s t z → ⊥
          inside i =
              ⊎_elim (λ h. k.superbubble.minimality z i.inside i.not_exit (cross (bubbloid_of k) c h.0 i.inside h.1)) (λ h. o.start h.0 h.1)
              (passes (bubbloid_of k) i (exit_inside c))

-- a superbubble after whose entrance is in U, other than t, has no interior
entrance_clear : {E E' : Graph} {s t x y v : ℕ} {N : Graph} → Thread E E' s t N → Superbubble E' x y → Interior E' x y v → F E s t x → x ≢ t → ⊥
entrance_clear {x = x} k p i f n =
    let (w, g, e) = successor p.bubbloid start p.bubbloid.distinct in
    let lone = thread_lone k (on_thread k f (on f n (fewer k x w e)) e) in
    let q = exit_unique p (lone_superbubble lone) in
    ⊎_elim i.not_entrance (λ r. i.not_exit (rw q r)) ((lone_set lone).0 (rw q at i.inside))

pub interior_clear : {E E' : Graph} {s t x y v : ℕ} {N : Graph} → Thread E E' s t N → Superbubble E' x y → Interior E' x y v → Clear E s t x y
interior_clear k p i = record {
  start = entrance_clear k p i;
  stop = λ f. entrance_clear (thread_reversed k) (superbubble_reversed.0 p) ((interior_reversed p.bubbloid).0 i) ((inside_reversed (bubbloid_of k)).0 f);
}
