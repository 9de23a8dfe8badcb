-- A pair that is clear of a folded superbubble is a bubbloid before exactly if it is one after. Assumes nothing.
use Prim.Native.Nat.{ℕ}
use mathlib.Core.Path.{◌≡◌, refl, sym, ◌∙◌}
use mathlib.Core.Logic.{◌≢◌, ◌⊎◌, inl, inr, ⊎_elim, ⊎_map}
use native.Mathlib.Decide.{ℕ_discrete}
use Rattle.bubble.specs.Superbubble.{F, F.start, F.on, B, B.end, B.from, Walk, Walk.edge, Walk.more, Reaches, Reaches.none, Reaches.then, Bubbloid, Interior}
use Rattle.bubble.proofs.Walks.{walk_append, walk_end, F-reaches}
use Rattle.bubble.proofs.Reversal.{reversed, F-reversed, B-reversed}
use Rattle.bubble.proofs.Facts.{exit_inside, closed_backward, no_edge_to_entrance, no_edge_from_exit}
use Rattle.bubble.proofs.FromSet.{make_bubbloid}
use Rattle.rule.specs.Lists.{Graph}
use Rattle.bubble.proofs.Fewer.{F-fewer, B-fewer, walk_fewer}
use Rattle.rule.proofs.Thread.{Thread, thread_reversed, Clear, clear_reversed}
use Rattle.rule.proofs.Carry.{bubbloid_of, fewer, stays, no_edge_inside, Met, met_step, along_thread, along_thread_back, carried, carried_outside, carried_back, reached_on_thread}

module _ {E E' : Graph} {s t x y : ℕ} {N : Graph} (k : Thread E E' s t N) (o : Clear E s t x y) where
  -- F within B, carried to the graph after
  match_after : ((v : ℕ) → F E x y v → B E x y v) → (v : ℕ) → F E' x y v → B E' x y v
  match_after h v f =
      ⊎_elim (λ g. g.0) (λ g. along_thread_back k o g.1.0 g.1.1 (k.to_exit (reached_on_thread k o f g.0).1))
      (carried_back k o (h v (F-fewer (fewer k) f)))

  -- a path after that leads from U to y, s other than y, passes t
  passes_exit : {u : ℕ} → s ≢ y → B E' x y u → F E s t u → u ≢ t → B E' x y t × (t ≢ x)
  passes_exit n end f m = absurd (o.stop f (λ q. n (sym q)))
  passes_exit n (from {u = u} {v = v} e l b) f m =
      elim (ℕ_discrete v t) [
        | yes q ↦ (rw q at b, rw q at l)
        | no j ↦ passes_exit n b (on f m (fewer k u v e)) j
      ]

  -- each vertex of U leads to y where t does
  inside_to_exit : {v : ℕ} → t ≢ x → B E x y t → B E s t v → B E x y v
  inside_to_exit n b end = b
  inside_to_exit n b (from {v = v} e m c) = from e (λ q. o.start (rw q at (((bubbloid_of k).matching v).1 c)) (λ r. n (sym r))) (inside_to_exit n b c)

  -- F within B, carried back to the graph before
  match_before : ((v : ℕ) → F E' x y v → B E' x y v) → (v : ℕ) → F E x y v → B E x y v
  match_before h v f = ⊎_elim (λ g. B-fewer (fewer k) (h v g.0)) inside (carried k o f)
    where
      inside : Interior E s t v × (F E' x y s × (s ≢ y)) → B E x y v
      inside g =
          let (b, n) = passes_exit g.1.1 (h s g.1.0) start (bubbloid_of k).distinct in
          inside_to_exit n (B-fewer (fewer k) b) (((bubbloid_of k).matching v).0 g.0.inside)

-- a walk along the thread
thread_walk : {E E' : Graph} {s t x y : ℕ} {N : Graph} {v : ℕ} → Thread E E' s t N → Clear E s t x y → F E' x y s → s ≢ y → Reaches N s v
    → (v ≡ s) ⊎ Walk E' (F E' x y) s v
thread_walk k o f n none = inl refl
thread_walk {v = v} k o f n (then r m) =
    let g = along_thread k o f n (then r m) in
    ⊎_elim (λ q. inr (edge f (rw q at (stays k m)) g)) (λ w. inr (more w (stays k m) g)) (thread_walk k o f n r)

module _ {E E' : Graph} {s t x y : ℕ} {N : Graph} (k : Thread E E' s t N) (o : Clear E s t x y) (c : Bubbloid E' x y) where
  -- from s, other than y, a walk leads to t
  pass : F E' x y s → s ≢ y → Walk E' (F E' x y) s t
  pass f n = ⊎_elim (λ q. absurd ((bubbloid_of k).distinct (sym q))) (λ w. w) (thread_walk k o f n k.whole)

  -- where the bare edge is in F, a walk leads from s to t even if s is y
  pass_bare : F E x y s → F E x y t → E s t → Walk E' (F E' x y) s t
  pass_bare f g e = elim (ℕ_discrete s y) [ yes q ↦ at_stop q | no n ↦ pass f' n ]
    where
      f' : F E' x y s
      f' = carried_outside k o f (λ i. i.not_entrance refl)

      g' : F E' x y t
      g' = carried_outside k o g (λ i. i.not_exit refl)

      -- the last edge of the thread is the bare one, since no interior vertex is in F
      last : s ≡ y → t ≢ x → (u : ℕ) → N u t → Walk E' (F E' x y) s t
      last q n u m =
          elim (ℕ_discrete u s) [
            | yes r ↦ edge f' (rw r at (stays k m)) g'
            | no l ↦
                let before_exit : u ≢ t = λ r. no_edge_from_exit (bubbloid_of k) (k.head_inside m) (rw r at (k.joined m)) in
                let i : Interior E s t u = record { inside = k.tail_inside m; not_entrance = l; not_exit = before_exit } in
                let h : F E x y u = F-fewer (fewer k) ((c.matching u).1 (from (stays k m) n ((c.matching t).0 g'))) in
                ⊎_elim (λ a. absurd (a.1 i)) (λ a. absurd (a.1.1 q)) (carried k o h)
          ]

      last_of : s ≡ y → t ≢ x → {v : ℕ} → v ≡ t → Reaches N s v → Walk E' (F E' x y) s t
      last_of q n r none = absurd ((bubbloid_of k).distinct r)
      last_of q n r (then {u = u} p m) = last q n u (rw r at m)

      at_stop : s ≡ y → Walk E' (F E' x y) s t
      at_stop q = elim (ℕ_discrete t x) [ yes r ↦ absurd (k.passed_once e (rw r (F-reaches f))) | no n ↦ last_of q n refl k.whole ]

  -- a walk after from a to v, or none if they are the same
  abbrev Led : ℕ → ℕ → Type 0
  Led a v = (a ≡ v) ⊎ Walk E' (F E' x y) a v

  -- one more edge of a walk before
  walk_step : {a u v : ℕ} → F E x y u → E u v → F E x y v → Met k (Led a) (Led a s) u → Met k (Walk E' (F E' x y) a) (Led a s) v
  walk_step {a} {u} {v} f e g =
      met_step k (Led a) (Walk E' (F E' x y) a) e edge_stays (λ q d. rw q at d) (λ r d. rw r (⊎_elim (λ q. rw q (through r)) (λ w. walk_append w (through r)) d))
    where
      edge_stays : E' u v → Led a u → (Interior E s t u → ⊥) → (Interior E s t v → ⊥) → Walk E' (F E' x y) a v
      edge_stays e' d p q = let g' = carried_outside k o g q in ⊎_elim (λ r. rw r (edge (carried_outside k o f p) e' g')) (λ w. more w e' g') d

      -- a passage of U ends with the bare edge or comes from an interior vertex
      through : v ≡ t → Walk E' (F E' x y) s t
      through r =
          elim (ℕ_discrete u s) [
            | yes q ↦ pass_bare (rw q at f) (rw r at g) (rw (q, r) at e)
            | no n ↦ ⊎_elim (λ h. absurd (no_edge_inside k h.1 n e (parent_inside r) (at_exit r))) (λ h. pass h.1.0 h.1.1) (carried k o f)
          ]
        where
          at_exit : v ≡ t → F E s t v
          at_exit r = rw r (exit_inside (bubbloid_of k))

          parent_inside : v ≡ t → F E s t u
          parent_inside r = closed_backward (bubbloid_of k) (at_exit r) (λ q. (bubbloid_of k).distinct (sym q ∙ r)) e

  -- a walk before, from a vertex that is not interior
  walked : {a v : ℕ} → (Interior E s t a → ⊥) → Walk E (F E x y) a v → Met k (Walk E' (F E' x y) a) (Led a s) v
  walked out (edge f e g) = walk_step f e g (inl (inl refl, out))
  walked out (more w e g) = walk_step (walk_end w) e g (⊎_map (λ h. (inr h.0, h.1)) (λ h. h) (walked out w))

  no_cycle_outside : {v : ℕ} → (Interior E s t v → ⊥) → Walk E (F E x y) v v → ⊥
  no_cycle_outside {v} out w = ⊎_elim (λ h. c.acyclicity v h.0) (λ h. out h.0) (walked out w)

  -- a walk from u to v stays in the interior, or passes t
  abbrev Left : ℕ → ℕ → Type 0
  Left u v = (Walk E (F E s t) u v × Interior E s t v) ⊎ (Walk E (F E x y) u t × ((t ≡ v) ⊎ Walk E (F E x y) t v))

  step_on : {u z v : ℕ} → Interior E s t z → E z v → Walk E (F E x y) u v → (F E s t v → Walk E (F E s t) u v) → Left u v
  step_on {v = v} i e w h =
      elim (ℕ_discrete v t) [
        | yes q ↦ inr (rw q at w, inl (sym q))
        | no n ↦
            let f : F E s t v = on i.inside i.not_exit e in
            inl (h f, record { inside = f; not_entrance = λ q. no_edge_to_entrance (bubbloid_of k) i.inside (rw q at e); not_exit = n })
      ]

  leaves : {u v : ℕ} → Interior E s t u → Walk E (F E x y) u v → Left u v
  leaves i (edge f e g) = step_on i e (edge f e g) (edge i.inside e)
  leaves i (more w e g) =
      ⊎_elim (λ h. step_on h.1 e (more w e g) (more h.0 e))
      (λ h. inr (h.0, inr (⊎_elim (λ q. edge (walk_end h.0) (rw q e) g) (λ p. more p e g) h.1))) (leaves i w)

  no_cycle_inside : {v : ℕ} → Interior E s t v → Walk E (F E x y) v v → ⊥
  no_cycle_inside {v} i w =
      ⊎_elim (λ h. (bubbloid_of k).acyclicity v h.0)
      (λ h. ⊎_elim (λ q. i.not_exit (sym q)) (λ p. no_cycle_outside (λ j. j.not_exit refl) (walk_append p h.0)) h.1) (leaves i w)

  no_cycle : (v : ℕ) → Walk E (F E x y) v v → ⊥
  no_cycle v w = no_cycle_outside (λ i. no_cycle_inside i w) w

module _ {E E' : Graph} {s t x y : ℕ} {N : Graph} (k : Thread E E' s t N) (o : Clear E s t x y) where
  turned : Thread (reversed E) (reversed E') t s (reversed N)
  turned = thread_reversed k

  clear : Clear (reversed E) t s y x
  clear = clear_reversed (bubbloid_of k) o

  pub bubbloid_after : Bubbloid E x y → Bubbloid E' x y
  bubbloid_after b =
      let back : (v : ℕ) → B E' x y v → F E' x y v =
      λ v g. B-reversed.0 (match_after turned clear (λ u f. B-reversed.1 ((b.matching u).1 (F-reversed.0 f))) v (F-reversed.1 g)) in
      make_bubbloid b.distinct (match_after k o (λ v. (b.matching v).0)) back (λ v w. b.acyclicity v (walk_fewer (fewer k) (λ u. F-fewer (fewer k)) w))

  pub bubbloid_before : Bubbloid E' x y → Bubbloid E x y
  bubbloid_before b =
      let back : (v : ℕ) → B E x y v → F E x y v =
      λ v g. B-reversed.0 (match_before turned clear (λ u f. B-reversed.1 ((b.matching u).1 (F-reversed.0 f))) v (F-reversed.1 g)) in
      make_bubbloid b.distinct (match_before k o (λ v. (b.matching v).0)) back (no_cycle k o b)
