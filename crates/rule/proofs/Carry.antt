-- The paths of a pair that is clear of a folded superbubble, before and after: what they reach outside its interior is the same, and of the interior they reach the thread. Assumes nothing.
use Prim.Native.Nat.{ℕ}
use mathlib.Core.Path.{◌≡◌, sym, ◌∙◌}
use mathlib.Core.Logic.{◌≢◌, ◌⊎◌, inl, inr, ⊎_elim, ⊎_map}
use native.Mathlib.Decide.{ℕ_discrete}
use Rattle.bubble.specs.Superbubble.{F, F.start, F.on, B, Reaches, Reaches.none, Reaches.then, Bubbloid, Interior}
use Rattle.bubble.proofs.Reversal.{F-reversed, reaches_reversed, interior_reversed}
use Rattle.bubble.proofs.Facts.{closed_backward, no_edge_to_entrance, no_edge_from_exit}
use Rattle.rule.specs.Lists.{Graph}
use Rattle.rule.proofs.Thread.{Thread, thread_reversed, Clear, clear_reversed}

module _ {E E' : Graph} {s t : ℕ} {N : Graph} (k : Thread E E' s t N) where
  pub bubbloid_of : Bubbloid E s t
  bubbloid_of = k.superbubble.bubbloid

  pub fewer : (u v : ℕ) → E' u v → E u v
  fewer u v e = ((k.edges u v).0 e).0

  -- an edge of the thread stays
  pub stays : {u v : ℕ} → N u v → E' u v
  stays {u} {v} n = (k.edges u v).1 (k.joined n, λ f g. n)

  -- an edge inside U that stays is one of the thread
  pub on_thread : {u v : ℕ} → F E s t u → F E s t v → E' u v → N u v
  on_thread {u} {v} f g e = ((k.edges u v).0 e).1 f g

  -- no edge inside U leaves a vertex that is neither s nor interior
  pub no_edge_inside : {u v : ℕ} → (Interior E s t u → ⊥) → u ≢ s → E u v → F E s t u → F E s t v → ⊥
  no_edge_inside {u} out n e f g =
      elim (ℕ_discrete u t) [
        | yes q ↦ no_edge_from_exit bubbloid_of g (rw q at e)
        | no m ↦ out (record { inside = f; not_entrance = n; not_exit = m })
      ]

  -- of a path before: v is not interior and Q holds of it after, or v is interior and W holds, which is about s
  abbrev pub Met : (ℕ → Type 0) → Type 0 → ℕ → Type 0
  Met Q W v = (Q v × (Interior E s t v → ⊥)) ⊎ (Interior E s t v × W)

  -- one more edge: it stays where no end is interior, and a passage of U goes along the thread
  pub met_step : (P Q : ℕ → Type 0) {W : Type 0} {u v : ℕ} → E u v → (E' u v → P u → (Interior E s t u → ⊥) → (Interior E s t v → ⊥) → Q v)
      → (u ≡ s → P u → W) → (v ≡ t → W → Q v) → Met P W u → Met Q W v
  met_step P Q {W} {u} {v} e edge_stays enter pass = ⊎_elim outside (λ h. inside h.0.inside h.0.not_exit h.1)
    where
      inside : F E s t u → u ≢ t → W → Met Q W v
      inside f n w =
          elim (ℕ_discrete v t) [
            | yes q ↦ inl (pass q w, λ i. i.not_exit q)
            | no m ↦ inr (record { inside = on f n e; not_entrance = λ q. no_edge_to_entrance bubbloid_of f (rw q at e); not_exit = m }, w)
          ]

      outside : P u × (Interior E s t u → ⊥) → Met Q W v
      outside h =
          elim (ℕ_discrete u s) [
            | yes q ↦ inside (rw q start) (λ r. bubbloid_of.distinct (sym q ∙ r)) (enter q h.0)
            | no n ↦
                let none : F E s t u → F E s t v → ⊥ = no_edge_inside h.1 n e in
                let out : Interior E s t v → ⊥ = λ i. none (closed_backward bubbloid_of i.inside i.not_entrance e) i.inside in
                inl (edge_stays ((k.edges u v).1 (e, λ f g. absurd (none f g))) h.0 h.1 out, out)
          ]

module _ {E E' : Graph} {s t x y : ℕ} {N : Graph} (k : Thread E E' s t N) (o : Clear E s t x y) where
  pub along_thread : {v : ℕ} → F E' x y s → s ≢ y → Reaches N s v → F E' x y v
  along_thread f n none = f
  along_thread f n (then r m) = on (along_thread f n r) (λ q. o.stop (rw q at (k.tail_inside m)) (λ e. n (sym e))) (stays k m)

  pub carried : {v : ℕ} → F E x y v → Met k (F E' x y) (F E' x y s × (s ≢ y)) v
  carried start = inl (start, λ i. o.start i.inside i.not_exit)
  carried (on f n e) =
      met_step k (F E' x y) (F E' x y) e (λ e' g p q. on g n e') (λ q g. (rw q at g, rw q at n)) (λ q w. rw q (along_thread w.0 w.1 k.whole)) (carried f)

  pub carried_outside : {v : ℕ} → F E x y v → (Interior E s t v → ⊥) → F E' x y v
  carried_outside f out = ⊎_elim (λ h. h.0) (λ h. absurd (out h.0)) (carried f)

  -- what is interior and still reached is on the thread
  pub reached_on_thread : {v : ℕ} → F E' x y v → Interior E s t v → (u : ℕ) × N u v
  reached_on_thread start i = absurd (o.start i.inside i.not_exit)
  reached_on_thread (on {u = u} {v = v} f n e) i = (u, on_thread k (closed_backward (bubbloid_of k) i.inside i.not_entrance (fewer k u v e)) i.inside e)

-- the twins, by exit
module _ {E E' : Graph} {s t x y : ℕ} {N : Graph} (k : Thread E E' s t N) (o : Clear E s t x y) where
  pub along_thread_back : {v : ℕ} → B E' x y t → t ≢ x → Reaches N v t → B E' x y v
  along_thread_back b n r = F-reversed.0 (along_thread (thread_reversed k) (clear_reversed (bubbloid_of k) o) (F-reversed.1 b) n (reaches_reversed r))

  pub carried_back : {v : ℕ} → B E x y v → Met k (B E' x y) (B E' x y t × (t ≢ x)) v
  carried_back b =
      ⊎_map (λ h. (F-reversed.0 h.0, λ i. h.1 ((interior_reversed (bubbloid_of k)).0 i)))
      (λ h. ((interior_reversed (bubbloid_of k)).1 h.0, (F-reversed.0 h.1.0, h.1.1)))
      (carried (thread_reversed k) (clear_reversed (bubbloid_of k) o) (F-reversed.1 b))
