-- In a finite graph with decided edges every superbubble has a best path, whatever the score: there are finitely many paths. Assumes nothing.
use Prim.Native.Nat.{ℕ, zero, suc, ◌≤◌, ◌<◌}
use mathlib.Core.Path.{refl}
use mathlib.Core.Logic.{⊎_elim}
use mathlib.Core.List.Memᴰ
use mathlib.Core.List.{List, [], ◌∷◌, ◌++◌, map, Memᴰ}
use native.Mathlib.Omega.{arith}
use lib.ListN.{length, length-append}
use Rattle.bubble.specs.Superbubble.{Bubbloid}
use Rattle.bubble.proofs.Facts.{exit_inside}
use Rattle.bubble.proofs.Pigeonhole.{upto, in_upto, distinct_below}
use Rattle.bubble.proofs.Number.{Below, entrance_below, inside_below, interior_below}
use Rattle.bubble.proofs.Reflect.{decided, decides_test, decides_every}
use Rattle.rule.specs.Lists.{Graph, Counts}
use Rattle.rule.specs.Kept.{Via, Via.bare, Via.then, Arm, Beats, Best}
use Rattle.rule.proofs.Arms.{arm_inside, arm_distinct}
use Rattle.rule.proofs.Choice.{beats_not_self, beats_on, beats_decided}
use Rattle.rule.proofs.Through.{some_arm}
use Rattle.rule.proofs.CandidatesListed.{interior_is_decided}

-- each of the numbers in front of each of the lists
in_front : List ℕ → List (List ℕ) → List (List ℕ)
in_front [] ls = []
in_front (v ∷ vs) ls = map (λ l. v ∷ l) ls ++ in_front vs ls

in_front_has : {v : ℕ} {l : List ℕ} (vs : List ℕ) (ls : List (List ℕ)) → Memᴰ v vs → Memᴰ l ls → Memᴰ (v ∷ l) (in_front vs ls)
unfolding in_front
in_front_has [] ls m i = absurd (Memᴰ.not-nil m)
in_front_has (x ∷ vs) ls m i =
    ⊎_elim (λ q. rw q (Memᴰ.append_left (in_front vs ls) (Memᴰ.map (λ l. x ∷ l) i))) (λ j. Memᴰ.append_right (map (λ l. x ∷ l) ls) (in_front_has vs ls j i))
    (Memᴰ.cases_cons m)

-- the lists of at most k numbers below n
lists : ℕ → ℕ → List (List ℕ)
lists n zero = [] ∷ []
lists n (suc k) = [] ∷ in_front (upto n) (lists n k)

in_lists : (n k : ℕ) (l : List ℕ) → length l ≤ k → ((v : ℕ) → Memᴰ v l → v < n) → Memᴰ l (lists n k)
unfolding lists
in_lists n zero [] h b = Memᴰ.head refl
in_lists n zero (v ∷ l) h b = absurd (omega arith)
in_lists n (suc k) [] h b = Memᴰ.head refl
in_lists n (suc k) (v ∷ l) h b =
    Memᴰ.tail (in_front_has (upto n) (lists n k) (in_upto n (b v (Memᴰ.head refl))) (in_lists n k l (omega arith) (λ w m. b w (Memᴰ.tail m))))

bare_edge : {E : Graph} {t v : ℕ} → Via E t v [] → E v t
bare_edge (bare e) = e

first_step : {E : Graph} {t v u : ℕ} {l : List ℕ} → Via E t v (u ∷ l) → E v u × Via E t u l
first_step (then e p) = (e, p)

module _ {E : Graph} (decide : (u v : ℕ) → Dec (E u v)) {n : ℕ} (below : Below E n) where
  path_decided : (t v : ℕ) (l : List ℕ) → Dec (Via E t v l)
  path_decided t v [] = elim (decide v t) [ yes e ↦ yes (bare e) | no k ↦ no (λ p. k (bare_edge p)) ]
  path_decided t v (u ∷ l) =
      elim (decide v u) [
        | no k ↦ no (λ p. k (first_step p).0)
        | yes e ↦ elim (path_decided t u l) [ yes p ↦ yes (then e p) | no k ↦ no (λ p. k (first_step p).1) ]
      ]

  arm_decided : (s t : ℕ) (l : List ℕ) → Dec (Arm E s t l)
  arm_decided s t l =
      elim (path_decided t s l) [
        | no k ↦ no (λ a. k a.path)
        | yes p ↦
            elim (decided (decides_every (λ v. decides_test (interior_is_decided decide below s t v)) l)) [
              | yes h ↦ yes (record { path = p; inner = h })
              | no k ↦ no (λ a. k a.inner)
            ]
      ]

  module _ {s t : ℕ} (b : Bubbloid E s t) where
    -- an arm has no more inner vertices than there are vertices
    arm_short : (l : List ℕ) → Arm E s t l → length l ≤ n
    arm_short l a =
        let d = distinct_below n (arm_distinct b a) inside in
        omega (arith, simp length-append at d)
      where
        inside : (v : ℕ) → Memᴰ v (s ∷ l ++ (t ∷ [])) → v < n
        inside v m =
            ⊎_elim (λ q. rw q (entrance_below below b)) (λ i. inside_below below (entrance_below below b) (arm_inside (exit_inside b) a v i)) (Memᴰ.cases_cons m)

    -- of the listed arms, and the one that there is, one that none of them beats
    best_of : (score : List ℕ → ℕ) (ls : List (List ℕ)) → (l : List ℕ) × Arm E s t l × ((k : List ℕ) → Memᴰ k ls → Arm E s t k → Beats score t k l → ⊥)
    best_of score [] = let (l, a) = some_arm b in (l, a, λ k m. absurd (Memᴰ.not-nil m))
    best_of score (x ∷ ls) =
        let (l, a, h) = best_of score ls in
        elim (arm_decided s t x) [
          | no other ↦ (l, a, λ k m p. ⊎_elim (λ q. absurd (other (rw q at p))) (λ i. h k i p) (Memᴰ.cases_cons m))
          | yes p ↦
              elim (beats_decided score t p a) [
                | yes o ↦ (x, p, λ k m r g. ⊎_elim (λ q. beats_not_self score t x (rw q at g)) (λ i. h k i r (beats_on score t k x l g o)) (Memᴰ.cases_cons m))
                | no f ↦ (l, a, λ k m r g. ⊎_elim (λ q. f (rw q at g)) (λ i. h k i r g) (Memᴰ.cases_cons m))
              ]
        ]

  pub best_exists : (score : Counts → List ℕ → ℕ) (c : Counts) {s t : ℕ} → Bubbloid E s t → (l : List ℕ) × Best score E c s t l
  best_exists score c b =
      let (l, a, h) = best_of b (score c) (lists n n) in
      (l, record { arm = a; unbeaten = λ k p. h k (in_lists n n k (arm_short b k p) (λ v m. interior_below below (p.inner v m))) p })
