-- In a finite graph with decided edges the candidates of docs/RULES.md, Fold and Rings, are decided, and can be listed. Assumes nothing.
use Prim.Native.Nat.{ℕ, ◌<◌}
use mathlib.Core.Path.{refl}
use mathlib.Core.List.Memᴰ
use mathlib.Core.List.{List, [], ◌∷◌}
use Rattle.bubble.specs.Superbubble.{Interior, Superbubble}
use Rattle.bubble.proofs.Nesting.{interior_decided, outermost_by_entrance}
use Rattle.bubble.proofs.Number.{Below, entrance_below, exit_below, interior_below}
use Rattle.bubble.proofs.Walks.{reaches_exit}
use Rattle.bubble.proofs.Decide.{F-decided, superbubble_decided}
use Rattle.rule.specs.Lists.{Graph, Listing}
use Rattle.rule.specs.Fold.{Candidate, Entrance}
use Rattle.rule.specs.Rings.{Skipped, Passable, RingCandidate}
use Rattle.rule.specs.Way.{candidates_of}
use Rattle.rule.specs.declared.Rings.{Rings}
use Rattle.rule.specs.declared.Rings.TheVariants.{Refused, Taken}
use Rattle.rule.proofs.Listings.{listing_exists}
use Rattle.rule.proofs.Passable.{ring_by_entrance}
use Rattle.rule.proofs.TheFold.{candidates_lawful}

-- whether there is one below n
pub some_decided : {P : ℕ → Type 0} (n : ℕ) → ((v : ℕ) → Dec (P v)) → ((v : ℕ) → P v → v < n) → Dec ((v : ℕ) × P v)
some_decided {P} n d h = let (l, a) = listing_exists n d h in go l a
  where
    go : (l : List ℕ) → Listing P l → Dec ((v : ℕ) × P v)
    go [] a = no (λ p. Memᴰ.not-nil ((a.holds p.0).1 p.1))
    go (x ∷ l) a = yes (x, (a.holds x).0 (Memᴰ.head refl))

module _ {E : Graph} (decide : (u v : ℕ) → Dec (E u v)) {n : ℕ} (below : Below E n) where
  pub interior_is_decided : (s t v : ℕ) → Dec (Interior E s t v)
  interior_is_decided s t v = interior_decided (F-decided decide n below s t v)

  -- whether s is interior to one of some superbubbles
  around_decided : {P : ℕ → ℕ → Type 0} → ((x y : ℕ) → Dec (P x y)) → ((x y : ℕ) → P x y → Superbubble E x y) → (s : ℕ)
      → Dec ((x : ℕ) × ((y : ℕ) × (P x y × Interior E x y s)))
  around_decided {P} d p s =
      some_decided n (λ x. some_decided n (both x) (λ y h. exit_below below (p x y h.0).bubbloid)) (λ x h. entrance_below below (p x h.0 h.1.0).bubbloid)
    where
      both : (x y : ℕ) → Dec (P x y × Interior E x y s)
      both x y =
          elim (d x y) [
            | yes h ↦ elim (interior_is_decided x y s) [ yes i ↦ yes (h, i) | no k ↦ no (λ h. k h.1) ]
            | no k ↦ no (λ h. k h.0)
          ]

  candidate_decided : (s t : ℕ) → Dec (Candidate E s t)
  candidate_decided s t =
      elim (superbubble_decided decide n below s t) [
        | no k ↦ no (λ c. k c.outermost.superbubble)
        | yes p ↦
            elim (some_decided n (interior_is_decided s t) (λ v. interior_below below)) [
              | no k ↦ no (λ c. k c.interior)
              | yes i ↦
                  elim (around_decided (superbubble_decided decide n below) (λ x y q. q) s) [
                    | yes h ↦ no (λ c. (outermost_by_entrance.0 c.outermost).1 h.0 h.1.0 h.1.1.0 h.1.1.1)
                    | no k ↦ yes (record { outermost = outermost_by_entrance.1 (p, λ x y q j. k (x, (y, (q, j)))); interior = i })
                  ]
            ]
      ]

  skipped_decided : (s t : ℕ) → Superbubble E s t → Dec (Skipped E s t)
  skipped_decided s t p =
      elim (decide s t) [
        | no k ↦ no (λ q. k q.bare_edge)
        | yes e ↦
            elim (F-decided decide n below t s s) [
              | no k ↦ no (λ q. k (reaches_exit.0 q.way_back))
              | yes f ↦ yes (record { superbubble = p; bare_edge = e; way_back = reaches_exit.1 f })
            ]
      ]

  passable_decided : (s t : ℕ) → Dec (Passable E s t)
  passable_decided s t =
      elim (superbubble_decided decide n below s t) [
        | no k ↦ no (λ p. k p.superbubble)
        | yes p ↦
            elim (some_decided n (interior_is_decided s t) (λ v. interior_below below)) [
              | no k ↦ no (λ q. k q.interior)
              | yes i ↦ elim (skipped_decided s t p) [ yes q ↦ no (λ r. r.not_skipped q) | no k ↦ yes (record { superbubble = p; interior = i; not_skipped = k }) ]
            ]
      ]

  ring_candidate_decided : (s t : ℕ) → Dec (RingCandidate E s t)
  ring_candidate_decided s t =
      elim (passable_decided s t) [
        | no k ↦ no (λ c. k c.passable)
        | yes p ↦
            elim (around_decided passable_decided (λ x y q. q.superbubble) s) [
              | yes h ↦ no (λ c. (ring_by_entrance.0 c).1 h.0 h.1.0 h.1.1.0 h.1.1.1)
              | no k ↦ yes (ring_by_entrance.1 (p, λ x y q j. k (x, (y, (q, j)))))
            ]
      ]

  decided : (rings : Rings) (s t : ℕ) → Dec (candidates_of rings E s t)
  decided Refused = candidate_decided
  decided Taken = ring_candidate_decided

  pub candidates_listed : (rings : Rings) → (l : List ℕ) × Listing (Entrance (candidates_of rings) E) l
  candidates_listed rings =
      listing_exists n (λ s. some_decided n (decided rings s) (λ t c. exit_below below ((candidates_lawful rings).superbubble c).bubbloid))
      (λ s h. entrance_below below ((candidates_lawful rings).superbubble h.1).bubbloid)
