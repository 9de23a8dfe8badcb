-- A rule that keeps the best path meets the laws if its score does and its portions come to the whole; the rules of docs/RULES.md, Fold, are two.
-- A kept bare edge means that every interior count is 0. Assumes nothing.
use Prim.Native.Nat.{ℕ, ◌+◌, ◌≤◌, ◌<◌, min}
use mathlib.Core.Path.{◌≡◌, refl, sym, ap, ap₂, ◌∙◌}
use mathlib.Core.Logic.{inl, ⊎_map}
use mathlib.Core.List.Memᴰ
use mathlib.Core.List.{List, [], ◌∷◌, Memᴰ}
use native.Mathlib.Omega.{arith}
use native.Mathlib.Decide.{dec_lt}
use Rattle.bubble.specs.Superbubble.{Interior, Bubbloid, Superbubble}
use Rattle.bubble.proofs.Facts.{exit_inside}
use Rattle.rule.specs.Lists.{Graph, Counts, sum, total}
use Rattle.rule.specs.Kept.{Arm, Beats, Best, least, weakest, score_by, Kept}
use Rattle.rule.specs.declared.Choosing.{Choosing}
use Rattle.rule.specs.declared.Choosing.TheVariants.{Sum, Weakest}
use Rattle.rule.specs.Fold.{to_each, kept_shares}
use Rattle.rule.specs.Laws.{SameInside, RuleLaws, ScoreLaws}
use Rattle.rule.proofs.Inside.{inside_back, arm_carried}
use Rattle.rule.proofs.Sums.{sum_same}
use Rattle.rule.proofs.Shares.{to_each_whole}
use Rattle.rule.proofs.Choice.{best_one}
use Rattle.rule.proofs.Through.{arm_through}

module _ {score : Counts → List ℕ → ℕ} (h : ScoreLaws score) where
  -- carried to a graph that looks the same from inside, with the same interior counts
  best_local : {E E' : Graph} {c c' : Counts} {s t : ℕ} {l : List ℕ} → Bubbloid E s t → SameInside E E' s t
      → ((v : ℕ) → Interior E s t v → c v ≡ c' v) → Best score E c s t l → Best score E' c' s t l
  best_local {E} {E'} {c} {c'} {s} {t} {l} b i q p = record { arm = arm_carried (exit_inside b) i p.arm; unbeaten = unbeaten' }
    where
      same_score : (k : List ℕ) → Arm E s t k → score c k ≡ score c' k
      same_score k a = h.own k (λ v m. q v (a.inner v m))

      unbeaten' : (k : List ℕ) → Arm E' s t k → Beats (score c') t k l → ⊥
      unbeaten' k a w =
          let before : Arm E s t k = arm_carried ((i.set t).0 (exit_inside b)) (inside_back i) a in
          let sk = same_score k before in
          let sl = same_score l p.arm in
          p.unbeaten k before (⊎_map (λ x. omega (arith, x, sk, sl)) (λ x. (sk ∙ x.0 ∙ sym sl, x.1)) w)

  -- where the bare edge is the best, every interior count is 0
  best_bare : {E : Graph} {c : Counts} {s t : ℕ} → Bubbloid E s t → Best score E c s t [] → (v : ℕ) → Interior E s t v → c v ≡ 0
  best_bare {c = c} b p v i =
      let (l, a, m) = arm_through b i in
      elim (dec_lt (score c []) (score c l)) [ yes k ↦ absurd (p.unbeaten l a (inl k)) | no n ↦ h.bare c l (omega arith) v m ]

  pub best_laws : (portion : ℕ → ℕ → ℕ → ℕ) → ((d k : ℕ) → 0 < k → total (portion d k) k ≡ d) → RuleLaws (record { keeps = Best score; portion = portion })
  best_laws portion w = record {
    path = λ p b. b.arm;
    one = λ p. best_one;
    local = λ p. best_local p.bubbloid;
    bare = λ p. best_bare p.bubbloid;
    whole = w;
  }

count_within : (c : Counts) {v : ℕ} {l : List ℕ} → Memᴰ v l → c v ≤ sum c l
count_within c (Memᴰ.head q) = rw q (omega arith)
count_within c (Memᴰ.tail m) = omega (arith, count_within c m)

sum_laws : ScoreLaws sum
sum_laws = record { own = sum_same; bare = λ c l k v m. omega (arith, count_within c m) }

least_same : {c d : Counts} (v : ℕ) (l : List ℕ) → ((w : ℕ) → Memᴰ w (v ∷ l) → c w ≡ d w) → least c v l ≡ least d v l
least_same v [] h = h v (Memᴰ.head refl)
least_same v (u ∷ l) h = ap₂ min (h v (Memᴰ.head refl)) (least_same u l (λ w m. h w (Memᴰ.tail m)))

weakest_same : {c d : Counts} (l : List ℕ) → ((v : ℕ) → Memᴰ v l → c v ≡ d v) → weakest c l ≡ weakest d l
weakest_same [] h = refl
weakest_same (v ∷ l) h = ap (λ (x : ℕ). 1 + x) (least_same v l h)

-- every path with an inner vertex scores more than the bare edge
weakest_bare : (c : Counts) (l : List ℕ) → weakest c l ≤ weakest c [] → (v : ℕ) → Memᴰ v l → c v ≡ 0
weakest_bare c [] k v m = absurd (Memᴰ.not-nil m)
weakest_bare c (u ∷ l) k v m = absurd (omega arith)

-- both scores meet the laws, so that both rules of docs/RULES.md, Fold, do
pub score_laws : (by : Choosing) → ScoreLaws (score_by by)
score_laws Sum = sum_laws
score_laws Weakest = record { own = weakest_same; bare = weakest_bare }

pub kept_shares_laws : (by : Choosing) → RuleLaws (kept_shares by)
kept_shares_laws by = best_laws (score_laws by) to_each to_each_whole

-- a kept bare edge means that every interior count is 0, so that nothing dropped is lost
pub kept_bare_edge : (by : Choosing) {E : Graph} {c : Counts} {s t : ℕ} → Superbubble E s t → Kept by E c s t [] → (v : ℕ) → Interior E s t v → c v ≡ 0
kept_bare_edge by p = best_bare (score_laws by) p.bubbloid

-- by the weakest vertex the bare edge is never kept where there is an interior
pub weakest_never_bare : {E : Graph} {c : Counts} {s t v : ℕ} → Superbubble E s t → Interior E s t v → Kept Weakest E c s t [] → ⊥
weakest_never_bare {c = c} p i k = let (l, a, m) = arm_through p.bubbloid i in k.unbeaten l a (inl (more l m))
  where
    more : {v : ℕ} (l : List ℕ) → Memᴰ v l → 0 < weakest c l
    more [] m = absurd (Memᴰ.not-nil m)
    more (u ∷ l) m = omega arith
