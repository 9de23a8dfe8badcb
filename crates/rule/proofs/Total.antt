-- A fold never moves the total of the counts: what one superbubble drops is added inside it. Assumes nothing.
use Prim.Native.Nat.{ℕ, suc, ◌<◌}
use mathlib.Core.Path.{◌≡◌, refl, sym, subst}
use mathlib.Core.Logic.{⊎_elim}
use mathlib.Core.List.Memᴰ
use mathlib.Core.List.{List, [], ◌∷◌, ◌++◌, Memᴰ}
use native.Mathlib.Omega.{arith}
use lib.ListN.{length}
use Rattle.bubble.specs.Distinct.{Distinct, Distinct.empty, Distinct.fresh}
use Rattle.bubble.proofs.Pigeonhole.{distinct_append}
use Rattle.bubble.proofs.Number.{Below, interior_below}
use Rattle.rule.specs.Lists.{Graph, CandidateSet, Counts, sum, total}
use Rattle.rule.specs.Fold.{Rule, Item, Fits, Applied}
use Rattle.rule.specs.Laws.{RuleLaws, CandidateLaws}
use Rattle.rule.proofs.Together.{entrances}
use Rattle.rule.proofs.Items.{item_superbubble, dropped_inner, listed_interior, interior_listed, interior_distinct}
use Rattle.rule.proofs.Remaining.{items_differ}
use Rattle.rule.proofs.Sums.{sum_append, sum_zero, sum_added, total_moved}

-- the vertices whose counts change
touched : List Item → List ℕ
touched [] = []
touched (i ∷ items) = (i.arm ++ i.dropped) ++ touched items

in_touched : {v : ℕ} {i : Item} (items : List Item) → Memᴰ i items → Memᴰ v (i.arm ++ i.dropped) → Memᴰ v (touched items)
unfolding touched
in_touched {v = v} {i = i} [] x h = elim x [ ]
in_touched {v} (j ∷ items) (Memᴰ.head q) h = Memᴰ.append_left (touched items) (subst (λ (x : Item). Memᴰ v (x.arm ++ x.dropped)) q h)
in_touched (j ∷ items) (Memᴰ.tail m) h = Memᴰ.append_right (j.arm ++ j.dropped) (in_touched items m h)

of_touched : {v : ℕ} (items : List Item) → Memᴰ v (touched items) → (i : Item) × Memᴰ i items × Memᴰ v (i.arm ++ i.dropped)
unfolding touched
of_touched [] m = absurd (Memᴰ.not-nil m)
of_touched (j ∷ items) m =
    ⊎_elim (λ h. (j, Memᴰ.head refl, h)) (λ k. let (i, n, h) = of_touched items k in (i, Memᴰ.tail n, h)) (Memᴰ.append_cases (j.arm ++ j.dropped) m)

module _ {G : Graph → Type 0} {C : CandidateSet} {R : Rule} (L : CandidateLaws G C) (M : RuleLaws R) {E : Graph} {c : Counts} where
  -- all that is dropped is added again
  pub whole_dropped : (i : Item) → Fits C R E c i → (l : List ℕ) → R.keeps E c i.entrance i.exit l
      → total (R.portion (sum c i.dropped) (length l)) (length l) ≡ sum c i.dropped
  whole_dropped i f [] k = sym (sum_zero i.dropped (λ v m. M.bare (item_superbubble L M f) k v (dropped_inner L M f m)))
  whole_dropped i f (x ∷ l) k = M.whole (sum c i.dropped) (suc (length l)) (omega arith)

  touched_distinct : (items : List Item) → G E → ((i : Item) → Memᴰ i items → Fits C R E c i) → Distinct (entrances items) → Distinct (touched items)
  unfolding touched
  touched_distinct [] g f d = empty
  touched_distinct (i ∷ items) g f (fresh n d) = distinct_append (interior_distinct L M fi) (touched_distinct items g (λ j m. f j (Memᴰ.tail m)) d) apart
    where
      fi : Fits C R E c i
      fi = f i (Memᴰ.head refl)

      apart : (v : ℕ) → Memᴰ v (i.arm ++ i.dropped) → Memᴰ v (touched items) → ⊥
      apart v m k =
          let (j, h, l) = of_touched items k in
          let fj = f j (Memᴰ.tail h) in
          let entrance : Item → ℕ = λ x. x.entrance in
          L.apart g fi.candidate fj.candidate (λ q. n (Memᴰ.cast q (Memᴰ.map entrance h))) (listed_interior L M fi m) (listed_interior L M fj l).inside

  module _ {E' : Graph} {c' : Counts} {b : ℕ} (g : G E) (a : Applied C R E c b E' c') where
    item_sum : (i : Item) → Memᴰ i a.items → sum c' (i.arm ++ i.dropped) ≡ sum c (i.arm ++ i.dropped)
    item_sum i m =
        omega (
          arith,
          sum_append c' i.arm i.dropped,
          sum_append c i.arm i.dropped,
          sum_zero {c = c'} i.dropped (a.emptied i m),
          sum_added c c' (R.portion (sum c i.dropped) (length i.arm)) i.arm (a.added i m),
          whole_dropped i (a.fit i m) i.arm (a.fit i m).kept,
        )

    touched_sum : (items : List Item) → ((i : Item) → Memᴰ i items → Memᴰ i a.items) → sum c' (touched items) ≡ sum c (touched items)
    unfolding touched
    touched_sum [] h = refl
    touched_sum (i ∷ items) h =
        omega (
          arith,
          sum_append c' (i.arm ++ i.dropped) (touched items),
          sum_append c (i.arm ++ i.dropped) (touched items),
          item_sum i (h i (Memᴰ.head refl)),
          touched_sum items (λ j m. h j (Memᴰ.tail m)),
        )

    touched_below : {n : ℕ} → Below E n → (v : ℕ) → Memᴰ v (touched a.items) → v < n
    touched_below below v m =
        let (i, k, h) = of_touched a.items m in
        interior_below below (listed_interior L M (a.fit i k) h)

    pub total_kept : (n : ℕ) → Below E n → total c' n ≡ total c n
    total_kept n below =
        total_moved n (touched_distinct a.items g a.fit (items_differ L M g a)) (touched_below below)
        (λ v out. a.untouched v (λ i m h. out (in_touched a.items m (interior_listed L M (a.fit i m) h)))) (touched_sum a.items (λ i m. m))
