-- What a fold leaves: the candidates of the new graph are those after the folded ones, and each looks the same from inside, with the same counts. Assumes nothing.
use Prim.Native.Nat.{ℕ, min}
use mathlib.Core.Path.{◌≡◌, sym, ◌∙◌, ap}
use mathlib.Core.List.Memᴰ
use mathlib.Core.List.{Memᴰ}
use lib.ListN.{length, take, drop, length-map, length-take}
use Rattle.bubble.specs.Superbubble.{Interior}
use Rattle.bubble.specs.Distinct.{Distinct}
use Rattle.rule.specs.Lists.{Graph, CandidateSet, Counts, Listing}
use Rattle.rule.specs.Fold.{Rule, Item, Entrance, Applied}
use Rattle.rule.specs.Laws.{RuleLaws, CandidateLaws}
use Rattle.rule.proofs.Together.{entrances, Foldable, After, after}
use Rattle.rule.proofs.Items.{item_arm}
use Rattle.rule.proofs.Listings.{listing_same, listing_front, listing_rest}

module _ {G : Graph → Type 0} {C : CandidateSet} {R : Rule} (L : CandidateLaws G C) (M : RuleLaws R) {E E' : Graph} {c c' : Counts} {b : ℕ} (g : G E)
    (a : Applied C R E c b E' c') where
  foldable : (i : Item) → Memᴰ i a.items → Foldable C E i
  foldable i m = record { candidate = (a.fit i m).candidate; path = item_arm L M (a.fit i m) }

  pub items_differ : Distinct (entrances a.items)
  items_differ = rw a.first (listing_front a.listed b)

  pub after_applied : (x y : ℕ) → After C E E' a.items x y
  after_applied = after L a.items g foldable items_differ a.edges

  -- the candidates of the new graph are those after the first b
  pub remaining_listed : Listing (Entrance C E') (drop b a.candidates)
  remaining_listed = listing_same (λ v. (to v, back v)) (listing_rest a.listed b)
    where
      to : (v : ℕ) → Entrance C E v × (Memᴰ v (take b a.candidates) → ⊥) → Entrance C E' v
      to v h = let (t, k) = h.0 in (t, (after_applied v t).others.1 (k, rw a.first h.1))

      back : (v : ℕ) → Entrance C E' v → Entrance C E v × (Memᴰ v (take b a.candidates) → ⊥)
      back v h = let (t, k) = h in let (d, n) = (after_applied v t).others.0 k in ((t, d), rw a.first at n)

  -- a vertex interior to a candidate that is not folded keeps its count
  pub other_untouched : {x y v : ℕ} → C E x y → (Memᴰ x (entrances a.items) → ⊥) → Interior E x y v → c' v ≡ c v
  other_untouched {x} {v = v} k n i =
      let entrance : Item → ℕ = λ j. j.entrance in
      a.untouched v (λ j m h. L.apart g (a.fit j m).candidate k (λ q. n (Memᴰ.cast (sym q) (Memᴰ.map entrance m))) h i.inside)

  -- as many are folded as the budget, or all if fewer
  pub items_number : length a.items ≡ min b (length a.candidates)
  items_number = sym (length-map a.items (λ (i : Item). i.entrance)) ∙ ap length a.first ∙ length-take b a.candidates
