-- Budgets add: folding with one budget and then, on what is left, with another is folding once with the sum. Assumes nothing.
use Prim.Native.Nat.{ℕ, ◌+◌, ◌<◌}
use mathlib.Core.Path.{◌≡◌, sym, ◌∙◌, ap, ap₂}
use mathlib.Core.Logic.{◌≢◌, ◌↔◌, ⊎_elim}
use mathlib.Core.List.Memᴰ
use mathlib.Core.List.{◌++◌, map-append, Memᴰ}
use lib.ListN.{length, take, drop, get_or}
use lib.Seq.{take-add}
use Rattle.bubble.specs.Superbubble.{Interior}
use Rattle.bubble.proofs.Pigeonhole.{getD_in}
use Rattle.rule.specs.Lists.{Graph, CandidateSet, Counts, sum}
use Rattle.rule.specs.Fold.{Rule, Item, Fits, Applied}
use Rattle.rule.specs.Laws.{SameInside, RuleLaws, CandidateLaws}
use Rattle.rule.proofs.Inside.{inside_back, interior_inside}
use Rattle.rule.proofs.Together.{entrances, Staying}
use Rattle.rule.proofs.Listings.{listing_unique, listing_same}
use Rattle.rule.proofs.Sums.{sum_same}
use Rattle.rule.proofs.Items.{item_arm, dropped_inner}
use Rattle.rule.proofs.Remaining.{after_applied, remaining_listed, other_untouched}

module _ {G : Graph → Type 0} {C : CandidateSet} {R : Rule} (L : CandidateLaws G C) (M : RuleLaws R) {E E₁ E₂ : Graph} {c c₁ c₂ : Counts} {b₁ b₂ : ℕ}
    (g : G E) (one : Applied C R E c b₁ E₁ c₁) (two : Applied C R E₁ c₁ b₂ E₂ c₂) where
  -- a candidate of the second fold is one of the first graph that the first fold left alone
  module _ (i : Item) (m : Memᴰ i two.items) where
    before : C E i.entrance i.exit × (Memᴰ i.entrance (entrances one.items) → ⊥)
    before = (after_applied L M g one i.entrance i.exit).others.0 (two.fit i m).candidate

    same_inside : SameInside E E₁ i.entrance i.exit
    same_inside = (after_applied L M g one i.entrance i.exit).inside before.0 before.1

    same_count : (v : ℕ) → Interior E i.entrance i.exit v → c₁ v ≡ c v
    same_count v = other_untouched L M g one before.0 before.1

    fits_before : Fits C R E c i
    fits_before =
        let back = inside_back same_inside in
        record {
          candidate = before.0;
          kept = M.local (L.superbubble (two.fit i m).candidate) back (λ v h. same_count v (interior_inside back h)) (two.fit i m).kept;
          rest = listing_same (λ v. (λ h. (interior_inside back h.0, h.1), λ h. (interior_inside same_inside h.0, h.1))) (two.fit i m).rest;
        }

  -- the second fold leaves alone what is interior to an item of the first
  left_alone : (i : Item) → Memᴰ i one.items → (v : ℕ) → Interior E i.entrance i.exit v → c₂ v ≡ c₁ v
  left_alone i m v h =
      let entrance : Item → ℕ = λ x. x.entrance in
      let differs : (j : Item) (k : Memᴰ j two.items) → i.entrance ≢ j.entrance = λ j k q. (before j k).1 (Memᴰ.cast (sym q) (Memᴰ.map entrance m)) in
      two.untouched v (λ j k l. L.apart g (one.fit i m).candidate (before j k).0 (differs j k) h (interior_inside (inside_back (same_inside j k)) l).inside)

  first_both : entrances (one.items ++ two.items) ≡ take (b₁ + b₂) one.candidates
  first_both =
      let rest : entrances two.items ≡ take b₂ (drop b₁ one.candidates) =
      two.first ∙ ap (take b₂) (listing_unique two.listed (remaining_listed L M g one)) in
      map-append (λ (i : Item). i.entrance) one.items two.items ∙ ap₂ ◌++◌ one.first rest ∙ sym (take-add b₁ b₂ one.candidates)

  edges_both : (u v : ℕ) → E₂ u v ↔ Staying E (one.items ++ two.items) u v
  edges_both u v = (to, back)
    where
      to : E₂ u v → Staying E (one.items ++ two.items) u v
      to e =
          let (d, later) = (two.edges u v).0 e in
          let (k, sooner) = (one.edges u v).0 d in
          (k, λ i m. ⊎_elim (sooner i) (λ n f h. later i n (((same_inside i n).set u).0 f) (((same_inside i n).set v).0 h)) (Memᴰ.append_cases one.items m))

      back : Staying E (one.items ++ two.items) u v → E₂ u v
      back r =
          let first : E₁ u v = (one.edges u v).1 (r.0, λ i m. r.1 i (Memᴰ.append_left two.items m)) in
          (two.edges u v).1 (first, λ i m f h. r.1 i (Memᴰ.append_right one.items m) (((same_inside i m).set u).1 f) (((same_inside i m).set v).1 h))

  -- what the first fold adds and empties, the second leaves alone
  added_sooner : (i : Item) → Memᴰ i one.items → (j : ℕ) → j < length i.arm
      → c₂ (get_or i.arm j 0) ≡ c (get_or i.arm j 0) + R.portion (sum c i.dropped) (length i.arm) j
  added_sooner i m j h = let v = get_or i.arm j 0 in left_alone i m v ((item_arm L M (one.fit i m)).inner v (getD_in i.arm j h)) ∙ one.added i m j h

  emptied_sooner : (i : Item) → Memᴰ i one.items → (v : ℕ) → Memᴰ v i.dropped → c₂ v ≡ 0
  emptied_sooner i m v h = left_alone i m v (dropped_inner L M (one.fit i m) h) ∙ one.emptied i m v h

  untouched_both : (v : ℕ) → ((i : Item) → Memᴰ i (one.items ++ two.items) → Interior E i.entrance i.exit v → ⊥) → c₂ v ≡ c v
  untouched_both v h =
      let later : c₂ v ≡ c₁ v = two.untouched v (λ i m k. h i (Memᴰ.append_right one.items m) (interior_inside (inside_back (same_inside i m)) k)) in
      later ∙ one.untouched v (λ i m. h i (Memᴰ.append_left two.items m))

  -- what the second fold adds is counted from the first graph
  added_later : (i : Item) → Memᴰ i two.items → (j : ℕ) → j < length i.arm
      → c₂ (get_or i.arm j 0) ≡ c (get_or i.arm j 0) + R.portion (sum c i.dropped) (length i.arm) j
  added_later i m j h =
      let v = get_or i.arm j 0 in
      let here : c₁ v ≡ c v = same_count i m v ((item_arm L M (fits_before i m)).inner v (getD_in i.arm j h)) in
      let dropped : sum c₁ i.dropped ≡ sum c i.dropped = sum_same i.dropped (λ w k. same_count i m w (dropped_inner L M (fits_before i m) k)) in
      two.added i m j h ∙ ap₂ (λ x y. x + R.portion y (length i.arm) j) here dropped

  pub budgets_add : Applied C R E c (b₁ + b₂) E₂ c₂
  budgets_add = record {
    candidates = one.candidates;
    listed = one.listed;
    items = one.items ++ two.items;
    first = first_both;
    fit = λ i m. ⊎_elim (one.fit i) (fits_before i) (Memᴰ.append_cases one.items m);
    edges = edges_both;
    added = λ i m j h. ⊎_elim (λ k. added_sooner i k j h) (λ k. added_later i k j h) (Memᴰ.append_cases one.items m);
    emptied = λ i m v h. ⊎_elim (λ k. emptied_sooner i k v h) (λ k. two.emptied i k v h) (Memᴰ.append_cases one.items m);
    untouched = untouched_both;
  }
