-- Every finite graph with decided edges, where rings are refused without a cycle, has a fold with every budget, by every lawful rule that keeps something: the rules ask for
-- nothing that cannot be. Assumes nothing.
use Prim.Native.Nat.{ℕ, ◌+◌, ◌<◌}
use mathlib.Core.Path.{◌≡◌, refl, sym, ap, ap₂, subst}
use mathlib.Core.Logic.{⊎_elim}
use mathlib.Core.List.Memᴰ
use mathlib.Core.List.{List, [], ◌∷◌, Memᴰ}
use lib.ListN.{length, take, drop, get_or, take-append-drop}
use Rattle.bubble.specs.Superbubble.{Interior, Superbubble}
use Rattle.bubble.proofs.Pigeonhole.{getD_in, place_of, distinct_apart}
use Rattle.bubble.proofs.Number.{Below, interior_below}
use Rattle.bubble.proofs.Reflect.{decided, decides_member}
use Rattle.rule.specs.Lists.{Graph, CandidateSet, Counts, Listing, sum}
use Rattle.rule.specs.Kept.{score_by}
use Rattle.rule.specs.declared.Choosing.{Choosing}
use Rattle.rule.specs.declared.Rings.{Rings}
use Rattle.rule.specs.Fold.{Rule, Entrance, kept_shares, Item, Fits, Applied, GraphFolded}
use Rattle.rule.specs.Way.{kind_of, candidates_of}
use Rattle.rule.specs.Laws.{RuleLaws, CandidateLaws}
use Rattle.rule.proofs.Together.{entrances, Staying}
use Rattle.rule.proofs.WhereIs.{Where, Where.on_arm, Where.is_dropped, Where.neither, where_is}
use Rattle.rule.proofs.Items.{item_arm, dropped_inner, arm_distinct_inner, one_item}
use Rattle.rule.proofs.Budgets.{folded_of}
use Rattle.rule.proofs.Listings.{listing_exists}
use Rattle.rule.proofs.BestLaws.{kept_shares_laws}
use Rattle.rule.proofs.TheFold.{candidates_lawful}
use Rattle.rule.proofs.BestExists.{best_exists}
use Rattle.rule.proofs.CandidatesListed.{interior_is_decided, candidates_listed}

module _ {G : Graph → Type 0} {C : CandidateSet} {R : Rule} (L : CandidateLaws G C) (M : RuleLaws R) {E : Graph} {c : Counts} (g : G E)
    (items : List Item) (fit : (i : Item) → Memᴰ i items → Fits C R E c i) where
  -- no vertex is kept by one item and dropped by one
  not_both : {v : ℕ} (i j : Item) → Memᴰ i items → Memᴰ j items → Memᴰ v i.arm → Memᴰ v j.dropped → ⊥
  not_both {v} i j m n h d =
      let q : i ≡ j = one_item L M g (fit i m) (fit j n) ((item_arm L M (fit i m)).inner v h) (dropped_inner L M (fit j n) d) in
      (((fit j n).rest.holds v).0 d).1 (subst (λ (x : Item). Memᴰ v x.arm) q h)

  -- what the item adds at a place of its arm
  abbrev share : Item → ℕ → ℕ
  share i j = R.portion (sum c i.dropped) (length i.arm) j

  new_count : (v : ℕ) → Where v items → ℕ
  new_count v (on_arm i m h) = c v + share i (place_of h).0
  new_count v (is_dropped i m d) = 0
  new_count v (neither n) = c v

  added : (i : Item) (m : Memᴰ i items) (j : ℕ) → j < length i.arm → (w : Where (get_or i.arm j 0) items)
      → new_count (get_or i.arm j 0) w ≡ c (get_or i.arm j 0) + share i j
  unfolding new_count
  added i m j h (on_arm k n a) =
      let v = get_or i.arm j 0 in
      let q : k ≡ i = one_item L M g (fit k n) (fit i m) ((item_arm L M (fit k n)).inner v a) ((item_arm L M (fit i m)).inner v (getD_in i.arm j h)) in
      let at_i : (b : Memᴰ v i.arm) → share i (place_of b).0 ≡ share i j =
      λ b. let (x, y, z) = place_of b in ap (share i) (distinct_apart (arm_distinct_inner L M (fit i m)) x j y h z) in
      ap (λ (x : ℕ). c v + x) (subst (λ (x : Item). (b : Memᴰ v x.arm) → share x (place_of b).0 ≡ share i j) (sym q) at_i a)
  added i m j h (is_dropped k n d) = absurd (not_both i k m n (getD_in i.arm j h) d)
  added i m j h (neither n) = absurd ((n i m).0 (getD_in i.arm j h))

  emptied : (i : Item) (m : Memᴰ i items) (v : ℕ) → Memᴰ v i.dropped → (w : Where v items) → new_count v w ≡ 0
  unfolding new_count
  emptied i m v d (on_arm k n a) = absurd (not_both k i n m a d)
  emptied i m v d (is_dropped k n e) = refl
  emptied i m v d (neither n) = absurd ((n i m).1 d)

  untouched : (v : ℕ) → ((i : Item) → Memᴰ i items → Interior E i.entrance i.exit v → ⊥) → (w : Where v items) → new_count v w ≡ c v
  unfolding new_count
  untouched v h (on_arm k n a) = absurd (h k n ((item_arm L M (fit k n)).inner v a))
  untouched v h (is_dropped k n d) = absurd (h k n (dropped_inner L M (fit k n) d))
  untouched v h (neither n) = refl

  -- the items folded at once
  all_folded : (l : List ℕ) → Listing (Entrance C E) l → (b : ℕ) → entrances items ≡ take b l
      → Applied C R E c b (Staying E items) (λ v. new_count v (where_is v items))
  all_folded l a b q = record {
    candidates = l;
    listed = a;
    items = items;
    first = q;
    fit = fit;
    edges = λ u v. (λ e. e, λ e. e);
    added = λ i m j h. added i m j h (where_is (get_or i.arm j 0) items);
    emptied = λ i m v d. emptied i m v d (where_is v items);
    untouched = λ v h. untouched v h (where_is v items);
  }

module _ {E : Graph} (decide : (u v : ℕ) → Dec (E u v)) {n : ℕ} (below : Below E n) (rings : Rings) (kind : kind_of rings E) (c : Counts) where
  abbrev C : CandidateSet
  C = candidates_of rings

  -- by any lawful rule that keeps something in each superbubble
  module _ {R : Rule} (M : RuleLaws R) (keeps-some : (s t : ℕ) → Superbubble E s t → (l : List ℕ) × R.keeps E c s t l) where
    -- the item of a candidate
    item_for : (s : ℕ) → Entrance C E s → (i : Item) × (i.entrance ≡ s) × Fits C R E c i
    item_for s h =
        let (t, k) = h in
        let (arm, best) = keeps-some s t ((candidates_lawful rings).superbubble k) in
        let (dropped, rest) = listing_exists n (off_arm t arm) (λ v p. interior_below below p.0) in
        (record { entrance = s; exit = t; arm = arm; dropped = dropped }, refl, record { candidate = k; kept = best; rest = rest })
      where
        off_arm : (t : ℕ) (arm : List ℕ) (v : ℕ) → Dec (Interior E s t v × (Memᴰ v arm → ⊥))
        off_arm t arm v =
            elim (interior_is_decided decide below s t v) [
              | no k ↦ no (λ h. k h.0)
              | yes i ↦ elim (decided (decides_member v arm)) [ yes m ↦ no (λ h. h.1 m) | no k ↦ yes (i, k) ]
            ]

    items_for : (l : List ℕ) → ((s : ℕ) → Memᴰ s l → Entrance C E s)
        → (items : List Item) × (entrances items ≡ l) × ((i : Item) → Memᴰ i items → Fits C R E c i)
    items_for [] h = ([], refl, λ i m. absurd (Memᴰ.not-nil m))
    items_for (s ∷ l) h =
        let (i, q, f) = item_for s (h s (Memᴰ.head refl)) in
        let (items, r, fit) = items_for l (λ x m. h x (Memᴰ.tail m)) in
        (i ∷ items, ap₂ {C = List ℕ} (λ a b. a ∷ b) q r, λ j m. ⊎_elim (λ e. rw e f) (fit j) (Memᴰ.cases_cons m))

    -- there is a fold with every budget; by folded-same there is only one
    pub rule_fold_exists : (budget : ℕ) → (E' : Graph) × (c' : Counts) × (folded : ℕ) × (left : ℕ) × GraphFolded C R E c budget E' c' folded left
    rule_fold_exists budget =
        let (l, a) = candidates_listed decide below rings in
        let listed : (s : ℕ) → Memᴰ s (take budget l) → Entrance C E s =
        λ s m. (a.holds s).0 (rw take-append-drop at (Memᴰ.append_left (drop budget l) m)) in
        let (items, q, fit) = items_for (take budget l) listed in
        let applied = all_folded (candidates_lawful rings) M kind items fit l a budget q in
        (Staying E items, _, length applied.items, length (drop budget applied.candidates), folded_of (candidates_lawful rings) M kind applied)

  -- so with each of the rules of docs/RULES.md, Fold
  pub fold_exists : (by : Choosing) (budget : ℕ)
      → (E' : Graph) × (c' : Counts) × (folded : ℕ) × (left : ℕ) × GraphFolded (candidates_of rings) (kept_shares by) E c budget E' c' folded left
  fold_exists by = rule_fold_exists (kept_shares_laws by) (λ s t p. best_exists decide below (score_by by) c p.bubbloid)
