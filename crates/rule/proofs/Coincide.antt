-- Two folds of the same graph and counts with the same budget coincide: edges, counts, and the numbers returned. Assumes nothing.
use Prim.Native.Nat.{ℕ}
use mathlib.Core.Path.{◌≡◌, refl, sym, ◌∙◌, ap, ap₂}
use mathlib.Core.Logic.{◌↔◌}
use mathlib.Core.List.{List, [], ◌∷◌, map, Memᴰ}
use native.Mathlib.Omega.{arith}
use lib.ListN.{length, take}
use Rattle.bubble.specs.Superbubble.{Interior}
use Rattle.bubble.proofs.Pigeonhole.{place_of}
use Rattle.rule.specs.Lists.{Graph, CandidateSet, Counts, Listing, Same}
use Rattle.rule.specs.Fold.{Rule, Item, Entrance, Applied, GraphFolded}
use Rattle.rule.specs.Laws.{RuleLaws, CandidateLaws}
use Rattle.rule.proofs.Items.{item_unique}
use Rattle.rule.proofs.WhereIs.{Where, Where.on_arm, Where.is_dropped, Where.neither, where_is}
use Rattle.rule.proofs.Listings.{listing_unique, listing_same}

-- where entries are told apart by f, lists with the same f are the same
map_injective : {A : Type 0} (f : A → ℕ) (l k : List A) → ((a b : A) → Memᴰ a l → Memᴰ b k → f a ≡ f b → a ≡ b) → map f l ≡ map f k → l ≡ k
map_injective f [] [] h q = refl
map_injective f [] (y ∷ k) h q = let z : ◌≡◌ {A = ℕ} 0 1 = cc in absurd (omega arith)
map_injective f (x ∷ l) [] h q = let z : ◌≡◌ {A = ℕ} 0 1 = cc in absurd (omega arith)
map_injective {A} f (x ∷ l) (y ∷ k) h q =
    let p : f x ≡ f y = cc in
    let r : map f l ≡ map f k = cc in
    let first : x ≡ y = h x y (Memᴰ.head refl) (Memᴰ.head refl) p in
    let rest : l ≡ k = map_injective f l k (λ a b i j. h a b (Memᴰ.tail i) (Memᴰ.tail j)) r in
    ap₂ {C = List A} (λ a b. a ∷ b) first rest

module _ {G : Graph → Type 0} {C : CandidateSet} {R : Rule} (L : CandidateLaws G C) (M : RuleLaws R) where
  module _ {E E' E'' : Graph} {c c' c'' : Counts} {b : ℕ} (one : Applied C R E c b E' c') (other : Applied C R E c b E'' c'') where
    candidates_same : one.candidates ≡ other.candidates
    candidates_same = listing_unique one.listed other.listed

    items_same : one.items ≡ other.items
    items_same =
        map_injective (λ (i : Item). i.entrance) one.items other.items (λ i j m n. item_unique L M (one.fit i m) (other.fit j n))
        (one.first ∙ ap (take b) candidates_same ∙ sym other.first)

    counts_same : (v : ℕ) → Where v one.items → c' v ≡ c'' v
    counts_same v (on_arm i m h) = let (j, k, q) = place_of h in rw (← q) (one.added i m j k ∙ sym (other.added i (rw items_same at m) j k))
    counts_same v (is_dropped i m h) = one.emptied i m v h ∙ sym (other.emptied i (rw items_same at m) v h)
    counts_same v (neither n) =
        let out : (i : Item) → Memᴰ i one.items → Interior E i.entrance i.exit v → ⊥ =
        λ i m k. (n i m).1 (((one.fit i m).rest.holds v).1 (k, (n i m).0)) in
        one.untouched v out ∙ sym (other.untouched v (λ i m. out i (rw items_same m)))

    pub applied_same : Same E' E'' c' c''
    applied_same = record {
      edges = λ u v. (
        λ e. let (d, h) = (one.edges u v).0 e in (other.edges u v).1 (d, λ i m. h i (rw items_same m)),
        λ e. let (d, h) = (other.edges u v).0 e in (one.edges u v).1 (d, λ i m. h i (rw items_same at m)),
      );
      counts = λ v. counts_same v (where_is v one.items);
    }

  -- the two numbers returned coincide too
  pub folded_same : {E E' E'' : Graph} {c c' c'' : Counts} {b f f' l l' : ℕ} → G E
      → (one : GraphFolded C R E c b E' c' f l) (other : GraphFolded C R E c b E'' c'' f' l') → Same E' E'' c' c'' × (f ≡ f') × (l ≡ l')
  folded_same {E' = E'} {E'' = E''} g one other =
      let same = applied_same one.applied other.applied in
      let kind = L.fewer (λ u v e. ((one.applied.edges u v).0 e).0) g in
      let kind' = L.fewer (λ u v e. ((other.applied.edges u v).0 e).0) g in
      let (k, h, q) = one.remaining in
      let (k', h', q') = other.remaining in
      let back : (u v : ℕ) → E'' u v ↔ E' u v = λ u v. ((same.edges u v).1, (same.edges u v).0) in
      let carried : Listing (Entrance C E'') k = listing_same (λ v. (λ x. (x.0, L.same kind same.edges x.1), λ x. (x.0, L.same kind' back x.1))) h in
      (same, one.how_many ∙ ap length (items_same one.applied other.applied) ∙ sym other.how_many, q ∙ ap length (listing_unique carried h') ∙ sym q')
