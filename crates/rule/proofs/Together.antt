-- Folding several candidates at once is folding them one after another: the candidates after are the others, and each looks the same from inside. Assumes nothing.
use Prim.Native.Nat.{ℕ}
use mathlib.Core.Path.{refl, sym}
use mathlib.Core.Logic.{◌≢◌, ◌↔◌, ⊎_elim}
use mathlib.Core.List.Memᴰ
use mathlib.Core.List.{List, [], ◌∷◌, map, Memᴰ}
use Rattle.bubble.proofs.Facts.{exit_inside}
use Rattle.bubble.specs.Distinct.{Distinct, Distinct.fresh}
use Rattle.rule.specs.Lists.{Graph, CandidateSet}
use Rattle.rule.specs.Kept.{Arm}
use Rattle.rule.specs.Fold.{Item, Stays}
use Rattle.rule.specs.Laws.{SameInside, OneFolded, CandidateLaws}
use Rattle.rule.proofs.Arms.{arm_thread}
use Rattle.rule.proofs.Inside.{same_edges_inside, inside_through, arm_carried}
use Rattle.rule.proofs.Others.{apart_inside}

-- the edges that stay where the items are folded
abbrev pub Staying : Graph → List Item → Graph
Staying E items u v = E u v × ((i : Item) → Memᴰ i items → Stays E i.entrance i.exit i.arm u v)

-- E' is E with the items folded
abbrev pub AllFolded : Graph → List Item → Graph → Type 0
AllFolded E items E' = (u v : ℕ) → E' u v ↔ Staying E items u v

abbrev pub entrances : List Item → List ℕ
entrances items = map (λ (i : Item). i.entrance) items

-- the graph with one item folded
abbrev pub First : Graph → Item → Graph
First E i u v = E u v × Stays E i.entrance i.exit i.arm u v

pub first_folded : (E : Graph) (i : Item) → OneFolded E i.entrance i.exit i.arm (First E i)
first_folded E i u v = (λ e. e, λ e. e)

module _ (C : CandidateSet) where
  -- the item is a candidate with a path
  pub record Foldable (E : Graph) (i : Item) : Type 0 where
    pub candidate : C E i.entrance i.exit
    pub path : Arm E i.entrance i.exit i.arm

  -- x, y is a candidate after exactly if it is one before and not folded, and then looks the same from inside
  pub record After (E E' : Graph) (items : List Item) (x y : ℕ) : Type 0 where
    pub others : C E' x y ↔ (C E x y × (Memᴰ x (entrances items) → ⊥))
    pub inside : C E x y → (Memᴰ x (entrances items) → ⊥) → SameInside E E' x y

module _ {G : Graph → Type 0} {C : CandidateSet} (L : CandidateLaws G C) where
  -- the graph with the first item folded, in which the rest is still to be folded
  module _ {E : Graph} {i : Item} {items : List Item} (g : G E) (cs : (j : Item) → Memᴰ j (i ∷ items) → Foldable C E j)
      (new : Memᴰ i.entrance (entrances items) → ⊥) where
    first_others : (x y : ℕ) → C (First E i) x y ↔ (C E x y × (x ≢ i.entrance))
    first_others = let k = cs i (Memᴰ.head refl) in L.others g k.candidate k.path (first_folded E i)

    first_inside : {x y : ℕ} → C E x y → i.entrance ≢ x → SameInside E (First E i) x y
    first_inside c n =
        let k = cs i (Memᴰ.head refl) in
        let one = arm_thread (L.superbubble k.candidate) (L.passed_once g k.candidate) k.path (first_folded E i) in
        apart_inside one (L.interior k.candidate) (L.superbubble c) n (λ v. L.apart g k.candidate c n)

    rest_differs : (j : Item) → Memᴰ j items → i.entrance ≢ j.entrance
    rest_differs j m q = new (Memᴰ.cast q (Memᴰ.map (λ (x : Item). x.entrance) m))

    rest_inside : (j : Item) → Memᴰ j items → SameInside E (First E i) j.entrance j.exit
    rest_inside j m = first_inside (cs j (Memᴰ.tail m)).candidate (rest_differs j m)

    rest_foldable : (j : Item) → Memᴰ j items → Foldable C (First E i) j
    rest_foldable j m =
        let k = cs j (Memᴰ.tail m) in
        record {
          candidate = (first_others j.entrance j.exit).1 (k.candidate, λ q. rest_differs j m (sym q));
          path = arm_carried (exit_inside (L.superbubble k.candidate).bubbloid) (rest_inside j m) k.path;
        }

    rest_folded : {E' : Graph} → AllFolded E (i ∷ items) E' → AllFolded (First E i) items E'
    rest_folded {E'} h u v = (to, back)
      where
        to : E' u v → Staying (First E i) items u v
        to e =
            let (a, st) = (h u v).0 e in
            ((a, st i (Memᴰ.head refl)), λ j m f k. st j (Memᴰ.tail m) (((rest_inside j m).set u).1 f) (((rest_inside j m).set v).1 k))

        back : Staying (First E i) items u v → E' u v
        back r =
            (h u v).1 (
              r.0.0,
              λ j m. ⊎_elim (λ q. rw q r.0.1) (λ k f l. r.1 j k (((rest_inside j k).set u).0 f) (((rest_inside j k).set v).0 l))
                  (Memᴰ.cases_cons m),
            )

    after_first : {E' : Graph} {x y : ℕ} → After C (First E i) E' items x y → After C E E' (i ∷ items) x y
    after_first {E'} {x} {y} r = record {
      others = (
        λ c. let (d, m) = r.others.0 c in let (e, n) = (first_others x y).0 d in (e, λ k. ⊎_elim n m (Memᴰ.cases_cons k)),
        λ c. r.others.1 ((first_others x y).1 (c.0, λ q. c.1 (Memᴰ.head q)), λ m. c.1 (Memᴰ.tail m)),
      );
      inside = λ c n.
          let m : x ≢ i.entrance = λ q. n (Memᴰ.head q) in
          inside_through (first_inside c (λ q. m (sym q))) (r.inside ((first_others x y).1 (c, m)) (λ k. n (Memᴰ.tail k)));
    }

  after_none : {E E' : Graph} {x y : ℕ} → G E → AllFolded E [] E' → After C E E' [] x y
  after_none {E} {E'} {x} {y} g h =
      let to : (u v : ℕ) → E u v → E' u v = λ u v e. (h u v).1 (e, λ i m. absurd (Memᴰ.not-nil m)) in
      let back : (u v : ℕ) → E' u v → E u v = λ u v e. ((h u v).0 e).0 in
      record {
        others = (λ c. (L.same (L.fewer back g) (λ u v. (back u v, to u v)) c, Memᴰ.not-nil), λ c. L.same g (λ u v. (to u v, back u v)) c.0);
        inside = λ c n. same_edges_inside x y (λ u v. (to u v, back u v));
      }

  pub after : {E E' : Graph} (items : List Item) → G E → ((i : Item) → Memᴰ i items → Foldable C E i) → Distinct (entrances items)
      → AllFolded E items E' → (x y : ℕ) → After C E E' items x y
  after [] g cs d h x y = after_none g h
  after (i ∷ items) g cs (fresh n d) h x y = after_first g cs n (after items (L.fewer (λ u v e. e.0) g) (rest_foldable g cs n) d (rest_folded g cs n h) x y)
