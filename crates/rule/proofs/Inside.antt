-- Graphs that look the same from inside a superbubble. Assumes nothing.
use Prim.Native.Nat.{ℕ}
use mathlib.Core.Path.{refl}
use mathlib.Core.Logic.{◌↔◌}
use mathlib.Core.List.{List, [], ◌∷◌, ◌++◌, Memᴰ}
use Rattle.bubble.specs.Superbubble.{F, F.start, Interior}
use Rattle.rule.specs.Lists.{Graph}
use Rattle.rule.specs.Kept.{Via, Via.bare, Via.then, Arm}
use Rattle.rule.specs.Laws.{SameInside}
use Rattle.bubble.proofs.Fewer.{F-fewer, interior_also}
use Rattle.rule.proofs.Arms.{arm_inside}

pub same_edges_inside : {E E' : Graph} (s t : ℕ) → ((u v : ℕ) → E u v ↔ E' u v) → SameInside E E' s t
same_edges_inside s t h = record {
  set = λ v. (F-fewer (λ u w. (h u w).0), F-fewer (λ u w. (h u w).1));
  edges = λ u v f g. h u v;
}

pub inside_through : {E E' E'' : Graph} {s t : ℕ} → SameInside E E' s t → SameInside E' E'' s t → SameInside E E'' s t
inside_through h k = record {
  set = λ v. (λ f. (k.set v).0 ((h.set v).0 f), λ f. (h.set v).1 ((k.set v).1 f));
  edges = λ u v f g.
      let after = k.edges u v ((h.set u).0 f) ((h.set v).0 g) in
      let before = h.edges u v f g in
      (λ e. after.0 (before.0 e), λ e. before.1 (after.1 e));
}

pub inside_back : {E E' : Graph} {s t : ℕ} → SameInside E E' s t → SameInside E' E s t
inside_back h = record {
  set = λ v. ((h.set v).1, (h.set v).0);
  edges = λ u v f g. let e = h.edges u v ((h.set u).1 f) ((h.set v).1 g) in (e.1, e.0);
}

pub interior_inside : {E E' : Graph} {s t v : ℕ} → SameInside E E' s t → Interior E s t v → Interior E' s t v
interior_inside {v = v} h i = interior_also i ((h.set v).0 i.inside)

via_carried : {E E' : Graph} {P : ℕ → Type 0} {t s : ℕ} {l : List ℕ} → ((u v : ℕ) → P u → P v → E u v → E' u v) → P s
    → ((v : ℕ) → Memᴰ v (l ++ (t ∷ [])) → P v) → Via E t s l → Via E' t s l
via_carried {t = t} h p i (bare {s = s} e) = bare (h s t p (i t (Memᴰ.head refl)) e)
via_carried h p i (then {s = s} {v = v} e r) = let q = i v (Memᴰ.head refl) in then (h s v p q e) (via_carried h q (λ w m. i w (Memᴰ.tail m)) r)

pub arm_carried : {E E' : Graph} {s t : ℕ} {l : List ℕ} → F E s t t → SameInside E E' s t → Arm E s t l → Arm E' s t l
arm_carried f h a = record {
  path = via_carried (λ u v i j. (h.edges u v i j).0) start (arm_inside f a) a.path;
  inner = λ v m. interior_inside h (a.inner v m);
}
