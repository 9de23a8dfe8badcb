-- A path from entrance to exit inside U is a thread: folding one superbubble is what Thread asks for. Assumes nothing.
use Prim.Native.Nat.{ℕ}
use mathlib.Core.Path.{◌≡◌, refl}
use mathlib.Core.Logic.{⊎_elim}
use mathlib.Core.List.Memᴰ
use mathlib.Core.List.{List, [], ◌∷◌, ◌++◌, Memᴰ}
use Rattle.bubble.specs.Superbubble.{F, F.start, Walk, Walk.edge, Bubbloid, Superbubble, Reaches}
use Rattle.bubble.proofs.Walks.{walk_before}
use Rattle.bubble.proofs.Facts.{exit_inside}
use Rattle.bubble.specs.Distinct.{Distinct, Distinct.empty, Distinct.fresh}
use Rattle.rule.specs.Lists.{Graph, Follows}
use Rattle.rule.specs.Kept.{Via, Via.bare, Via.then, Arm}
use Rattle.rule.specs.Laws.{OneFolded}
use Rattle.rule.proofs.Thread.{Thread}
use Rattle.rule.proofs.Following.{follows_tail, follows_head, one_follows, follows_one, follows_whole, follows_from, follows_to, follows_cases, Begins, Begins.begins}

via_first : {E : Graph} {t s v : ℕ} {l : List ℕ} → Via E t s l → Begins v (l ++ (t ∷ [])) → E s v
via_first (bare e) (begins q) = rw q e
via_first (then e p) (begins q) = rw q e

-- from one vertex of a path to the next there is an edge
via_edge : {E : Graph} {t s u v : ℕ} {l : List ℕ} → Via E t s l → Follows (s ∷ l ++ (t ∷ [])) u v → E u v
via_edge {E} (bare e) f = ⊎_elim (λ q. rw q.0 (via_first {E = E} (bare e) q.1)) (λ g. absurd (Memᴰ.not-nil (follows_head g))) (follows_cases f)
via_edge {E} (then e p) f = ⊎_elim (λ q. rw q.0 (via_first {E = E} (then e p) q.1)) (via_edge p) (follows_cases f)

-- a path leads from its first vertex to every other
pub via_walk : {E : Graph} {P : ℕ → Type 0} {t s v : ℕ} {l : List ℕ} → P s → ((w : ℕ) → Memᴰ w (l ++ (t ∷ [])) → P w) → Via E t s l
    → Memᴰ v (l ++ (t ∷ [])) → Walk E P s v
via_walk {t = t} p h (bare e) m = let q = Memᴰ.eq_of_singleton m in rw q (edge p e (h t (Memᴰ.head refl)))
via_walk p h (then {v = x} e r) m =
    let px = h x (Memᴰ.head refl) in
    ⊎_elim (λ q. rw q (edge p e px)) (λ k. walk_before p e (via_walk px (λ w i. h w (Memᴰ.tail i)) r k)) (Memᴰ.cases_cons m)

-- where there is no cycle the vertices of a path differ
via_distinct : {E : Graph} {P : ℕ → Type 0} {t s : ℕ} {l : List ℕ} → ((v : ℕ) → Walk E P v v → ⊥) → P s
    → ((w : ℕ) → Memᴰ w (l ++ (t ∷ [])) → P w) → Via E t s l → Distinct (s ∷ l ++ (t ∷ []))
via_distinct {s = s} a p h (bare e) = fresh (λ m. a s (via_walk p h (bare e) m)) (fresh Memᴰ.not-nil empty)
via_distinct {s = s} a p h (then {v = x} e r) =
    fresh (λ m. a s (via_walk p h (then e r) m)) (via_distinct a (h x (Memᴰ.head refl)) (λ w i. h w (Memᴰ.tail i)) r)

pub arm_inside : {E : Graph} {s t : ℕ} {l : List ℕ} → F E s t t → Arm E s t l → (v : ℕ) → Memᴰ v (l ++ (t ∷ [])) → F E s t v
arm_inside {t = t} {l = l} f a v m = ⊎_elim (λ i. (a.inner v i).inside) (λ i. let q : v ≡ t = Memᴰ.eq_of_singleton i in rw q f) (Memᴰ.append_cases l m)

pub arm_distinct : {E : Graph} {s t : ℕ} {l : List ℕ} → Bubbloid E s t → Arm E s t l → Distinct (s ∷ l ++ (t ∷ []))
arm_distinct b a = via_distinct b.acyclicity start (arm_inside (exit_inside b) a) a.path

distinct_front : (l k : List ℕ) → Distinct (l ++ k) → Distinct l
distinct_front [] k d = empty
distinct_front (x ∷ l) k (fresh n d) = fresh (λ m. n (Memᴰ.append_left k m)) (distinct_front l k d)

-- so do its inner vertices
pub inner_distinct : {E : Graph} {s t : ℕ} (l : List ℕ) → Superbubble E s t → Arm E s t l → Distinct l
inner_distinct {t = t} l p a = go (arm_distinct p.bubbloid a)
  where
    go : {s : ℕ} → Distinct (s ∷ l ++ (t ∷ [])) → Distinct l
    go (fresh n d) = distinct_front l (t ∷ []) d

pub arm_thread : {E E' : Graph} {s t : ℕ} {l : List ℕ} → Superbubble E s t → (E s t → Reaches E t s → ⊥) → Arm E s t l → OneFolded E s t l E'
    → Thread E E' s t (Follows (s ∷ l ++ (t ∷ [])))
arm_thread {E} {E'} {s} {t} {l} p o a h =
    let b = p.bubbloid in
    let d = arm_distinct b a in
    record {
      superbubble = p;
      edges = h;
      joined = via_edge a.path;
      tail_inside = λ f. ⊎_elim (λ q. rw q start) (arm_inside (exit_inside b) a _) (Memᴰ.cases_cons (follows_tail f));
      head_inside = λ f. arm_inside (exit_inside b) a _ (follows_head f);
      one_after = one_follows d;
      one_before = follows_one d;
      from_entrance = follows_from t l (λ v w f. f);
      to_exit = follows_to t l (λ v w f. f);
      whole = follows_whole t l (λ v w f. f);
      passed_once = o;
    }
