-- The path by the best children: where each vertex of U has the most that a path from it comes to and the smallest child that leads to it, the path by those children is one of U,
-- no path of U comes to more, and none that ties with it is earlier. For every way to gain, and whatever a path gains at its end. Assumes nothing.
use Prim.Native.Nat.{ℕ, ◌≤◌, ◌<◌}
use mathlib.Core.Path.{◌≡◌, refl, sym, ap, subst, ◌∙◌}
use mathlib.Core.Logic.{◌≢◌, ◌⊎◌, inl, inr, ⊎_elim}
use mathlib.Core.List.Memᴰ
use mathlib.Core.List.{List, [], ◌∷◌, ◌++◌, Memᴰ}
use native.Mathlib.Nat.{lt_irrefl}
use native.Mathlib.Omega.{arith}
use lib.ListN.{length}
use lib.Seq.{append_snoc}
use Rattle.bubble.specs.Superbubble.{F, F.start, F.on, Bubbloid, Interior}
use Rattle.bubble.proofs.Facts.{no_edge_to_entrance}
use Rattle.rule.specs.Lists.{Graph, Counts}
use Rattle.rule.specs.Kept.{Via, Via.bare, Via.then, Arm, Earlier, Earlier.here, Earlier.later}
use Rattle.rule.specs.Next.{gain, worth, Settled, ByNext, ByNext.last, ByNext.step}
use Rattle.rule.specs.declared.Choosing.{Choosing}
use Rattle.rule.proofs.Worth.{worth_exit, worth_other, gain_grows}

-- the path by next as a loop comes to it: l is what it has passed, v where it stands
pub data Passed (next : ℕ → ℕ) (t s : ℕ) : List ℕ → ℕ → Type 0 where
  begun : Passed next t s [] (next s)
  further : {l : List ℕ} {v : ℕ} → Passed next t s l v → v ≢ t → Passed next t s (l ++ (v ∷ [])) (next v)

-- the rest of the path goes on from what is passed
passed_on : {next : ℕ → ℕ} {t s v : ℕ} {l k : List ℕ} → Passed next t s l v → v ≢ t → ByNext next t v k → ByNext next t s (l ++ (v ∷ k))
passed_on begun n r = step n r
passed_on (further p m) n r = rw append_snoc (passed_on p m (step n r))

pub passed_all : {next : ℕ → ℕ} {t s v : ℕ} {l : List ℕ} → Passed next t s l v → v ≡ t → ByNext next t s l
passed_all begun q = last q
passed_all (further p m) q = passed_on p m (last q)

-- what a path from v comes to, given by its inner vertices
abbrev pub along : Choosing → Counts → (ℕ → ℕ) → ℕ → List ℕ → ℕ
along by c end v [] = end v
along by c end v (u ∷ l) = gain by (c u) (along by c end u l)

earlier_cases : {x y : ℕ} {l k : List ℕ} → Earlier (x ∷ l) (y ∷ k) → (x < y) ⊎ ((x ≡ y) × Earlier l k)
earlier_cases (here h) = inl h
earlier_cases (later e) = inr (refl, e)

earlier_some : {l k : List ℕ} → Earlier l k → 0 < length l
earlier_some (here h) = omega arith
earlier_some (later e) = omega arith

module _ {by : Choosing} {E : Graph} {c : Counts} {s t : ℕ} {end best next : ℕ → ℕ} (b : Bubbloid E s t)
    (settled : (v : ℕ) → F E s t v → v ≢ t → Settled by E c t (end v) best next v) where
  -- a child of a vertex of U, other than t, is interior
  child_interior : {u v : ℕ} → F E s t u → u ≢ t → E u v → v ≢ t → Interior E s t v
  child_interior f n e m = record { inside = on f n e; not_entrance = λ q. no_edge_to_entrance b f (rw q at e); not_exit = m }

  by_next_path : {v : ℕ} {l : List ℕ} → F E s t v → v ≢ t → ByNext next t v l → Via E t v l
  by_next_path {v} f n (last q) = bare (rw q at (settled v f n).child)
  by_next_path {v} f n (step m r) = let e = (settled v f n).child in then e (by_next_path (on f n e) m r)

  by_next_inner : {u v : ℕ} {l : List ℕ} → F E s t u → u ≢ t → ByNext next t u l → Memᴰ v l → Interior E s t v
  by_next_inner f n (last q) i = absurd (Memᴰ.not-nil i)
  by_next_inner {u} f n (step m r) i =
      let inner = child_interior f n (settled u f n).child m in
      ⊎_elim (λ q. rw q inner) (λ j. by_next_inner inner.inside m r j) (Memᴰ.cases_cons i)

  pub by_next_arm : {l : List ℕ} → ByNext next t s l → Arm E s t l
  by_next_arm r = record { path = by_next_path start b.distinct r; inner = λ v. by_next_inner start b.distinct r }

  -- it comes to the best
  by_next_along : {v : ℕ} {l : List ℕ} → F E s t v → v ≢ t → ByNext next t v l → along by c end v l ≡ best v
  by_next_along {v} f n (last q) = sym (worth_exit by c (end v) best q) ∙ (settled v f n).reached
  by_next_along {v} f n (step m r) =
      let s = settled v f n in
      ap (gain by (c (next v))) (by_next_along (on f n s.child) m r) ∙ sym (worth_other by c (end v) best m) ∙ s.reached

  -- no path comes to more
  along_most : {v : ℕ} {k : List ℕ} → F E s t v → v ≢ t → Via E t v k → ((w : ℕ) → Memᴰ w k → Interior E s t w) → along by c end v k ≤ best v
  along_most {v} f n (bare e) i = omega (arith, (settled v f n).largest t e, worth_exit by c (end v) best {t = t} refl)
  along_most {v} f n (then {v = u} e p) i =
      let inner = i u (Memᴰ.head refl) in
      let rest = along_most inner.inside inner.not_exit p (λ w m. i w (Memᴰ.tail m)) in
      omega (arith, gain_grows by (c u) rest, worth_other by c (end v) best inner.not_exit, (settled v f n).largest u e)

  -- the first step of a path that comes to the best is worth it
  first_worth : {v u : ℕ} {k : List ℕ} → F E s t v → v ≢ t → E v u → Via E t u k → ((w : ℕ) → Memᴰ w (u ∷ k) → Interior E s t w)
      → along by c end v (u ∷ k) ≡ best v → worth by c t (end v) best u ≡ best v
  first_worth {v} {u} f n e p i q =
      let inner = i u (Memᴰ.head refl) in
      let rest = along_most inner.inside inner.not_exit p (λ w m. i w (Memᴰ.tail m)) in
      omega (arith, gain_grows by (c u) rest, worth_other by c (end v) best inner.not_exit, (settled v f n).largest u e)

  pub by_next_best : {l : List ℕ} → ByNext next t s l → along by c end s l ≡ best s
  by_next_best = by_next_along start b.distinct

  pub arm_most : {k : List ℕ} → Arm E s t k → along by c end s k ≤ best s
  arm_most a = along_most start b.distinct a.path a.inner

  -- no path comes to more than the one by next
  no_more : {v : ℕ} {k l : List ℕ} → F E s t v → v ≢ t → Via E t v k → ((w : ℕ) → Memᴰ w k → Interior E s t w) → ByNext next t v l
      → along by c end v k ≤ along by c end v l
  no_more f n p i r = omega (arith, along_most f n p i, by_next_along f n r)

  -- paths that tie come to the same, and tie behind a common vertex
  module _ {Tie : ℕ → ℕ → Type 0} (tie-same : (v : ℕ) (l : List ℕ) (a : ℕ) → a ≤ along by c end v l → Tie a (along by c end v l) → a ≡ along by c end v l)
      (tie-rest : (count x y : ℕ) → x ≤ y → Tie (gain by count x) (gain by count y) → Tie x y) where
    comes_to_best : {v : ℕ} {k l : List ℕ} → F E s t v → v ≢ t → Via E t v k → ((w : ℕ) → Memᴰ w k → Interior E s t w) → ByNext next t v l
        → Tie (along by c end v k) (along by c end v l) → along by c end v k ≡ best v
    comes_to_best {v} {k} {l} f n p i r h = tie-same v l (along by c end v k) (no_more f n p i r) h ∙ by_next_along f n r

    -- no path that ties with the one by next is earlier
    none_earlier : {v : ℕ} {k l : List ℕ} → F E s t v → v ≢ t → Via E t v k → ((w : ℕ) → Memᴰ w k → Interior E s t w) → ByNext next t v l
        → Tie (along by c end v k) (along by c end v l) → Earlier (k ++ (t ∷ [])) (l ++ (t ∷ [])) → ⊥
    none_earlier f n (bare e) i (last z) h o = ⊎_elim (lt_irrefl t) (λ g. omega (arith, earlier_some g.1)) (earlier_cases o)
    none_earlier {v} f n (bare e) i (step m r) h o =
        let q = comes_to_best f n (bare e) i (step m r) h in
        ⊎_elim (λ g. omega (arith, (settled v f n).smallest t e (worth_exit by c (end v) best refl ∙ q))) (λ g. m (sym g.0)) (earlier_cases o)
    none_earlier {v} f n (then {v = x} e p) i (last z) h o =
        let q = comes_to_best f n (then e p) i (last z) h in
        ⊎_elim (λ g. omega (arith, z, (settled v f n).smallest x e (first_worth f n e p i q))) (λ g. (i x (Memᴰ.head refl)).not_exit g.0) (earlier_cases o)
    none_earlier {v} f n (then {v = x} {l = k} e p) i (step {l = l} m r) h o =
        let q = comes_to_best f n (then e p) i (step m r) h in
        let inner = i x (Memᴰ.head refl) in
        let inner-rest : (w : ℕ) → Memᴰ w k → Interior E s t w = λ w j. i w (Memᴰ.tail j) in
        let r' : x ≡ next v → ByNext next t x l = λ z. rw z r in
        let behind : x ≡ next v → Tie (along by c end x k) (along by c end x l) = λ z.
        tie-rest (c x) _ _ (no_more inner.inside inner.not_exit p inner-rest (r' z))
        (subst (λ y. Tie (gain by (c x) (along by c end x k)) (gain by (c y) (along by c end y l))) (sym z) h) in
        ⊎_elim (λ g. omega (arith, (settled v f n).smallest x e (first_worth f n e p i q)))
        (λ g. none_earlier inner.inside inner.not_exit p inner-rest (r' g.0) (behind g.0) g.1)
        (earlier_cases o)

    pub no_arm_earlier : {k l : List ℕ} → Arm E s t k → ByNext next t s l → Tie (along by c end s k) (along by c end s l)
        → Earlier (k ++ (t ∷ [])) (l ++ (t ∷ [])) → ⊥
    no_arm_earlier a = none_earlier start b.distinct a.path a.inner
