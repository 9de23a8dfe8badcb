-- Sums of counts: over a list, and over all vertices below n. Counts that change only on a list of different vertices, and keep its sum, keep the total. Assumes nothing.
use Prim.Native.Nat.{ℕ, zero, suc, ◌+◌, ◌<◌}
use mathlib.Core.Path.{◌≡◌, refl, sym, ◌∙◌, ap₂}
use mathlib.Core.Logic.{◌≢◌, ◌↔◌, ⊎_elim, ite, if_pos, if_neg}
use mathlib.Core.List.Memᴰ
use mathlib.Core.List.{List, [], ◌∷◌, ◌++◌, Memᴰ}
use native.Mathlib.Omega.{arith}
use native.Mathlib.Decide.{ℕ_discrete}
use lib.ListN.{length, get_or}
use Rattle.bubble.specs.Distinct.{Distinct, Distinct.empty, Distinct.fresh}
use Rattle.bubble.proofs.Reflect.{decided, decides_member}
use Rattle.rule.specs.Lists.{Counts, sum, total}

pub sum_same : {c d : Counts} (l : List ℕ) → ((v : ℕ) → Memᴰ v l → c v ≡ d v) → sum c l ≡ sum d l
sum_same [] h = refl
sum_same (x ∷ l) h = ap₂ ◌+◌ (h x (Memᴰ.head refl)) (sum_same l (λ v m. h v (Memᴰ.tail m)))

pub sum_append : (c : Counts) (l k : List ℕ) → sum c (l ++ k) ≡ sum c l + sum c k
sum_append c [] k = omega arith
sum_append c (x ∷ l) k = omega (arith, sum_append c l k)

pub sum_zero : {c : Counts} (l : List ℕ) → ((v : ℕ) → Memᴰ v l → c v ≡ 0) → sum c l ≡ 0
sum_zero [] h = refl
sum_zero (x ∷ l) h = omega (arith, h x (Memᴰ.head refl), sum_zero l (λ v m. h v (Memᴰ.tail m)))

total_same : {c d : Counts} (n : ℕ) → ((v : ℕ) → v < n → c v ≡ d v) → total c n ≡ total d n
total_same zero h = refl
total_same (suc n) h = ap₂ ◌+◌ (h n (omega arith)) (total_same n (λ v k. h v (omega arith)))

pub total_first : (p : Counts) (n : ℕ) → total p (suc n) ≡ p 0 + total (λ j. p (suc j)) n
total_first p zero = refl
total_first p (suc n) = omega (arith, total_first p n)

-- what is added place by place
pub sum_added : (c d p : Counts) (l : List ℕ) → ((j : ℕ) → j < length l → d (get_or l j 0) ≡ c (get_or l j 0) + p j) → sum d l ≡ sum c l + total p (length l)
sum_added c d p [] h = refl
sum_added c d p (x ∷ l) h =
    let here : d x ≡ c x + p 0 = h 0 (omega arith) in
    let rest = sum_added c d (λ j. p (suc j)) l (λ j k. h (suc j) (omega arith)) in
    omega (arith, here, rest, total_first p (length l))

-- a total, and the total without one vertex
total_one : {c d : Counts} {a : ℕ} (n : ℕ) → a < n → d a ≡ 0 → ((v : ℕ) → v ≢ a → d v ≡ c v) → total c n ≡ c a + total d n
total_one zero h z k = absurd (omega arith)
total_one {c} {d} {a} (suc n) h z k =
    elim (ℕ_discrete a n) [
      | yes q ↦
          let same : total c n ≡ total d n = total_same n (λ v l. sym (k v (λ r. absurd (omega arith)))) in
          let zn : d n ≡ 0 = rw q at z in
          rw q (omega (arith, same, zn))
      | no m ↦ omega (arith, k n (λ r. m (sym r)), total_one {c = c} {d = d} {a = a} n (omega arith) z k)
    ]

-- the counts with those of the listed vertices taken away
without : Counts → List ℕ → Counts
without c l v = ite (decided (decides_member v l)) 0 (c v)

without_listed : (c : Counts) {l : List ℕ} {v : ℕ} → Memᴰ v l → without c l v ≡ 0
unfolding without
without_listed c {l} {v} m = if_pos (decided (decides_member v l)) m 0 (c v)

without_other : (c : Counts) {l : List ℕ} {v : ℕ} → (Memᴰ v l → ⊥) → without c l v ≡ c v
unfolding without
without_other c {l} {v} n = if_neg (decided (decides_member v l)) n 0 (c v)

without_same : (c : Counts) (l k : List ℕ) (v : ℕ) → (Memᴰ v l → Memᴰ v k) → (Memᴰ v k → Memᴰ v l) → without c l v ≡ without c k v
without_same c l k v f g =
    elim (decided (decides_member v l)) [ yes m ↦ without_listed c m ∙ sym (without_listed c (f m)) | no n ↦ without_other c n ∙ sym (without_other c (λ m. n (g m))) ]

total_without : (c : Counts) {l : List ℕ} (n : ℕ) → Distinct l → ((v : ℕ) → Memᴰ v l → v < n) → total c n ≡ sum c l + total (without c l) n
total_without c n empty h = let q : total c n ≡ total (without c []) n = total_same n (λ v k. sym (without_other c Memᴰ.not-nil)) in omega (arith, q)
total_without c n (fresh {a = a} {l = l} m d) h =
    let one : total (without c l) n ≡ without c l a + total (without c (a ∷ l)) n =
    total_one n (h a (Memᴰ.head refl)) (without_listed c (Memᴰ.head refl))
    (λ v k. without_same c (a ∷ l) l v (λ i. ⊎_elim (λ q. absurd (k q)) (λ j. j) (Memᴰ.cases_cons i)) Memᴰ.tail) in
    omega (arith, one, without_other c m, total_without c n d (λ v i. h v (Memᴰ.tail i)))

-- different vertices in another order have the same sum
pub sum_reordered : (c : Counts) {l k : List ℕ} (n : ℕ) → Distinct l → Distinct k → ((v : ℕ) → Memᴰ v l → v < n)
    → ((v : ℕ) → Memᴰ v l ↔ Memᴰ v k) → sum c l ≡ sum c k
sum_reordered c {l} {k} n d e h q =
    let rest : total (without c l) n ≡ total (without c k) n = total_same n (λ v b. without_same c l k v (q v).0 (q v).1) in
    omega (arith, total_without c n d h, total_without c n e (λ v m. h v ((q v).1 m)), rest)

pub total_moved : {c d : Counts} {l : List ℕ} (n : ℕ) → Distinct l → ((v : ℕ) → Memᴰ v l → v < n) → ((v : ℕ) → (Memᴰ v l → ⊥) → d v ≡ c v)
    → sum d l ≡ sum c l → total d n ≡ total c n
total_moved {c} {d} {l} n e h k q =
    let each : (v : ℕ) → without d l v ≡ without c l v =
    λ v. elim (decided (decides_member v l)) [ yes m ↦ without_listed d m ∙ sym (without_listed c m) | no m ↦ without_other d m ∙ k v m ∙ sym (without_other c m) ] in
    let rest : total (without d l) n ≡ total (without c l) n = total_same n (λ v b. each v) in
    omega (arith, total_without d n e h, total_without c n e h, rest, q)
