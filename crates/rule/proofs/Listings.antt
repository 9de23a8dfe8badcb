-- A listing is the only one of its kind, what is left of it after its first entries is a listing too, and what is decided below n has one. Assumes nothing.
use Prim.Native.Nat.{ℕ, zero, suc, ◌<◌}
use mathlib.Core.Path.{◌≡◌, refl, sym, ap₂}
use mathlib.Core.Logic.{◌≢◌, ◌↔◌, ⊎_elim}
use mathlib.Core.List.{List, [], ◌∷◌, ◌++◌, Memᴰ}
use native.Mathlib.Nat.{lt_irrefl}
use native.Mathlib.Omega.{arith}
use native.Mathlib.Decide.{ℕ_discrete}
use lib.ListN.{take, drop, take-append-drop}
use Rattle.bubble.specs.Distinct.{Distinct, Distinct.empty, Distinct.fresh}
use Rattle.rule.specs.Lists.{Rising, Rising.empty, Rising.first, Listing}

pub rising_distinct : {l : List ℕ} → Rising l → Distinct l
rising_distinct empty = empty
rising_distinct (first {v = v} h r) = fresh (λ m. lt_irrefl v (h v m)) (rising_distinct r)

pub rising_unique : {l k : List ℕ} → Rising l → Rising k → ((v : ℕ) → Memᴰ v l → Memᴰ v k) → ((v : ℕ) → Memᴰ v k → Memᴰ v l) → l ≡ k
rising_unique empty empty f g = refl
rising_unique empty (first {v = v} h r) f g = absurd (mathlib.Core.List.Memᴰ.not-nil (g v (mathlib.Core.List.Memᴰ.head refl)))
rising_unique (first {v = v} h r) empty f g = absurd (mathlib.Core.List.Memᴰ.not-nil (f v (mathlib.Core.List.Memᴰ.head refl)))
rising_unique (first {v = x} {l = l} h r) (first {v = y} {l = k} i s) f g = ap₂ {C = List ℕ} (λ a b. a ∷ b) same (rising_unique r s to back)
  where
    same : x ≡ y
    same =
        let other : Memᴰ x k → x ≡ y =
        λ m. ⊎_elim (λ q. sym q) (λ n. let a = i x m in let b = h y n in omega arith) (mathlib.Core.List.Memᴰ.cases_cons (g y (mathlib.Core.List.Memᴰ.head refl))) in
        ⊎_elim (λ q. q) other (mathlib.Core.List.Memᴰ.cases_cons (f x (mathlib.Core.List.Memᴰ.head refl)))

    to : (v : ℕ) → Memᴰ v l → Memᴰ v k
    to v m = ⊎_elim (λ q. let a = h v m in absurd (omega (arith, same))) (λ n. n) (mathlib.Core.List.Memᴰ.cases_cons (f v (mathlib.Core.List.Memᴰ.tail m)))

    back : (v : ℕ) → Memᴰ v k → Memᴰ v l
    back v m = ⊎_elim (λ q. let a = i v m in absurd (omega (arith, same))) (λ n. n) (mathlib.Core.List.Memᴰ.cases_cons (g v (mathlib.Core.List.Memᴰ.tail m)))

pub listing_unique : {P : ℕ → Type 0} {l k : List ℕ} → Listing P l → Listing P k → l ≡ k
listing_unique a b = rising_unique a.rising b.rising (λ v m. (b.holds v).1 ((a.holds v).0 m)) (λ v m. (a.holds v).1 ((b.holds v).0 m))

pub listing_same : {P Q : ℕ → Type 0} {l : List ℕ} → ((v : ℕ) → P v ↔ Q v) → Listing P l → Listing Q l
listing_same h a = record { rising = a.rising; holds = λ v. (λ m. (h v).0 ((a.holds v).0 m), λ q. (a.holds v).1 ((h v).1 q)) }

rising_last : {v : ℕ} {l : List ℕ} → Rising l → ((w : ℕ) → Memᴰ w l → w < v) → Rising (l ++ (v ∷ []))
rising_last empty h = first (λ w m. absurd (mathlib.Core.List.Memᴰ.not-nil m)) empty
rising_last {v} (first {v = x} {l = l} g r) h =
    let at_last : (w : ℕ) → Memᴰ w (v ∷ []) → x < w = λ w i. let q : w ≡ v = mathlib.Core.List.Memᴰ.eq_of_singleton i in rw q (h x (mathlib.Core.List.Memᴰ.head refl)) in
    first (λ w m. ⊎_elim (g w) (at_last w) (mathlib.Core.List.Memᴰ.append_cases l m)) (rising_last r (λ w m. h w (mathlib.Core.List.Memᴰ.tail m)))

-- a listing of what lies below k grows by k, or stays as it is
pub listing_grows : {P : ℕ → Type 0} {k : ℕ} {l : List ℕ} → P k → Listing (λ v. (v < k) × P v) l → Listing (λ v. (v < suc k) × P v) (l ++ (k ∷ []))
listing_grows {P} {k} {l} p a = record { rising = rising_last a.rising (λ w m. ((a.holds w).0 m).0); holds = λ v. (to v, back v) }
  where
    to : (v : ℕ) → Memᴰ v (l ++ (k ∷ [])) → (v < suc k) × P v
    to v m =
        ⊎_elim (λ i. let (h, r) = (a.holds v).0 i in (omega arith, r)) (λ i. let q : v ≡ k = mathlib.Core.List.Memᴰ.eq_of_singleton i in (omega arith, rw q p))
        (mathlib.Core.List.Memᴰ.append_cases l m)

    back : (v : ℕ) → (v < suc k) × P v → Memᴰ v (l ++ (k ∷ []))
    back v h =
        elim (ℕ_discrete v k) [
          | yes q ↦ mathlib.Core.List.Memᴰ.append_right l (mathlib.Core.List.Memᴰ.head q)
          | no n ↦ mathlib.Core.List.Memᴰ.append_left (k ∷ []) ((a.holds v).1 (omega (arith, h.0), h.1))
        ]

pub listing_stays : {P : ℕ → Type 0} {k : ℕ} {l : List ℕ} → (P k → ⊥) → Listing (λ v. (v < k) × P v) l → Listing (λ v. (v < suc k) × P v) l
listing_stays {P} {k} {l} n a = listing_same (λ v. (λ h. (omega (arith, h.0), h.1), λ h. let m : v ≢ k = λ q. n (rw q at h.1) in (omega (arith, h.0), h.1))) a

listing_below : {P : ℕ → Type 0} (k : ℕ) → ((v : ℕ) → Dec (P v)) → (l : List ℕ) × Listing (λ v. (v < k) × P v) l
listing_below zero d = ([], record { rising = empty; holds = λ v. (λ m. absurd (mathlib.Core.List.Memᴰ.not-nil m), λ h. absurd (omega (arith, h.0))) })
listing_below {P} (suc k) d = let (l, a) = listing_below {P = P} k d in elim (d k) [ yes p ↦ (l ++ (k ∷ []), listing_grows p a) | no n ↦ (l, listing_stays n a) ]

-- what is decided and lies below n has a listing
pub listing_exists : {P : ℕ → Type 0} (n : ℕ) → ((v : ℕ) → Dec (P v)) → ((v : ℕ) → P v → v < n) → (l : List ℕ) × Listing P l
listing_exists n d h = let (l, a) = listing_below n d in (l, listing_same (λ v. (λ p. p.1, λ p. (h v p, p))) a)

-- the front of a rising list rises
rising_front : (l k : List ℕ) → Rising (l ++ k) → Rising l
rising_front [] k r = empty
rising_front (x ∷ l) k (first h r) = first (λ w m. h w (mathlib.Core.List.Memᴰ.append_left k m)) (rising_front l k r)

rising_rest : (l : List ℕ) {k : List ℕ} → Rising (l ++ k) → Rising k
rising_rest [] r = r
rising_rest (x ∷ l) (first h r) = rising_rest l r

rising_apart : {v : ℕ} (l : List ℕ) {k : List ℕ} → Rising (l ++ k) → Memᴰ v l → Memᴰ v k → ⊥
rising_apart {v} (x ∷ l) (first h r) m n =
    ⊎_elim (λ q. lt_irrefl v (rw q (rw q at (h v (mathlib.Core.List.Memᴰ.append_right l n))))) (λ i. rising_apart l r i n) (mathlib.Core.List.Memᴰ.cases_cons m)
rising_apart [] r m n = mathlib.Core.List.Memᴰ.not-nil m

module _ {P : ℕ → Type 0} {l : List ℕ} (a : Listing P l) (k : ℕ) where
  split : Rising (take k l ++ drop k l)
  split = rw take-append-drop a.rising

  pub listing_front : Distinct (take k l)
  listing_front = rising_distinct (rising_front (take k l) (drop k l) split)

  pub listing_rest : Listing (λ v. P v × (Memᴰ v (take k l) → ⊥)) (drop k l)
  listing_rest = record { rising = rising_rest (take k l) split; holds = λ v. (to v, back v) }
    where
      to : (v : ℕ) → Memᴰ v (drop k l) → P v × (Memᴰ v (take k l) → ⊥)
      to v m = ((a.holds v).0 (rw take-append-drop at (mathlib.Core.List.Memᴰ.append_right (take k l) m)), λ n. rising_apart (take k l) split n m)

      back : (v : ℕ) → P v × (Memᴰ v (take k l) → ⊥) → Memᴰ v (drop k l)
      back v h =
          let m : Memᴰ v (take k l ++ drop k l) = rw take-append-drop ((a.holds v).1 h.0) in
          ⊎_elim (λ i. absurd (h.1 i)) (λ i. i) (mathlib.Core.List.Memᴰ.append_cases (take k l) m)
