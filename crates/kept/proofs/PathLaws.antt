-- Laws of the path by next along the visiting order: the order leads along it to the exit, and what is not on it is gone. Assumes nothing.
use Rattle.std.proofs.Common.{ℕ, ◌≤◌, ◌<◌, ◌≡◌, refl, sym, ap, ◌∙◌, ◌≢◌, ◌⊎◌, inl, inr, ⊎_elim, List, [], ◌∷◌, ◌++◌, arith, length, get_or}
use mathlib.Core.List.{Memᴰ}
use native.Mathlib.Decide.{ℕ_discrete}
use Rattle.rule.specs.Lists.{Follows, Follows.here, Follows.later}
use Rattle.rule.specs.Tables.{count_of}
use Rattle.rule.proofs.Following.{Begins, Begins.begins, follows_cases, follows_head}
use Rattle.rule.specs.Next.{ByNext, ByNext.last, ByNext.step}
use Rattle.rule.proofs.ByNext.{Passed, Passed.begun, Passed.further, passed_all}
use Rattle.sharing.specs.Sharing.{onward}
use Rattle.kept.specs.Steps.{Passing, Passing.begun, Passing.keeps, Passing.drops}
use Rattle.kept.proofs.PassLaws.{gone_place}

begins_with : {x y : ℕ} {l : List ℕ} → Begins x (y ∷ l) → y ≡ x
begins_with (begins e) = sym e

-- on the path by next each vertex is followed by its next
pub by_next_follows : {next : ℕ → ℕ} {t v u w : ℕ} {l : List ℕ} → ByNext next t v l → Follows (v ∷ l ++ (t ∷ [])) u w → next u ≡ w
by_next_follows (last q) f = ⊎_elim (λ h. rw h.0 (q ∙ begins_with h.1)) (λ g. absurd (mathlib.Core.List.Memᴰ.not-nil (follows_head g))) (follows_cases f)
by_next_follows (step n r) f = ⊎_elim (λ h. rw h.0 (begins_with h.1)) (λ g. by_next_follows r g) (follows_cases f)

-- where each vertex from v along the arm to t is followed by its next, the arm is what stands onward from v
pub arm_onward : (next : List ℕ) (t v : ℕ) (arm : List ℕ) → ((u w : ℕ) → Follows (v ∷ arm ++ (t ∷ [])) u w → get_or next u 0 ≡ w) → onward next v (length arm) ≡ arm
arm_onward next t v [] h = refl
arm_onward next t v (x ∷ arm) h =
    let first : get_or next v 0 ≡ x = h v x here in
    rw first (ap (λ l. x ∷ l) (arm_onward next t x arm (λ u w f. h u w (later f))))

module _ {visited next : List ℕ} where
  arm_place : {k : ℕ} {arm gone : List ℕ} {kept v : ℕ} → Passing visited next k arm gone kept → Memᴰ v arm → (i : ℕ) × (i < k) × (get_or visited i 0 ≡ v)
  arm_place begun m = absurd (mathlib.Core.List.Memᴰ.not-nil m)
  arm_place (keeps {k = k} {arm = arm} r q) m =
      ⊎_elim (λ j. let (i, b, e) = arm_place r j in (i, omega arith, e)) (λ j. (k, omega arith, q ∙ sym (mathlib.Core.List.Memᴰ.eq_of_singleton j))) (mathlib.Core.List.Memᴰ.append_cases arm m)
  arm_place (drops r n) m = let (i, b, e) = arm_place r m in (i, omega arith, e)

  -- each vertex passed after the entrance is on the path or gone
  pub passed_place : {k : ℕ} {arm gone : List ℕ} {kept : ℕ} → Passing visited next k arm gone kept → (i : ℕ) → 0 < i → i < k → Memᴰ (get_or visited i 0) arm ⊎ Memᴰ (get_or visited i 0) gone
  passed_place begun i a b = absurd (omega arith)
  passed_place (keeps {k = k} {arm = arm} {kept = kept} r q) i a b =
      elim (ℕ_discrete i k) [
        | yes e ↦ inl (mathlib.Core.List.Memᴰ.append_right arm (rw (e, q) (mathlib.Core.List.Memᴰ.head refl)))
        | no n ↦ ⊎_elim (λ m. inl (mathlib.Core.List.Memᴰ.append_left (kept ∷ []) m)) inr (passed_place r i a (omega arith))
      ]
  passed_place (drops {k = k} r m) i a b =
      elim (ℕ_discrete i k) [
        | yes e ↦ inr (rw e (mathlib.Core.List.Memᴰ.head refl))
        | no n ↦ ⊎_elim inl (λ g. inr (mathlib.Core.List.Memᴰ.tail g)) (passed_place r i a (omega arith))
      ]

  module _ (apart : (i j : ℕ) → i < length visited → j < length visited → get_or visited i 0 ≡ get_or visited j 0 → i ≡ j) where
    -- and not both
    pub arm_gone : {k : ℕ} {arm gone : List ℕ} {kept v : ℕ} → Passing visited next k arm gone kept → k ≤ length visited → Memᴰ v arm → Memᴰ v gone → ⊥
    arm_gone begun l m g = mathlib.Core.List.Memᴰ.not-nil m
    arm_gone {v = v} (keeps {k = k} {arm = arm} {kept = kept} r q) l m g =
        let at-end : Memᴰ v (kept ∷ []) → ⊥ = λ j.
        let z : v ≡ kept = mathlib.Core.List.Memᴰ.eq_of_singleton j in
        let (i, a, b, e) = gone_place r g in
        omega (arith, apart i k (omega arith) (omega arith) (e ∙ z ∙ sym q)) in
        ⊎_elim (λ j. arm_gone r (omega arith) j g) at-end (mathlib.Core.List.Memᴰ.append_cases arm m)
    arm_gone (drops {k = k} r n) l m g =
        ⊎_elim (λ q. let (i, b, e) = arm_place r m in omega (arith, apart i k (omega arith) (omega arith) (e ∙ q))) (λ j. arm_gone r (omega arith) m j) (mathlib.Core.List.Memᴰ.cases_cons g)

  module _ {t : ℕ} (not_exit : (i : ℕ) → i < length visited → get_or visited i 0 ≢ t)
      (rises : (i : ℕ) → i < length visited → get_or next (get_or visited i 0) 0 ≢ t → (j : ℕ) × (i < j) × (j < length visited) × (get_or visited j 0 ≡ get_or next (get_or visited i 0) 0)) where
    -- the next vertex of the path is the exit, or is not passed yet
    ahead : {k : ℕ} {arm gone : List ℕ} {kept : ℕ} → Passing visited next k arm gone kept → k ≤ length visited → kept ≢ t → (j : ℕ) × (k ≤ j) × (j < length visited) × (get_or visited j 0 ≡ kept)
    ahead begun l n = rises 0 l n
    ahead (keeps {k = k} r q) l n = rw q at (rises k l (rw q n))
    ahead (drops r m) l n =
        let (j, a, b, e) = ahead r (omega arith) n in
        let other : j ≢ _ = λ q. m (rw q at e) in
        (j, omega (arith, other), b, e)

    passed : {k : ℕ} {arm gone : List ℕ} {kept : ℕ} → Passing visited next k arm gone kept → k ≤ length visited → Passed (count_of next) t (get_or visited 0 0) arm kept
    passed begun l = begun
    passed (keeps {k = k} r q) l = further (passed r (omega arith)) (rw q at (not_exit k l))
    passed (drops r n) l = passed r (omega arith)

    -- where all are passed, the path has come to the exit
    pub passing_path : {arm gone : List ℕ} {kept : ℕ} → Passing visited next (length visited) arm gone kept → ByNext (count_of next) t (get_or visited 0 0) arm
    passing_path {kept = kept} r =
        elim (ℕ_discrete kept t) [
          | yes q ↦ passed_all (passed r (omega arith)) q
          | no n ↦ let (j, a, b, e) = ahead r (omega arith) n in absurd (omega arith)
        ]
