-- What stays of a row, by what next says beside n, and what it keeps of the row. Assumes nothing.
use Rattle.std.proofs.Common.{ℕ, ◌≤◌, ◌<◌, ◌≡◌, sym, ap, ap₂, ◌↔◌, Bool, List, [], ◌∷◌, not-suc-le-zero, le_refl, arith, ltb, length, lt-ltb, le-ltb}
use native.Mathlib.Decide.{dec_lt}
use Rattle.table.specs.Table.{In, Rises, Below}
use Rattle.rule.specs.Next.{whole_row}
use Rattle.staying.specs.Staying.{chosen, staying}

module _ (n next : ℕ) (row : List ℕ) where
  pub stays_none : whole_row n < next → staying n next row ≡ []
  stays_none h = ap (λ (above : Bool). chosen above (ltb next n) next row) (lt-ltb n next h)

  pub stays_one : next < n → staying n next row ≡ next ∷ []
  stays_one h = ap₂ (λ (above below : Bool). chosen above below next row) (le-ltb n next (omega arith)) (lt-ltb next n h)

  pub stays_whole : next ≡ whole_row n → staying n next row ≡ row
  stays_whole e = ap₂ (λ (above below : Bool). chosen above below next row) (le-ltb n next (omega arith)) (le-ltb next n (omega arith))

  -- what holds of no edge, of the one to next and of the row holds of what stays
  stays_cases : (P : List ℕ → Type 0) → P [] → (next < n → P (next ∷ [])) → P row → P (staying n next row)
  stays_cases P none one whole =
      elim (dec_lt n next) [
        | yes h ↦ rw (stays_none h) none
        | no h ↦ elim (dec_lt next n) [ yes l ↦ rw (stays_one l) (one l) | no l ↦ rw (stays_whole (omega (arith, h, l))) whole ]
      ]

  pub stays_below : Below n row → Below n (staying n next row)
  stays_below below =
      stays_cases (Below n) (λ k h. absurd (not-suc-le-zero h)) (λ l k h. let first : k ≡ 0 = omega arith in rw first l) below

  pub stays_rising : Rises row → Rises (staying n next row)
  stays_rising rises =
      stays_cases Rises (λ k h. absurd (not-suc-le-zero h)) (λ l k h. omega arith) rises

  pub stays_few : (next < n → In next row) → length (staying n next row) ≤ length row
  stays_few edge =
      stays_cases (λ (l : List ℕ). length l ≤ length row) (omega arith) (λ l. omega (arith, (edge l).inside)) (le_refl _)

-- what stands in a row of one target
pub in_one : (v x : ℕ) → In v (x ∷ []) ↔ (v ≡ x)
in_one v x = (
  λ i. let first : i.place ≡ 0 = omega (arith, i.inside) in sym (rw first at i.stands),
  λ e. record { place = 0; inside = omega arith; stands = sym e },
)
