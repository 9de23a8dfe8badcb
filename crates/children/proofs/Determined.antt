-- Two results that the contract of `choose` allows coincide: the child and the gain. Assumes nothing.
use Rattle.std.proofs.Common.{ℕ, ◌≡◌, sym, ap, ◌∙◌, List, arith, length, get_or}
use native.Mathlib.Decide.{dec_lt}
use Rattle.rule.specs.Tables.{count_of}
use Rattle.rule.specs.Next.{worth}
use Rattle.rule.specs.declared.Choosing.{Choosing}
use Rattle.children.specs.declared.Choice.{Choice}
use Rattle.children.specs.Children.{Chosen}

module _ {by : Choosing} {row counts best : List ℕ} {t end : ℕ} where
  -- the gain is what the child at the place is worth
  own : {k child gain : ℕ} (c : Chosen by row counts best t end k child gain) → worth by (count_of counts) t end (count_of best) (get_or row c.place 0) ≡ gain
  own c = ap (worth by (count_of counts) t end (count_of best)) c.stands ∙ sym c.value

  module _ {k child₁ gain₁ child₂ gain₂ : ℕ} (a : Chosen by row counts best t end k child₁ gain₁) (b : Chosen by row counts best t end k child₂ gain₂) where
    same_gain : gain₁ ≡ gain₂
    same_gain = omega (arith, own a, own b, a.largest b.place b.passed, b.largest a.place a.passed)

    -- the first that is worth the most is one
    same_place : a.place ≡ b.place
    same_place =
        elim (dec_lt a.place b.place) [
          | yes h ↦ absurd (let no : ⊥ = omega (arith, own a, same_gain, b.first a.place h) in no)
          | no h ↦ elim (dec_lt b.place a.place) [
            | yes l ↦ absurd (let no : ⊥ = omega (arith, own b, same_gain, a.first b.place l) in no)
            | no l ↦ omega arith
          ]
        ]

    same_child : child₁ ≡ child₂
    same_child = sym a.stands ∙ ap (λ (j : ℕ). get_or row j 0) same_place ∙ b.stands

  pub choice_determined : {choice₁ choice₂ : Choice} → Chosen by row counts best t end (length row) choice₁.child choice₁.gain
      → Chosen by row counts best t end (length row) choice₂.child choice₂.gain → choice₁ ≡ choice₂
  choice_determined a b = λ i. record { child = same_child a b i; gain = same_gain a b i }
