-- One number a vertex says which of its edges stay: n for all of them, another below n for the one that leads there, and one above n for none. Assumes nothing.
use Prim.Native.Nat.{ℕ, ◌<◌}
use mathlib.Core.Path.{◌≡◌}
use mathlib.Core.Logic.{◌↔◌}
use mathlib.Core.List.{List, Memᴰ}
use native.Mathlib.Omega.{arith}
use native.Mathlib.Decide.{ℕ_discrete, dec_lt}
use Rattle.bubble.proofs.Number.{Below}
use Rattle.rule.specs.Lists.{Graph, CandidateSet, Counts}
use Rattle.rule.specs.Fold.{Rule, Item, Fits}
use Rattle.rule.specs.Laws.{RuleLaws, CandidateLaws}
use Rattle.rule.specs.Next.{whole_row, Numbered}
use Rattle.rule.proofs.Together.{Staying}
use Rattle.rule.proofs.NewRows.{row_whole, row_empty, row_next}

-- what the number of u says of its edges in E₁
pub record RowByNumber (E E₁ : Graph) (n : ℕ) (next : ℕ → ℕ) (u : ℕ) : Type 0 where
  pub whole : next u ≡ whole_row n → (v : ℕ) → E₁ u v ↔ E u v
  pub one : next u < n → (v : ℕ) → E₁ u v ↔ (v ≡ next u)
  pub none : whole_row n < next u → (v : ℕ) → E₁ u v → ⊥

module _ {G : Graph → Type 0} {C : CandidateSet} {R : Rule} (L : CandidateLaws G C) (M : RuleLaws R) {E E₁ : Graph} {c : Counts} (g : G E) {items : List Item}
    (fit : (i : Item) → Memᴰ i items → Fits C R E c i) {n : ℕ} {next : ℕ → ℕ} where
  same_row : (u : ℕ) → Numbered E items n next u → RowByNumber E E₁ n next u → (v : ℕ) → E₁ u v ↔ Staying E items u v
  same_row u a b v =
      elim (ℕ_discrete (next u) n) [
        | yes q ↦ let (to, back) = row_whole L M g fit u (a.whole q) v in (λ e. back ((b.whole q v).0 e), λ e. (b.whole q v).1 (to e))
        | no k ↦
            elim (dec_lt (next u) n) [
              | yes h ↦
                  let (i, m, f) = a.one h in
                  let (to, back) = row_next L M g fit i m u (next u) f v in
                  (λ e. back ((b.one h v).0 e), λ e. (b.one h v).1 (to e))
              | no l ↦
                  let h : n < next u = omega arith in
                  let (i, m, d) = a.none h in
                  (λ e. absurd (b.none h v e), λ e. absurd (row_empty L M g fit i m u v d e))
            ]
      ]

  -- the graph whose rows are so numbered has exactly the edges that stay
  pub numbered_edges : Below E n → Below E₁ n → ((u : ℕ) → u < n → Numbered E items n next u) → ((u : ℕ) → u < n → RowByNumber E E₁ n next u)
      → (u v : ℕ) → E₁ u v ↔ Staying E items u v
  numbered_edges below below₁ a b u v =
      (λ e. let h = (below₁ u v e).0 in (same_row u (a u h) (b u h) v).0 e, λ e. let h = (below u v e.0).0 in (same_row u (a u h) (b u h) v).1 e)
