-- Two results that the contract of list allows coincide: number, how many were found, and all memory lent. Assumes nothing.
use Rattle.std.proofs.Common.{ℕ, ◌*◌, ◌≡◌, sym, ap, ◌∙◌, List, [], ◌∷◌, ◌++◌, drop}
use native.Mathlib.Decide.{ℕ_discrete}
use Rattle.table.specs.Table.{Rows}
use Rattle.table.specs.Numbers.{table_demands}
use Rattle.table.proofs.VerdictLaws.{verdict_unique}
use Rattle.bubble.specs.Superbubble.{Superbubble}
use Rattle.bubble.proofs.Unique.{exit_unique}
use Rattle.listing.specs.Listing.{Found, Listed, list_room, ListDone}
use Rattle.listing.proofs.ListLaws.{listed_determined}

-- the list of a graph's superbubbles is determined
pub superbubbles_determined : {E : ℕ → ℕ → Type 0} {pairs₁ pairs₂ : List ℕ} {found₁ found₂ : ℕ} → Listed (Superbubble E) pairs₁ found₁
    → Listed (Superbubble E) pairs₂ found₂ → (found₁ ≡ found₂) × (pairs₁ ≡ pairs₂)
superbubbles_determined a b = listed_determined a b (λ s t u p q. exit_unique p q)

-- two lists of one table in slices that held the same
pub list_determined : {rows : Rows} {out out₁ out₂ : List ℕ} {answer₁ answer₂ : Found} → ListDone rows out out₁ answer₁ → ListDone rows out out₂ answer₂
    → (answer₁ ≡ answer₂) × (out₁ ≡ out₂)
list_determined {rows} {out} {answer₁ = answer₁} {answer₂ = answer₂} a b =
    let same : answer₁.number ≡ answer₂.number
    = verdict_unique (table_demands rows ++ list_room rows out ∷ []) answer₁.number answer₂.number a.verdict b.verdict in
    elim (ℕ_discrete answer₁.number 0) [
      | yes e ↦
          let x = a.taken e in
          let y = b.taken (sym same ∙ e) in
          let (many, pairs) = superbubbles_determined x.listed y.listed in (
            λ i. record { number = same i; found = many i },
            x.front ∙ ap (λ (l : List ℕ). l ++ drop (2 * answer₁.found) out) pairs ∙ ap (λ (k : ℕ). y.pairs ++ drop (2 * k) out) many ∙ sym y.front,
          )
      | no refusal ↦
          let x = a.refused refusal in
          let y = b.refused (λ e. refusal (same ∙ e)) in
          let none = x.0 ∙ sym y.0 in
          (λ i. record { number = same i; found = none i }, x.1 ∙ sym y.1)
    ]
