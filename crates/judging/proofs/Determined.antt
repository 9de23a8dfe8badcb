-- Two judgements that the contract of judge allows coincide. Assumes nothing.
use Rattle.std.proofs.Common.{ℕ, ◌≡◌, refl, sym, ◌∙◌, Bool, true, false, [], ◌∷◌, ◌++◌}
use native.Mathlib.Decide.{ℕ_discrete}
use Rattle.table.specs.Table.{Rows, edges}
use Rattle.table.specs.Numbers.{table_demands}
use Rattle.table.proofs.VerdictLaws.{says_unique, verdict_unique}
use Rattle.bubble.specs.Superbubble.{Superbubble}
use Rattle.vertices.proofs.NumberLaws.{numbers_unique}
use Rattle.judging.specs.Judging.{Judgement, pair_inside, Judged, JudgeDone}

-- two answers to one pair that are both yes or both no have the same number of vertices
same_size : {rows : Rows} {s t : ℕ} {answer₁ answer₂ : Judgement} → answer₁.yes ≡ answer₂.yes → Judged rows s t answer₁ → Judged rows s t answer₂
    → answer₁.size ≡ answer₂.size
same_size {answer₁ = answer₁} {answer₂ = answer₂} same a b = by answer₁.yes refl
  where
    by : (yes : Bool) → answer₁.yes ≡ yes → answer₁.size ≡ answer₂.size
    by true e = numbers_unique (a.vertices_of_yes e) (b.vertices_of_yes (sym same ∙ e))
    by false e = a.none_of_no e ∙ sym (b.none_of_no (sym same ∙ e))

-- two answers to one pair
pub judged_determined : {rows : Rows} {s t : ℕ} {answer₁ answer₂ : Judgement} → Judged rows s t answer₁ → Judged rows s t answer₂
    → (answer₁.yes ≡ answer₂.yes) × (answer₁.size ≡ answer₂.size)
judged_determined {rows} {s} {t} {answer₁} {answer₂} a b =
    let answers = says_unique (Superbubble (edges rows) s t) answer₁.yes answer₂.yes a.answered b.answered in
    (answers, same_size answers a b)

-- two judgements of one pair
pub judge_determined : {rows : Rows} {s t : ℕ} {answer₁ answer₂ : Judgement} → JudgeDone rows s t answer₁ → JudgeDone rows s t answer₂ → answer₁ ≡ answer₂
judge_determined {rows} {s} {t} {answer₁} {answer₂} a b =
    let same : answer₁.number ≡ answer₂.number
    = verdict_unique (table_demands rows ++ pair_inside rows s t ∷ []) answer₁.number answer₂.number a.verdict b.verdict in
    elim (ℕ_discrete answer₁.number 0) [
      | yes e ↦
          let (answers, sizes) = judged_determined (a.taken e) (b.taken (sym same ∙ e)) in
          λ i. record { number = same i; yes = answers i; size = sizes i }
      | no refusal ↦
          let x = a.refused refusal in
          let y = b.refused (λ e. refusal (same ∙ e)) in
          let answers = x.0 ∙ sym y.0 in
          let sizes = x.1 ∙ sym y.1 in
          λ i. record { number = same i; yes = answers i; size = sizes i }
    ]
