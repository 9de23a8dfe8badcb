-- What two contracts allow coincides: the buffer in which bytes were put, and what a program answers where one text alone is right. Assumes nothing.
use Rattle.std.proofs.Common.{ℕ, ◌≡◌, sym, ap, ap₂, ◌∙◌, List, ◌++◌, length, take, drop}
use native.Mathlib.Decide.{ℕ_discrete}
use Rattle.table.specs.Verdict.{Demand}
use Rattle.table.proofs.VerdictLaws.{verdict_unique}
use Rattle.texts.specs.Text.{text, refusal_lines}
use Rattle.printing.specs.Put.{AtFront, Put}
use Rattle.printing.specs.Answered.{Told, Answered}
use Rattle.printing.proofs.PutLaws.{put_whole}

-- the same bytes put at one place of buffers that held the same
pub bytes_put_determined : {before bytes after₁ after₂ : List ℕ} {at end₁ end₂ : ℕ} → Put before at bytes after₁ end₁ → Put before at bytes after₂ end₂
    → (end₁ ≡ end₂) × (after₁ ≡ after₂)
bytes_put_determined {before} {bytes} {at = at} p q =
    let ends = p.ends ∙ sym q.ends in
    (ends, put_whole p ∙ ap (λ (end : ℕ). take at before ++ bytes ++ drop end before) ends ∙ sym (put_whole q))

-- the same bytes at the front of buffers that held the same
pub front_determined : {bytes₁ bytes₂ before after₁ after₂ : List ℕ} {end₁ end₂ : ℕ} → bytes₁ ≡ bytes₂ → AtFront bytes₁ before after₁ end₁
    → AtFront bytes₂ before after₂ end₂ → (end₁ ≡ end₂) × (after₁ ≡ after₂)
front_determined {before = before} same p q =
    let ends = p.long ∙ ap length same ∙ sym q.long in
    (ends, p.whole ∙ ap₂ (λ (bytes : List ℕ) (end : ℕ). bytes ++ drop end before) same ends ∙ sym q.whole)

-- two answers to the same demands, where any two right texts are the same
pub answered_determined : {demands : List Demand} {Right : List ℕ → Type 0} {out out₁ out₂ : List ℕ} {answer₁ answer₂ : Told}
    → ((printed₁ printed₂ : List ℕ) → Right printed₁ → Right printed₂ → printed₁ ≡ printed₂) → Answered demands Right out out₁ answer₁
    → Answered demands Right out out₂ answer₂ → (answer₁ ≡ answer₂) × (out₁ ≡ out₂)
answered_determined {demands} {Right} {answer₁ = answer₁} {answer₂ = answer₂} one a b =
    let number : answer₁.number ≡ answer₂.number = verdict_unique demands answer₁.number answer₂.number a.verdict b.verdict in
    let same : a.printed ≡ b.printed
    = elim (ℕ_discrete answer₁.number 0) [
      | yes e ↦ one a.printed b.printed (a.taken e) (b.taken (sym number ∙ e))
      | no refusal ↦ a.refused refusal ∙ ap (λ (r : ℕ). text (refusal_lines r)) number ∙ sym (b.refused (λ e. refusal (number ∙ e)))
    ] in
    let (long, outs) = front_determined same a.at_front b.at_front in
    (λ i. record { number = number i; length = long i }, outs)
