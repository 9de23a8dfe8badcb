-- Two results that the contract of writing allows coincide: number, length and the slice lent. Assumes nothing.
use Prim.Native.Nat.{ℕ}
use mathlib.Core.Path.{◌≡◌, sym, ◌∙◌}
use mathlib.Core.List.{List, [], ◌∷◌, ◌++◌}
use native.Mathlib.Decide.{ℕ_discrete}
use Rattle.table.proofs.VerdictLaws.{verdict_unique}
use Rattle.layout.specs.Image.{Contents}
use Rattle.writing.specs.Writing.{Extent}
use Rattle.writing.specs.Writing.{image_room, contents_demands, Written}

-- two writings of one version and contents into slices that held the same
pub write_determined : {version : ℕ} {contents : Contents} {image image₁ image₂ : List ℕ} {answer₁ answer₂ : Extent}
    → Written version contents image image₁ answer₁ → Written version contents image image₂ answer₂ → (answer₁ ≡ answer₂) × (image₁ ≡ image₂)
write_determined {version} {contents} {image} {answer₁ = answer₁} {answer₂} a b =
    let same : answer₁.number ≡ answer₂.number
    = verdict_unique (contents_demands version contents ++ image_room version contents.table.rows image ∷ []) answer₁.number answer₂.number a.verdict b.verdict in
    elim (ℕ_discrete answer₁.number 0) [
      | yes e ↦
          let x = a.taken e in
          let y = b.taken (sym same ∙ e) in
          let length-same : answer₁.length ≡ answer₂.length = x.0 ∙ sym y.0 in
          (λ i. record { number = same i; length = length-same i }, rw length-same at x.1 ∙ sym y.1)
      | no refusal ↦
          let x = a.refused refusal in
          let y = b.refused (λ e. refusal (same ∙ e)) in
          let length-same = x.0 ∙ sym y.0 in
          (λ i. record { number = same i; length = length-same i }, x.1 ∙ sym y.1)
    ]
