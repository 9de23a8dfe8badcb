-- Two results that the contract of taking an image in allows coincide: number, version, n, m and all memory lent. Assumes nothing.
use Prim.Native.Nat.{ℕ}
use mathlib.Core.Path.{◌≡◌, sym, ap, ◌∙◌}
use mathlib.Core.List.{List}
use native.Mathlib.Decide.{ℕ_discrete}
use Rattle.layout.specs.Image.{Contents}
use Rattle.image.specs.Looking.{Seen}
use Rattle.image.proofs.Determined.{fronts_same, look_determined}
use Rattle.taking.specs.Taking.{TakenIn}

-- one image taken into slices that held the same
pub taken_in_determined : {image : List ℕ} {lent after₁ after₂ : Contents} {answer₁ answer₂ : Seen} → TakenIn image lent after₁ answer₁
    → TakenIn image lent after₂ answer₂ → (answer₁ ≡ answer₂) × (after₁ ≡ after₂)
taken_in_determined {answer₁ = answer₁} {answer₂ = answer₂} a b =
    let same = look_determined a.looked b.looked in
    let number = ap (λ (s : Seen). s.number) same in (
      same,
      elim (ℕ_discrete answer₁.number 0) [
        | yes e ↦ fronts_same (rw same at (a.loaded e)) (b.loaded (sym number ∙ e))
        | no refusal ↦ a.refused refusal ∙ sym (b.refused (λ e. refusal (number ∙ e)))
      ],
    )
