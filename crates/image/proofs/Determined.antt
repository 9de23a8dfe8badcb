-- Two results that the contract of look, or of load, allows coincide: number, version, n, m and all memory lent. Assumes nothing.
use Prim.Native.Nat.{ℕ}
use mathlib.Core.Path.{◌≡◌, sym, ◌∙◌}
use mathlib.Core.List.{List, [], ◌∷◌, ◌++◌}
use native.Mathlib.Decide.{ℕ_discrete}
use Rattle.table.proofs.VerdictLaws.{verdict_unique}
use Rattle.layout.specs.Image.{Contents, version_of, vertices_of, edges_of}
use Rattle.image.specs.Looking.{Seen}
use Rattle.image.specs.Looking.{image_demands, contents_room, ContentsAtFronts, SizesOf, NoSizes, Looked, Loaded}

-- slices that held the same, with the same contents at their fronts
pub fronts_same : {version n m : ℕ} {contents lent after₁ after₂ : Contents} → ContentsAtFronts version n m contents lent after₁
    → ContentsAtFronts version n m contents lent after₂ → after₁ ≡ after₂
fronts_same a b =
    let starts = a.table_fronts.starts_front ∙ sym b.table_fronts.starts_front in
    let targets = a.table_fronts.targets_front ∙ sym b.table_fronts.targets_front in
    let counts = a.table_fronts.counts_front ∙ sym b.table_fronts.counts_front in
    let lengths = a.lengths_front ∙ sym b.lengths_front in
    λ i. record { table = record { rows = record { starts = starts i; targets = targets i }; counts = counts i }; lengths = lengths i }

-- the number, and an image's version, n and m or none, are the answer
answers_same : {image : List ℕ} {answer₁ answer₂ : Seen} → answer₁.number ≡ answer₂.number → (answer₁.number ≡ 0 → SizesOf image answer₁)
    → (answer₂.number ≡ 0 → SizesOf image answer₂) → ((answer₁.number ≡ 0 → ⊥) → NoSizes answer₁) → ((answer₂.number ≡ 0 → ⊥) → NoSizes answer₂)
    → answer₁ ≡ answer₂
answers_same {answer₁ = answer₁} {answer₂} same taken₁ taken₂ refused₁ refused₂ =
    let sizes : (answer₁.version ≡ answer₂.version) × (answer₁.vertices ≡ answer₂.vertices) × (answer₁.edges ≡ answer₂.edges)
    = elim (ℕ_discrete answer₁.number 0) [
      | yes e ↦
          let a = taken₁ e in
          let b = taken₂ (sym same ∙ e) in
          (a.same_version ∙ sym b.same_version, a.same_n ∙ sym b.same_n, a.same_m ∙ sym b.same_m)
      | no refusal ↦
          let a = refused₁ refusal in
          let b = refused₂ (λ e. refusal (same ∙ e)) in
          (a.no_version ∙ sym b.no_version, a.no_n ∙ sym b.no_n, a.no_m ∙ sym b.no_m)
    ] in
    λ i. record { number = same i; version = sizes.0 i; vertices = sizes.1 i; edges = sizes.2 i }

-- one image loaded twice into slices that held the same
pub load_determined : {image : List ℕ} {lent after₁ after₂ : Contents} {answer₁ answer₂ : Seen} → Loaded image lent after₁ answer₁
    → Loaded image lent after₂ answer₂ → (answer₁ ≡ answer₂) × (after₁ ≡ after₂)
load_determined {image} {lent} {answer₁ = answer₁} {answer₂ = answer₂} a b =
    let room = contents_room (version_of image) (vertices_of image) (edges_of image) lent in
    let number : answer₁.number ≡ answer₂.number
    = verdict_unique (image_demands image ++ room ∷ []) answer₁.number answer₂.number a.verdict b.verdict in
    let same : answer₁ ≡ answer₂
    = answers_same number (λ e. (a.taken e).0) (λ e. (b.taken e).0) (λ refusal. (a.refused refusal).0) (λ refusal. (b.refused refusal).0) in (
      same,
      elim (ℕ_discrete answer₁.number 0) [
        | yes e ↦ fronts_same (rw same at (a.taken e).1) (b.taken (sym number ∙ e)).1
        | no refusal ↦ (a.refused refusal).1 ∙ sym (b.refused (λ e. refusal (number ∙ e))).1
      ],
    )

-- two looks at one image
pub look_determined : {image : List ℕ} {answer₁ answer₂ : Seen} → Looked image answer₁ → Looked image answer₂ → answer₁ ≡ answer₂
look_determined {image} {answer₁} {answer₂} a b =
    answers_same (verdict_unique (image_demands image) answer₁.number answer₂.number a.verdict b.verdict) a.taken b.taken a.refused b.refused
