-- Where a vertex stands among folded superbubbles: on a kept path, among the dropped, or in neither. Assumes nothing.
use Prim.Native.Nat.{ℕ}
use mathlib.Core.Path.{refl}
use mathlib.Core.Logic.{⊎_elim}
use mathlib.Core.List.Memᴰ
use mathlib.Core.List.{List, [], ◌∷◌, Memᴰ}
use Rattle.bubble.proofs.Reflect.{decided, decides_member}
use Rattle.rule.specs.Fold.{Item}

-- v is on an arm, or dropped, or neither
pub data Where (v : ℕ) (items : List Item) : Type 0 where
  on_arm : (i : Item) → Memᴰ i items → Memᴰ v i.arm → Where v items
  is_dropped : (i : Item) → Memᴰ i items → Memᴰ v i.dropped → Where v items
  neither : ((i : Item) → Memᴰ i items → (Memᴰ v i.arm → ⊥) × (Memᴰ v i.dropped → ⊥)) → Where v items

pub where_is : (v : ℕ) (items : List Item) → Where v items
where_is v [] = neither (λ i m. absurd (Memᴰ.not-nil m))
where_is v (i ∷ items) =
    elim (decided (decides_member v i.arm)) [
      | yes m ↦ on_arm i (Memᴰ.head refl) m
      | no n ↦ elim (decided (decides_member v i.dropped)) [ yes m ↦ is_dropped i (Memᴰ.head refl) m | no k ↦ widen n k (where_is v items) ]
    ]
  where
    widen : (Memᴰ v i.arm → ⊥) → (Memᴰ v i.dropped → ⊥) → Where v items → Where v (i ∷ items)
    widen n k (on_arm j m h) = on_arm j (Memᴰ.tail m) h
    widen n k (is_dropped j m h) = is_dropped j (Memᴰ.tail m) h
    widen n k (neither h) = neither (λ j m. ⊎_elim (λ q. rw q (n, k)) (h j) (Memᴰ.cases_cons m))
