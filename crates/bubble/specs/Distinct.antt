-- Lists of pairwise different entries. Assumes nothing.
use mathlib.Core.List.{List, [], ◌∷◌, Memᴰ}

-- pairwise different entries
pub data Distinct {A : Type 0} : List A → Type 0 where
  empty : Distinct []
  fresh : {a : A} {l : List A} → (Memᴰ a l → ⊥) → Distinct l → Distinct (a ∷ l)
