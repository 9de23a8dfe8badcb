-- A property that each element of a list has. Assumes nothing.
use mathlib.Core.List.{List, [], ◌∷◌, ◌++◌, map}

module _ {A : Type 0} (P : A → Type 0) where
  -- each element has it
  abbrev pub All : List A → Type 0
  All [] = Unit
  All (x ∷ rest) = P x × All rest

  -- and so has one more
  pub all_next : (xs : List A) (x : A) → All xs → P x → All (xs ++ x ∷ [])
  all_next [] x all one = (one, tt)
  all_next (first ∷ xs) x all one = (all.0, all_next xs x all.1 one)

  -- what f makes has it
  pub all_made : {B : Type 0} (f : B → A) → ((x : B) → P (f x)) → (xs : List B) → All (map f xs)
  all_made f has [] = tt
  all_made f has (x ∷ xs) = (has x, all_made f has xs)

-- what follows from it, each element has too
pub all_so : {A : Type 0} {P Q : A → Type 0} → ((x : A) → P x → Q x) → (xs : List A) → All P xs → All Q xs
all_so so [] all = tt
all_so so (x ∷ xs) all = (so x all.0, all_so so xs all.1)
