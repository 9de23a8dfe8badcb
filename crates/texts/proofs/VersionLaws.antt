-- What version 2 prints more than version 1: a word in the first line, and the length in the line of a vertex. Assumes nothing.
use Prim.Native.Nat.{ℕ, ◌≤◌}
use mathlib.Core.Path.{◌≡◌, sym, ◌∙◌}
use mathlib.Core.Logic.{◌≢◌, if_pos, if_neg}
use mathlib.Core.List.{List, [], ◌∷◌, ◌++◌, cons≢nil, head-eq_of_cons-eq, tail-eq_of_cons-eq}
use native.Mathlib.Decide.{ℕ_discrete}
use native.Mathlib.Omega.{arith}
use lib.ListN.{length, get_or}
use Rattle.texts.specs.Text.{bytes, following, lengths_word, length_at}

module _ (version : ℕ) where
  -- the word
  pub word_said : version ≡ 2 → lengths_word version ≡ bytes "lengths" ∷ []
  word_said two = if_pos (ℕ_discrete version 2) two (bytes "lengths" ∷ []) []

  pub word_left_out : version ≢ 2 → lengths_word version ≡ []
  word_left_out other = if_neg (ℕ_discrete version 2) other (bytes "lengths" ∷ []) []

  -- takes 8 bytes with the blank before it
  pub word_most : length (following (lengths_word version)) ≤ 8
  word_most =
      elim (ℕ_discrete version 2) [
        | yes two ↦ rw (word_said two) (omega arith)
        | no other ↦ rw (word_left_out other) (omega arith)
      ]

  -- the length
  pub length_said : (lengths : List ℕ) (v : ℕ) → version ≡ 2 → length_at version lengths v ≡ get_or lengths v 0 ∷ []
  length_said lengths v two = if_pos (ℕ_discrete version 2) two (get_or lengths v 0 ∷ []) []

  pub length_left_out : (lengths : List ℕ) (v : ℕ) → version ≢ 2 → length_at version lengths v ≡ []
  length_left_out lengths v other = if_neg (ℕ_discrete version 2) other (get_or lengths v 0 ∷ []) []

-- the word tells the version
pub word_tells : (version version' : ℕ) → lengths_word version ≡ lengths_word version' → version ≡ 2 → version' ≡ 2
word_tells version version' same two =
    elim (ℕ_discrete version' 2) [
      | yes two' ↦ two'
      | no other ↦ absurd (cons≢nil (sym (word_said version two) ∙ same ∙ word_left_out version' other))
    ]

-- numbers with the length before them determine both
pub length_parts : (version : ℕ) (lengths lengths' numbers numbers' : List ℕ) (v : ℕ)
    → length_at version lengths v ++ numbers ≡ length_at version lengths' v ++ numbers' → (version ≡ 2 → get_or lengths v 0 ≡ get_or lengths' v 0) × (numbers ≡ numbers')
length_parts version lengths lengths' numbers numbers' v same =
    elim (ℕ_discrete version 2) [
      | yes two ↦
          let parts = rw (length_said version lengths v two, length_said version lengths' v two) at same in
          (λ _. head-eq_of_cons-eq parts, tail-eq_of_cons-eq parts)
      | no other ↦ (λ two. absurd (other two), rw (length_left_out version lengths v other, length_left_out version lengths' v other) at same)
    ]
