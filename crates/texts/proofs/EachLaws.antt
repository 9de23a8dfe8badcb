-- A line for each number below k: there are k of them, each stands at its number, and how long their text is. Assumes nothing.
use Prim.Native.Nat.{ℕ, zero, suc, ◌+◌, ◌*◌, ◌≤◌, ◌<◌}
use mathlib.Core.Path.{◌≡◌, refl, sym, ap, ◌∙◌}
use mathlib.Core.List.{List, [], ◌∷◌, ◌++◌}
use native.Mathlib.Decide.{ℕ_discrete, dec_lt}
use native.Mathlib.Numerals.{add-one}
use native.Mathlib.Omega.{arith}
use lib.ListN.{length, get_or, length-append, get_or-append}
use lib.Seq.{get_or_at}
use Rattle.texts.specs.Text.{Line, line, text, each}
use Rattle.texts.proofs.All.{All, all_next}
use Rattle.texts.proofs.LineLaws.{text_next}

module _ (l : ℕ → Line) where
  pub each_long : (k : ℕ) → length (each l k) ≡ k
  each_long zero = refl
  each_long (suc k) = length-append (each l k) (l k ∷ []) ∙ omega (arith, each_long k)

  pub each_at : (k i : ℕ) (d : Line) → i < k → get_or (each l k) i d ≡ l i
  each_at zero i d h = absurd (omega arith)
  each_at (suc k) i d h =
      elim (dec_lt i k) [
        | yes before ↦ get_or-append (each l k) (l k ∷ []) d i (omega (arith, each_long k)) ∙ each_at k i d before
        | no not_before ↦
            let last : k ≡ i = omega arith in
            get_or_at (each l k) (l k) [] d i (omega (arith, each_long k)) ∙ ap l last
      ]

  -- what each line has, all lines have
  pub each_all : (P : Line → Type 0) → ((i : ℕ) → P (l i)) → (k : ℕ) → All P (each l k)
  each_all P has zero = tt
  each_all P has (suc k) = all_next P (each l k) (l k) (each_all P has k) (has k)

-- the lines for the numbers below k determine the line for each of them
pub each_determines : (l l' : ℕ → Line) (k : ℕ) → each l k ≡ each l' k → (i : ℕ) → i < k → l i ≡ l' i
each_determines l l' k same i h = sym (each_at l k i (l i) h) ∙ ap (λ (lines : List Line). get_or lines i (l i)) same ∙ each_at l' k i (l i) h

-- ---- Their text.

module _ (l : ℕ → Line) where
  -- one line longer
  pub each_next : (k : ℕ) → text (each l (k + 1)) ≡ text (each l k) ++ line (l k)
  each_next k = rw (add-one k) (text_next (each l k) (l k))

  each_next_long : (k : ℕ) → length (text (each l (suc k))) ≡ length (text (each l k)) + length (line (l k))
  each_next_long k = ap length (text_next (each l k) (l k)) ∙ length-append (text (each l k)) (line (l k))

  -- the lines before line k and line k itself are no longer than all
  pub each_within : (k n : ℕ) → k < n → length (text (each l k)) + length (line (l k)) ≤ length (text (each l n))
  each_within k zero k-in = absurd (omega arith)
  each_within k (suc n) k-in =
      elim (ℕ_discrete k n) [
        | yes last ↦ rw last (omega (arith, each_next_long n))
        | no before ↦ omega (arith, each_within k n (omega arith), each_next_long n)
      ]

  -- lines of which none is longer than `most`
  pub each_text_most : (most n : ℕ) → ((k : ℕ) → k < n → length (line (l k)) ≤ most) → length (text (each l n)) ≤ most * n
  each_text_most most zero short = omega arith
  each_text_most most (suc n) short = omega (arith, each_text_most most n (λ k k-in. short k (omega arith)), short n (omega arith), each_next_long n)
