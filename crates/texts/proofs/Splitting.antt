-- A text determines its lines, and a line its words, where no word has a blank or a line feed in it. Assumes nothing.
use Prim.Native.Nat.{ℕ}
use mathlib.Core.Path.{◌≡◌, refl, sym, ap, ◌∙◌}
use mathlib.Core.Logic.{◌≢◌, ◌⊎◌, inl, inr}
use mathlib.Core.List.{List, [], ◌∷◌, ◌++◌, append_assoc, head-eq_of_cons-eq, tail-eq_of_cons-eq}
use native.Mathlib.Omega.{arith}
use lib.ListN.{length, length-append}
use Rattle.texts.specs.Text.{Line, following, begun, line, text}
use Rattle.texts.proofs.All.{All}
use Rattle.texts.proofs.Plain.{PlainByte, Plain, PlainLine, PlainLines}

-- what begins with a blank or a line feed: here a word ends
abbrev Ends : List ℕ → Type 0
Ends [] = ⊥
Ends (byte ∷ rest) = (byte ≡ 32) ⊎ (byte ≡ 10)

no_end : (byte byte' : ℕ) → byte ≡ byte' → PlainByte byte → (byte' ≡ 32) ⊎ (byte' ≡ 10) → ⊥
no_end byte byte' same plain (inl end) = plain.0 (same ∙ end)
no_end byte byte' same plain (inr end) = plain.1 (same ∙ end)

-- a word is what stands before the end, and the rest is what stands from there
word_determined : (word word' rest rest' : List ℕ) → Plain word → Plain word' → Ends rest → Ends rest'
    → word ++ rest ≡ word' ++ rest' → (word ≡ word') × (rest ≡ rest')
word_determined [] [] rest rest' p p' e e' same = (refl, same)
word_determined [] (b' ∷ word') [] rest' p p' e e' same = absurd e
word_determined [] (b' ∷ word') (b ∷ rest) rest' p p' e e' same = absurd (no_end b' b (sym (head-eq_of_cons-eq same)) p'.0 e)
word_determined (b ∷ word) [] rest [] p p' e e' same = absurd e'
word_determined (b ∷ word) [] rest (b' ∷ rest') p p' e e' same = absurd (no_end b b' (head-eq_of_cons-eq same) p.0 e')
word_determined (b ∷ word) (b' ∷ word') rest rest' p p' e e' same =
    let (q, r) = word_determined word word' rest rest' p.1 p'.1 e e' (tail-eq_of_cons-eq same) in
    let h = head-eq_of_cons-eq same in
    (λ i. h i ∷ q i, r)

-- behind a word follows a blank and a word, or the line's end
following_ends : (words : List (List ℕ)) (rest : List ℕ) → Ends (following words ++ 10 ∷ rest)
following_ends [] rest = inr refl
following_ends (word ∷ words) rest = inl refl

following_determined : (words words' : List (List ℕ)) (rest rest' : List ℕ) → All Plain words → All Plain words'
    → following words ++ 10 ∷ rest ≡ following words' ++ 10 ∷ rest' → (words ≡ words') × (rest ≡ rest')
following_determined [] [] rest rest' p p' same = (refl, tail-eq_of_cons-eq same)
following_determined [] (word' ∷ words') rest rest' p p' same = let wrong : ◌≡◌ {A = ℕ} 10 32 = head-eq_of_cons-eq same in absurd (omega arith)
following_determined (word ∷ words) [] rest rest' p p' same = let wrong : ◌≡◌ {A = ℕ} 32 10 = head-eq_of_cons-eq same in absurd (omega arith)
following_determined (word ∷ words) (word' ∷ words') rest rest' p p' same =
    let behind = sym (append_assoc word (following words) (10 ∷ rest)) ∙ tail-eq_of_cons-eq same ∙ append_assoc word' (following words') (10 ∷ rest') in
    let (q, more) = word_determined word word' (following words ++ 10 ∷ rest) (following words' ++ 10 ∷ rest') p.0 p'.0
    (following_ends words rest) (following_ends words' rest') behind in
    let (qs, r) = following_determined words words' rest rest' p.1 p'.1 more in
    (λ i. q i ∷ qs i, r)

-- a line and what comes behind it, cut behind the first word
line_cut : (l : Line) (rest : List ℕ) → line l ++ rest ≡ l.first ++ (following l.others ++ 10 ∷ rest)
line_cut l rest = append_assoc (begun l) (10 ∷ []) rest ∙ append_assoc l.first (following l.others) (10 ∷ rest)

line_determined : (l l' : Line) (rest rest' : List ℕ) → PlainLine l → PlainLine l' → line l ++ rest ≡ line l' ++ rest' → (l ≡ l') × (rest ≡ rest')
line_determined l l' rest rest' p p' same =
    let (q, more) = word_determined l.first l'.first (following l.others ++ 10 ∷ rest) (following l'.others ++ 10 ∷ rest') p.0 p'.0
    (following_ends l.others rest) (following_ends l'.others rest') (sym (line_cut l rest) ∙ same ∙ line_cut l' rest') in
    let (qs, r) = following_determined l.others l'.others rest rest' p.1 p'.1 more in
    (λ i. record { first = q i; others = qs i }, r)

-- a text with a line is not empty
line_some : (l : Line) (rest : List ℕ) → line l ++ rest ≢ []
line_some l rest none =
    let long : length (line l ++ rest) ≡ 0 = ap length none in
    omega (arith, long, length-append (line l) rest, length-append (begun l) (10 ∷ []))

lines_determined : (lines lines' : List Line) → All PlainLine lines → All PlainLine lines' → text lines ≡ text lines' → lines ≡ lines'
lines_determined [] [] p p' same = refl
lines_determined [] (l' ∷ lines') p p' same = absurd (line_some l' (text lines') (sym same))
lines_determined (l ∷ lines) [] p p' same = absurd (line_some l (text lines) same)
lines_determined (l ∷ lines) (l' ∷ lines') p p' same =
    let (q, more) = line_determined l l' (text lines) (text lines') p.0 p'.0 same in
    let qs = lines_determined lines lines' p.1 p'.1 more in
    λ i. q i ∷ qs i

pub text_determines : (a a' : PlainLines) → text a.lines ≡ text a'.lines → a.lines ≡ a'.lines
text_determines a a' = lines_determined a.lines a'.lines a.plain a'.plain
