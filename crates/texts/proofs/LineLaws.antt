-- Lines and texts that are some words or lines longer, and how long the line of n and m is. Assumes nothing.
use Prim.Native.Nat.{ℕ, ◌+◌, ◌≤◌}
use mathlib.Core.Path.{◌≡◌, refl, sym, ap, ◌∙◌}
use mathlib.Core.List.{List, [], ◌∷◌, ◌++◌, append_assoc, append-nil}
use native.Mathlib.Omega.{arith}
use lib.ListN.{length, length-append}
use Rattle.table.specs.Limits.{vertex_limit, edge_limit}
use Rattle.texts.specs.Text.{decimal, Line, following, begun, line, text, lengths_word, sizes_line}
use Rattle.texts.proofs.Decimal.{decimal_long}
use Rattle.texts.proofs.VersionLaws.{word_most}

-- the words that follow, and more of them
pub following_append : (words more : List (List ℕ)) → following (words ++ more) ≡ following words ++ following more
following_append [] more = refl
following_append (first ∷ words) more =
    ap (λ (rest : List ℕ). (32 ∷ first) ++ rest) (following_append words more) ∙ sym (append_assoc (32 ∷ first) (following words) (following more))

-- a line of one word
pub begun_first : (word : List ℕ) → begun (record { first = word; others = [] }) ≡ word
begun_first word = append-nil word

-- a line with more words
pub begun_append : (first : List ℕ) (words more : List (List ℕ))
    → begun (record { first = first; others = words ++ more }) ≡ begun (record { first = first; others = words }) ++ following more
begun_append first words more =
    ap (λ (rest : List ℕ). first ++ rest) (following_append words more) ∙ sym (append_assoc first (following words) (following more))

-- lines behind lines
pub text_append : (lines more : List Line) → text (lines ++ more) ≡ text lines ++ text more
text_append [] more = refl
text_append (l ∷ lines) more =
    ap (λ (rest : List ℕ). line l ++ rest) (text_append lines more) ∙ sym (append_assoc (line l) (text lines) (text more))

-- one line more
pub text_next : (lines : List Line) (l : Line) → text (lines ++ l ∷ []) ≡ text lines ++ line l
text_next lines l = text_append lines (l ∷ []) ∙ ap (λ (rest : List ℕ). text lines ++ rest) (append-nil (line l))

-- the line of n and m by its words, a blank before each but the first, and the line feed
pub sizes_line_long : (version n m : ℕ)
    → length (line (sizes_line version n m)) ≡ 5 + (1 + length (decimal n)) + (1 + length (decimal m)) + length (following (lengths_word version)) + 1
sizes_line_long version n m = simp length-append (omega arith)

-- of a table it has at most 24 bytes
pub sizes_line_most : (version n m : ℕ) → n ≤ vertex_limit → m ≤ edge_limit → length (line (sizes_line version n m)) ≤ 24
sizes_line_most version n m few_vertices few_edges =
    omega (
      arith,
      sizes_line_long version n m,
      decimal_long 4 n (omega arith) (omega arith),
      decimal_long 4 m (omega arith) (omega arith),
      word_most version,
    )
