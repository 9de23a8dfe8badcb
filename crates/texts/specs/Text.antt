-- The text of each answer, as a list of bytes: numbers in shortest decimal, one blank between words, a line feed at the end of each line. Assumes nothing.
use Rattle.std.specs.Prelude.{ℕ, zero, suc, ◌+◌, ◌*◌, ◌/◌, Bool, true, false, List, [], ◌∷◌, ◌++◌, map, length, get_or, ltb}
use Prim.Native.Char.{code}
use Prim.Native.String.{String}
use Prim.Native.String.{[] as no-letter, ◌∷◌ as letter}
use Rattle.std.proofs.Math.Logic.{ite}
use Rattle.std.proofs.Math.Decide.{ℕ_discrete}
use Rattle.io.specs.Digits.{last_digits}
use Rattle.table.specs.Table.{size, row}
use Rattle.layout.specs.Image.{Contents}

-- ---- Words and lines.

-- the bytes of a word, each letter by its code
abbrev pub bytes : String → List ℕ
bytes no-letter = []
bytes (letter c rest) = code c ∷ bytes rest

-- how many digits a number has: one where it is below 10, else one more than the number without its last digit. The first argument bounds how often that is asked,
-- and the number itself is bound enough
abbrev pub places : ℕ → ℕ → ℕ
places zero n = 1
places (suc bound) n = elim (ltb n 10) [ true ↦ 1 | false ↦ 1 + places bound (n / 10) ]

-- a number in shortest decimal
unfoldable pub decimal : ℕ → List ℕ
decimal n = last_digits 10 (places n n) n

-- a line: its first word, and those that follow
pub record Line : Type 0 where
  pub first : List ℕ
  pub others : List (List ℕ)

-- words with a blank before each
abbrev pub following : List (List ℕ) → List ℕ
following [] = []
following (word ∷ rest) = (32 ∷ word) ++ following rest

-- a line before its end: one blank between its words
abbrev pub begun : Line → List ℕ
begun l = l.first ++ following l.others

-- a line, with the line feed at its end
abbrev pub line : Line → List ℕ
line l = begun l ++ 10 ∷ []

-- the text of some lines, one behind the other
abbrev pub text : List Line → List ℕ
text [] = []
text (l ∷ rest) = line l ++ text rest

-- a line that begins with a word, and then has numbers
abbrev pub named : String → List ℕ → Line
named word numbers = record { first = bytes word; others = map decimal numbers }

-- a line of numbers
abbrev pub numbered : ℕ → List ℕ → Line
numbered first numbers = record { first = decimal first; others = map decimal numbers }

-- a line for each number below k
abbrev pub each : (ℕ → Line) → ℕ → List Line
each l zero = []
each l (suc k) = each l k ++ l k ∷ []

-- ---- What is printed.

-- a refusal: `refused N`
abbrev pub refusal_lines : ℕ → List Line
refusal_lines number = named "refused" (number ∷ []) ∷ []

-- the word that version 2 has behind n and m
abbrev pub lengths_word : ℕ → List (List ℕ)
lengths_word version = ite (ℕ_discrete version 2) (bytes "lengths" ∷ []) []

-- the line of n and m: `table N M`, in version 2 `table N M lengths`
abbrev pub sizes_line : ℕ → ℕ → ℕ → Line
sizes_line version n m = record { first = bytes "table"; others = decimal n ∷ decimal m ∷ lengths_word version }

-- a look: that line alone
abbrev pub look_lines : ℕ → ℕ → ℕ → List Line
look_lines version n m = sizes_line version n m ∷ []

-- the length of vertex v, which version 2 has
abbrev pub length_at : ℕ → List ℕ → ℕ → List ℕ
length_at version lengths v = ite (ℕ_discrete version 2) (get_or lengths v 0 ∷ []) []

-- the line of vertex v: its number, its count, in version 2 its length, its successors
abbrev pub vertex_line : ℕ → Contents → ℕ → Line
vertex_line version contents v =
    let table = contents.table in
    numbered v (get_or table.counts v 0 ∷ length_at version contents.lengths v ++ row table.rows.starts table.rows.targets v)

-- the contents of an image: the line of their n and m, and a line for each vertex
abbrev pub contents_lines : ℕ → Contents → List Line
contents_lines version contents =
    let rows = contents.table.rows in
    sizes_line version (size rows) (length rows.targets) ∷ each (vertex_line version contents) (size rows)

-- line k of a list: entrance and exit
abbrev pub pair_line : List ℕ → ℕ → Line
pair_line pairs k = numbered (get_or pairs (2 * k) 0) (get_or pairs (2 * k + 1) 0 ∷ [])

-- a list: `superbubbles K`, and a line for each of the K pairs
abbrev pub list_lines : List ℕ → ℕ → List Line
list_lines pairs found = named "superbubbles" (found ∷ []) ∷ each (pair_line pairs) found

-- a judgement: `superbubble N` with the number of vertices, or `no`
abbrev pub judgement_lines : Bool → ℕ → List Line
judgement_lines true vertices = named "superbubble" (vertices ∷ []) ∷ []
judgement_lines false vertices = named "no" [] ∷ []

-- a fold: `folded F left L edges M`
abbrev pub fold_lines : ℕ → ℕ → ℕ → List Line
fold_lines folded left edges =
    record { first = bytes "folded"; others = decimal folded ∷ bytes "left" ∷ decimal left ∷ bytes "edges" ∷ decimal edges ∷ [] } ∷ []
