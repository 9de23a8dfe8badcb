-- Texts that the checker works out by itself: three decimals, and for graph J of docs/RULES.md, with the counts of its worked fold, what each program prints, of both
-- versions where they differ. Assumes nothing.
use Prim.Native.Nat.{ℕ}
use mathlib.Core.Path.{◌≡◌, refl}
use mathlib.Core.Bool.{true, false}
use mathlib.Core.List.{[], ◌∷◌}
use native.Mathlib.Decide.{ℕ_discrete}
use Rattle.table.specs.Table.{Table}
use Rattle.layout.specs.Image.{Contents}
use Rattle.texts.specs.Text.{bytes, decimal, text, refusal_lines, look_lines, contents_lines, list_lines, judgement_lines, fold_lines}

least_decimal : decimal 0 ≡ bytes "0"
unfolding decimal
least_decimal = refl

last_vertex_decimal : decimal 2047 ≡ bytes "2047"
unfolding decimal
last_vertex_decimal = refl

most_reads_decimal : decimal 1099511627775 ≡ bytes "1099511627775"
unfolding decimal
most_reads_decimal = refl

abbrev J : Table
J =
    record {
      rows = record { starts = 0 ∷ 2 ∷ 4 ∷ 5 ∷ 6 ∷ 7 ∷ 8 ∷ 8 ∷ []; targets = 1 ∷ 5 ∷ 2 ∷ 3 ∷ 4 ∷ 4 ∷ 6 ∷ 6 ∷ [] };
      counts = 10 ∷ 4 ∷ 3 ∷ 2 ∷ 4 ∷ 12 ∷ 10 ∷ [];
    }

-- J alone, and with lengths
abbrev bare : Contents
bare = record { table = J; lengths = [] }

abbrev measured : Contents
measured = record { table = J; lengths = 5 ∷ 9 ∷ 2 ∷ 2 ∷ 65535 ∷ 1 ∷ 31 ∷ [] }

look_text : text (look_lines 1 7 8) ≡ bytes "table 7 8\n"
unfolding decimal ℕ_discrete
look_text = refl

look_text_2 : text (look_lines 2 7 8) ≡ bytes "table 7 8 lengths\n"
unfolding decimal ℕ_discrete
look_text_2 = refl

contents_text : text (contents_lines 1 bare) ≡ bytes "table 7 8\n0 10 1 5\n1 4 2 3\n2 3 4\n3 2 4\n4 4 6\n5 12 6\n6 10\n"
unfolding decimal ℕ_discrete
contents_text = refl

contents_text_2 : text (contents_lines 2 measured) ≡ bytes "table 7 8 lengths\n0 10 5 1 5\n1 4 9 2 3\n2 3 2 4\n3 2 2 4\n4 4 65535 6\n5 12 1 6\n6 10 31\n"
unfolding decimal ℕ_discrete
contents_text_2 = refl

list_text : text (list_lines (0 ∷ 6 ∷ 1 ∷ 4 ∷ []) 2) ≡ bytes "superbubbles 2\n0 6\n1 4\n"
unfolding decimal
list_text = refl

judgement_text : text (judgement_lines true 7) ≡ bytes "superbubble 7\n"
unfolding decimal
judgement_text = refl

no_judgement_text : (vertices : ℕ) → text (judgement_lines false vertices) ≡ bytes "no\n"
no_judgement_text vertices = refl

fold_text : text (fold_lines 1 0 2) ≡ bytes "folded 1 left 0 edges 2\n"
unfolding decimal
fold_text = refl

refusal_text : text (refusal_lines 13) ≡ bytes "refused 13\n"
unfolding decimal
refusal_text = refl
