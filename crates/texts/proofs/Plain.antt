-- Plain words have no blank and no line feed in them, and all that is printed is lines of plain words. Assumes nothing.
use Prim.Native.Nat.{ℕ, ◌+◌, ◌*◌}
use mathlib.Core.Bool.{Bool, true, false}
use mathlib.Core.Logic.{◌≢◌}
use mathlib.Core.List.{List, [], ◌∷◌, ◌++◌, map}
use native.Mathlib.Decide.{ℕ_discrete}
use native.Mathlib.Omega.{arith}
use lib.ListN.{length, get_or}
use Rattle.table.specs.Table.{size, row}
use Rattle.layout.specs.Image.{Contents}
use Rattle.texts.specs.Text.{
  decimal,
  Line,
  numbered,
  refusal_lines,
  lengths_word,
  sizes_line,
  look_lines,
  length_at,
  vertex_line,
  contents_lines,
  pair_line,
  list_lines,
  judgement_lines,
  fold_lines,
}
use Rattle.texts.proofs.All.{All, all_made, all_so}
use Rattle.texts.proofs.EachLaws.{each_all}
use Rattle.texts.proofs.Decimal.{decimal_digits}
use Rattle.texts.proofs.VersionLaws.{word_said, word_left_out}

-- neither a blank nor a line feed
abbrev pub PlainByte : ℕ → Type 0
PlainByte byte = (byte ≢ 32) × (byte ≢ 10)

-- a plain word
abbrev pub Plain : List ℕ → Type 0
Plain = All PlainByte

-- a line of plain words
abbrev pub PlainLine : Line → Type 0
PlainLine l = Plain l.first × All Plain l.others

pub decimal_plain : (x : ℕ) → Plain (decimal x)
decimal_plain x = all_so (λ byte digit. omega (arith, digit.0)) (decimal x) (decimal_digits x)

decimals_plain : (numbers : List ℕ) → All Plain (map decimal numbers)
decimals_plain = all_made Plain decimal decimal_plain

numbered_plain : (first : ℕ) (numbers : List ℕ) → PlainLine (numbered first numbers)
numbered_plain first numbers = (decimal_plain first, decimals_plain numbers)

-- ---- The lines of each answer.

pub refusal_plain : (number : ℕ) → All PlainLine (refusal_lines number)
refusal_plain number = ((omega arith, decimals_plain (number ∷ [])), tt)

word_plain : (version : ℕ) → All Plain (lengths_word version)
word_plain version =
    elim (ℕ_discrete version 2) [
      | yes two ↦ rw (word_said version two) (omega arith)
      | no other ↦ rw (word_left_out version other) tt
    ]

sizes_plain : (version n m : ℕ) → PlainLine (sizes_line version n m)
sizes_plain version n m = (omega arith, (decimal_plain n, (decimal_plain m, word_plain version)))

pub look_plain : (version n m : ℕ) → All PlainLine (look_lines version n m)
look_plain version n m = (sizes_plain version n m, tt)

vertex_plain : (version : ℕ) (contents : Contents) (v : ℕ) → PlainLine (vertex_line version contents v)
vertex_plain version contents v =
    let table = contents.table in
    numbered_plain v (get_or table.counts v 0 ∷ length_at version contents.lengths v ++ row table.rows.starts table.rows.targets v)

pub contents_plain : (version : ℕ) (contents : Contents) → All PlainLine (contents_lines version contents)
contents_plain version contents =
    let rows = contents.table.rows in
    (sizes_plain version (size rows) (length rows.targets), each_all (vertex_line version contents) PlainLine (vertex_plain version contents) (size rows))

pair_plain : (pairs : List ℕ) (k : ℕ) → PlainLine (pair_line pairs k)
pair_plain pairs k = numbered_plain (get_or pairs (2 * k) 0) (get_or pairs (2 * k + 1) 0 ∷ [])

pub list_plain : (pairs : List ℕ) (found : ℕ) → All PlainLine (list_lines pairs found)
list_plain pairs found = ((omega arith, decimals_plain (found ∷ [])), each_all (pair_line pairs) PlainLine (pair_plain pairs) found)

pub judgement_plain : (answer : Bool) (vertices : ℕ) → All PlainLine (judgement_lines answer vertices)
judgement_plain true vertices = ((omega arith, decimals_plain (vertices ∷ [])), tt)
judgement_plain false vertices = ((omega arith, tt), tt)

pub fold_plain : (folded left edges : ℕ) → All PlainLine (fold_lines folded left edges)
fold_plain folded left edges =
    ((omega arith, (decimal_plain folded, (omega arith, (decimal_plain left, (omega arith, (decimal_plain edges, tt)))))), tt)

-- lines of plain words
pub record PlainLines : Type 0 where
  pub lines : List Line
  pub plain : All PlainLine lines

abbrev pub plain_refusal : ℕ → PlainLines
plain_refusal number = record { lines = refusal_lines number; plain = refusal_plain number }

abbrev pub plain_look : ℕ → ℕ → ℕ → PlainLines
plain_look version n m = record { lines = look_lines version n m; plain = look_plain version n m }

abbrev pub plain_contents : ℕ → Contents → PlainLines
plain_contents version contents = record { lines = contents_lines version contents; plain = contents_plain version contents }

abbrev pub plain_list : List ℕ → ℕ → PlainLines
plain_list pairs found = record { lines = list_lines pairs found; plain = list_plain pairs found }

abbrev pub plain_judgement : Bool → ℕ → PlainLines
plain_judgement answer vertices = record { lines = judgement_lines answer vertices; plain = judgement_plain answer vertices }

abbrev pub plain_fold : ℕ → ℕ → ℕ → PlainLines
plain_fold folded left edges = record { lines = fold_lines folded left edges; plain = fold_plain folded left edges }
