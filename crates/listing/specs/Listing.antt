-- What list states: the number, how many were found, and all memory lent, on a refusal too. Assumes nothing.
use Rattle.std.specs.Prelude.{ℕ, ◌+◌, ◌*◌, ◌≤◌, ◌<◌, ◌≡◌, List, [], ◌∷◌, ◌++◌, Result, Ok, Err, length, get_or, drop}
use Rattle.table.specs.Verdict.{Demand, Verdict}
use Rattle.table.specs.Table.{Rows, size, edges}
use Rattle.table.specs.Numbers.{table_demands}
use Rattle.bubble.specs.Superbubble.{Superbubble}
use Rattle.table.specs.declared.refusal.Refusal.{Refusal}
use Rattle.table.specs.Refusals.{number}

-- what list answers: the number, and how many superbubbles were found
pub record Found : Type 0 where
  pub number : ℕ
  pub found : ℕ

-- the same, of what the call hands out: 0 and how many, or the number of a refusal, which finds nothing
abbrev pub found_of : Result ℕ Refusal → Found
found_of (Ok found) = record { number = 0; found = found }
found_of (Err refusal) = record { number = number refusal; found = 0 }

-- the pair s, t stands in the list as entrance and exit
pub record Stands (pairs : List ℕ) (found s t : ℕ) : Type 0 where
  pub line : ℕ
  pub within : line < found
  pub entrance : get_or pairs (2 * line) 0 ≡ s
  pub exit : get_or pairs (2 * line + 1) 0 ≡ t

-- the list has `found` pairs, entrance and exit, by rising entrance: exactly those of which P holds
pub record Listed (P : ℕ → ℕ → Type 0) (pairs : List ℕ) (found : ℕ) : Type 0 where
  pub long : length pairs ≡ 2 * found
  pub rising : (i : ℕ) → i + 1 < found → get_or pairs (2 * i) 0 < get_or pairs (2 * (i + 1)) 0
  pub sound : (i : ℕ) → i < found → P (get_or pairs (2 * i) 0) (get_or pairs (2 * i + 1) 0)
  pub whole : (s t : ℕ) → P s t → Stands pairs found s t

-- 8: a list slice below 2n
abbrev pub list_room : Rows → List ℕ → Demand
list_room rows out = record { number = 8; met = 2 * size rows ≤ length out }

-- the slice, before and after, with the list of the pairs of which P holds at its front
pub record ListedAt (P : ℕ → ℕ → Type 0) (out out' : List ℕ) (found : ℕ) : Type 0 where
  pub pairs : List ℕ
  pub listed : Listed P pairs found
  pub front : out' ≡ pairs ++ drop (2 * found) out

-- what list states: number, how many were found, and the slice before and after
pub record ListDone (rows : Rows) (out out' : List ℕ) (answer : Found) : Type 0 where
  pub verdict : Verdict (table_demands rows ++ list_room rows out ∷ []) answer.number
  pub taken : answer.number ≡ 0 → ListedAt (Superbubble (edges rows)) out out' answer.found
  pub refused : (answer.number ≡ 0 → ⊥) → (answer.found ≡ 0) × (out' ≡ out)
