-- What judge states: the number, and every field of its answer, on a refusal too. Assumes nothing.
use Rattle.std.specs.Prelude.{ℕ, ◌<◌, ◌≡◌, Bool, true, false, Option, Some, None, Result, Ok, Err, [], ◌∷◌, ◌++◌}
use Rattle.table.specs.Verdict.{Demand, Verdict, Says}
use Rattle.table.specs.Table.{Rows, size, edges}
use Rattle.table.specs.Numbers.{table_demands}
use Rattle.table.specs.declared.refusal.Refusal.{Refusal}
use Rattle.table.specs.Refusals.{number}
use Rattle.bubble.specs.Superbubble.{F, Superbubble}
use Rattle.vertices.specs.Vertices.{Numbers}

-- what judge answers: the number, yes or no, and the number of vertices in U
pub record Judgement : Type 0 where
  pub number : ℕ
  pub yes : Bool
  pub size : ℕ

-- an answer of the search for a pair: a yes with the number of vertices in U, or a no, which has none
abbrev pub answer_of : Option ℕ → Judgement
answer_of (Some vertices) = record { number = 0; yes = true; size = vertices }
answer_of None = record { number = 0; yes = false; size = 0 }

-- the same, of what the call hands out: 0 and the answer, or the number of a refusal, which says no and has no vertices
abbrev pub judgement_of : Result (Option ℕ) Refusal → Judgement
judgement_of (Ok answer) = answer_of answer
judgement_of (Err refusal) = record { number = number refusal; yes = false; size = 0 }

-- 13: s or t is n or more
abbrev pub pair_inside : Rows → ℕ → ℕ → Demand
pair_inside rows s t = record { number = 13; met = (s < size rows) × (t < size rows) }

-- yes exactly if s, t is a superbubble, and then the number of vertices in U, else 0
pub record Judged (rows : Rows) (s t : ℕ) (answer : Judgement) : Type 0 where
  pub answered : Says answer.yes (Superbubble (edges rows) s t)
  pub vertices_of_yes : answer.yes ≡ true → Numbers (F (edges rows) s t) answer.size
  pub none_of_no : answer.yes ≡ false → answer.size ≡ 0

-- what judge states: number, the answer, and the number of vertices
pub record JudgeDone (rows : Rows) (s t : ℕ) (answer : Judgement) : Type 0 where
  pub verdict : Verdict (table_demands rows ++ pair_inside rows s t ∷ []) answer.number
  pub taken : answer.number ≡ 0 → Judged rows s t answer
  pub refused : (answer.number ≡ 0 → ⊥) → (answer.yes ≡ false) × (answer.size ≡ 0)
