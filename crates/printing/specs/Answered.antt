-- What a program answers on standard output, from the bytes that it read: the number, and the text that it is to write. Assumes nothing.
use Rattle.std.specs.Prelude.{ℕ, ◌≡◌, List, Option, None, Some}
use Rattle.table.specs.declared.refusal.Refusal.{Refusal}
use Rattle.table.specs.Refusals.{number}
use Rattle.table.specs.Verdict.{Demand, Verdict}
use Rattle.printing.specs.declared.Answer.{Answer}
use Rattle.texts.specs.Text.{text, refusal_lines}
use Rattle.printing.specs.Put.{AtFront}

-- the number of an answer: that of its refusal, or 0 where nothing is refused
abbrev pub number_given : Option Refusal → ℕ
number_given None = 0
number_given (Some refusal) = number refusal

-- an answer by its number, and how long its text is
pub record Told : Type 0 where
  pub number : ℕ
  pub length : ℕ

abbrev pub told_of : Answer → Told
told_of answer = record { number = number_given answer.refusal; length = answer.length }

-- the number is that of the first demand that is not met; the text of an answer is one of which Right holds, that of a refusal says its number; and the text stands at
-- the front of the buffer, before and after
pub record Answered (demands : List Demand) (Right : List ℕ → Type 0) (out out' : List ℕ) (answer : Told) : Type 0 where
  pub printed : List ℕ
  pub verdict : Verdict demands answer.number
  pub taken : answer.number ≡ 0 → Right printed
  pub refused : (answer.number ≡ 0 → ⊥) → printed ≡ text (refusal_lines answer.number)
  pub at_front : AtFront printed out out' answer.length
