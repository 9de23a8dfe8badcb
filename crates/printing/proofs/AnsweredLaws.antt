-- Laws of what a program answers: a refusal, an answer, and either behind demands that are met. Assumes nothing.
use Rattle.std.proofs.Common.{ℕ, ◌≡◌, sym, ◌∙◌, ap, List, ◌++◌}
use Rattle.table.specs.Verdict.{Demand, Verdict, AllMet}
use Rattle.table.proofs.VerdictLaws.{goes_on}
use Rattle.texts.specs.Text.{text, refusal_lines}
use Rattle.printing.specs.Put.{AtFront}
use Rattle.printing.specs.Answered.{Told, Answered}

module _ {demands : List Demand} {Right : List ℕ → Type 0} {out out' : List ℕ} {answer : Told} where
  -- the line of a refusal
  pub refusal_answers : {number : ℕ} → (number ≡ 0 → ⊥) → Verdict demands number
      → (answer.number ≡ number) × AtFront (text (refusal_lines number)) out out' answer.length → Answered demands Right out out' answer
  refusal_answers {number} refusal verdict (same, at) =
      record {
        printed = text (refusal_lines number);
        verdict = rw same verdict;
        taken = λ e. absurd (refusal (sym same ∙ e));
        refused = λ _. ap (λ (k : ℕ). text (refusal_lines k)) (sym same);
        at_front = at;
      }

  -- a right text, where each demand is met
  pub text_answers : {printed : List ℕ} → answer.number ≡ 0 → Verdict demands 0 → Right printed → AtFront printed out out' answer.length
      → Answered demands Right out out' answer
  text_answers {printed} none verdict right at =
      record {
        printed = printed;
        verdict = rw none verdict;
        taken = λ _. right;
        refused = λ refusal. absurd (refusal none);
        at_front = at;
      }

  -- behind demands that are met an answer stays one
  pub answers_behind : (first : List Demand) → AllMet first → Answered demands Right out out' answer → Answered (first ++ demands) Right out out' answer
  answers_behind first met done =
      record {
        printed = done.printed;
        verdict = goes_on first demands answer.number met done.verdict;
        taken = done.taken;
        refused = done.refused;
        at_front = done.at_front;
      }
