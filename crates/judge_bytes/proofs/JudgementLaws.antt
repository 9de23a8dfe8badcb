-- The text of a judgement put word by word, and what judge answers: of a well-formed table, and of the table in an image. Assumes nothing.
use Rattle.std.proofs.Common.{ℕ, ◌≡◌, refl, subst, true, List, [], ◌∷◌}
use Rattle.std.proofs.Common.{Option, None, Some}
use Rattle.table.specs.Verdict.{Verdict}
use Rattle.table.specs.Table.{Rows, Sound}
use Rattle.table.specs.Numbers.{table_demands}
use Rattle.table.proofs.Accepted.{table_met, well_formed_accepted}
use Rattle.table.proofs.VerdictLaws.{stops, met_are_passed}
use Rattle.layout.specs.Image.{table_of}
use Rattle.image.specs.Looking.{Seen, image_demands, Looked}
use Rattle.image.proofs.LookLaws.{looked_met}
use Rattle.judging.specs.Judging.{Judgement, answer_of, pair_inside, JudgeDone}
use Rattle.texts.specs.Text.{bytes, decimal, text, named, judgement_lines, refusal_lines}
use Rattle.printing.specs.Put.{AtFront, Put}
use Rattle.printing.specs.Answered.{Told, Answered}
use Rattle.printing.proofs.PutLaws.{put_nothing, put_first, put_next, put_then, put_text, at_front}
use Rattle.printing.proofs.AnsweredLaws.{refusal_answers, text_answers, answers_behind}
use Rattle.judge_bytes.specs.Line.{JudgementText, JudgeAnswer}

-- ---- The text.

-- `superbubble N`
pub put_yes : (vertices : ℕ) {a b c d : List ℕ} {i j k : ℕ} → Put a 0 (bytes "superbubble") b i → Put b i (32 ∷ decimal vertices) c j → Put c j (10 ∷ []) d k
    → AtFront (text (judgement_lines true vertices)) a d k
put_yes vertices word number feed =
    at_front (put_text [] (named "superbubble" (vertices ∷ [])) put_nothing
    (put_then (put_next (named "superbubble" []) (decimal vertices) (put_first word) number) feed))

-- ---- What is answered of a well-formed table.

-- a yes and a no have the number 0
pub none_refused : (judged : Option ℕ) → (answer_of judged).number ≡ 0
none_refused None = refl
none_refused (Some vertices) = refl

-- of a well-formed table, only the pair can be refused
pair_decides : {rows : Rows} {s t : ℕ} {judgement : Judgement} → Sound rows → JudgeDone rows s t judgement
    → Verdict (pair_inside rows s t ∷ []) judgement.number
pair_decides {rows} {s} {t} {judgement} sound done =
    met_are_passed (table_demands rows) (pair_inside rows s t ∷ []) judgement.number (table_met rows (well_formed_accepted rows sound)) done.verdict

module _ {rows : Rows} {s t : ℕ} {judgement : Judgement} {out out' : List ℕ} {answer : Told} (sound : Sound rows) (done : JudgeDone rows s t judgement) where
  -- the line of a refusal
  pub judge_refused : (judgement.number ≡ 0 → ⊥)
      → (answer.number ≡ judgement.number) × AtFront (text (refusal_lines judgement.number)) out out' answer.length
      → Answered (pair_inside rows s t ∷ []) (JudgementText rows s t) out out' answer
  judge_refused refusal = refusal_answers refusal (pair_decides sound done)

  -- the text of the judgement
  pub judge_answered : judgement.number ≡ 0 → answer.number ≡ 0
      → AtFront (text (judgement_lines judgement.yes judgement.size)) out out' answer.length
      → Answered (pair_inside rows s t ∷ []) (JudgementText rows s t) out out' answer
  judge_answered accepted none =
      text_answers none (rw accepted at (pair_decides sound done))
      (record { judgement = judgement; judged = done.taken accepted; spelled = refl })

-- ---- From the bytes of an image.

-- the line of the refusal of an image
pub image_refused : {image : List ℕ} {s t : ℕ} {sizes : Seen} {out out' : List ℕ} {answer : Told} → Looked image sizes → (sizes.number ≡ 0 → ⊥)
    → (answer.number ≡ sizes.number) × AtFront (text (refusal_lines sizes.number)) out out' answer.length → JudgeAnswer image s t out out' answer
image_refused {image} {s} {t} {sizes} looked refusal =
    refusal_answers refusal (stops (image_demands image) (pair_inside (table_of image).rows s t ∷ []) sizes.number refusal looked.verdict)

-- what is answered of the rows of an image that look accepts
pub image_judged : {image : List ℕ} {s t : ℕ} {sizes : Seen} {rows : Rows} {out out' : List ℕ} {answer : Told} → Looked image sizes → sizes.number ≡ 0
    → rows ≡ (table_of image).rows → Answered (pair_inside rows s t ∷ []) (JudgementText rows s t) out out' answer → JudgeAnswer image s t out out' answer
image_judged {image} {s} {t} {out = out} {out'} {answer} looked e same done =
    answers_behind (image_demands image) (looked_met looked e)
    (subst (λ (rows : Rows). Answered (pair_inside rows s t ∷ []) (JudgementText rows s t) out out' answer) same done)
