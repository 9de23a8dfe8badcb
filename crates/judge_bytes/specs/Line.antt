-- What judge prints of the bytes that it read. Assumes nothing.
use Rattle.std.specs.Prelude.{ℕ, ◌≡◌, List, [], ◌∷◌, ◌++◌}
use Rattle.table.specs.Table.{Rows}
use Rattle.layout.specs.Image.{table_of}
use Rattle.image.specs.Looking.{image_demands}
use Rattle.judging.specs.Judging.{Judgement, pair_inside, Judged}
use Rattle.texts.specs.Text.{text, judgement_lines}
use Rattle.printing.specs.Answered.{Told, Answered}

-- the bytes are the text of the judgement of a pair
pub record JudgementText (rows : Rows) (s t : ℕ) (printed : List ℕ) : Type 0 where
  pub judgement : Judgement
  pub judged : Judged rows s t judgement
  pub spelled : printed ≡ text (judgement_lines judgement.yes judgement.size)

-- the text of the judgement of a pair in the table that stands in an image, or of the refusal; and the buffer, before and after
abbrev pub JudgeAnswer : List ℕ → ℕ → ℕ → List ℕ → List ℕ → Told → Type 0
JudgeAnswer image s t =
    Answered (image_demands image ++ pair_inside (table_of image).rows s t ∷ []) (JudgementText (table_of image).rows s t)
